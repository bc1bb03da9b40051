-- Which digits are encoded, in every format, and antenna 2's slot in one form: what is the same on both antennas, what is encoded, and the pilot of table 14.
-- Assumes nothing.
use mathlib.Core.Path.{◌≡◌, refl, sym, ap, ◌∙◌, subst}
use mathlib.Core.Bool.{Bool, true, false, cond, ◌&&◌}
use mathlib.Core.List.{List, [], ◌∷◌, ◌++◌, map, append_assoc, append-nil}
use Prim.Native.Nat.{ℕ, zero, suc, ◌+◌, ◌-◌, ◌%◌, ◌≤◌, ◌<◌}
use native.Mathlib.Nat.{not-suc-le-zero}
use native.Mathlib.Omega.{arith}
use borrow.Author.Tests.{eqb-true, leb-true, le-leb, lt-leb, ltb-true, ltb-false}
use borrow.Rule.Slice.PartMut.{put_mid, mid_of}
use lib.Dec.{eqb, leb, ltb, lit<}
use lib.ListN.{length, get_or, take, drop, length-drop, get_or-eq_default}
use lib.Seq.{length-take-le, take_all}
use Rattle.run.specs.First.{first_bad, Every, at_most}
use Rattle.run.specs.Fields.{total, joined, start}
use Rattle.run.specs.Written.{over}
use Rattle.run.proofs.Bools.{and_left, and_right}
use Rattle.run.proofs.Fields.{field_joined, field_lent, joined_length}
use Rattle.run.proofs.First.{every_by}
use Rattle.run.proofs.Front.{Front, front_none, front_part, front_lent, front_all}
use Rattle.run.proofs.Each.{Each, each_take, each_drop, each_joined}
use Rattle.run.proofs.Stretch.{field_copied, joined_at}
use Rattle.dpch.specs.Formats.{no_row, formats, format_of}
use Rattle.dpch.specs.SecondPilots.{second_pilot, second_source}
use Rattle.dpch.proofs.Exact.{format_second_pilots}
use Rattle.slot.proofs.Laws.{sound_format, sum, start_pilot}
use Rattle.sttd.specs.Rule.{sttd, bar_digit}
use Rattle.sttd.specs.Outcome.{encoded_over}
use Rattle.sttd.proofs.Bars.{bar_keeps_digit}
use Rattle.sttd.proofs.Laws.{sttd_length, sttd_keeps}
use Rattle.sttd.proofs.Runs.{encoded_whole}
use Rattle.antenna.specs.Rule.{pilot_start, second_of, coded_from, coded_to, coded}

abbrev digit : ℕ → Bool
digit x = leb x 2

-- ---- the table: one test of its rows

blocks_test : ℕ → Bool
blocks_test n = leb (coded_from n) (coded_to n) && leb (coded_to n) (format_of n).slot && eqb ((coded_to n - coded_from n) % 4) 0

rows_tested : Every blocks_test 17
unfolding blocks_test coded_from coded_to formats format_of start total first_bad
rows_tested = every_by _ 17 refl

-- what is encoded lies in the slot and is whole blocks, of any number, those of no format included
pub record Blocks (format : ℕ) : Type 0 where
  pub ordered : coded_from format ≤ coded_to format
  pub within : coded_to format ≤ (format_of format).slot
  pub whole : (coded_to format - coded_from format) % 4 ≡ 0

-- no format from 2 on has spreading factor 512
wide : (format : ℕ) → 2 ≤ format → leb format 1 ≡ false
wide format h = lt-leb format 1 (omega arith)

past_test : (format : ℕ) → 17 ≤ format → blocks_test format ≡ true
unfolding blocks_test coded_from coded_to formats format_of start total
past_test format h = rw (get_or-eq_default formats no_row h, wide format (omega arith))

tested : (format : ℕ) → blocks_test format ≡ true
tested format = side (ltb format 17) refl
  where
    side : (b : Bool) → ltb format 17 ≡ b → blocks_test format ≡ true
    side true e = rows_tested format (ltb-true _ _ e)
    side false e = past_test format (ltb-false _ _ e)

pub blocks : (format : ℕ) → Blocks format
unfolding blocks_test
blocks format =
    let t = tested format in
    let p = and_left _ _ t in
    record {
      ordered = leb-true _ _ (and_left _ _ p);
      within = leb-true _ _ (and_right (leb (coded_from format) (coded_to format)) _ p);
      whole = eqb-true _ _ (and_right (leb (coded_from format) (coded_to format) && leb (coded_to format) (format_of format).slot) _ t);
    }

-- the pilot begins where the slot is longer by the pilot alone
pub pilot_end : (format : ℕ) → pilot_start format + (format_of format).pilot ≡ (format_of format).slot
pilot_end format =
    let s = sum (format_of format) (sound_format format) in
    let p = start_pilot (format_of format) in
    omega arith

-- ---- one form

-- what stands behind the encoded digits: nothing where the pilot has two bits
abbrev pub behind : ℕ → ℕ → List ℕ
behind format slot = cond (eqb (format_of format).pilot 2) [] (second_pilot (format_of format).pilot slot)

abbrev pub thirds : ℕ → ℕ → List ℕ → List (List ℕ)
thirds format slot xs = take (coded_from format) xs ∷ sttd bar_digit (coded format xs) ∷ behind format slot ∷ []

abbrev pub third_widths : ℕ → List ℕ
third_widths format = coded_from format ∷ (coded_to format - coded_from format) ∷ ((format_of format).slot - coded_to format) ∷ []

-- of a pilot of two bits nothing is left, of any other all
pub record Pilot (format slot : ℕ) : Type 0 where
  pub long : length (behind format slot) ≡ (format_of format).slot - coded_to format
  pub cut_from : behind format slot ≡ take ((format_of format).slot - coded_to format) (second_source ((format_of format).slot - coded_to format) slot)
  pub enough : (format_of format).slot - coded_to format ≤ length (second_source ((format_of format).slot - coded_to format) slot)

pub pilot_is : (format slot : ℕ) → Pilot format slot
unfolding coded_to
pilot_is format slot = side (eqb (format_of format).pilot 2) refl
  where
    side : (b : Bool) → eqb (format_of format).pilot 2 ≡ b → Pilot format slot
    side true e =
        let none : (format_of format).slot - (format_of format).slot ≡ 0 = omega arith in
        record { long = rw (e, none); cut_from = rw (e, none); enough = rw (e, none) (omega arith) }
    side false e =
        let p = pilot_end format in
        let q = format_second_pilots format slot in
        let n : (format_of format).slot - pilot_start format ≡ (format_of format).pilot = omega arith in
        record { long = rw (e, n) q.long; cut_from = rw (e, n) q.cut_from; enough = rw (e, n) q.enough }

module _ (format slot : ℕ) (xs : List ℕ) (long : length xs ≡ (format_of format).slot) where
  pub coded_long : length (coded format xs) ≡ coded_to format - coded_from format
  coded_long =
      let b = blocks format in
      let w = b.within in
      length-take-le (coded_to format - coded_from format) (drop (coded_from format) xs) (simp length-drop (omega arith))

  pub thirds_widths : map length (thirds format slot xs) ≡ third_widths format
  thirds_widths =
      let b = blocks format in
      let o = b.ordered in
      let w = b.within in
      let p : length (take (coded_from format) xs) ≡ coded_from format = length-take-le (coded_from format) xs (omega arith) in
      rw (p, sttd_length bar_digit (coded format xs), coded_long, (pilot_is format slot).long)

-- formats from 2 on: a pilot of two bits, or another
second_others : (format slot : ℕ) (xs : List ℕ) → 2 ≤ format → length xs ≡ (format_of format).slot → second_of format slot xs ≡ joined (thirds format slot xs)
unfolding second_of coded_from coded_to joined
second_others format slot xs h long = rw (wide format h) (cases (eqb (format_of format).pilot 2))
  where
    two : Bool → Type 0
    two b =
        cond b (sttd bar_digit xs) (sttd bar_digit (take (pilot_start format) xs) ++ second_pilot (format_of format).pilot slot)
        ≡ sttd bar_digit (take (cond b (format_of format).slot (pilot_start format) - 0) xs) ++ (cond b [] (second_pilot (format_of format).pilot slot) ++ [])

    cases : (b : Bool) → two b
    cases true =
        let all : (format_of format).slot - 0 ≡ length xs = omega arith in
        rw (all, take_all (length xs) xs (omega arith)) (sym (append-nil (sttd bar_digit xs)))
    cases false =
        let all : pilot_start format - 0 ≡ pilot_start format = omega arith in
        rw all
        (ap (λ (l : List ℕ). sttd bar_digit (take (pilot_start format) xs) ++ l) (sym (append-nil (second_pilot (format_of format).pilot slot))))

-- .. and formats 0 and 1
pub second_joined : (format slot : ℕ) (xs : List ℕ) → length xs ≡ (format_of format).slot → second_of format slot xs ≡ joined (thirds format slot xs)
unfolding second_of coded_from coded_to formats format_of start total joined
second_joined zero slot xs long = append_assoc (take 2 xs) _ _ ∙ ap (λ (l : List ℕ). take 2 xs ++ (sttd bar_digit (take 4 (drop 2 xs)) ++ l)) (sym (append-nil (second_pilot 4 slot)))
second_joined (suc zero) slot xs long = append_assoc (take 2 xs) _ _ ∙ ap (λ (l : List ℕ). take 2 xs ++ (sttd bar_digit (take 4 (drop 2 xs)) ++ l)) (sym (append-nil (second_pilot 4 slot)))
second_joined (suc (suc n)) slot xs long = second_others (suc (suc n)) slot xs (omega arith) long

-- where the three parts begin, and how long they are together
module _ (format : ℕ) where
  pub start_coded : start 1 (third_widths format) ≡ coded_from format
  unfolding start total
  start_coded = omega arith

  pub start_behind : start 2 (third_widths format) ≡ coded_to format
  unfolding start total
  start_behind = let o = (blocks format).ordered in omega arith

  pub widths_total : total (third_widths format) ≡ (format_of format).slot
  unfolding total
  widths_total =
      let o = (blocks format).ordered in
      let w = (blocks format).within in
      omega arith

module _ (format slot : ℕ) (xs : List ℕ) (long : length xs ≡ (format_of format).slot) where
  pub second_length : length (second_of format slot xs) ≡ (format_of format).slot
  second_length =
      ap length (second_joined format slot xs long)
      ∙ joined_length (thirds format slot xs)
      ∙ ap total (thirds_widths format slot xs long)
      ∙ widths_total format

  -- digit i of the k-th of the three
  pub second_at : (k i : ℕ) → k < 3 → i < get_or (third_widths format) k 0
      → get_or (second_of format slot xs) (start k (third_widths format) + i) 0 ≡ get_or (get_or (thirds format slot xs) k []) i 0
  second_at k i h l =
      ap (λ (s : List ℕ). get_or s (start k (third_widths format) + i) 0) (second_joined format slot xs long)
      ∙ joined_at (third_widths format) (thirds format slot xs) (thirds_widths format slot xs long) k i 0 h l

  -- the encoded part of antenna 2's slot
  pub second_coded : coded format (second_of format slot xs) ≡ sttd bar_digit (coded format xs)
  second_coded =
      let o = (blocks format).ordered in
      let w1 : coded_to format ≡ coded_from format + (coded_to format - coded_from format) = omega arith in
      ap (coded format) (second_joined format slot xs long)
      ∙ field_lent 1 (coded_from format) (coded_to format) (third_widths format) (joined (thirds format slot xs)) (lit< tt) (sym (start_coded format)) w1
      ∙ field_joined 1 (third_widths format) (thirds format slot xs) (thirds_widths format slot xs long)

  -- of digits it has digits
  pub second_digits : Every (at_most 2 xs) (length xs) → Every (at_most 2 (second_of format slot xs)) (length (second_of format slot xs))
  second_digits all =
      subst (λ (s : List ℕ). Each digit s) (sym (second_joined format slot xs long))
      (each_joined digit (thirds format slot xs) (
        each_take digit (coded_from format) xs all,
        (encoded, (pilot (eqb (format_of format).pilot 2), tt)),
      ))
    where
      encoded : Each digit (sttd bar_digit (coded format xs))
      encoded k h =
          sttd_keeps bar_digit (λ (x : ℕ). leb x 2 ≡ true) bar_keeps_digit 0 (coded format xs)
          (each_take digit (coded_to format - coded_from format) (drop (coded_from format) xs) (each_drop digit (coded_from format) xs all))
          k (rw (sttd_length bar_digit (coded format xs)) at h)

      pilot : (b : Bool) → Each digit (cond b [] (second_pilot (format_of format).pilot slot))
      pilot true k h = absurd (not-suc-le-zero h)
      pilot false k h = le-leb (get_or (second_pilot (format_of format).pilot slot) k 0) 2 (let l : get_or (second_pilot (format_of format).pilot slot) k 0 ≤ 1 = leb-true _ _ ((format_second_pilots format slot).digits k h) in omega arith)

module _ (format slot : ℕ) (xs out : List ℕ) (long : length xs ≡ (format_of format).slot) (out_long : length out ≡ (format_of format).slot) where
  room : length out ≡ total (third_widths format)
  room = out_long ∙ sym (widths_total format)

  -- the three parts, lent and written one after the other: y1, y2 and y3 are what they came back as
  module _ (a e n : ℕ) (a_is : a ≡ coded_from format) (e_is : e ≡ coded_to format) (n_is : n ≡ length xs) where
    abbrev after1 : List ℕ → List ℕ
    after1 y1 = put_mid 0 (a - 0) out y1

    abbrev after2 : List ℕ → List ℕ → List ℕ
    after2 y1 y2 = put_mid a (e - a) (after1 y1) y2

    same_written : (y1 : List ℕ) → y1 ≡ over xs (mid_of 0 (a - 0) out) → Front (joined (thirds format slot xs)) out (after1 y1) a
    unfolding start total
    same_written y1 e1 =
        let o = (blocks format).ordered in
        let w = (blocks format).within in
        let sized : length (joined (thirds format slot xs)) ≡ length out = joined_length (thirds format slot xs) ∙ ap total (thirds_widths format slot xs long) ∙ sym room in
        field_copied (third_widths format) (thirds format slot xs) (thirds_widths format slot xs long) out room 0 0 a (lit< tt) refl (omega arith)
        xs (front_none sized) (omega arith) e1 refl

    coded_written : (y1 y2 : List ℕ) → Front (joined (thirds format slot xs)) out (after1 y1) a
        → y2 ≡ encoded_over (take (e - a) (drop a xs)) (mid_of a (e - a) (after1 y1)) → Front (joined (thirds format slot xs)) out (after2 y1 y2) e
    coded_written y1 y2 f e2 =
        let o = (blocks format).ordered in
        let w = (blocks format).within in
        let whole = (blocks format).whole in
        let n1 : length (take (e - a) (drop a xs)) ≡ e - a = length-take-le (e - a) (drop a xs) (simp length-drop (omega arith)) in
        let n2 : length (mid_of a (e - a) (after1 y1)) ≡ e - a = front_lent a e f (omega arith) in
        let same : take (e - a) (drop a xs) ≡ coded format xs = rw (a_is, e_is) in
        let w1 : e ≡ a + (coded_to format - coded_from format) = omega arith in
        front_part e f (omega arith) (omega arith)
        (e2
        ∙ encoded_whole (take (e - a) (drop a xs)) (mid_of a (e - a) (after1 y1)) (omega arith) (n2 ∙ sym n1)
        ∙ ap (sttd bar_digit) same
        ∙ sym (field_lent 1 a e (third_widths format) (joined (thirds format slot xs)) (lit< tt) (a_is ∙ sym (start_coded format)) w1
        ∙ field_joined 1 (third_widths format) (thirds format slot xs) (thirds_widths format slot xs long)))

    pub all_written : (y1 y2 y3 : List ℕ) → y1 ≡ over xs (mid_of 0 (a - 0) out)
        → y2 ≡ encoded_over (take (e - a) (drop a xs)) (mid_of a (e - a) (after1 y1))
        → y3 ≡ over (second_source (length (mid_of e (n - e) (after2 y1 y2))) slot) (mid_of e (n - e) (after2 y1 y2))
        → put_mid e (n - e) (after2 y1 y2) y3 ≡ second_of format slot xs
    all_written y1 y2 y3 e1 e2 e3 =
        let o = (blocks format).ordered in
        let w = (blocks format).within in
        let p = pilot_is format slot in
        let f = coded_written y1 y2 (same_written y1 e1) e2 in
        let lent : length (mid_of e (n - e) (after2 y1 y2)) ≡ (format_of format).slot - coded_to format = front_lent e n f (omega arith) ∙ omega arith in
        front_all
        (field_copied (third_widths format) (thirds format slot xs) (thirds_widths format slot xs long) out room 2 e n (lit< tt) (e_is ∙ sym (start_behind format)) (omega arith)
        (second_source ((format_of format).slot - coded_to format) slot) f p.enough
        (e3 ∙ ap (λ (k : ℕ). over (second_source k slot) (mid_of e (n - e) (after2 y1 y2))) lent) (sym p.cut_from))
        (omega arith)
        ∙ sym (second_joined format slot xs long)
