-- The checks of two subframes whose lengths are right, as the code makes them: antenna 2 against what antenna 1 gives, stretch after stretch.
-- Assumes nothing.
use mathlib.Core.Path.{◌≡◌, refl, sym, ap, ◌∙◌}
use mathlib.Core.Bool.{Bool, not}
use mathlib.Core.List.{List}
use Prim.Native.Nat.{ℕ, ◌+◌, ◌-◌, ◌%◌, ◌≤◌, ◌<◌, min}
use native.Mathlib.Omega.{arith}
use borrow.Author.Tests.{lt-leb}
use lib.Dec.{eqb, ltb}
use lib.ListN.{length, take, drop}
use Rattle.std.specs.Prelude.{Option}
use Rattle.std.specs.Option.{unwrap_or}
use Rattle.std.specs.declared.option.Option.TheVariants.{Some, None}
use Rattle.std.specs.List.{position, zip}
use Rattle.std.proofs.lemmas.Slice.Zip.{length-zip}
use Rattle.run.specs.First.{first_bad, Every, at_most, agree}
use Rattle.run.specs.Verdicts.{refused, done, unless, each}
use Rattle.run.proofs.Answers.{goes_on, each_none}
use Rattle.run.proofs.Chain.{number_0, or_else_pass, or_else_refused, each_pass, each_done}
use Rattle.run.proofs.Places.{position_none, agree_opposite, above_first, difference_first, found_below}
use Rattle.run.proofs.First.{none_first, no_diff, first_in_part, part_passes}
use Rattle.run.proofs.Lent.{part_width, part_length, part_at}
use Rattle.sttd.specs.Rule.{bar_digit}
use Rattle.hspdsch.specs.Rule.{size, coded, second_of}
use Rattle.hspdsch.specs.Outcome.{flip, encoded_over, read_body}
use Rattle.hspdsch.proofs.Laws.{coded_length, coded_part, coded_flip, size_whole, second_bits}

-- ---- one stretch

-- the local run is antenna 1's stretch encoded
pub stretch_told : (format : ℕ) (one out : List ℕ) {given : List ℕ} → length one ≡ 64 → length out ≡ 64 → given ≡ encoded_over format one out → given ≡ coded flip format one
unfolding encoded_over
stretch_told format one out long room made = made ∙ rw (room, long)

abbrev pub differs : ℕ × ℕ → Bool
differs pair = not (eqb pair.0 pair.1)

-- of two runs of n digits, the first place at which they differ, if there is one
module _ (s t : List ℕ) (n : ℕ) (long1 : length s ≡ n) (long2 : length t ≡ n) where
  all_of : min (length s) (length t) ≡ n
  all_of = omega arith

  pub told_first : {r : Option ℕ} → r ≡ position differs (zip s t) → unwrap_or r n ≡ first_bad (agree s t) n
  told_first told = rw all_of at (difference_first s t told)

  pub told_below : {r : Option ℕ} (i : ℕ) → r ≡ position differs (zip s t) → r ≡ Some i → i < n
  told_below i told is = let l = found_below differs (zip s t) i told is in let e = length-zip s t in omega (arith, all_of)

  pub none_differs : Every (agree s t) n → None ≡ position differs (zip s t)
  none_differs every = position_none differs (agree s t) (0, 0) (zip s t) (agree_opposite s t) (let e = length-zip s t in λ k h. every k (omega (arith, all_of)))

  pub some_differs : (i : ℕ) → i ≡ first_bad (agree s t) n → i < n → Some i ≡ position differs (zip s t)
  some_differs i is below = pick (position differs (zip s t)) (told_first refl)
    where
      pick : (o : Option ℕ) → unwrap_or o n ≡ first_bad (agree s t) n → Some i ≡ o
      pick (Some j) e = ap (λ (k : ℕ). Some k) (is ∙ sym e)
      pick None e = absurd (let z : ⊥ = omega arith in z)

-- ---- stretch after stretch

module _ (format : ℕ) (antenna1 antenna2 : List ℕ) (whole : length antenna1 % 64 ≡ 0) (same_long : length antenna2 ≡ length antenna1) where
  abbrev Agrees : ℕ → Bool
  Agrees = agree (coded flip format antenna1) antenna2

  module _ {i : ℕ} (da : i % 64 ≡ 0) (h : i < length antenna1) where
    abbrev One : List ℕ
    One = coded flip format (take (i + 64 - i) (drop i antenna1))

    abbrev Two : List ℕ
    Two = take (i + 64 - i) (drop i antenna2)

    long_one : length One ≡ 64
    long_one =
        let long = part_length antenna1 i 64 (omega arith) in
        coded_length flip (take (i + 64 - i) (drop i antenna1)) (ap (λ (k : ℕ). k % 8) long) format ∙ long

    long_two : length Two ≡ 64
    long_two = part_length antenna2 i 64 (omega arith)

    same_test : (j : ℕ) → j < 64 → agree One Two j ≡ Agrees (i + j)
    same_test j l =
        rw
        (part_width i 64, coded_part flip antenna1 (omega arith) format i 64 (omega arith) refl (omega arith), ← part_width i 64, part_at (coded flip format antenna1) i 64 j 0 l, part_at antenna2 i 64 j 0 l)

    module _ (before : Every Agrees i) {r : Option ℕ} (told : r ≡ position differs (zip One Two)) where
      first : unwrap_or r 64 ≡ first_bad (agree One Two) 64
      first = told_first One Two 64 long_one long_two told

      pub below_here : (j : ℕ) → r ≡ Some j → j < 64
      below_here j is = told_below One Two 64 long_one long_two j told is

      pub differs_here : (j : ℕ) → r ≡ Some j → Some (i + j) ≡ position differs (zip (coded flip format antenna1) antenna2)
      differs_here j is =
          let l = below_here j is in
          let e : j ≡ first_bad (agree One Two) 64 = rw is at first in
          some_differs (coded flip format antenna1) antenna2 (length antenna1) (coded_length flip antenna1 (omega arith) format) same_long (i + j)
          (rw e (first_in_part Agrees (agree One Two) i 64 before same_test (length antenna1) (omega arith) (rw e at l))) (omega arith)

      pub agrees_here : r ≡ None → Every Agrees (i + 64)
      agrees_here is = let e : 64 ≡ first_bad (agree One Two) 64 = rw is at first in part_passes Agrees (agree One Two) i 64 before same_test (omega arith)

-- ---- the checks of the digits

-- a check is refused at the first place that fails, counted from the base
pub each_there : (base number : ℕ) (ok : ℕ → Bool) (n i : ℕ) → i ≡ first_bad ok n → i < n → refused number (base + i) ≡ each base number ok n
unfolding each unless
each_there base number ok n i e l = rw (lt-leb n (first_bad ok n) (omega arith), sym e)

module _ (format : ℕ) (antenna1 antenna2 : List ℕ) (known : format ≤ 1) (first_ok : length antenna1 ≡ size format) (second_ok : length antenna2 ≡ size format) (passed : done ≡ each 0 4 (at_most 1 antenna1) (length antenna1)) where
  bits : Every (at_most 1 antenna1) (length antenna1)
  bits = each_done 0 4 _ _ (omega arith) (number_0 (sym passed))

  same_first : first_bad (agree (coded flip format antenna1) antenna2) (length antenna1) ≡ first_bad (agree (second_of format antenna1) antenna2) (length antenna2)
  same_first = rw (coded_flip format antenna1 bits, first_ok, second_ok)

  module _ {r : Option ℕ} (compared : r ≡ position differs (zip (coded flip format antenna1) antenna2)) where
    first_place : unwrap_or r (length antenna1) ≡ first_bad (agree (second_of format antenna1) antenna2) (length antenna2)
    first_place =
        let w = size_whole format known in
        told_first (coded flip format antenna1) antenna2 (length antenna1) (coded_length flip antenna1 (omega arith) format) (second_ok ∙ sym first_ok) compared ∙ same_first

    pub first_below : (m : ℕ) → r ≡ Some m → m < length antenna1
    first_below m is =
        let w = size_whole format known in
        told_below (coded flip format antenna1) antenna2 (length antenna1) (coded_length flip antenna1 (omega arith) format) (second_ok ∙ sym first_ok) m compared is

    -- antenna 2 is what antenna 1 gives, so it has bits
    pub body_agrees : r ≡ None → done ≡ read_body format antenna1 antenna2
    unfolding read_body
    body_agrees none =
        let w = size_whole format known in
        let n = coded_length bar_digit antenna1 (omega arith) format in
        let reached : length antenna1 ≡ first_bad (agree (second_of format antenna1) antenna2) (length antenna2) = rw none at first_place in
        let every = none_first (agree (second_of format antenna1) antenna2) (length antenna2) (omega arith) in
        let is : second_of format antenna1 ≡ antenna2 = no_diff (second_of format antenna1) antenna2 (n ∙ first_ok ∙ sym second_ok) (λ k h. every k (omega arith)) in
        let b2 : Every (at_most 1 antenna2) (length antenna2) = rw is at (second_bits antenna1 (omega arith) bits format) in
        goes_on passed (sym (or_else_pass (each_pass (size format) 4 _ _ b2) (each_pass (size format) 9 _ _ every)))

    -- it differs, and has no bit at some place
    module _ {found : Option ℕ} (looked : found ≡ position (ltb 1) antenna2) where
      pub body_digit : (i : ℕ) → found ≡ Some i → refused 4 (length antenna1 + i) ≡ read_body format antenna1 antenna2
      unfolding read_body
      body_digit i is =
          let here : i ≡ first_bad (at_most 1 antenna2) (length antenna2) = rw is at (above_first 1 antenna2 looked) in
          let there = each_there (size format) 4 (at_most 1 antenna2) (length antenna2) i here (found_below (ltb 1) antenna2 i looked is) in
          goes_on passed (rw (← there) (rw first_ok (sym (or_else_refused _ _ (λ e. let z : ⊥ = omega (arith, e) in z)))))

      -- .. or has bits alone
      pub body_frame : (m : ℕ) → r ≡ Some m → found ≡ None → refused 9 (length antenna1 + m) ≡ read_body format antenna1 antenna2
      unfolding read_body
      body_frame m is none =
          let all : length antenna2 ≡ first_bad (at_most 1 antenna2) (length antenna2) = rw none at (above_first 1 antenna2 looked) in
          let here : m ≡ first_bad (agree (second_of format antenna1) antenna2) (length antenna2) = rw is at first_place in
          let below = first_below m is in
          goes_on passed
          (goes_on (each_none (size format) 4 _ _ all)
          (rw first_ok (each_there (size format) 9 _ (length antenna2) m here (omega arith))))
