-- Records: what a call prints where it is done and where it is refused, what stands for a record of each kind, and when a record is whole.
-- Assumes nothing.
use mathlib.Core.Path.{◌≡◌, refl, sym, ap, ◌∙◌}
use mathlib.Core.Bool.{Bool, true, false, ◌&&◌, false≢true}
use mathlib.Core.List.{List}
use Prim.Native.Nat.{ℕ, ◌+◌, ◌-◌, ◌≤◌, ◌<◌}
use native.Mathlib.Nat.{zero-add}
use native.Mathlib.Omega.{arith}
use borrow.Rule.Slice.PartMut.{put_mid, mid_of, mid_len}
use borrow.Author.Tests.{leb-true, eqb-true, eqb-false, eq-eqb, ne_eqb}
use lib.Dec.{eqb, lit<}
use lib.IntN.{ℤ, pos}
use lib.ListN.{length, get_or, take, drop, length-append, length-drop}
use lib.Seq.{take_all, take_at}
use Rattle.std.specs.Prelude.{Result, Ok, Err, is_ok}
use Rattle.std.specs.Result.{IsErrAnd, result_unwrap_or}
use Rattle.run.specs.Verdict.{Verdict}
use Rattle.run.specs.declared.refusal.Refusal.{Refusal}
use Rattle.run.specs.Answers.{verdict_of}
use Rattle.run.proofs.Answers.{refuses}
use Rattle.run.specs.Refusals.{length_refused}
use Rattle.run.specs.Verdicts.{or_else, unless}
use Rattle.run.proofs.Bools.{and_left, and_right}
use Rattle.run.proofs.Chain.{or_else_done, unless_done, leaves_done, leaves_refused}
use Rattle.run.proofs.Lent.{part_width}
use Rattle.run.proofs.Table.{tab_length, tab_at}
use Rattle.dpch.specs.declared.Format.{Format}
use Rattle.dpch.specs.Formats.{format_of}
use Rattle.slot.specs.Outcome.{Map as SlotMap}
use Rattle.slot.proofs.Accept.{mapped}
use Rattle.pich.specs.Rule.{frame_of}
use Rattle.pich.specs.Outcome.{Map as PichMap}
use Rattle.pich.proofs.Laws.{frame_length}
use Rattle.aich.specs.Rule.{values_of}
use Rattle.aich.specs.Outcome.{Map as AichMap}
use Rattle.aich.specs.Exact.{Sized}
use Rattle.aich.proofs.Checks.{taken}
use Rattle.aich.proofs.Exact.{units_sized}
use Rattle.kinds.specs.declared.Kind.{Kind}
use Rattle.kinds.specs.declared.Kind.TheVariants.{Dpch}
use Rattle.kinds.specs.declared.UnknownKind.{UnknownKind}
use Rattle.kinds.specs.declared.Shape.{Shape}
use Rattle.kinds.specs.Kinds.{byte_of, Names, told}
use Rattle.lines.specs.Answers.{Told, told_of, verdict_in}
use Rattle.lines.proofs.Answers.{told_refused}
use Rattle.kinds.specs.Rule.{is_kind, size_of, second_verdict, shape_of, Shape as Said}
use Rattle.lines.specs.Rule.{indicator_of, indicators_of, second_of, paging_of, slot_number_of, tpc_of, aich_line, pich_line, dpch_line, record_line}
use Rattle.lines.specs.Outcome.{line_size, room, is_whole, mapper_verdict, line_verdict, Prints, Writes, Record}
use Rattle.lines.specs.Ready.{Whole, AichRecord, PichRecord, DpchRecord, MapsSlot}
use Rattle.lines.specs.Text.{put, Wrote}
use Rattle.kinds.proofs.ByKind.{by_aich, by_pich, by_dpch, kind_last, size_some}
use Rattle.lines.proofs.Checks.{then_refused, then_next, room_done}

-- ---- a line is printed where the call is done
pub prints_refused : (v : Verdict) (text line : List ℕ) → (v.number ≡ 0 → ⊥) → Prints v text line 0 line
prints_refused v text line h = record { length_is = sym (leaves_refused v _ _ h); line_is = sym (leaves_refused v _ _ h) }

pub prints_done : (v : Verdict) {text line line' : List ℕ} {n : ℕ} → v.number ≡ 0 → Wrote 0 text line n line' → Prints v text line n line'
prints_done v {text} h w =
    record { length_is = w.ends ∙ zero-add (length text) ∙ sym (leaves_done v _ _ h); line_is = w.is ∙ sym (leaves_done v _ _ h) }

-- .. in the words of a call that hands a refusal on
pub prints_left : {v : Verdict} (text line : List ℕ) (x : Refusal) → verdict_in x ≡ v → Prints v text line 0 line
prints_left {v} text line x e = rw (sym e) (prints_refused (verdict_in x) text line (refuses x x.place))

pub writes_left : (r line : List ℕ) (a : Result ℕ Refusal) (x : Refusal) → IsErrAnd a (λ e. e ≡ x) → verdict_in x ≡ mapper_verdict r → Writes r line (told_of a) line
writes_left r line a x h e = rw (told_refused a x h) (record { verdict_is = e; prints = prints_left _ line x e })

pub writes_done : (r : List ℕ) {v : Verdict} {line line' : List ℕ} {n : ℕ} → v ≡ mapper_verdict r → v.number ≡ 0 → Wrote 0 (record_line r) line n line'
    → Writes r line (record { verdict = v; length = n }) line'
writes_done r e h w = record { verdict_is = e; prints = prints_done (mapper_verdict r) (rw e at h) w }

-- a record's bytes from one on, as the code lends them
rest_whole : (from : ℕ) (r : List ℕ) → take (length r - from) (drop from r) ≡ drop from r
rest_whole from r =
    let l = length-drop from r in
    let h : length (drop from r) ≤ length r - from = omega arith in
    take_all (length r - from) (drop from r) h

-- ---- AICH
module _ (r : List ℕ) (k : AichRecord r) (xs : List ℤ) (e : xs ≡ indicators_of r) {v : Verdict} {values values' : List ℤ} (long : length values ≡ 32)
    (m : AichMap xs values v values') where
  pub aich_is : v ≡ mapper_verdict r
  unfolding mapper_verdict
  aich_is = m.verdict_is ∙ rw (e, long) (sym (by_aich (get_or r 0 0) _ _ _ k.aich))

  given : v.number ≡ 0 → values' ≡ values_of xs
  given h = m.values_is ∙ leaves_done _ _ _ (rw m.verdict_is at h)

  pub aich_sized : v.number ≡ 0 → Sized values'
  aich_sized h = rw (given h) (units_sized xs (taken _ _ (rw m.verdict_is at h)).indicators_ok.small)

  pub aich_text : v.number ≡ 0 → record_line r ≡ aich_line values'
  unfolding record_line
  aich_text h = by_aich (get_or r 0 0) _ _ _ k.aich ∙ ap aich_line (sym (given h ∙ ap values_of e))

-- ---- PICH
module _ (r : List ℕ) (k : PichRecord r) {v : Verdict} {frame frame' : List ℕ} (long : length frame ≡ 300) (m : PichMap (second_of r) (take (length r - 2) (paging_of r)) frame v frame') where
  whole : take (length r - 2) (paging_of r) ≡ paging_of r
  whole = rest_whole 2 r

  pub pich_is : v ≡ mapper_verdict r
  unfolding mapper_verdict
  pich_is = m.verdict_is ∙ rw (whole, long) (sym (by_pich (get_or r 0 0) _ _ _ k.pich))

  framed : v.number ≡ 0 → frame' ≡ frame_of (second_of r) (paging_of r)
  framed h = m.frame_is ∙ leaves_done _ _ _ (rw m.verdict_is at h) ∙ ap (frame_of (second_of r)) whole

  pub pich_long : v.number ≡ 0 → length frame' ≡ 300
  pich_long h = rw (framed h) (frame_length (second_of r) (paging_of r))

  pub pich_text : v.number ≡ 0 → record_line r ≡ pich_line (second_of r) frame'
  unfolding record_line
  pich_text h = by_pich (get_or r 0 0) _ _ _ k.pich ∙ ap (pich_line (second_of r)) (sym (framed h))

-- ---- DPCH
module _ (r : List ℕ) where
  abbrev f : Format
  f = format_of (second_of r)

  -- TFCI and data, as the code lends them
  pub maps_slot : {v : Verdict} {digits digits' : List ℕ}
      → SlotMap (second_of r) (slot_number_of r) (tpc_of r) (take (length r - (4 + f.tfci)) (drop (4 + f.tfci) r)) (take (4 + f.tfci - 4) (drop 4 r)) digits v digits'
      → MapsSlot r digits v digits'
  maps_slot {v} {digits} m =
      let n = rest_whole (4 + f.tfci) r in
      let w = part_width 4 f.tfci in
      let is = rw (n, w) at m.verdict_is in
      record { verdict_is = is; digits_is = rw is (rw (n, w) at m.out_is) }

module _ (r : List ℕ) (k : DpchRecord r) {v : Verdict} {digits digits' : List ℕ} (long : length digits ≡ (format_of (second_of r)).slot) (m : MapsSlot r digits v digits') where
  no_aich : get_or r 0 0 ≡ 1 → ⊥
  no_aich e = let z : ⊥ = omega (arith, k.dpch) in z

  no_pich : get_or r 0 0 ≡ 2 → ⊥
  no_pich e = let z : ⊥ = omega (arith, k.dpch) in z

  pub dpch_is : v ≡ mapper_verdict r
  unfolding mapper_verdict
  dpch_is = m.verdict_is ∙ rw long (sym (by_dpch (get_or r 0 0) _ _ _ no_aich no_pich))

  pub dpch_slot : v.number ≡ 0 → slot_number_of r ≤ 14
  dpch_slot h = (mapped _ _ _ _ _ _ (rw m.verdict_is at h)).head.slot_ok

  pub dpch_text : v.number ≡ 0 → record_line r ≡ dpch_line (second_of r) (slot_number_of r) digits'
  unfolding record_line
  dpch_text h =
      by_dpch (get_or r 0 0) _ _ _ no_aich no_pich
      ∙ ap (dpch_line (second_of r) (slot_number_of r)) (sym (m.digits_is ∙ leaves_done v _ _ h))

-- the front of an array is lent, comes back as ys, and is lent again
pub front_back : (size : ℕ) (xs ys : List ℕ) → length ys ≡ size → take (size - 0) (drop 0 (put_mid 0 (size - 0) xs ys)) ≡ ys
front_back size xs ys e = take_at ys _ (size - 0) (let z : length ys ≡ size - 0 = omega arith in z)

pub front_long : (size : ℕ) (xs : List ℕ) → size ≤ length xs → length (mid_of 0 (size - 0) xs) ≡ size
front_long size xs h = mid_len 0 size xs h ∙ (let z : size - 0 ≡ size = omega arith in z)

pub indicators_length : (r : List ℕ) → length (indicators_of r) ≡ 16
unfolding indicators_of
indicators_length r = tab_length 16 _

pub indicators_at : (r : List ℕ) (s : ℕ) → s < 16 → get_or (indicators_of r) s (pos 0) ≡ indicator_of (get_or r (1 + s) 0)
unfolding indicators_of
indicators_at r s h = tab_at 16 _ s (pos 0) h

-- ---- a whole record is one of its kind
pub whole_kind : (r : List ℕ) (kind : Result Kind UnknownKind) → Whole r → Names (get_or r 0 0) kind → get_or r 0 0 ≡ byte_of (result_unwrap_or kind Dpch)
whole_kind r (Ok k) w e = sym e
whole_kind r (Err x) w e = absurd (false≢true (sym e.1 ∙ w.kind_ok))

pub whole_some : (r : List ℕ) → Whole r → 0 < length r
whole_some r w =
    let some = size_some (get_or r 0 0) (second_of r) in
    omega (arith, w.sized)

pub whole_aich : (r : List ℕ) → Whole r → get_or r 0 0 ≡ 1 → AichRecord r
unfolding size_of
whole_aich r w e = record { aich = e; sized = w.sized ∙ by_aich _ _ _ _ e }

pub whole_pich : (r : List ℕ) → Whole r → get_or r 0 0 ≡ 2 → PichRecord r
unfolding size_of
whole_pich r w e = record { pich = e; sized = w.sized ∙ by_pich _ _ _ _ e }

pub whole_dpch : (r : List ℕ) → Whole r → (get_or r 0 0 ≡ 1 → ⊥) → (get_or r 0 0 ≡ 2 → ⊥) → DpchRecord r
unfolding size_of second_verdict
whole_dpch r w a p =
    record {
      dpch = kind_last (get_or r 0 0) w.kind_ok a p;
      format_ok = leb-true _ _ (unless_done _ 1 0 (lit< tt) (rw (by_dpch (get_or r 0 0) _ _ _ a p) at w.second_ok));
      sized = w.sized ∙ by_dpch _ _ _ _ a p;
    }

-- ---- what `is_whole` says
pub is_whole_lem : (r : List ℕ) → Whole r → is_whole r ≡ true
unfolding is_whole
is_whole_lem r w = rw (w.kind_ok, eq-eqb (second_verdict (get_or r 0 0) (second_of r)).number 0 w.second_ok, eq-eqb (length r) (size_of (get_or r 0 0) (second_of r)) w.sized)

pub whole_is : (r : List ℕ) → is_whole r ≡ true → Whole r
unfolding is_whole
whole_is r e =
    let kind = is_kind (get_or r 0 0) in
    let second = eqb (second_verdict (get_or r 0 0) (second_of r)).number 0 in
    let sized = eqb (length r) (size_of (get_or r 0 0) (second_of r)) in
    let both = and_left (kind && second) sized e in
    record {
      kind_ok = and_left kind second both;
      second_ok = eqb-true _ _ (and_right kind second both);
      sized = eqb-true _ _ (and_right (kind && second) sized e);
    }

not_whole : (r : List ℕ) → (Whole r → ⊥) → is_whole r ≡ false
not_whole r h = pick (is_whole r) refl
  where
    pick : (b : Bool) → is_whole r ≡ b → is_whole r ≡ false
    pick true e = absurd (h (whole_is r e))
    pick false e = e

-- .. as the code finds it
pub not_short : (r : List ℕ) → length r < 2 → is_whole r ≡ false
not_short r h =
    not_whole r
    (λ w.
    let some = size_some (get_or r 0 0) (second_of r) in
    let z : ⊥ = omega (arith, w.sized) in
    z)

ok_number : {A : Type 0} (r : Result A Refusal) → eqb (verdict_of r).number 0 ≡ is_ok r
ok_number (Ok a) = refl
ok_number (Err x) = ne_eqb _ 0 (refuses x x.place)

pub whole_parts : (r : List ℕ) (s : Shape) → told s ≡ shape_of (get_or r 0 0) (second_of r) → is_whole r ≡ (s.known && is_ok s.second) && eqb (length r) s.size
unfolding is_whole shape_of
whole_parts r s e =
    rw (sym (ap (λ (t : Said). t.known) e), sym (ap (λ (t : Said). t.verdict) e), sym (ap (λ (t : Said). t.size) e), ok_number s.second)

-- ---- record: the checks of its length, then its own bytes
module _ (r line : List ℕ) {t : Verdict} (e : t ≡ or_else (unless (is_whole r) length_refused 0) (room 1 (length line))) where
  record_refused : (t.number ≡ 0 → ⊥) → Record r line (record { verdict = t; length = 0 }) line
  unfolding line_verdict
  record_refused h =
      let is : t ≡ line_verdict r (length line) = then_refused _ _ _ e refl refl h in
      record { verdict_is = is; prints = prints_refused _ _ line (rw is at h) }

  pub record_whole : t.number ≡ 0 → Whole r × (line_size ≤ length line)
  record_whole h =
      let both = or_else_done _ _ (rw e at h) in
      (whole_is r (unless_done _ 3 0 (lit< tt) both.first), room_done 1 (length line) both.rest)

  pub record_writes : {told : Told} {line' : List ℕ} → t.number ≡ 0 → Writes r line told line' → Record r line told line'
  unfolding line_verdict
  record_writes h w =
      let is : mapper_verdict r ≡ line_verdict r (length line) = then_next _ _ _ e refl refl h in
      record { verdict_is = w.verdict_is ∙ is; prints = rw (← is) w.prints }

pub record_left : (r line : List ℕ) (a : Result ℕ Refusal) (x : Refusal) → IsErrAnd a (λ e. e ≡ x)
    → verdict_in x ≡ or_else (unless (is_whole r) length_refused 0) (room 1 (length line)) → Record r line (told_of a) line
record_left r line a x h e = rw (told_refused a x h) (record_refused r line e (refuses x x.place))

-- a caller may take what was printed off the front of the line
pub prints_fit : {v : Verdict} {text line line' : List ℕ} {n : ℕ} → Prints v text line n line' → n ≤ length line'
unfolding put
prints_fit {v} {text} {line} {line'} {n} p = pick (eqb v.number 0) refl
  where
    pick : (b : Bool) → eqb v.number 0 ≡ b → n ≤ length line'
    pick true e =
        let h = eqb-true _ _ e in
        let l = p.length_is ∙ leaves_done v _ _ h in
        let m = ap length (p.line_is ∙ leaves_done v _ _ h) ∙ length-append text (drop (0 + length text) line) in
        omega arith
    pick false e = let l = p.length_is ∙ leaves_refused v _ _ (eqb-false _ _ e) in omega arith
