-- What a look at a field of constant width says of the field's check.
-- Assumes nothing.
use mathlib.Core.Path.{◌≡◌, refl, sym, ap, ◌∙◌}
use mathlib.Core.Bool.{Bool, true, false, cond, ◌&&◌}
use mathlib.Core.List.{List}
use Prim.Native.Nat.{ℕ, suc, ◌+◌, ◌-◌, ◌≤◌, ◌<◌}
use native.Mathlib.Omega.{arith}
use borrow.Author.Tests.{eqb-true, leb-true, le-leb, ne_eqb, eq-eqb}
use lib.Dec.{eqb, leb, lit<}
use lib.ListN.{length, get_or, take, drop}
use lib.Seq.{get_or-take}
use Rattle.run.specs.First.{first_bad, all, Every, at_most, like_first, agree}
use Rattle.run.specs.Verdicts.{done}
use Rattle.run.proofs.First.{first_same}
use Rattle.run.proofs.Bools.{and_right}
use Rattle.run.proofs.Chain.{or_else_done, unless_done, or_else_pass, unless_pass}
use Rattle.run.proofs.Fields.{field_lent, field_at}
use Rattle.dpch.specs.declared.Dpcch.{Dpcch}
use Rattle.dpch.specs.Uplink.{dpcch_format, dpcch_widths}
use Rattle.dpch.specs.UplinkPilots.{dpcch_pilot}
use Rattle.dpcch.specs.Rule.{pilot_in, tpc_in}
use Rattle.dpcch.specs.Outcome.{part_verdict}
use Rattle.dpcch.specs.Ready.{pilot_source, Whole}
use Rattle.dpcch.proofs.Laws.{start_pilot, start_tpc, field_long, command_at, sum}
use Rattle.dpcch.proofs.Accept.{digits_ok, digits_pass}

-- of two places the first of which passes, the second decides
all_two : (ok : ℕ → Bool) → ok 0 ≡ true → ok 1 ≡ all 2 ok
unfolding first_bad
all_two ok e = rw e (side (ok 1))
  where
    side : (b : Bool) → b ≡ leb 2 (suc (cond b (suc 0) 0))
    side true = refl
    side false = refl

-- two digits that are bits are a command where they are the same
alike : (s : List ℕ) → length s ≡ 2 → get_or s 0 0 ≤ 1 → get_or s 1 0 ≤ 1 → eqb (get_or s 1 0) (get_or s 0 0) ≡ all (length s) (like_first s)
alike s e x y =
    let first : like_first s 0 ≡ true = rw (ne_eqb (get_or s 0 0) 2 (λ t. let z : ⊥ = omega arith in z), eq-eqb (get_or s 0 0) (get_or s 0 0) refl) in
    let second : like_first s 1 ≡ eqb (get_or s 1 0) (get_or s 0 0) = rw (ne_eqb (get_or s 1 0) 2 (λ t. let z : ⊥ = omega arith in z)) in
    sym second ∙ all_two (like_first s) first ∙ ap (λ (n : ℕ). all n (like_first s)) (sym e)

module _ (f : Dpcch) (xs : List ℕ) (w : Whole f (length xs)) where
  -- the TPC field of a slot of bits
  pub command_told : f.tpc ≡ 2 → Every (at_most 1 xs) (length xs)
      → eqb (get_or xs (f.pilot + f.tfci + f.fbi + 1) 0) (get_or xs (f.pilot + f.tfci + f.fbi) 0) ≡ all (length (tpc_in f xs)) (like_first (tpc_in f xs))
  command_told two bits =
      let n = sum f w.sound in
      let long = w.slot_ok in
      let p = f.pilot + f.tfci + f.fbi in
      let first : get_or xs p 0 ≡ get_or (tpc_in f xs) 0 0 = command_at f xs w (omega arith) in
      let second : get_or (tpc_in f xs) 1 0 ≡ get_or xs (p + 1) 0 = field_at 3 (dpcch_widths f) xs 1 0 (lit< tt) (omega arith) ∙ ap (λ (k : ℕ). get_or xs (k + 1) 0) (start_tpc f) in
      let x : get_or xs p 0 ≤ 1 = leb-true (get_or xs p 0) 1 (bits p (omega arith)) in
      let y : get_or xs (p + 1) 0 ≤ 1 = leb-true (get_or xs (p + 1) 0) 1 (bits (p + 1) (omega arith)) in
      rw (first, ← second) (alike (tpc_in f xs) (field_long f xs w 3 (lit< tt) ∙ two) (omega arith) (omega arith))

  -- the pilot field, compared with what begins with the pilot
  pub pilot_told : (slot : ℕ) {r : Bool}
      → r ≡ (leb (length (take (f.pilot - 0) (drop 0 xs))) (length (pilot_source (length (take (f.pilot - 0) (drop 0 xs))) slot))
      && all (length (take (f.pilot - 0) (drop 0 xs))) (agree (take (f.pilot - 0) (drop 0 xs)) (pilot_source (length (take (f.pilot - 0) (drop 0 xs))) slot)))
      → r ≡ all (length (pilot_in f xs)) (agree (pilot_in f xs) (dpcch_pilot f.pilot slot))
  pilot_told slot {r} told =
      let cut = w.sound.pilot slot in
      let long : length (pilot_in f xs) ≡ f.pilot = field_long f xs w 0 (lit< tt) in
      let lent = field_lent 0 0 f.pilot (dpcch_widths f) xs (lit< tt) (start_pilot f) (omega arith) in
      let here = rw (lent, long) at told in
      here
      ∙ rw (le-leb _ _ cut.enough, long)
      (ap (leb f.pilot)
      (first_same _ _ f.pilot
      (λ k l. ap (λ (x : ℕ). eqb (get_or (pilot_in f xs) k 0) x) (sym (ap (λ (t : List ℕ). get_or t k 0) cut.cut_from ∙ get_or-take f.pilot (pilot_source f.pilot slot) k 0 l)))))

-- a slot that fits is done, wherever its places count from
pub fits_anywhere : (format slot : ℕ) (xs : List ℕ) (base : ℕ) {r : Bool} → r ≡ (leb format 3 && eqb (part_verdict format slot xs 0).number 0) → r ≡ true
    → done ≡ part_verdict format slot xs base
unfolding part_verdict
fits_anywhere format slot xs base told good =
    let c = or_else_done _ _ (eqb-true _ _ (and_right (leb format 3) _ (sym told ∙ good))) in
    sym (or_else_pass
    (unless_pass 3 0 (unless_done _ 3 0 (lit< tt) c.first))
    (digits_pass (dpcch_format format) slot xs base (digits_ok (dpcch_format format) slot xs 0 c.rest)))

-- a number that is none of the table's formats
pub past : (n : ℕ) → (n ≡ 0 → ⊥) → (n ≡ 1 → ⊥) → (n ≡ 2 → ⊥) → (n ≡ 3 → ⊥) → 3 < n
past n a b c d = omega arith
