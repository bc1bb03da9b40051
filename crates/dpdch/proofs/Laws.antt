-- The digits of a slot and of a frame are its data, one after the other.
-- Assumes nothing.
use mathlib.Core.Path.{◌≡◌, refl, sym, ap, ◌∙◌}
use mathlib.Core.Bool.{Bool, true, false, ◌&&◌, true≢false}
use mathlib.Core.List.{List, [], ◌∷◌, append-nil}
use Prim.Native.Nat.{ℕ, ◌*◌, ◌≤◌}
use native.Mathlib.Nat.{mul-le-mul_right}
use native.Mathlib.Omega.{arith}
use borrow.Author.Tests.{eqb-true, eqb-false}
use lib.Dec.{eqb, leb, lit<}
use lib.ListN.{length}
use Rattle.run.specs.Verdict.{Verdict}
use Rattle.run.specs.First.{all, Every, at_most}
use Rattle.run.specs.Fields.{cut, joined, field}
use Rattle.run.specs.Parts.{part}
use Rattle.run.specs.Refusals.{tfci_refused}
use Rattle.run.specs.Table.{tab}
use Rattle.run.specs.Verdicts.{leaves, Narrow}
use Rattle.run.proofs.Chain.{or_else_done, each_done, or_else_narrow, each_narrow, leaves_done, leaves_refused}
use Rattle.run.proofs.Fields.{joined_cut}
use Rattle.run.proofs.Passing.{front_every}
use Rattle.run.proofs.Never.{or_else_never, each_never}
use Rattle.run.proofs.Parts.{part_length, joined_part}
use Rattle.run.proofs.Table.{tab_same}
use Rattle.dpch.specs.Heads.{frame_head}
use Rattle.dpch.specs.Uplink.{dpdch_size}
use Rattle.dpch.specs.Layouts.{uplink_dpdch}
use Rattle.dpch.proofs.Exact.{fields_fill, dpdch_short}
use Rattle.dpch.proofs.Heads.{head_two, frame_headed, frame_head_never, frame_head_narrow}
use Rattle.dpdch.specs.Rule.{slot_of, data_in, frame_of, frame_data_in}
use Rattle.dpdch.specs.Outcome.{slots_verdict, Carry}

pub slot_plain : (d : List ℕ) → slot_of d ≡ d
unfolding slot_of joined
slot_plain d = append-nil d

-- the field that fills a slot is the slot
pub data_plain : (format : ℕ) (xs : List ℕ) → length xs ≡ dpdch_size format → data_in format xs ≡ xs
unfolding data_in field cut joined
data_plain format xs long =
    sym (append-nil (field 0 (dpdch_size format ∷ []) xs)) ∙ joined_cut (dpdch_size format ∷ []) xs (long ∙ sym (fields_fill uplink_dpdch format))

-- fifteen parts, each as it is
parts_plain : (n : ℕ) (g : List ℕ → List ℕ) (s : List ℕ) → ((t : List ℕ) → length t ≡ n → g t ≡ t) → length s ≡ 15 * n → joined (tab 15 (λ (k : ℕ). g (part k n s))) ≡ s
parts_plain n g s plain long =
    ap joined (tab_same 15 _ (λ (k : ℕ). part k n s) (λ k h. plain (part k n s) (part_length k 15 n s h long))) ∙ joined_part 15 n s long

pub frame_plain : (format : ℕ) (d : List ℕ) → length d ≡ 15 * dpdch_size format → frame_of format d ≡ d
unfolding frame_of
frame_plain format d long = parts_plain (dpdch_size format) slot_of d (λ t _. slot_plain t) long

pub frame_data_plain : (format : ℕ) (xs : List ℕ) → length xs ≡ 15 * dpdch_size format → frame_data_in format xs ≡ xs
unfolding frame_data_in
frame_data_plain format xs long = parts_plain (dpdch_size format) (data_in format) xs (data_plain format) long

pub slots_small : (slots format : ℕ) → slots ≤ 15 → slots * dpdch_size format ≤ 9600
slots_small slots format few =
    let p : slots * dpdch_size format ≤ 15 * dpdch_size format = mul-le-mul_right (dpdch_size format) few in
    let q = dpdch_short format in
    omega arith

-- what is known where nothing is refused, and when nothing is
pub record Taken (slots format : ℕ) (input : List ℕ) (out_length : ℕ) : Type 0 where
  pub format_ok : format ≤ 6
  pub long : length input ≡ slots * dpdch_size format
  pub out_ok : out_length ≡ slots * dpdch_size format
  pub digits : Every (at_most 1 input) (length input)

module _ (slots format : ℕ) (input : List ℕ) (out_length : ℕ) where
  pub taken : (slots_verdict slots format input out_length).number ≡ 0 → Taken slots format input out_length
  unfolding slots_verdict
  taken h =
      let c = or_else_done _ _ h in
      let p = frame_headed 6 format _ c.first in
      record {
        format_ok = p.format_ok;
        long = eqb-true _ _ (p.right_ok 0 (lit< tt));
        out_ok = eqb-true _ _ (p.right_ok 1 (lit< tt));
        digits = each_done 0 4 _ _ (lit< tt) c.rest;
      }

  pub slots_narrow : slots ≤ 15 → Narrow (slots_verdict slots format input out_length)
  unfolding slots_verdict
  slots_narrow few =
      or_else_narrow _ _ (frame_head_narrow 6 format _ (lit< tt))
      (λ h.
      let p = frame_headed 6 format _ h in
      let long : length input ≡ slots * dpdch_size format = eqb-true _ _ (p.right_ok 0 (lit< tt)) in
      let small = slots_small slots format few in
      each_narrow 0 4 _ _ (lit< tt) (omega arith))

  -- 6 does not occur
  pub slots_never : (slots_verdict slots format input out_length).number ≡ tfci_refused → ⊥
  unfolding slots_verdict
  slots_never = or_else_never 6 (lit< tt) _ _ (frame_head_never 6 format _) (each_never 6 (lit< tt) _ 4 _ _ (λ e. omega arith))

-- the head as the code asks for it
pub head_is : (slots format size a b : ℕ) (r : Verdict) → size ≡ dpdch_size format → r ≡ frame_head 6 format (eqb a (slots * size) ∷ eqb b (slots * size) ∷ true ∷ true ∷ [])
    → r ≡ frame_head 6 format (eqb a (slots * dpdch_size format) ∷ eqb b (slots * dpdch_size format) ∷ [])
head_is slots format size a b r e h = h ∙ rw e (head_two 6 format (eqb a (slots * dpdch_size format)) (eqb b (slots * dpdch_size format)))

-- what is carried is what the rule writes, or hands back, where the lengths are right
pub carried : {slots format : ℕ} {input out after : List ℕ} {answer : Verdict} (made : List ℕ → List ℕ) → (length input ≡ slots * dpdch_size format → made input ≡ input)
    → Carry slots format input out answer after → after ≡ leaves (slots_verdict slots format input (length out)) (made input) out
carried {slots} {format} {input} {out} {after} made plain c = side (eqb (slots_verdict slots format input (length out)).number 0) refl
  where
    side : (b : Bool) → eqb (slots_verdict slots format input (length out)).number 0 ≡ b → after ≡ leaves (slots_verdict slots format input (length out)) (made input) out
    side true t =
        let z = eqb-true _ _ t in
        c.out_is ∙ leaves_done _ _ _ z ∙ sym (leaves_done _ _ _ z ∙ plain (taken slots format input (length out) z).long)
    side false t = let z = eqb-false _ _ t in c.out_is ∙ leaves_refused _ _ _ z ∙ sym (leaves_refused _ _ _ z)

-- a short run of bits
pub few_bits : (s : List ℕ) (n : ℕ) {r : Bool} → r ≡ (eqb (length s) n && (leb n (length s) && all n (at_most 1 s))) → r ≡ true → Every (at_most 1 s) (length s)
few_bits s n e t = side (eqb (length s) n) refl e t
  where
    side : (b : Bool) {r : Bool} → eqb (length s) n ≡ b → r ≡ (b && (leb n (length s) && all n (at_most 1 s))) → r ≡ true → Every (at_most 1 s) (length s)
    side true k e t = front_every (length s) n (at_most 1 s) (eqb-true _ _ k) e t
    side false k e t = absurd (true≢false (sym t ∙ e))
