-- `bank_store::write_slot` meets its contract: four bytes, and then the digits.
use mathlib.Core.Path.{◌≡◌, sym, ap, ◌∙◌}
use mathlib.Core.List.{List, [], ◌∷◌, ◌++◌, append-nil}
use Prim.Native.Nat.{ℕ, ◌+◌, ◌-◌, ◌/◌, ◌%◌, ◌≤◌}
use native.Mathlib.Omega.{arith}
use borrow.Rule.Slice.PartMut.{put_mid}
use Rattle.std.specs.Int.{to_be_bytes}
use mir.Syntax.{w16}
use lib.ListN.{length, get_or, take, drop, drop_of_length-le, length-take, length-drop, length-append}
use Rattle.run.proofs.Over.{over_whole}
use Rattle.bank.specs.Layout.{slot_bytes}
use Rattle.bank_store.proofs.write_slot.Goals as goal

both_copied : (number : ℕ) (slot rest xs ys : List ℕ) → xs ≡ number ∷ 0 ∷ length slot / 256 ∷ length slot % 256 ∷ [] → ys ≡ slot
    → put_mid 4 (length (xs ++ rest) - 4) (xs ++ rest) ys ≡ slot_bytes (record { number = number; digits = slot })
unfolding slot_bytes
both_copied number slot rest xs ys e f =
    let front : List ℕ = number ∷ 0 ∷ length slot / 256 ∷ length slot % 256 ∷ rest in
    let none : drop (length front - 4) rest ≡ [] = drop_of_length-le rest (omega arith) in
    rw (e, f) (ap (λ (l : List ℕ). number ∷ 0 ∷ length slot / 256 ∷ length slot % 256 ∷ slot ++ l) none ∙ ap (λ (l : List ℕ). number ∷ 0 ∷ length slot / 256 ∷ length slot % 256 ∷ l) (append-nil slot))

front_is : (number : ℕ) (slot bytes : List ℕ) → length slot ≤ 1280 → bytes ≡ to_be_bytes w16 (length slot)
    → number ∷ 0 ∷ get_or bytes 0 0 ∷ get_or bytes 1 0 ∷ [] ≡ number ∷ 0 ∷ length slot / 256 ∷ length slot % 256 ∷ []
front_is number slot bytes low e =
    let high : length slot / 256 % 256 ≡ length slot / 256 = omega arith in
    rw e (ap (λ (n : ℕ). number ∷ 0 ∷ n ∷ length slot % 256 ∷ []) high)

-- the digits fill what is behind the four bytes
long : (xs dst slot : List ℕ) → length xs ≡ 4 → length dst ≡ 4 + length slot → length slot ≡ length (take (length (xs ++ drop 4 dst) - 4) (drop 4 (xs ++ drop 4 dst)))
long xs dst slot e f = simp (length-take, length-drop, length-append) (omega arith)

pub returns : goal.returns
returns c =
    both_copied c.args.number c.args.slot.now (drop 4 c.args.dst.now) _ _ (c.copy_from_slice.ensures.after ∙ front_is c.args.number c.args.slot.now _ c.requires.0 c.to_be_bytes.ensures) (c.copy.ensures ∙ over_whole _ _ (long _ c.args.dst.now _ (ap length c.copy_from_slice.ensures.after) c.requires.1))
