-- `signature::sign` meets its contract.
use mathlib.Core.Path.{◌≡◌, sym, ◌∙◌}
use mathlib.Core.Bool.{Bool, true, false, cond}
use Prim.Native.Nat.{ℕ, ◌<◌}
use lib.IntN.{pos, negsuc}
use borrow.Author.Tests.{lt-ltb, le-ltb}
use Rattle.signature.specs.Rule.{is_plus, sign}
use Rattle.signature.specs.Outcome.{sign_at}
use Rattle.signature.proofs.sign.Goals as goal

-- inside the table
inside : (s j : ℕ) (b : Bool) → s < 16 → j < 32 → is_plus s j ≡ b → sign_at s j ≡ cond b (pos 1) (negsuc 0)
unfolding sign_at sign
inside s j b h l e = rw (lt-ltb s 16 h, lt-ltb j 32 l, e)

pub returns-then-s-ge16 : goal.returns-then-s-ge16
unfolding sign_at
returns-then-s-ge16 c = rw (le-ltb _ 16 c.if-s-ge16.true)

pub returns-then-j-ge32 : goal.returns-then-j-ge32
unfolding sign_at
returns-then-j-ge32 c = rw (lt-ltb _ 16 c.if-s-ge16.false, le-ltb _ 32 c.if-j-ge32.true)

pub returns-then-is_plus : goal.returns-then-is_plus
returns-then-is_plus c =
    let in-columns = c in
    sym (inside _ _ true in-columns.if-s-ge16.false in-columns.if-j-ge32.false (sym c.is_plus.ensures ∙ c.if-is_plus.true))

pub returns-else-is_plus : goal.returns-else-is_plus
returns-else-is_plus c =
    let in-columns = c in
    sym (inside _ _ false in-columns.if-s-ge16.false in-columns.if-j-ge32.false (sym c.is_plus.ensures ∙ c.if-is_plus.false))
