-- `antenna_read::is_same` meets its contract: each arm looks at all digits.
use mathlib.Core.Path.{◌≡◌, refl, ap, ◌∙◌}
use mathlib.Core.Bool.{Bool, true, not, true≢false}
use Prim.Native.Nat.{ℕ, ◌≤◌, min}
use native.Mathlib.Omega.{arith}
use borrow.Author.Tests.{le-leb}
use lib.Dec.{leb}
use lib.ListN.{length}
use Rattle.std.specs.Prelude.{Option, Some, None}
use Rattle.std.specs.Option.{is_some}
use Rattle.run.specs.First.{first_bad, agree}
use Rattle.run.proofs.First.{none_first}
use Rattle.run.proofs.Places.{difference_first}
use Rattle.run.proofs.Passing.{front_every}
use Rattle.antenna_read.proofs.is_same.Goals as goal

pub returns-in-80 : goal.returns-in-80
returns-in-80 c =
    λ e.
    let s = c.args.s.now in
    let t = c.args.t.now in
    let k : leb 80 (length t) ≡ true = (let r : 80 ≤ length t = omega (arith, c.in-80.is, c.requires) in le-leb 80 _ r) in
    front_every (length s) 80 (agree s t) c.in-80.is (rw k at c.same_front.ensures) e

-- a search that found nothing
nothing : (r : Option ℕ) {b : Bool} → is_some r ≡ not b → b ≡ true → r ≡ None
nothing None e t = refl
nothing (Some i) e t = absurd (true≢false (e ∙ ap not t))

pub returns-in_default : goal.returns-in_default
returns-in_default c =
    λ e.
    let s = c.args.s.now in
    let t = c.args.t.now in
    let n : min (length s) (length t) ≡ length s = omega (arith, c.requires) in
    let d = rw n at (difference_first s t c.difference.ensures) in
    let whole : length s ≤ first_bad (agree s t) (length s) = omega (arith, rw (nothing _ c.is_none.ensures e) at d) in
    none_first _ _ whole
