-- `scan_diff::difference` meets its contract: where all digits are the same there is no place.
use mathlib.Core.Path.{◌≡◌, sym, ◌∙◌}
use mathlib.Core.Bool.{not}
use Prim.Native.Nat.{min}
use lib.Dec.{eqb}
use lib.ListN.{length}
use Rattle.std.specs.List.{zip}
use Rattle.std.proofs.lemmas.Slice.Zip.{length-zip}
use Rattle.run.specs.First.{agree}
use Rattle.run.proofs.Passing.{all_every}
use Rattle.run.proofs.Places.{position_none, agree_opposite}
use Rattle.scan_diff.proofs.difference.Goals as goal

pub returns-then-all_agree : goal.returns-then-all_agree
returns-then-all_agree c =
    let s = c.args.s.now in
    let t = c.args.t.now in
    let n : c.min.result ≡ length (zip s t) = c.min.ensures ∙ sym (length-zip s t) in
    position_none (λ p. not (eqb p.0 p.1)) (agree s t) (0, 0) (zip s t) (agree_opposite s t) (rw (← n) (all_every _ _ (sym c.all_agree.ensures ∙ c.if-all_agree.true)))
