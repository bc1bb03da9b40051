-- Digits looked at part by part.
-- Assumes nothing.
use mathlib.Core.Path.{◌≡◌, refl, sym, ap, ◌∙◌}
use mathlib.Core.Bool.{Bool, true, false, ◌&&◌}
use mathlib.Core.List.{List}
use Prim.Native.Nat.{ℕ, ◌+◌, ◌≤◌, ◌<◌}
use native.Mathlib.Omega.{arith}
use borrow.Author.Tests.{le-leb, lt-leb, leb-true, leb-false}
use lib.Dec.{leb}
use lib.ListN.{length, take, drop, length-drop}
use lib.Seq.{length-take-le, get_or-take, get_or-drop}
use Rattle.run.specs.First.{first_bad, all, Every, at_most}
use Rattle.run.proofs.First.{first_in_part, part_passes}
use Rattle.run.proofs.Passing.{every_all}

module _ (s : List ℕ) (i w : ℕ) (fits : i + w ≤ length s) (before : Every (at_most 2 s) i) where
  long : length (take w (drop i s)) ≡ w
  long = length-take-le w (drop i s) (simp length-drop (omega arith))

  same : (j : ℕ) → j < w → at_most 2 (take w (drop i s)) j ≡ at_most 2 s (i + j)
  same j h = ap (λ (d : ℕ). leb d 2) (get_or-take w (drop i s) j 0 h ∙ get_or-drop i s j 0)

  -- what is told of a part
  pub part_told : (leb w (length (take w (drop i s))) && all w (at_most 2 (take w (drop i s)))) ≡ all w (at_most 2 (take w (drop i s)))
  part_told = rw (le-leb w (length (take w (drop i s))) (omega (arith, long)))

  -- a part that passes, and one that does not
  pub part_good : all w (at_most 2 (take w (drop i s))) ≡ true → Every (at_most 2 s) (i + w)
  part_good e = part_passes (at_most 2 s) (at_most 2 (take w (drop i s))) i w before same (leb-true w (first_bad (at_most 2 (take w (drop i s))) w) e)

  pub part_bad : all w (at_most 2 (take w (drop i s))) ≡ false → all (length s) (at_most 2 s) ≡ false
  part_bad e =
      let short : first_bad (at_most 2 (take w (drop i s))) w < w = leb-false _ _ e in
      let is = first_in_part (at_most 2 s) (at_most 2 (take w (drop i s))) i w before same (length s) fits short in
      lt-leb (length s) (first_bad (at_most 2 s) (length s)) (omega arith)

  -- the last part decides
  pub part_last : i + w ≡ length s → all w (at_most 2 (take w (drop i s))) ≡ all (length s) (at_most 2 s)
  part_last e = side (all w (at_most 2 (take w (drop i s)))) refl
    where
      side : (b : Bool) → all w (at_most 2 (take w (drop i s))) ≡ b → b ≡ all (length s) (at_most 2 s)
      side true t = sym (every_all (length s) (at_most 2 s) (rw e at (part_good t)))
      side false t = sym (part_bad t)
