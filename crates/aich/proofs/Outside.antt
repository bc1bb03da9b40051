-- A check of the range of each number of a run: what it answers where a number is outside, and where none is.
-- Assumes nothing.
use mathlib.Core.Path.{◌≡◌, refl, sym, ◌∙◌}
use mathlib.Core.Bool.{not, false}
use mathlib.Core.List.{List}
use Prim.Native.Nat.{ℕ, ◌+◌}
use lib.ListN.{length}
use lib.IntN.{ℤ}
use Rattle.std.specs.List.{position}
use Rattle.std.specs.declared.option.Option.TheVariants.{Some, None}
use Rattle.run.specs.Verdict.{Verdict}
use Rattle.run.specs.Ranges.{between, in_range}
use Rattle.run.specs.Refusals.{range_refused}
use Rattle.run.specs.Verdicts.{done, unless, each}
use Rattle.run.proofs.Chain.{each_is}
use Rattle.run.proofs.Answers.{each_none}
use Rattle.run.proofs.Places.{outside_first, found_below}
use borrow.Author.Tests.{lt-leb}

module _ (base : ℕ) (low high : ℤ) (s : List ℤ) where
  pub none_outside : position (λ x. not (between low high x)) s ≡ None → done ≡ each base range_refused (in_range low high s) (length s)
  none_outside e = each_none base 11 (in_range low high s) (length s) (outside_first low high s {r = None} (sym e))

  pub some_outside : (i : ℕ) {r : Verdict} → position (λ x. not (between low high x)) s ≡ Some i → r ≡ unless false range_refused (base + i)
      → r ≡ each base range_refused (in_range low high s) (length s)
  unfolding unless
  some_outside i {r} e told =
      let l = found_below _ s i (sym e) refl in
      each_is base 11 (in_range low high s) (length s) i r (outside_first low high s {r = Some i} (sym e)) (told ∙ rw (lt-leb (length s) i l))
