-- Arguments for which the calls of samples give each of their numbers, in the order of the list. All fit the types of include/slt.h.
-- Assumes nothing.
use mathlib.Core.Path.{refl}
use mathlib.Core.Bool.{false}
use mathlib.Core.List.{◌∷◌}
use Prim.Native.Nat.{ℕ}
use lib.IntN.{ℤ, pos}
use lib.Ieee.{Float, fin, le}
use Rattle.run.specs.Ranges.{between}
use Rattle.run.specs.Verdicts.{or_else, unless, leaves}
use Rattle.packed.specs.Rule.{packed}
use Rattle.sample.specs.declared.Setting.{Setting}
use Rattle.sample.specs.declared.Setting.TheVariants.{Off, Shared, Each as EachOwn}
use Rattle.sample.specs.Rule.{is_level, plus_zero, part}
use Rattle.sample.specs.Outcome.{levels_verdict, take_verdict}
use Rattle.slt_sample.specs.declared.SltSample.{SltSample}
use Rattle.numbers.specs.Rule as c
use Rattle.numbers.specs.Rule.{refusals}
use Rattle.numbers.specs.Outcome as by
use Rattle.numbers.specs.Exact.{Gives}
use Rattle.numbers.proofs.Laws.{Each, end, ◌▸◌, gives}

-- what the promise allows
abbrev answer_at : ℤ → ℤ → Setting → ℕ → SltSample
answer_at i q setting antenna =
    record {
      answer = packed (take_verdict i q setting antenna) 0;
      inphase = leaves (take_verdict i q setting antenna) (part setting antenna i) plus_zero;
      quadrature = leaves (take_verdict i q setting antenna) (part setting antenna q) plus_zero;
    }

-- the level 1
abbrev one : Float
one = fin false 1 (pos 0)

pub sample_off : Each (Gives c.sample_off) (0 ∷ refusals c.sample_off)
unfolding refusals or_else unless between le is_level levels_verdict take_verdict
sample_off =
    gives (by.sample_off (pos 16) (pos 0) 0 (answer_at (pos 16) (pos 0) Off 0) (record { answer_is = refl; inphase_is = refl; quadrature_is = refl })) refl
    ▸ gives (by.sample_off (pos 17) (pos 0) 0 (answer_at (pos 17) (pos 0) Off 0) (record { answer_is = refl; inphase_is = refl; quadrature_is = refl })) refl
    ▸ end

pub sample_shared : Each (Gives c.sample_shared) (0 ∷ refusals c.sample_shared)
unfolding refusals or_else unless between le is_level levels_verdict take_verdict
sample_shared =
    gives (by.sample_shared (pos 16) (pos 0) one 0 (answer_at (pos 16) (pos 0) (Shared one) 0) (record { answer_is = refl; inphase_is = refl; quadrature_is = refl })) refl
    ▸ gives (by.sample_shared (pos 17) (pos 0) one 0 (answer_at (pos 17) (pos 0) (Shared one) 0) (record { answer_is = refl; inphase_is = refl; quadrature_is = refl })) refl
    ▸ end

pub sample_each : Each (Gives c.sample_each) (0 ∷ refusals c.sample_each)
unfolding refusals or_else unless between le is_level levels_verdict take_verdict
sample_each =
    gives (by.sample_each (pos 16) (pos 0) one one 0 (answer_at (pos 16) (pos 0) (EachOwn one one) 0) (record { answer_is = refl; inphase_is = refl; quadrature_is = refl })) refl
    ▸ gives (by.sample_each (pos 17) (pos 0) one one 0 (answer_at (pos 17) (pos 0) (EachOwn one one) 0) (record { answer_is = refl; inphase_is = refl; quadrature_is = refl })) refl
    ▸ end
