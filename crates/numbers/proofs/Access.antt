-- Arguments for which the calls of the AICH, of the random access desk and of the combiner give each of their numbers, in the order of the list. All fit the types of include/slt.h.
-- Assumes nothing.
use mathlib.Core.Path.{refl}
use mathlib.Core.List.{List, [], ◌∷◌}
use Prim.Native.Nat.{ℕ}
use lib.ListN.{replicate}
use lib.IntN.{ℤ, pos}
use lib.Count.{ones}
use Rattle.run.specs.First.{first_bad}
use Rattle.run.specs.Ranges.{between}
use Rattle.run.specs.Table.{tab}
use Rattle.run.specs.Verdicts.{or_else, unless, each, leaves}
use Rattle.whole.specs.Sum.{sum}
use Rattle.signature.specs.Rule.{is_plus, sign}
use Rattle.aich.specs.Rule.{value_at, values_of, correlation, unit, indicators_in, offers, allows}
use Rattle.aich.specs.Outcome as aich
use Rattle.desk.specs.Rule.{to_aich, to_message}
use Rattle.desk.specs.Outcome as desk
use Rattle.correlator.specs.Complexes.{cx}
use Rattle.combiner.specs.Outcome.{some_gain, combine_head, combine_body, combine_verdict}
use Rattle.numbers.specs.Rule as c
use Rattle.numbers.specs.Rule.{refusals}
use Rattle.numbers.specs.Outcome as by
use Rattle.numbers.specs.Exact.{Gives}
use Rattle.numbers.proofs.Laws.{Each, end, ◌▸◌, gives}

-- sixteen indicators and thirty-two values
abbrev sixteen : ℕ → List ℤ
sixteen n = replicate 16 (pos n)

abbrev values : ℕ → List ℤ
values n = replicate 32 (pos n)

pub aich_map : Each (Gives c.aich_map) (0 ∷ refusals c.aich_map)
unfolding refusals or_else unless each first_bad between aich.map_verdict
aich_map =
    gives (by.aich_map (sixteen 1) (values 0) _ _ (record { answer_is = refl; values_is = refl })) refl
    ▸ gives (by.aich_map [] [] _ _ (record { answer_is = refl; values_is = refl })) refl
    ▸ gives (by.aich_map (sixteen 2) (values 0) _ _ (record { answer_is = refl; values_is = refl })) refl
    ▸ end

pub aich_read : Each (Gives c.aich_read) (0 ∷ refusals c.aich_read)
unfolding refusals or_else unless each first_bad between sum is_plus sign ones unit correlation value_at values_of indicators_in tab aich.given aich.read_head aich.read_verdict
aich_read =
    gives (by.aich_read (values 0) (sixteen 0) _ _ (record { answer_is = refl; indicators_is = refl })) refl
    ▸ gives (by.aich_read [] [] _ _ (record { answer_is = refl; indicators_is = refl })) refl
    ▸ gives (by.aich_read (values 2) (sixteen 0) _ _ (record { answer_is = refl; indicators_is = refl })) refl
    ▸ end

pub aich_map_available : Each (Gives c.aich_map_available) (0 ∷ refusals c.aich_map_available)
unfolding refusals or_else unless each first_bad between offers allows aich.set_verdict aich.map_verdict aich.map_available_verdict
aich_map_available =
    gives (by.aich_map_available 65535 (sixteen 1) (values 0) _ _ (record { answer_is = refl; values_is = refl })) refl
    ▸ gives (by.aich_map_available 0 [] [] _ _ (record { answer_is = refl; values_is = refl })) refl
    ▸ gives (by.aich_map_available 0 (sixteen 2) (values 0) _ _ (record { answer_is = refl; values_is = refl })) refl
    ▸ gives (by.aich_map_available 0 (sixteen 1) (values 0) _ _ (record { answer_is = refl; values_is = refl })) refl
    ▸ end

pub aich_read_available : Each (Gives c.aich_read_available) (0 ∷ refusals c.aich_read_available)
unfolding refusals or_else unless each first_bad between sum is_plus sign ones unit correlation value_at values_of indicators_in tab aich.given aich.read_head aich.read_verdict offers allows aich.set_verdict aich.read_available_verdict
aich_read_available =
    gives (by.aich_read_available 0 (values 0) (sixteen 0) _ _ (record { answer_is = refl; indicators_is = refl })) refl
    ▸ gives (by.aich_read_available 0 [] [] _ _ (record { answer_is = refl; indicators_is = refl })) refl
    ▸ gives (by.aich_read_available 0 (values 2) (sixteen 0) _ _ (record { answer_is = refl; indicators_is = refl })) refl
    ▸ gives (by.aich_read_available 0 (pos 16 ∷ pos 16 ∷ replicate 30 (pos 0)) (sixteen 0) _ _ (record { answer_is = refl; indicators_is = refl })) refl
    ▸ end

pub desk_serve : Each (Gives c.desk_serve) (0 ∷ refusals c.desk_serve)
unfolding refusals or_else unless desk.serve_verdict
desk_serve =
    gives (by.desk_serve 15 0 0 1 (values 0) _ _ _ (record { answer_is = refl; last_is = refl; values_is = refl })) refl
    ▸ gives (by.desk_serve 15 0 0 1 [] _ _ _ (record { answer_is = refl; last_is = refl; values_is = refl })) refl
    ▸ gives (by.desk_serve 15 0 0 0 (values 0) _ _ _ (record { answer_is = refl; last_is = refl; values_is = refl })) refl
    ▸ end

pub desk_to_aich : Each (Gives c.desk_to_aich) (0 ∷ refusals c.desk_to_aich)
unfolding refusals unless leaves desk.timing_verdict to_aich
desk_to_aich =
    gives (by.desk_to_aich 0 _ (record { answer_is = refl })) refl
    ▸ gives (by.desk_to_aich 2 _ (record { answer_is = refl })) refl
    ▸ end

pub desk_to_message : Each (Gives c.desk_to_message) (0 ∷ refusals c.desk_to_message)
unfolding refusals unless leaves desk.timing_verdict to_message
desk_to_message =
    gives (by.desk_to_message 0 _ (record { answer_is = refl })) refl
    ▸ gives (by.desk_to_message 2 _ (record { answer_is = refl })) refl
    ▸ end

pub aich_combine : Each (Gives c.aich_combine) (0 ∷ refusals c.aich_combine)
unfolding refusals or_else unless each first_bad between some_gain combine_head combine_body combine_verdict
aich_combine =
    gives (by.aich_combine (cx (pos 1) (pos 0)) (cx (pos 0) (pos 0)) (values 0) (sixteen 0) _ _ (record { answer_is = refl; results_is = refl })) refl
    ▸ gives (by.aich_combine (cx (pos 0) (pos 0)) (cx (pos 0) (pos 0)) [] [] _ _ (record { answer_is = refl; results_is = refl })) refl
    ▸ gives (by.aich_combine (cx (pos 4097) (pos 0)) (cx (pos 0) (pos 0)) (values 0) (sixteen 0) _ _ (record { answer_is = refl; results_is = refl })) refl
    ▸ gives (by.aich_combine (cx (pos 0) (pos 0)) (cx (pos 0) (pos 0)) (values 0) (sixteen 0) _ _ (record { answer_is = refl; results_is = refl })) refl
    ▸ end
