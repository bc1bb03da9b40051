-- Arguments for which the calls of the PICH and of the wake simulation give each of their numbers, in the order of the list. All fit the types of include/slt.h.
-- Assumes nothing.
use mathlib.Core.Path.{refl}
use mathlib.Core.List.{List, [], ◌∷◌, ◌++◌}
use Prim.Native.Nat.{ℕ}
use lib.ListN.{replicate}
use Rattle.run.specs.Count.{count}
use Rattle.run.specs.First.{first_bad}
use Rattle.run.specs.Parts.{part}
use Rattle.run.specs.Verdicts.{or_else, unless, each, leaves, chain}
use Rattle.pich.specs.Rule.{is_np, q_of}
use Rattle.pich.specs.Outcome.{q_verdict, map_verdict, read_verdict, read_head, stands}
use Rattle.wake.specs.Rule.{sfn_at, woken, tally_at}
use Rattle.wake.specs.Outcome.{has_room, frame_head, frame_verdict, verdict_at, run_head, run_verdict}
use Rattle.numbers.specs.Rule as c
use Rattle.numbers.specs.Rule.{refusals}
use Rattle.numbers.specs.Outcome as by
use Rattle.numbers.specs.Exact.{Gives}
use Rattle.numbers.proofs.Laws.{Each, end, ◌▸◌, gives}

-- a PICH frame of Np 18 that calls nobody
abbrev quiet : List ℕ
quiet = replicate 288 0 ++ replicate 12 2

pub pich_q : Each (Gives c.pich_q) (0 ∷ refusals c.pich_q)
unfolding refusals or_else unless leaves is_np q_of q_verdict
pich_q =
    gives (by.pich_q 18 5 1 _ (record { answer_is = refl })) refl
    ▸ gives (by.pich_q 17 0 0 _ (record { answer_is = refl })) refl
    ▸ gives (by.pich_q 18 18 0 _ (record { answer_is = refl })) refl
    ▸ end

pub pich_map : Each (Gives c.pich_map) (0 ∷ refusals c.pich_map)
unfolding refusals or_else unless each first_bad is_np map_verdict
pich_map =
    gives (by.pich_map 18 (replicate 18 0) (replicate 300 0) _ _ (record { answer_is = refl; frame_is = refl })) refl
    ▸ gives (by.pich_map 18 [] [] _ _ (record { answer_is = refl; frame_is = refl })) refl
    ▸ gives (by.pich_map 18 (replicate 18 2) (replicate 300 0) _ _ (record { answer_is = refl; frame_is = refl })) refl
    ▸ gives (by.pich_map 17 [] [] _ _ (record { answer_is = refl; frame_is = refl })) refl
    ▸ end

pub pich_read : Each (Gives c.pich_read) (0 ∷ refusals c.pich_read)
unfolding refusals or_else unless each first_bad is_np read_verdict read_head stands
pich_read =
    gives (by.pich_read 18 quiet (replicate 18 0) _ _ (record { answer_is = refl; indicators_is = refl })) refl
    ▸ gives (by.pich_read 18 [] [] _ _ (record { answer_is = refl; indicators_is = refl })) refl
    ▸ gives (by.pich_read 18 (replicate 300 3) (replicate 18 0) _ _ (record { answer_is = refl; indicators_is = refl })) refl
    ▸ gives (by.pich_read 17 [] [] _ _ (record { answer_is = refl; indicators_is = refl })) refl
    ▸ gives (by.pich_read 18 (replicate 300 2) (replicate 18 0) _ _ (record { answer_is = refl; indicators_is = refl })) refl
    ▸ end

pub wake_run : Each (Gives c.wake_run) (0 ∷ refusals c.wake_run)
unfolding refusals or_else unless each first_bad is_np chain part count woken sfn_at tally_at has_room frame_head frame_verdict verdict_at run_head run_verdict q_verdict read_verdict read_head stands
wake_run =
    gives (by.wake_run 18 0 [] 0 0 0 _ _ _ _ (record { answer_is = refl; read_is = refl; woke_is = refl; next_is = refl })) refl
    ▸ gives (by.wake_run 18 0 (0 ∷ []) 0 0 0 _ _ _ _ (record { answer_is = refl; read_is = refl; woke_is = refl; next_is = refl })) refl
    ▸ gives (by.wake_run 18 0 (replicate 300 3) 0 0 0 _ _ _ _ (record { answer_is = refl; read_is = refl; woke_is = refl; next_is = refl })) refl
    ▸ gives (by.wake_run 17 0 quiet 0 0 0 _ _ _ _ (record { answer_is = refl; read_is = refl; woke_is = refl; next_is = refl })) refl
    ▸ gives (by.wake_run 18 0 (replicate 300 2) 0 0 0 _ _ _ _ (record { answer_is = refl; read_is = refl; woke_is = refl; next_is = refl })) refl
    ▸ gives (by.wake_run 18 18 quiet 0 0 0 _ _ _ _ (record { answer_is = refl; read_is = refl; woke_is = refl; next_is = refl })) refl
    ▸ gives (by.wake_run 18 0 quiet 4294967295 0 0 _ _ _ _ (record { answer_is = refl; read_is = refl; woke_is = refl; next_is = refl })) refl
    ▸ end

pub wake_step : Each (Gives c.wake_step) (0 ∷ refusals c.wake_step)
unfolding refusals or_else unless each first_bad is_np has_room frame_head frame_verdict q_verdict read_verdict read_head stands
wake_step =
    gives (by.wake_step (record { read = 0; woke = 0; next = 0 }) 18 0 quiet _ _ (record { answer_is = refl; tally_is = refl })) refl
    ▸ gives (by.wake_step (record { read = 0; woke = 0; next = 0 }) 18 0 [] _ _ (record { answer_is = refl; tally_is = refl })) refl
    ▸ gives (by.wake_step (record { read = 0; woke = 0; next = 0 }) 18 0 (replicate 300 3) _ _ (record { answer_is = refl; tally_is = refl })) refl
    ▸ gives (by.wake_step (record { read = 0; woke = 0; next = 0 }) 17 0 quiet _ _ (record { answer_is = refl; tally_is = refl })) refl
    ▸ gives (by.wake_step (record { read = 0; woke = 0; next = 0 }) 18 0 (replicate 300 2) _ _ (record { answer_is = refl; tally_is = refl })) refl
    ▸ gives (by.wake_step (record { read = 0; woke = 0; next = 0 }) 18 18 quiet _ _ (record { answer_is = refl; tally_is = refl })) refl
    ▸ gives (by.wake_step (record { read = 4294967295; woke = 0; next = 0 }) 18 0 quiet _ _ (record { answer_is = refl; tally_is = refl })) refl
    ▸ end
