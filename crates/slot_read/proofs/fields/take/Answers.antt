-- `slot_read::fields::take` meets its contract: Data1 and Data2 into one run, TFCI into its own.
use mathlib.Core.Path.{refl, sym}
use native.Mathlib.Omega.{arith}
use lib.Dec.{lit<}
use lib.ListN.{length}
use Rattle.run.proofs.Fields.{field_lent}
use Rattle.slot.specs.Ready.{Whole}
use Rattle.slot.proofs.Laws.{sum, start_data2, command_at, data1_taken, data2_taken, tfci_taken}
use Rattle.slot.proofs.Ends.{whole, tpc_counts, tfci_counts, data2_counts, data_counts, data2_ends, first_ends}
use Rattle.slot_read.proofs.fields.take.Goals as goal

pub overflow_add-b : goal.overflow_add-b
overflow_add-b c = tpc_counts _ c.requires.0.sound

pub overflow_add-c : goal.overflow_add-c
overflow_add-c c = tfci_counts _ c.requires.0.sound

pub overflow_add-d : goal.overflow_add-d
overflow_add-d c = data2_counts _ c.requires.0.sound

pub overflow_add-n : goal.overflow_add-n
overflow_add-n c = data_counts _ c.requires.0.sound

pub slice_bounds-copy-end : goal.slice_bounds-copy-end
slice_bounds-copy-end c = first_ends c.args.f c.requires.0.data_ok

pub slice_bounds-copy-end-2 : goal.slice_bounds-copy-end-2
slice_bounds-copy-end-2 c = omega (arith, c.requires.0.data_ok)

pub slice_bounds-copy-end-3 : goal.slice_bounds-copy-end-3
slice_bounds-copy-end-3 c = data2_ends _ c.requires.0.sound c.requires.0.slot_ok

pub slice_bounds-copy-end-4 : goal.slice_bounds-copy-end-4
slice_bounds-copy-end-4 c = omega (arith, whole c.args.f c.requires.0.sound, c.requires.0.slot_ok)

pub bounds-xs-a : goal.bounds-xs-a
bounds-xs-a c = omega (arith, sum _ c.requires.0.sound, c.requires.0.slot_ok, c.requires.1)

pub returns : goal.returns
returns c =
    let pre = c.requires.0 in
    let a = c.args in
    let w : Whole a.f (length a.xs.now) = record { sound = pre.sound; slot_ok = pre.slot_ok } in
    let p1 = data1_taken a.f a.xs.now w a.«data».now pre.data_ok _ c.copy.ensures in (
      command_at _ _ w c.requires.1,
      data2_taken a.f a.xs.now w a.«data».now pre.data_ok _ _ _
          (field_lent 3 _ _ _ _ (lit< tt) (sym (start_data2 a.f)) refl) p1 c.copy-2.ensures,
      tfci_taken a.f a.xs.now w _ _ pre.tfci_ok c.copy-3.ensures,
    )
