-- What is known of a frame's lengths, fields and slots where no check refuses them.
-- Assumes nothing.
use mathlib.Core.Path.{◌≡◌}
use mathlib.Core.Bool.{Bool, true}
use mathlib.Core.List.{List}
use Prim.Native.Nat.{ℕ, ◌*◌, ◌<◌}
use borrow.Author.Tests.{eqb-true, eq-eqb}
use lib.Dec.{eqb, lit<}
use lib.ListN.{length, get_or}
use Rattle.run.specs.Parts.{part}
use Rattle.run.specs.Verdicts.{done}
use Rattle.run.proofs.Chain.{or_else_done, chain_done}
use Rattle.run.proofs.Parts.{part_length}
use Rattle.dpch.specs.Formats.{format_of}
use Rattle.dpch.proofs.Heads.{FrameHeaded, frame_headed, frame_head_pass}
use Rattle.slot.specs.Rule.{data_size}
use Rattle.slot.proofs.Accept.{FieldsOk, fields_ok, DigitsOk, digits_ok}
use Rattle.slot.proofs.Laws.{normal_row}
use Rattle.slot.proofs.Rows.{command_bit}
use Rattle.frame.specs.Outcome.{map_head, map_verdict, read_head, read_verdict}
use Rattle.frame.specs.Ready.{Room, Bits}

-- whichever of the call's runs each of the four is
headed : (format : ℕ) (right : List Bool) (data_length tfci_length commands_length frame_length : ℕ) → FrameHeaded 16 format right
    → eqb data_length (15 * data_size (format_of format)) ≡ true → eqb tfci_length (15 * (format_of format).tfci) ≡ true
    → eqb commands_length 15 ≡ true → eqb frame_length (15 * (format_of format).slot) ≡ true
    → Room format data_length tfci_length commands_length frame_length
headed format right data_length tfci_length commands_length frame_length p d t c f =
    record {
      format_ok = p.format_ok;
      fields = record { data_ok = eqb-true _ _ d; tfci_ok = eqb-true _ _ t; commands_ok = eqb-true _ _ c };
      frame_ok = eqb-true _ _ f;
    }

pub map_headed : (format data_length tfci_length out_length commands_length : ℕ) → (map_head format data_length tfci_length out_length commands_length).number ≡ 0
    → Room format data_length tfci_length commands_length out_length
unfolding map_head
map_headed format data_length tfci_length out_length commands_length h =
    let p = frame_headed 16 format _ h in
    headed format _ data_length tfci_length commands_length out_length p (p.right_ok 0 (lit< tt)) (p.right_ok 1 (lit< tt)) (p.right_ok 3 (lit< tt)) (p.right_ok 2 (lit< tt))

pub read_headed : (format frame_length data_length tfci_length commands_length : ℕ) → (read_head format frame_length data_length tfci_length commands_length).number ≡ 0
    → Room format data_length tfci_length commands_length frame_length
unfolding read_head
read_headed format frame_length data_length tfci_length commands_length h =
    let p = frame_headed 16 format _ h in
    headed format _ data_length tfci_length commands_length frame_length p (p.right_ok 1 (lit< tt)) (p.right_ok 2 (lit< tt)) (p.right_ok 3 (lit< tt)) (p.right_ok 0 (lit< tt))

-- the other way: a format and lengths that pass
pub map_head_pass : (format data_length tfci_length out_length commands_length : ℕ) → Room format data_length tfci_length commands_length out_length
    → map_head format data_length tfci_length out_length commands_length ≡ done
unfolding map_head
map_head_pass format data_length tfci_length out_length commands_length r =
    let f = r.fields in
    frame_head_pass 16 format _ r.format_ok (eq-eqb _ _ f.data_ok, (eq-eqb _ _ f.tfci_ok, (eq-eqb _ _ r.frame_ok, (eq-eqb _ _ f.commands_ok, tt))))

pub read_head_pass : (format frame_length data_length tfci_length commands_length : ℕ) → Room format data_length tfci_length commands_length frame_length
    → read_head format frame_length data_length tfci_length commands_length ≡ done
unfolding read_head
read_head_pass format frame_length data_length tfci_length commands_length r =
    let f = r.fields in
    frame_head_pass 16 format _ r.format_ok (eq-eqb _ _ r.frame_ok, (eq-eqb _ _ f.data_ok, (eq-eqb _ _ f.tfci_ok, (eq-eqb _ _ f.commands_ok, tt))))

-- fields that map takes
pub record Mapped (format : ℕ) (d tfci : List ℕ) (out_length : ℕ) (commands : List ℕ) : Type 0 where
  pub room : Room format (length d) (length tfci) (length commands) out_length
  pub slots : (k : ℕ) → k < 15 → FieldsOk (get_or commands k 0) (part k (data_size (format_of format)) d) (part k (format_of format).tfci tfci)

pub mapped : (format : ℕ) (d tfci : List ℕ) (out_length : ℕ) (commands : List ℕ) → (map_verdict format d tfci out_length commands).number ≡ 0
    → Mapped format d tfci out_length commands
unfolding map_verdict
mapped format d tfci out_length commands h =
    let c = or_else_done _ _ h in
    record {
      room = map_headed format (length d) (length tfci) out_length (length commands) c.first;
      slots = λ k l. fields_ok _ _ _ _ _ _ (chain_done 15 _ c.rest k l);
    }

-- a frame that read accepts
pub record Accepted (format : ℕ) (xs : List ℕ) (data_length tfci_length commands_length : ℕ) : Type 0 where
  pub room : Room format data_length tfci_length commands_length (length xs)
  pub slots : (k : ℕ) → k < 15 → DigitsOk (format_of format) k (part k (format_of format).slot xs)

pub accepted : (format : ℕ) (xs : List ℕ) (data_length tfci_length commands_length : ℕ) → (read_verdict format xs data_length tfci_length commands_length).number ≡ 0
    → Accepted format xs data_length tfci_length commands_length
unfolding read_verdict
accepted format xs data_length tfci_length commands_length h =
    let c = or_else_done _ _ h in
    record {
      room = read_headed format (length xs) data_length tfci_length commands_length c.first;
      slots = λ k l. digits_ok (format_of format) k (part k (format_of format).slot xs) _ (chain_done 15 _ c.rest k l);
    }

-- its commands are bits
pub accepted_bits : (format : ℕ) (xs : List ℕ) (data_length tfci_length commands_length : ℕ) → Accepted format xs data_length tfci_length commands_length → Bits format xs
accepted_bits format xs data_length tfci_length commands_length a =
    record {
      bit = λ k h.
          command_bit (format_of format) (normal_row format a.room.format_ok) k (part k (format_of format).slot xs) (a.slots k h)
          (part_length k 15 (format_of format).slot xs h a.room.frame_ok);
    }
