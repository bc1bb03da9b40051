-- What is known of numbers, lengths and digits of a DPCCH slot and of a frame where no check refuses them.
-- Assumes nothing.
use mathlib.Core.Path.{◌≡◌}
use mathlib.Core.Bool.{true, false, ◌&&◌}
use mathlib.Core.List.{List}
use Prim.Native.Nat.{ℕ, ◌≤◌, ◌<◌}
use borrow.Author.Tests.{eqb-true, leb-true, le-leb, lt-leb, eq-eqb}
use lib.Dec.{eqb, leb, lit<}
use lib.ListN.{length, get_or}
use Rattle.run.specs.First.{Every, at_most, like_first, agree}
use Rattle.run.specs.Parts.{part}
use Rattle.run.specs.Verdicts.{done}
use Rattle.run.proofs.Bools.{and_left, and_right}
use Rattle.run.proofs.Chain.{or_else_done, unless_done, each_done, chain_done, or_else_pass, unless_pass, each_pass}
use Rattle.dpch.specs.declared.Dpcch.{Dpcch}
use Rattle.dpch.specs.Uplink.{dpcch_format}
use Rattle.dpch.specs.UplinkPilots.{dpcch_pilot}
use Rattle.dpch.proofs.Heads.{slot_headed, slot_head_pass, frame_headed, frame_head_pass}
use Rattle.dpcch.specs.Rule.{tpc_in, pilot_in}
use Rattle.dpcch.specs.Outcome.{map_head, sizes_are, fields_verdict, map_verdict, read_head, digits_verdict, read_verdict, frame_map_head, frame_map_verdict, frame_read_head, frame_read_verdict}
use Rattle.dpcch.specs.Ready.{Ready, Room}
use Rattle.dpcch.proofs.Laws.{sound_format}

-- ---- numbers and lengths
pub record Headed (format slot tfci_length fbi_length slot_length : ℕ) : Type 0 where
  pub format_ok : format ≤ 3
  pub slot_ok : slot ≤ 14
  pub ready : Ready (dpcch_format format) tfci_length fbi_length slot_length

pub map_headed : (format slot tfci_length fbi_length out_length : ℕ) → (map_head format slot tfci_length fbi_length out_length).number ≡ 0
    → Headed format slot tfci_length fbi_length out_length
unfolding map_head
map_headed format slot tfci_length fbi_length out_length h =
    let p = slot_headed 3 format _ slot h in
    record {
      format_ok = p.format_ok;
      slot_ok = p.slot_ok;
      ready = record {
        sound = sound_format format;
        tfci_ok = eqb-true _ _ (p.right_ok 0 (lit< tt));
        fbi_ok = eqb-true _ _ (p.right_ok 1 (lit< tt));
        slot_ok = eqb-true _ _ (p.right_ok 2 (lit< tt));
      };
    }

pub read_headed : (format slot slot_length tfci_length fbi_length : ℕ) → (read_head format slot slot_length tfci_length fbi_length).number ≡ 0
    → Headed format slot tfci_length fbi_length slot_length
unfolding read_head
read_headed format slot slot_length tfci_length fbi_length h =
    let p = slot_headed 3 format _ slot h in
    record {
      format_ok = p.format_ok;
      slot_ok = p.slot_ok;
      ready = record {
        sound = sound_format format;
        tfci_ok = eqb-true _ _ (p.right_ok 1 (lit< tt));
        fbi_ok = eqb-true _ _ (p.right_ok 2 (lit< tt));
        slot_ok = eqb-true _ _ (p.right_ok 0 (lit< tt));
      };
    }

pub frame_map_headed : (format tfci_length fbi_length out_length commands_length : ℕ) → (frame_map_head format tfci_length fbi_length out_length commands_length).number ≡ 0
    → Room format tfci_length fbi_length commands_length out_length
unfolding frame_map_head
frame_map_headed format tfci_length fbi_length out_length commands_length h =
    let p = frame_headed 3 format _ h in
    record {
      format_ok = p.format_ok;
      fields = record {
        tfci_ok = eqb-true _ _ (p.right_ok 0 (lit< tt));
        fbi_ok = eqb-true _ _ (p.right_ok 1 (lit< tt));
        commands_ok = eqb-true _ _ (p.right_ok 3 (lit< tt));
      };
      frame_ok = eqb-true _ _ (p.right_ok 2 (lit< tt));
    }

pub frame_read_headed : (format frame_length tfci_length fbi_length commands_length : ℕ) → (frame_read_head format frame_length tfci_length fbi_length commands_length).number ≡ 0
    → Room format tfci_length fbi_length commands_length frame_length
unfolding frame_read_head
frame_read_headed format frame_length tfci_length fbi_length commands_length h =
    let p = frame_headed 3 format _ h in
    record {
      format_ok = p.format_ok;
      fields = record {
        tfci_ok = eqb-true _ _ (p.right_ok 1 (lit< tt));
        fbi_ok = eqb-true _ _ (p.right_ok 2 (lit< tt));
        commands_ok = eqb-true _ _ (p.right_ok 3 (lit< tt));
      };
      frame_ok = eqb-true _ _ (p.right_ok 0 (lit< tt));
    }

-- the other way: numbers and lengths that pass
pub map_head_pass : (format slot tfci_length fbi_length out_length : ℕ) → Headed format slot tfci_length fbi_length out_length → map_head format slot tfci_length fbi_length out_length ≡ done
unfolding map_head
map_head_pass format slot tfci_length fbi_length out_length h =
    let r = h.ready in
    slot_head_pass 3 format _ slot h.format_ok h.slot_ok (eq-eqb _ _ r.tfci_ok, (eq-eqb _ _ r.fbi_ok, (eq-eqb _ _ r.slot_ok, tt)))

pub read_head_pass : (format slot slot_length tfci_length fbi_length : ℕ) → Headed format slot tfci_length fbi_length slot_length → read_head format slot slot_length tfci_length fbi_length ≡ done
unfolding read_head
read_head_pass format slot slot_length tfci_length fbi_length h =
    let r = h.ready in
    slot_head_pass 3 format _ slot h.format_ok h.slot_ok (eq-eqb _ _ r.slot_ok, (eq-eqb _ _ r.tfci_ok, (eq-eqb _ _ r.fbi_ok, tt)))

pub frame_map_head_pass : (format tfci_length fbi_length out_length commands_length : ℕ) → Room format tfci_length fbi_length commands_length out_length
    → frame_map_head format tfci_length fbi_length out_length commands_length ≡ done
unfolding frame_map_head
frame_map_head_pass format tfci_length fbi_length out_length commands_length r =
    let f = r.fields in
    frame_head_pass 3 format _ r.format_ok (eq-eqb _ _ f.tfci_ok, (eq-eqb _ _ f.fbi_ok, (eq-eqb _ _ r.frame_ok, (eq-eqb _ _ f.commands_ok, tt))))

pub frame_read_head_pass : (format frame_length tfci_length fbi_length commands_length : ℕ) → Room format tfci_length fbi_length commands_length frame_length
    → frame_read_head format frame_length tfci_length fbi_length commands_length ≡ done
unfolding frame_read_head
frame_read_head_pass format frame_length tfci_length fbi_length commands_length r =
    let f = r.fields in
    frame_head_pass 3 format _ r.format_ok (eq-eqb _ _ r.frame_ok, (eq-eqb _ _ f.tfci_ok, (eq-eqb _ _ f.fbi_ok, (eq-eqb _ _ f.commands_ok, tt))))

-- all that writing a slot or taking its fields stands on, and back
pub sizes_pass : (format tfci_length fbi_length slot_length : ℕ) → format ≤ 3 → Ready (dpcch_format format) tfci_length fbi_length slot_length
    → sizes_are format tfci_length fbi_length slot_length ≡ true
unfolding sizes_are
sizes_pass format tfci_length fbi_length slot_length h r = rw (le-leb _ _ h, eq-eqb _ _ r.tfci_ok, eq-eqb _ _ r.fbi_ok, eq-eqb _ _ r.slot_ok)

pub record Sized (format tfci_length fbi_length slot_length : ℕ) : Type 0 where
  pub format_ok : format ≤ 3
  pub ready : Ready (dpcch_format format) tfci_length fbi_length slot_length

pub sizes_ready : (format tfci_length fbi_length slot_length : ℕ) → sizes_are format tfci_length fbi_length slot_length ≡ true → Sized format tfci_length fbi_length slot_length
unfolding sizes_are
sizes_ready format tfci_length fbi_length slot_length e =
    let f = dpcch_format format in
    let last = eqb fbi_length f.fbi && eqb slot_length f.slot in
    let lengths = and_right (leb format 3) (eqb tfci_length f.tfci && last) e in
    let later = and_right (eqb tfci_length f.tfci) last lengths in
    record {
      format_ok = leb-true _ _ (and_left (leb format 3) (eqb tfci_length f.tfci && last) e);
      ready = record {
        sound = sound_format format;
        tfci_ok = eqb-true _ _ (and_left (eqb tfci_length f.tfci) last lengths);
        fbi_ok = eqb-true _ _ (and_left (eqb fbi_length f.fbi) (eqb slot_length f.slot) later);
        slot_ok = eqb-true _ _ (and_right (eqb fbi_length f.fbi) (eqb slot_length f.slot) later);
      };
    }

-- .. where the format is none of the table
pub sizes_past : (format tfci_length fbi_length slot_length : ℕ) → 3 < format → sizes_are format tfci_length fbi_length slot_length ≡ false
unfolding sizes_are
sizes_past format tfci_length fbi_length slot_length h = rw (lt-leb _ _ h)

-- ---- command, TFCI and FBI
pub record FieldsOk (tpc : ℕ) (tfci fbi : List ℕ) : Type 0 where
  pub tpc_ok : tpc ≤ 1
  pub tfci_bits : Every (at_most 1 tfci) (length tfci)
  pub fbi_bits : Every (at_most 1 fbi) (length fbi)

pub fields_ok : (tpc : ℕ) (tfci fbi : List ℕ) (tpc_place tfci_base fbi_base : ℕ) → (fields_verdict tpc tfci fbi tpc_place tfci_base fbi_base).number ≡ 0 → FieldsOk tpc tfci fbi
unfolding fields_verdict
fields_ok tpc tfci fbi tpc_place tfci_base fbi_base h =
    let c = or_else_done _ _ h in
    let d = or_else_done _ _ c.rest in
    record {
      tpc_ok = leb-true _ _ (unless_done _ 5 tpc_place (lit< tt) c.first);
      tfci_bits = each_done tfci_base 4 _ _ (lit< tt) d.first;
      fbi_bits = each_done fbi_base 4 _ _ (lit< tt) d.rest;
    }

pub fields_pass : (tpc : ℕ) (tfci fbi : List ℕ) (tpc_place tfci_base fbi_base : ℕ) → FieldsOk tpc tfci fbi → fields_verdict tpc tfci fbi tpc_place tfci_base fbi_base ≡ done
unfolding fields_verdict
fields_pass tpc tfci fbi tpc_place tfci_base fbi_base k =
    or_else_pass (unless_pass 5 tpc_place (le-leb _ _ k.tpc_ok))
    (or_else_pass (each_pass tfci_base 4 _ _ k.tfci_bits) (each_pass fbi_base 4 _ _ k.fbi_bits))

-- ---- the digits of a slot
pub record DigitsOk (f : Dpcch) (slot : ℕ) (xs : List ℕ) : Type 0 where
  pub bits : Every (at_most 1 xs) (length xs)
  pub alike : Every (like_first (tpc_in f xs)) (length (tpc_in f xs))
  pub pilot : Every (agree (pilot_in f xs) (dpcch_pilot f.pilot slot)) (length (pilot_in f xs))

pub digits_ok : (f : Dpcch) (slot : ℕ) (xs : List ℕ) (base : ℕ) → (digits_verdict f slot xs base).number ≡ 0 → DigitsOk f slot xs
unfolding digits_verdict
digits_ok f slot xs base h =
    let c = or_else_done _ _ h in
    let d = or_else_done _ _ c.rest in
    record { bits = each_done base 4 _ _ (lit< tt) c.first; alike = each_done _ 5 _ _ (lit< tt) d.first; pilot = each_done _ 7 _ _ (lit< tt) d.rest }

pub digits_pass : (f : Dpcch) (slot : ℕ) (xs : List ℕ) (base : ℕ) → DigitsOk f slot xs → digits_verdict f slot xs base ≡ done
unfolding digits_verdict
digits_pass f slot xs base k = or_else_pass (each_pass base 4 _ _ k.bits) (or_else_pass (each_pass _ 5 _ _ k.alike) (each_pass _ 7 _ _ k.pilot))

-- ---- fields that map takes, of a slot and of a frame
pub record Mapped (format slot tpc : ℕ) (tfci fbi : List ℕ) (out_length : ℕ) : Type 0 where
  pub head_done : (map_head format slot (length tfci) (length fbi) out_length).number ≡ 0
  pub head : Headed format slot (length tfci) (length fbi) out_length
  pub fields : FieldsOk tpc tfci fbi

pub mapped : (format slot tpc : ℕ) (tfci fbi : List ℕ) (out_length : ℕ) → (map_verdict format slot tpc tfci fbi out_length).number ≡ 0
    → Mapped format slot tpc tfci fbi out_length
unfolding map_verdict
mapped format slot tpc tfci fbi out_length h =
    let c = or_else_done _ _ h in
    record { head_done = c.first; head = map_headed format slot _ _ out_length c.first; fields = fields_ok tpc tfci fbi 0 0 0 c.rest }

pub record FrameMapped (format : ℕ) (tfci fbi : List ℕ) (out_length : ℕ) (commands : List ℕ) : Type 0 where
  pub room : Room format (length tfci) (length fbi) (length commands) out_length
  pub slots : (k : ℕ) → k < 15 → FieldsOk (get_or commands k 0) (part k (dpcch_format format).tfci tfci) (part k (dpcch_format format).fbi fbi)

pub frame_mapped : (format : ℕ) (tfci fbi : List ℕ) (out_length : ℕ) (commands : List ℕ) → (frame_map_verdict format tfci fbi out_length commands).number ≡ 0
    → FrameMapped format tfci fbi out_length commands
unfolding frame_map_verdict
frame_mapped format tfci fbi out_length commands h =
    let c = or_else_done _ _ h in
    record { room = frame_map_headed format _ _ out_length _ c.first; slots = λ k l. fields_ok _ _ _ _ _ _ (chain_done 15 _ c.rest k l) }

-- ---- a slot and a frame that read accepts
pub record Accepted (format slot : ℕ) (xs : List ℕ) (tfci_length fbi_length : ℕ) : Type 0 where
  pub head_done : (read_head format slot (length xs) tfci_length fbi_length).number ≡ 0
  pub head : Headed format slot tfci_length fbi_length (length xs)
  pub digits : DigitsOk (dpcch_format format) slot xs

pub accepted : (format slot : ℕ) (xs : List ℕ) (tfci_length fbi_length : ℕ) → (read_verdict format slot xs tfci_length fbi_length).number ≡ 0
    → Accepted format slot xs tfci_length fbi_length
unfolding read_verdict
accepted format slot xs tfci_length fbi_length h =
    let c = or_else_done _ _ h in
    record { head_done = c.first; head = read_headed format slot (length xs) tfci_length fbi_length c.first; digits = digits_ok (dpcch_format format) slot xs 0 c.rest }

pub record FrameAccepted (format : ℕ) (xs : List ℕ) (tfci_length fbi_length commands_length : ℕ) : Type 0 where
  pub room : Room format tfci_length fbi_length commands_length (length xs)
  pub slots : (k : ℕ) → k < 15 → DigitsOk (dpcch_format format) k (part k (dpcch_format format).slot xs)

pub frame_accepted : (format : ℕ) (xs : List ℕ) (tfci_length fbi_length commands_length : ℕ) → (frame_read_verdict format xs tfci_length fbi_length commands_length).number ≡ 0
    → FrameAccepted format xs tfci_length fbi_length commands_length
unfolding frame_read_verdict
frame_accepted format xs tfci_length fbi_length commands_length h =
    let c = or_else_done _ _ h in
    record {
      room = frame_read_headed format (length xs) tfci_length fbi_length commands_length c.first;
      slots = λ k l. digits_ok (dpcch_format format) k (part k (dpcch_format format).slot xs) _ (chain_done 15 _ c.rest k l);
    }
