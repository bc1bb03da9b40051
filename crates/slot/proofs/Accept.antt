-- What is known of a slot's numbers, lengths and digits where no check refuses them.
-- Assumes nothing.
use mathlib.Core.Path.{◌≡◌}
use mathlib.Core.Bool.{Bool, true, ◌&&◌}
use mathlib.Core.List.{List}
use Prim.Native.Nat.{ℕ, ◌<◌, ◌≤◌}
use native.Mathlib.Omega.{arith}
use borrow.Author.Tests.{eqb-true, leb-true, ltb-true, le-leb, lt-ltb, eq-eqb}
use lib.Dec.{eqb, ltb, lit<}
use lib.ListN.{length}
use Rattle.run.specs.First.{Every, at_most, like_first, agree}
use Rattle.run.specs.Verdicts.{done}
use Rattle.run.proofs.Chain.{four_done, or_else_done, unless_done, each_done, or_else_pass, unless_pass, each_pass}
use Rattle.run.proofs.Bools.{and_left, and_right}
use Rattle.dpch.specs.declared.Format.{Format}
use Rattle.dpch.specs.Formats.{format_of}
use Rattle.dpch.specs.Compressed.{pilot_for}
use Rattle.dpch.proofs.Heads.{SlotHeaded, slot_headed, slot_head_pass}
use Rattle.slot.specs.Rule.{data_size, tpc_in, tfci_in, pilot_in, tfci_stands}
use Rattle.slot.specs.Outcome.{map_head, fields_verdict, map_verdict, read_head, digits_verdict, read_verdict, sizes_are}
use Rattle.slot.specs.Ready.{Sound, Ready}
use Rattle.slot.proofs.Laws.{sound_format}

-- numbers and lengths
pub record Headed (format slot data_length tfci_length slot_length : ℕ) : Type 0 where
  pub format_ok : format ≤ 16
  pub slot_ok : slot ≤ 14
  pub ready : Ready (format_of format) data_length tfci_length slot_length

-- whichever of the call's runs each of the three is
headed : (format slot : ℕ) (right : List Bool) (data_length tfci_length slot_length : ℕ) → SlotHeaded 16 format right slot
    → eqb data_length (data_size (format_of format)) ≡ true → eqb tfci_length (format_of format).tfci ≡ true → eqb slot_length (format_of format).slot ≡ true
    → Headed format slot data_length tfci_length slot_length
headed format slot right data_length tfci_length slot_length p d t s =
    record {
      format_ok = p.format_ok;
      slot_ok = p.slot_ok;
      ready = record { sound = sound_format format; data_ok = eqb-true _ _ d; tfci_ok = eqb-true _ _ t; slot_ok = eqb-true _ _ s };
    }

pub map_headed : (format slot data_length tfci_length out_length : ℕ) → (map_head format slot data_length tfci_length out_length).number ≡ 0
    → Headed format slot data_length tfci_length out_length
unfolding map_head
map_headed format slot data_length tfci_length out_length h =
    let p = slot_headed 16 format _ slot h in
    headed format slot _ data_length tfci_length out_length p (p.right_ok 0 (lit< tt)) (p.right_ok 1 (lit< tt)) (p.right_ok 2 (lit< tt))

pub read_headed : (format slot slot_length data_length tfci_length : ℕ) → (read_head format slot slot_length data_length tfci_length).number ≡ 0
    → Headed format slot data_length tfci_length slot_length
unfolding read_head
read_headed format slot slot_length data_length tfci_length h =
    let p = slot_headed 16 format _ slot h in
    headed format slot _ data_length tfci_length slot_length p (p.right_ok 1 (lit< tt)) (p.right_ok 2 (lit< tt)) (p.right_ok 0 (lit< tt))

-- the other way: numbers and lengths that pass
pub map_head_pass : (format slot data_length tfci_length out_length : ℕ) → format ≤ 16 → slot ≤ 14 → data_length ≡ data_size (format_of format) → tfci_length ≡ (format_of format).tfci
    → out_length ≡ (format_of format).slot → map_head format slot data_length tfci_length out_length ≡ done
unfolding map_head
map_head_pass format slot data_length tfci_length out_length a b p q r = slot_head_pass 16 format _ slot a b (eq-eqb _ _ p, (eq-eqb _ _ q, (eq-eqb _ _ r, tt)))

pub read_head_pass : (format slot slot_length data_length tfci_length : ℕ) → format ≤ 16 → slot ≤ 14 → slot_length ≡ (format_of format).slot → data_length ≡ data_size (format_of format)
    → tfci_length ≡ (format_of format).tfci → read_head format slot slot_length data_length tfci_length ≡ done
unfolding read_head
read_head_pass format slot slot_length data_length tfci_length a b p q r = slot_head_pass 16 format _ slot a b (eq-eqb _ _ p, (eq-eqb _ _ q, (eq-eqb _ _ r, tt)))

-- all that writing a slot of a compressed format or taking its fields stands on, and back
pub record Sized (f : Format) (data_length tfci_length slot_length : ℕ) : Type 0 where
  pub there : 0 < f.kind
  pub ready : Ready f data_length tfci_length slot_length

pub sizes_ready : (f : Format) → Sound f → (data_length tfci_length slot_length : ℕ) → sizes_are f data_length tfci_length slot_length ≡ true → Sized f data_length tfci_length slot_length
unfolding sizes_are
sizes_ready f s data_length tfci_length slot_length e =
    let last = eqb tfci_length f.tfci && eqb slot_length f.slot in
    let lengths = and_right (ltb 0 f.kind) (eqb data_length (data_size f) && last) e in
    let later = and_right (eqb data_length (data_size f)) last lengths in
    record {
      there = ltb-true _ _ (and_left (ltb 0 f.kind) (eqb data_length (data_size f) && last) e);
      ready = record {
        sound = s;
        data_ok = eqb-true _ _ (and_left (eqb data_length (data_size f)) last lengths);
        tfci_ok = eqb-true _ _ (and_left (eqb tfci_length f.tfci) (eqb slot_length f.slot) later);
        slot_ok = eqb-true _ _ (and_right (eqb tfci_length f.tfci) (eqb slot_length f.slot) later);
      };
    }

pub sizes_pass : (f : Format) (data_length tfci_length slot_length : ℕ) → 0 < f.kind → data_length ≡ data_size f → tfci_length ≡ f.tfci → slot_length ≡ f.slot
    → sizes_are f data_length tfci_length slot_length ≡ true
unfolding sizes_are
sizes_pass f data_length tfci_length slot_length h p q r = rw (lt-ltb _ _ h, eq-eqb _ _ p, eq-eqb _ _ q, eq-eqb _ _ r)

-- command, TFCI and data
pub record FieldsOk (tpc : ℕ) (d tfci : List ℕ) : Type 0 where
  pub tpc_ok : tpc ≤ 1
  pub tfci_digits : Every (at_most 2 tfci) (length tfci)
  pub tfci_kinds : Every (tfci_stands tfci) (length tfci)
  pub data_digits : Every (at_most 2 d) (length d)

pub fields_ok : (tpc : ℕ) (d tfci : List ℕ) (tpc_place tfci_base data_base : ℕ) → (fields_verdict tpc d tfci tpc_place tfci_base data_base).number ≡ 0
    → FieldsOk tpc d tfci
unfolding fields_verdict
fields_ok tpc d tfci tpc_place tfci_base data_base h =
    let c = four_done _ _ _ _ h in
    record {
      tpc_ok = leb-true _ _ (unless_done _ 5 tpc_place (omega arith) c.first);
      tfci_digits = each_done tfci_base 4 _ _ (omega arith) c.second;
      tfci_kinds = each_done tfci_base 6 _ _ (omega arith) c.third;
      data_digits = each_done data_base 4 _ _ (omega arith) c.fourth;
    }

pub fields_pass : (tpc : ℕ) (d tfci : List ℕ) (tpc_place tfci_base data_base : ℕ) → FieldsOk tpc d tfci
    → fields_verdict tpc d tfci tpc_place tfci_base data_base ≡ done
unfolding fields_verdict
fields_pass tpc d tfci tpc_place tfci_base data_base k =
    or_else_pass (unless_pass 5 tpc_place (le-leb _ _ k.tpc_ok))
    (or_else_pass (each_pass tfci_base 4 _ _ k.tfci_digits)
    (or_else_pass (each_pass tfci_base 6 _ _ k.tfci_kinds)
    (each_pass data_base 4 _ _ k.data_digits)))

-- the digits of a slot
pub record DigitsOk (f : Format) (slot : ℕ) (xs : List ℕ) : Type 0 where
  pub digits : Every (at_most 2 xs) (length xs)
  pub alike : Every (like_first (tpc_in f xs)) (length (tpc_in f xs))
  pub kinds : Every (tfci_stands (tfci_in f xs)) (length (tfci_in f xs))
  pub pilot : Every (agree (pilot_in f xs) (pilot_for f.kind f.pilot slot)) (length (pilot_in f xs))

pub digits_ok : (f : Format) (slot : ℕ) (xs : List ℕ) (base : ℕ) → (digits_verdict f slot xs base).number ≡ 0 → DigitsOk f slot xs
unfolding digits_verdict
digits_ok f slot xs base h =
    let c = four_done _ _ _ _ h in
    record {
      digits = each_done base 4 _ _ (omega arith) c.first;
      alike = each_done _ 5 _ _ (omega arith) c.second;
      kinds = each_done _ 6 _ _ (omega arith) c.third;
      pilot = each_done _ 7 _ _ (omega arith) c.fourth;
    }

pub digits_pass : (f : Format) (slot : ℕ) (xs : List ℕ) (base : ℕ) → DigitsOk f slot xs → digits_verdict f slot xs base ≡ done
unfolding digits_verdict
digits_pass f slot xs base k =
    or_else_pass (each_pass base 4 _ _ k.digits)
    (or_else_pass (each_pass _ 5 _ _ k.alike)
    (or_else_pass (each_pass _ 6 _ _ k.kinds)
    (each_pass _ 7 _ _ k.pilot)))

-- fields that map takes
pub record Mapped (format slot tpc : ℕ) (d tfci : List ℕ) (out_length : ℕ) : Type 0 where
  pub head_done : (map_head format slot (length d) (length tfci) out_length).number ≡ 0
  pub head : Headed format slot (length d) (length tfci) out_length
  pub fields : FieldsOk tpc d tfci

pub mapped : (format slot tpc : ℕ) (d tfci : List ℕ) (out_length : ℕ) → (map_verdict format slot tpc d tfci out_length).number ≡ 0
    → Mapped format slot tpc d tfci out_length
unfolding map_verdict
mapped format slot tpc d tfci out_length h =
    let c = or_else_done _ _ h in
    record {
      head_done = c.first;
      head = map_headed format slot (length d) (length tfci) out_length c.first;
      fields = fields_ok tpc d tfci 0 0 0 c.rest;
    }

-- a slot that read accepts
pub record Accepted (format slot : ℕ) (xs : List ℕ) (data_length tfci_length : ℕ) : Type 0 where
  pub head_done : (read_head format slot (length xs) data_length tfci_length).number ≡ 0
  pub head : Headed format slot data_length tfci_length (length xs)
  pub digits : DigitsOk (format_of format) slot xs

pub accepted : (format slot : ℕ) (xs : List ℕ) (data_length tfci_length : ℕ) → (read_verdict format slot xs data_length tfci_length).number ≡ 0
    → Accepted format slot xs data_length tfci_length
unfolding read_verdict
accepted format slot xs data_length tfci_length h =
    let c = or_else_done _ _ h in
    record {
      head_done = c.first;
      head = read_headed format slot (length xs) data_length tfci_length c.first;
      digits = digits_ok (format_of format) slot xs 0 c.rest;
    }
