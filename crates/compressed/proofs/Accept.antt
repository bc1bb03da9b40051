-- What is known of a compressed frame's row, gap, lengths, fields and slots where no check refuses them.
-- Assumes nothing.
use mathlib.Core.Path.{◌≡◌, refl, sym, ap, ◌∙◌}
use mathlib.Core.Bool.{Bool, true, false, not}
use mathlib.Core.List.{List}
use Prim.Native.Nat.{ℕ, ◌+◌, ◌*◌, ◌≤◌, ◌<◌}
use native.Mathlib.Omega.{arith}
use borrow.Author.Tests.{eqb-true, eq-eqb, ne_eqb, ltb-true, lt-ltb, leb-true}
use lib.Dec.{eqb, leb, ltb, lit<}
use lib.ListN.{length, get_or, replicate, length-replicate, get_or-replicate}
use lib.Seq.{ext_get_or}
use Rattle.run.specs.Verdict.{Verdict}
use Rattle.run.specs.Digits.{dtx}
use Rattle.run.specs.First.{Every, at_most, is_at}
use Rattle.run.specs.Parts.{part}
use Rattle.run.specs.Refusals.{digit_refused, frame_refused}
use Rattle.run.specs.Verdicts.{done, or_else, each, Narrow}
use Rattle.run.proofs.Bools.{and_right}
use Rattle.run.proofs.Chain.{or_else_done, unless_done, or_else_pass, unless_pass, each_done, each_pass, AllRight, lengths_done, lengths_pass, chain_done, check_narrow, lengths_narrow, or_else_narrow, each_narrow}
use Rattle.run.proofs.Each.{each_same}
use Rattle.run.proofs.Parts.{part_length}
use Rattle.dpch.specs.declared.Format.{Format}
use Rattle.slot.specs.Rule.{data_size}
use Rattle.slot.specs.Ready.{Row}
use Rattle.slot.proofs.Accept.{FieldsOk, fields_ok, DigitsOk, digits_ok}
use Rattle.slot.proofs.Rows.{command_bit}
use Rattle.frame.specs.Outcome.{slot_digits}
use Rattle.compressed.specs.Rule.{is_missing, transmitted, number_of, gap_stands}
use Rattle.compressed.specs.Outcome.{gap_head, map_head, map_verdict, read_head, silent_verdict, slot_verdict, read_verdict}
use Rattle.compressed.specs.Ready.{Room, Bits, NoneBelow}
use Rattle.compressed.proofs.Gap.{one_to_one}

-- the gap ends by slot 14
pub gap_ends : (f : Format) (first missing : ℕ) → gap_stands f first missing ≡ true → first + missing ≤ 15
unfolding gap_stands
gap_ends f first missing e =
    leb-true _ _ (and_right (leb (transmitted missing) f.most) _ (and_right (leb f.fewest (transmitted missing)) _ e))

-- row, gap and lengths
module _ (f : Format) (first missing : ℕ) (right : List Bool) where
  pub record Headed : Type 0 where
    pub there : 0 < f.kind
    pub stands : gap_stands f first missing ≡ true
    pub right_ok : Every (λ (k : ℕ). get_or right k true) (length right)

  pub gap_headed : (gap_head f first missing right).number ≡ 0 → Headed
  unfolding gap_head
  gap_headed h =
      let c = or_else_done _ _ h in
      let d = or_else_done _ _ c.rest in
      record {
        there = ltb-true _ _ (unless_done _ 1 0 (omega arith) c.first);
        stands = unless_done _ 27 0 (omega arith) d.first;
        right_ok = lengths_done right d.rest;
      }

  gap_head_pass : 0 < f.kind → gap_stands f first missing ≡ true → AllRight right → gap_head f first missing right ≡ done
  unfolding gap_head
  gap_head_pass h g r = or_else_pass (unless_pass 1 0 (lt-ltb _ _ h)) (or_else_pass (unless_pass 27 0 g) (lengths_pass right r))

  pub gap_head_narrow : length right < 4294967296 → Narrow (gap_head f first missing right)
  unfolding gap_head
  gap_head_narrow h =
      check_narrow _ 1 0 _ (lit< tt) (lit< tt) (lit< tt) (λ _. check_narrow _ 27 0 _ (lit< tt) (lit< tt) (lit< tt) (λ _. lengths_narrow right h))

module _ (f : Format) (first missing : ℕ) where
  -- whichever of the call's runs each of the four is
  headed : (right : List Bool) (data_length tfci_length commands_length frame_length : ℕ) → Headed f first missing right
      → eqb data_length (transmitted missing * data_size f) ≡ true → eqb tfci_length (transmitted missing * f.tfci) ≡ true
      → eqb commands_length (transmitted missing) ≡ true → eqb frame_length (15 * f.slot) ≡ true
      → Room f first missing data_length tfci_length commands_length frame_length
  headed right data_length tfci_length commands_length frame_length p d t c x =
      record {
        there = p.there;
        stands = p.stands;
        gap_ok = gap_ends f first missing p.stands;
        fields = record { data_ok = eqb-true _ _ d; tfci_ok = eqb-true _ _ t; commands_ok = eqb-true _ _ c };
        frame_ok = eqb-true _ _ x;
      }

  pub map_headed : (data_length tfci_length out_length commands_length : ℕ) → (map_head f first missing data_length tfci_length out_length commands_length).number ≡ 0
      → Room f first missing data_length tfci_length commands_length out_length
  unfolding map_head
  map_headed data_length tfci_length out_length commands_length h =
      let p = gap_headed f first missing _ h in
      headed _ data_length tfci_length commands_length out_length p (p.right_ok 0 (lit< tt)) (p.right_ok 1 (lit< tt)) (p.right_ok 3 (lit< tt)) (p.right_ok 2 (lit< tt))

  pub read_headed : (frame_length data_length tfci_length commands_length : ℕ) → (read_head f first missing frame_length data_length tfci_length commands_length).number ≡ 0
      → Room f first missing data_length tfci_length commands_length frame_length
  unfolding read_head
  read_headed frame_length data_length tfci_length commands_length h =
      let p = gap_headed f first missing _ h in
      headed _ data_length tfci_length commands_length frame_length p (p.right_ok 1 (lit< tt)) (p.right_ok 2 (lit< tt)) (p.right_ok 3 (lit< tt)) (p.right_ok 0 (lit< tt))

  -- the other way: a row, a gap and lengths that pass
  pub map_head_pass : (data_length tfci_length out_length commands_length : ℕ) → Room f first missing data_length tfci_length commands_length out_length
      → map_head f first missing data_length tfci_length out_length commands_length ≡ done
  unfolding map_head
  map_head_pass data_length tfci_length out_length commands_length r =
      let x = r.fields in
      gap_head_pass f first missing _ r.there r.stands
      (eq-eqb _ _ x.data_ok, (eq-eqb _ _ x.tfci_ok, (eq-eqb _ _ r.frame_ok, (eq-eqb _ _ x.commands_ok, tt))))

  pub read_head_pass : (frame_length data_length tfci_length commands_length : ℕ) → Room f first missing data_length tfci_length commands_length frame_length
      → read_head f first missing frame_length data_length tfci_length commands_length ≡ done
  unfolding read_head
  read_head_pass frame_length data_length tfci_length commands_length r =
      let x = r.fields in
      gap_head_pass f first missing _ r.there r.stands
      (eq-eqb _ _ r.frame_ok, (eq-eqb _ _ x.data_ok, (eq-eqb _ _ x.tfci_ok, (eq-eqb _ _ x.commands_ok, tt))))

-- a missing slot that is not refused is nothing but DTX, and the other way
all_dtx : (xs : List ℕ) → Every (is_at dtx xs) (length xs) → xs ≡ replicate (length xs) dtx
all_dtx xs all = ext_get_or 0 xs (replicate (length xs) dtx) (sym (length-replicate (length xs) dtx)) (λ k l. eqb-true _ _ (all k l) ∙ sym (get_or-replicate (length xs) k dtx 0 l))

pub silent_ok : (xs : List ℕ) (base : ℕ) → (silent_verdict xs base).number ≡ 0 → xs ≡ replicate (length xs) dtx
unfolding silent_verdict
silent_ok xs base h = all_dtx xs (each_done base 9 _ _ (omega arith) (or_else_done _ _ h).rest)

pub silent_pass : (n base : ℕ) → silent_verdict (replicate n dtx) base ≡ done
unfolding silent_verdict
silent_pass n base =
    or_else_pass (each_pass base 4 _ _ (each_same (λ (x : ℕ). leb x 2) n dtx refl)) (each_pass base 9 _ _ (each_same (λ (x : ℕ). eqb x dtx) n dtx refl))

-- .. asked one check after the other: a digit above DTX; no digit above and none below; no digit above, and then the first one below
module _ (xs : List ℕ) (base : ℕ) {v : Verdict} (above : v ≡ each base digit_refused (at_most 2 xs) (length xs)) where
  pub silent_above : (v.number ≡ 0 → ⊥) → v ≡ silent_verdict xs base
  unfolding silent_verdict or_else
  silent_above refused = rw (← above, ne_eqb v.number 0 refused)

  module _ (passed : v.number ≡ 0) where
    pub silent_told : {w : Verdict} → w ≡ each base frame_refused (is_at dtx xs) (length xs) → w ≡ silent_verdict xs base
    unfolding silent_verdict or_else
    silent_told told = told ∙ rw (← above, eq-eqb v.number 0 passed)

    pub silent_between : {low : ℕ} → NoneBelow low xs → 2 ≤ low → v ≡ silent_verdict xs base
    silent_between below h =
        let high = each_done base 4 _ _ (omega arith) (rw above at passed) in
        let silence = all_dtx xs (λ k l. eq-eqb (get_or xs k 0) 2 (let a = leb-true (get_or xs k 0) 2 (high k l) in let b = below k l in omega arith)) in
        above ∙ each_pass base 4 _ _ high ∙ sym (ap (λ (s : List ℕ). silent_verdict s base) silence ∙ silent_pass (length xs) base)

pub silent_narrow : (xs : List ℕ) (base : ℕ) → base + length xs < 4294967296 → Narrow (silent_verdict xs base)
unfolding silent_verdict
silent_narrow xs base h = or_else_narrow _ _ (each_narrow base 4 _ _ (lit< tt) h) (λ _. each_narrow base 9 _ _ (lit< tt) h)

-- the checks of a slot that is missing, and of one that is not
pub verdict_missing : (f : Format) (first missing : ℕ) (xs : List ℕ) (k : ℕ) → is_missing first missing k ≡ true
    → slot_verdict f first missing xs k ≡ silent_verdict (part k f.slot xs) (k * f.slot)
unfolding slot_verdict
verdict_missing f first missing xs k e = rw e

pub verdict_sent : (f : Format) (first missing : ℕ) (xs : List ℕ) (k : ℕ) → is_missing first missing k ≡ false
    → slot_verdict f first missing xs k ≡ slot_digits f xs k
unfolding slot_verdict
verdict_sent f first missing xs k e = rw e

-- fields that map takes
pub record Mapped (f : Format) (first missing : ℕ) (d tfci : List ℕ) (out_length : ℕ) (commands : List ℕ) : Type 0 where
  pub room : Room f first missing (length d) (length tfci) (length commands) out_length
  pub slots : (i : ℕ) → i < transmitted missing → FieldsOk (get_or commands i 0) (part i (data_size f) d) (part i f.tfci tfci)

pub mapped : (f : Format) (first missing : ℕ) (d tfci : List ℕ) (out_length : ℕ) (commands : List ℕ) → (map_verdict f first missing d tfci out_length commands).number ≡ 0
    → Mapped f first missing d tfci out_length commands
unfolding map_verdict
mapped f first missing d tfci out_length commands h =
    let c = or_else_done _ _ h in
    record {
      room = map_headed f first missing (length d) (length tfci) out_length (length commands) c.first;
      slots = λ i l. fields_ok _ _ _ _ _ _ (chain_done (transmitted missing) _ c.rest i l);
    }

-- a frame that read accepts
pub record Accepted (f : Format) (first missing : ℕ) (xs : List ℕ) (data_length tfci_length commands_length : ℕ) : Type 0 where
  pub room : Room f first missing data_length tfci_length commands_length (length xs)
  pub slots : (k : ℕ) → k < 15 → is_missing first missing k ≡ false → DigitsOk f k (part k f.slot xs)
  pub silent : (k : ℕ) → k < 15 → is_missing first missing k ≡ true → part k f.slot xs ≡ replicate f.slot dtx

pub accepted : (f : Format) (first missing : ℕ) (xs : List ℕ) (data_length tfci_length commands_length : ℕ)
    → (read_verdict f first missing xs data_length tfci_length commands_length).number ≡ 0 → Accepted f first missing xs data_length tfci_length commands_length
unfolding read_verdict
accepted f first missing xs data_length tfci_length commands_length h =
    let c = or_else_done _ _ h in
    let room = read_headed f first missing (length xs) data_length tfci_length commands_length c.first in
    record {
      room = room;
      slots = λ k l e. digits_ok f k (part k f.slot xs) _ (rw (verdict_sent f first missing xs k e) at (chain_done 15 _ c.rest k l));
      silent = λ k l e.
          silent_ok _ _ (rw (verdict_missing f first missing xs k e) at (chain_done 15 _ c.rest k l))
          ∙ ap (λ (n : ℕ). replicate n dtx) (part_length k 15 f.slot xs l room.frame_ok);
    }

-- its commands are bits
pub accepted_bits : (f : Format) → Row f → (first missing : ℕ) (xs : List ℕ) (data_length tfci_length commands_length : ℕ)
    → Accepted f first missing xs data_length tfci_length commands_length → Bits f first missing xs
accepted_bits f row first missing xs data_length tfci_length commands_length a =
    record {
      bit = λ i h.
          let o = one_to_one first missing a.room.gap_ok in
          let l = o.number_below i h in
          command_bit f row (number_of first missing i) (part (number_of first missing i) f.slot xs) (a.slots _ l (o.number_sent i h))
          (part_length (number_of first missing i) 15 f.slot xs l a.room.frame_ok);
    }

-- a row that is not a normal one: its kind is not 0
pub some_kind : (f : Format) → not (eqb f.kind 0) ≡ ltb 0 f.kind
some_kind f = sides f.kind
  where
    sides : (k : ℕ) → not (eqb k 0) ≡ ltb 0 k
    sides k = grind arith
