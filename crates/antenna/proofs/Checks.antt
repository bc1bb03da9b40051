-- The mapper's checks beside those of the base, and what is known where no check of the mapper or of the reader refused.
-- Assumes nothing.
use mathlib.Core.Path.{◌≡◌, refl, sym, ap, ◌∙◌, subst}
use mathlib.Core.Bool.{Bool, true}
use mathlib.Core.List.{List}
use Prim.Native.Nat.{ℕ, ◌≤◌, ◌<◌}
use native.Mathlib.Omega.{arith}
use borrow.Author.Tests.{eqb-true, le-leb, eq-eqb}
use lib.Dec.{eqb, lit<}
use lib.ListN.{length}
use Rattle.run.specs.Verdict.{Verdict}
use Rattle.run.specs.First.{Every, at_most, agree}
use Rattle.run.specs.Verdicts.{done, or_else, unless}
use Rattle.run.proofs.Chain.{four_done, or_else_done, each_done, or_else_next, or_else_pass, unless_pass, each_pass, number_0, leaves_done, leaves_refused}
use Rattle.run.proofs.First.{no_diff, diff_none}
use Rattle.dpch.specs.Formats.{format_of}
use Rattle.dpch.specs.Heads.{slot_head}
use Rattle.dpch.proofs.Heads.{slot_headed, slot_head_pass}
use Rattle.slot.specs.Rule.{data_size, slot_of}
use Rattle.slot.specs.Outcome as base
use Rattle.slot.proofs.Laws.{sound_format, slot_length, part_whole}
use Rattle.slot.proofs.Accept.{mapped, DigitsOk, digits_ok, digits_pass}
use Rattle.antenna.specs.Rule.{second_of, sent_of}
use Rattle.antenna.specs.Outcome.{map_head, map_verdict, Map, read_head, read_body, read_verdict, second_over}
use Rattle.antenna.proofs.Laws.{second_length, second_digits}

-- for either antenna the checks are the base's
pub map_in_range : (format slot antenna tpc : ℕ) (d tfci : List ℕ) (n : ℕ) → antenna ≤ 1
    → map_verdict format slot antenna tpc d tfci n ≡ base.map_verdict format slot tpc d tfci n
unfolding map_verdict map_head base.map_verdict base.map_head slot_head
map_in_range format slot antenna tpc d tfci n h = rw (le-leb antenna 1 h, passed)
  where
    passed : {w : Verdict} → or_else (unless true 11 0) w ≡ w
    passed {w} = or_else_next (unless true 11 0) w (number_0 (unless_pass 11 0 refl))

module _ (format slot tpc : ℕ) (d tfci out : List ℕ) {answer : Verdict} where
  -- antenna 1: the base's promise is the new one, and the other way
  pub first_mapped : {after : List ℕ} → base.Map format slot tpc d tfci out answer after → Map format slot 0 tpc d tfci out answer after
  unfolding sent_of
  first_mapped p =
      let e = map_in_range format slot 0 tpc d tfci (length out) (omega arith) in
      record { verdict_is = p.verdict_is ∙ sym e; out_is = p.out_is ∙ rw (sym e) }

  pub mapped_first : {after : List ℕ} → Map format slot 0 tpc d tfci out answer after → base.Map format slot tpc d tfci out answer after
  unfolding sent_of
  mapped_first p =
      let e = map_in_range format slot 0 tpc d tfci (length out) (omega arith) in
      record { verdict_is = p.verdict_is ∙ e; out_is = p.out_is ∙ rw e }

  -- a run longer than any slot is refused by the base, whichever antenna is asked for
  pub too_long : {after : List ℕ} → 1280 < length out → base.Map format slot tpc d tfci out answer after → Map format slot 1 tpc d tfci out answer after
  too_long {after} h p =
      let no : (base.map_verdict format slot tpc d tfci (length out)).number ≡ 0 → ⊥ =
      λ z.
      let long = (mapped format slot tpc d tfci (length out) z).head.ready.slot_ok in
      let short = (sound_format format).short in
      omega arith
      in
      let e = map_in_range format slot 1 tpc d tfci (length out) (omega arith) in
      record {
        verdict_is = p.verdict_is ∙ sym e;
        out_is = p.out_is ∙ leaves_refused _ _ _ no ∙ sym (leaves_refused _ _ _ (rw (sym e) at no));
      }

  -- antenna 2, where the base's checks refuse, and where they do not and antenna 2's digits were made of antenna 1's
  module _ (e : answer ≡ base.map_verdict format slot tpc d tfci (length out)) where
    is_new : answer ≡ map_verdict format slot 1 tpc d tfci (length out)
    is_new = e ∙ sym (map_in_range format slot 1 tpc d tfci (length out) (omega arith))

    pub second_refused : (answer.number ≡ 0 → ⊥) → Map format slot 1 tpc d tfci out answer out
    second_refused h = record { verdict_is = is_new; out_is = sym (leaves_refused _ _ _ (rw is_new at h)) }

    pub second_mapped : {first after : List ℕ} → answer.number ≡ 0 → first ≡ slot_of (format_of format) slot tpc d tfci → after ≡ second_over format slot first out
        → Map format slot 1 tpc d tfci out answer after
    unfolding sent_of second_over
    second_mapped {first} {after} z is made =
        let m = mapped format slot tpc d tfci (length out) (rw e at z) in
        let r = m.head.ready in
        let long : length first ≡ (format_of format).slot = ap length is ∙ slot_length (format_of format) (sound_format format) slot tpc d tfci r.data_ok r.tfci_ok in
        record {
          verdict_is = is_new;
          out_is = made ∙ rw (eq-eqb _ _ long, eq-eqb _ _ r.slot_ok) (ap (second_of format slot) is ∙ sym (leaves_done _ _ _ (rw is_new at z)));
        }

-- ---- the reader: numbers and lengths
pub record Headed (format slot first_length second_len data_length tfci_length : ℕ) : Type 0 where
  pub format_ok : format ≤ 16
  pub slot_ok : slot ≤ 14
  pub first_ok : first_length ≡ (format_of format).slot
  pub second_ok : second_len ≡ (format_of format).slot
  pub data_ok : data_length ≡ data_size (format_of format)
  pub tfci_ok : tfci_length ≡ (format_of format).tfci

module _ (format slot first_length second_len data_length tfci_length : ℕ) where
  pub headed : (read_head format slot first_length second_len data_length tfci_length).number ≡ 0
      → Headed format slot first_length second_len data_length tfci_length
  unfolding read_head
  headed h =
      let p = slot_headed 16 format _ slot h in
      record {
        format_ok = p.format_ok;
        slot_ok = p.slot_ok;
        first_ok = eqb-true _ _ (p.right_ok 0 (lit< tt));
        second_ok = eqb-true _ _ (p.right_ok 1 (lit< tt));
        data_ok = eqb-true _ _ (p.right_ok 2 (lit< tt));
        tfci_ok = eqb-true _ _ (p.right_ok 3 (lit< tt));
      }

  pub head_pass : Headed format slot first_length second_len data_length tfci_length → read_head format slot first_length second_len data_length tfci_length ≡ done
  unfolding read_head
  head_pass p =
      slot_head_pass 16 format _ slot p.format_ok p.slot_ok
      (eq-eqb _ _ p.first_ok, (eq-eqb _ _ p.second_ok, (eq-eqb _ _ p.data_ok, (eq-eqb _ _ p.tfci_ok, tt))))

-- .. and digits
module _ (format slot : ℕ) (first second : List ℕ) where
  pub record BodyOk : Type 0 where
    pub digits : DigitsOk (format_of format) slot first
    pub second_digits : Every (at_most 2 second) (length second)
    pub agrees : Every (agree (second_of format slot first) second) (format_of format).slot

  pub body_ok : (read_body format slot first second).number ≡ 0 → BodyOk
  unfolding read_body
  body_ok h =
      let c = four_done _ _ _ _ h in
      record {
        digits = digits_ok (format_of format) slot first 0 c.third;
        second_digits = each_done _ 4 _ _ (lit< tt) c.second;
        agrees = each_done _ 9 _ _ (lit< tt) c.fourth;
      }

  pub body_pass : BodyOk → read_body format slot first second ≡ done
  unfolding read_body
  body_pass k =
      or_else_pass (each_pass 0 4 _ _ k.digits.digits)
      (or_else_pass (each_pass _ 4 _ _ k.second_digits)
      (or_else_pass (digits_pass (format_of format) slot first 0 k.digits) (each_pass _ 9 _ _ k.agrees)))

  -- a slot that the base takes, with what it implies beside it: the second stream has digits then
  pub body_given : DigitsOk (format_of format) slot first → length first ≡ (format_of format).slot → second_of format slot first ≡ second → read_body format slot first second ≡ done
  body_given k long e =
      body_pass
      (record {
        digits = k;
        second_digits = subst (λ (s : List ℕ). Every (at_most 2 s) (length s)) e (second_digits format slot first long k.digits);
        agrees = diff_none _ _ _ e;
      })

  pub body_by : (b : Bool) → b ≡ eqb (base.part_verdict (format_of format) slot first 0).number 0 → b ≡ true → length first ≡ (format_of format).slot → length second ≡ (format_of format).slot
      → Every (agree (second_of format slot first) second) (format_of format).slot → read_body format slot first second ≡ done
  body_by b e t long long2 all =
      let z : (base.part_verdict (format_of format) slot first 0).number ≡ 0 = eqb-true _ _ (sym e ∙ t) in
      let k = digits_ok (format_of format) slot first 0 (rw (part_whole (format_of format) slot first 0 long) at z) in
      let n = second_length format slot first long in
      body_given k long (no_diff (second_of format slot first) second (n ∙ sym long2) (rw (sym n) at all))

  pub record Accepted (data_length tfci_length : ℕ) : Type 0 where
    pub head : Headed format slot (length first) (length second) data_length tfci_length
    pub body : BodyOk

  pub accepted : (data_length tfci_length : ℕ) → (read_verdict format slot first second data_length tfci_length).number ≡ 0 → Accepted data_length tfci_length
  unfolding read_verdict
  accepted data_length tfci_length h =
      let c = or_else_done _ _ h in
      record { head = headed format slot (length first) (length second) data_length tfci_length c.first; body = body_ok c.rest }
