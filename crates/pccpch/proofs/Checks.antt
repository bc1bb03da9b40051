-- What is known where no check refused.
-- Assumes nothing.
use mathlib.Core.Path.{◌≡◌, sym, ◌∙◌}
use mathlib.Core.Bool.{true, false, false≢true}
use mathlib.Core.List.{List}
use Prim.Native.Nat.{ℕ}
use native.Mathlib.Omega.{arith}
use borrow.Author.Tests.{eqb-true, eq-eqb, le-leb}
use lib.ListN.{length}
use Rattle.run.specs.First.{Every, at_most, agree}
use Rattle.run.specs.Verdicts.{done}
use Rattle.run.proofs.Bools.{and_left, and_right}
use Rattle.run.proofs.Passing.{all_every, every_all}
use Rattle.run.proofs.Chain.{or_else_pass, unless_pass, each_pass, four_done, five_done, or_else_done, unless_done, each_done}
use Rattle.pccpch.specs.Rule.{second_of, data_in}
use Rattle.pccpch.specs.Method.{fitting}
use Rattle.pccpch.specs.Outcome.{map_verdict, read_head, right_kind, read_body, read_verdict}

pub record Taken (digits : List ℕ) (length1 length2 : ℕ) : Type 0 where
  pub data_ok : length digits ≡ 270
  pub first_ok : length1 ≡ 300
  pub second_ok : length2 ≡ 300
  pub bits_ok : Every (at_most 1 digits) (length digits)

pub taken : (digits : List ℕ) (length1 length2 : ℕ) → (map_verdict digits length1 length2).number ≡ 0 → Taken digits length1 length2
unfolding map_verdict
taken digits length1 length2 h =
    let c = four_done _ _ _ _ h in
    record {
      data_ok = eqb-true _ _ (unless_done _ 3 0 (omega arith) c.first);
      first_ok = eqb-true _ _ (unless_done _ 3 1 (omega arith) c.second);
      second_ok = eqb-true _ _ (unless_done _ 3 2 (omega arith) c.third);
      bits_ok = each_done 0 4 _ _ (omega arith) c.fourth;
    }

-- what is written at once is what no check refuses
pub fits_taken : (digits : List ℕ) (length1 length2 : ℕ) → fitting digits length1 length2 ≡ true → map_verdict digits length1 length2 ≡ done
unfolding map_verdict
fits_taken digits length1 length2 e =
    let lengths = and_left _ _ e in
    let frames = and_left _ _ lengths in
    let long = and_left _ _ frames in
    let bits = all_every 270 (at_most 1 digits) (and_right _ _ (and_right _ _ e)) in
    or_else_pass (unless_pass 3 0 long)
    (or_else_pass (unless_pass 3 1 (and_right _ _ frames))
    (or_else_pass (unless_pass 3 2 (and_right _ _ lengths)) (each_pass 0 4 (at_most 1 digits) (length digits) (rw (eqb-true (length digits) 270 long) bits))))

pub fits_refused : (digits : List ℕ) (length1 length2 : ℕ) → fitting digits length1 length2 ≡ false → (map_verdict digits length1 length2).number ≡ 0 → ⊥
fits_refused digits length1 length2 e h =
    let t = taken digits length1 length2 h in
    let n = t.data_ok in
    let good : fitting digits length1 length2 ≡ true =
    rw
    (eq-eqb _ _ t.data_ok, eq-eqb _ _ t.first_ok, eq-eqb _ _ t.second_ok, le-leb 270 (length digits) (omega arith), every_all 270 (at_most 1 digits) (rw n at t.bits_ok))
    in
    false≢true (sym e ∙ good)

pub record Headed (antenna1 antenna2 : List ℕ) (data_length : ℕ) : Type 0 where
  pub first_ok : length antenna1 ≡ 300
  pub second_ok : length antenna2 ≡ 300
  pub data_ok : data_length ≡ 270
  pub digits1_ok : Every (at_most 2 antenna1) (length antenna1)

pub headed : (antenna1 antenna2 : List ℕ) (data_length : ℕ) → (read_head antenna1 antenna2 data_length).number ≡ 0 → Headed antenna1 antenna2 data_length
unfolding read_head
headed antenna1 antenna2 data_length h =
    let c = five_done _ _ _ _ _ h in
    record {
      first_ok = eqb-true _ _ (unless_done _ 3 0 (omega arith) c.first);
      second_ok = eqb-true _ _ (unless_done _ 3 1 (omega arith) c.second);
      data_ok = eqb-true _ _ (unless_done _ 3 2 (omega arith) c.third);
      digits1_ok = each_done 0 4 _ _ (omega arith) c.fourth;
    }

pub record Accepted (antenna1 antenna2 : List ℕ) (data_length : ℕ) : Type 0 where
  pub head : Headed antenna1 antenna2 data_length
  pub kinds : Every (right_kind antenna1) 300
  pub agrees : Every (agree (second_of (data_in antenna1)) antenna2) 300

pub accepted : (antenna1 antenna2 : List ℕ) (data_length : ℕ) → (read_verdict antenna1 antenna2 data_length).number ≡ 0 → Accepted antenna1 antenna2 data_length
unfolding read_verdict read_body
accepted antenna1 antenna2 data_length h =
    let c1 = or_else_done _ _ h in
    let c2 = or_else_done _ _ c1.rest in
    record {
      head = headed antenna1 antenna2 data_length c1.first;
      kinds = each_done 0 9 _ _ (omega arith) c2.first;
      agrees = each_done 300 9 _ _ (omega arith) c2.rest;
    }
