-- What is known where no check refused, and how the call ends.
-- Assumes nothing.
use mathlib.Core.Path.{◌≡◌}
use mathlib.Core.Bool.{true}
use mathlib.Core.List.{List}
use Prim.Native.Nat.{ℕ}
use native.Mathlib.Omega.{arith}
use borrow.Author.Tests.{eqb-true, eq-eqb}
use lib.ListN.{get_or}
use lib.IntN.{ℤ, pos, negsuc}
use Rattle.run.specs.First.{Every}
use Rattle.run.specs.Verdicts.{done}
use Rattle.run.proofs.Chain.{or_else_done, unless_done, each_done, or_else_pass, unless_pass, each_pass}
use Rattle.run.proofs.Ranges.{range_parts, range_holds}
use Rattle.whole.specs.Bound.{Bounded}
use Rattle.whole.proofs.Bound.{b_range, range_low, range_high}
use Rattle.correlator.specs.declared.Complex.{Complex}
use Rattle.correlator.specs.Method.{Small, Parts}
use Rattle.combiner.specs.Outcome.{gain_in, part_in, some_gain, combine_head, combine_body}

pub gain_small : (z : ℤ) → gain_in z ≡ true → Bounded 4096 z
gain_small z e = let p = range_parts (negsuc 4095) (pos 4096) z e in b_range 4095 z p.0 p.1

small_gain : (z : ℤ) → Bounded 4096 z → gain_in z ≡ true
small_gain z b = range_holds (negsuc 4095) (pos 4096) z (range_low 4095 z b) (range_high 4095 z b)

pub small_parts : (r : List ℤ) → Parts 1048576 r → Every (part_in r) 32
small_parts r p k h =
    let b = p.small k h in
    range_holds (negsuc 1048575) (pos 1048576) (get_or r k (pos 0)) (range_low 1048575 _ b) (range_high 1048575 _ b)

pub record Headed (received_length results_length : ℕ) : Type 0 where
  pub received_ok : received_length ≡ 32
  pub results_ok : results_length ≡ 16

pub headed : (received_length results_length : ℕ) → (combine_head received_length results_length).number ≡ 0 → Headed received_length results_length
unfolding combine_head
headed received_length results_length h =
    let c1 = or_else_done _ _ h in
    record {
      received_ok = eqb-true _ _ (unless_done _ 3 0 (omega arith) c1.first);
      results_ok = eqb-true _ _ (unless_done _ 3 1 (omega arith) c1.rest);
    }

pub head_passes : (received_length results_length : ℕ) → received_length ≡ 32 → results_length ≡ 16 → combine_head received_length results_length ≡ done
unfolding combine_head
head_passes received_length results_length e f =
    or_else_pass (unless_pass 3 0 (eq-eqb _ _ e)) (unless_pass 3 1 (eq-eqb _ _ f))

pub record Taken (h1 h2 : Complex) (received : List ℤ) : Type 0 where
  pub h1_ok : Small 4096 h1
  pub h2_ok : Small 4096 h2
  pub parts_ok : Every (part_in received) 32
  pub gains_ok : some_gain h1 h2 ≡ true

pub taken : (h1 h2 : Complex) (received : List ℤ) → (combine_body h1 h2 received).number ≡ 0 → Taken h1 h2 received
unfolding combine_body
taken h1 h2 received h =
    let c1 = or_else_done _ _ h in
    let c2 = or_else_done _ _ c1.rest in
    let c3 = or_else_done _ _ c2.rest in
    let c4 = or_else_done _ _ c3.rest in
    let c5 = or_else_done _ _ c4.rest in
    record {
      h1_ok = record {
        re_in = gain_small h1.re (unless_done _ 11 0 (omega arith) c1.first);
        im_in = gain_small h1.im (unless_done _ 11 1 (omega arith) c2.first);
      };
      h2_ok = record {
        re_in = gain_small h2.re (unless_done _ 11 2 (omega arith) c3.first);
        im_in = gain_small h2.im (unless_done _ 11 3 (omega arith) c4.first);
      };
      parts_ok = each_done 4 11 _ _ (omega arith) c5.first;
      gains_ok = unless_done _ 12 0 (omega arith) c5.rest;
    }

pub body_passes : (h1 h2 : Complex) (received : List ℤ) → Taken h1 h2 received → combine_body h1 h2 received ≡ done
unfolding combine_body
body_passes h1 h2 received t =
    or_else_pass (unless_pass 11 0 (small_gain h1.re t.h1_ok.re_in))
    (or_else_pass (unless_pass 11 1 (small_gain h1.im t.h1_ok.im_in))
    (or_else_pass (unless_pass 11 2 (small_gain h2.re t.h2_ok.re_in))
    (or_else_pass (unless_pass 11 3 (small_gain h2.im t.h2_ok.im_in))
    (or_else_pass (each_pass 4 11 _ _ t.parts_ok)
    (unless_pass 12 0 t.gains_ok)))))
