-- The theorems of specs/Exact.antt.
-- Assumes nothing.
use mathlib.Core.Path.{◌≡◌, refl, sym, ap, ◌∙◌, subst}
use mathlib.Core.List.{List}
use Prim.Native.Nat.{ℕ, ◌<◌}
use native.Mathlib.Omega.{arith}
use borrow.Author.Tests.{eqb-true, eq-eqb}
use lib.Dec.{lit<}
use lib.ListN.{length}
use lib.Seq.{ext_get_or}
use lib.IntN.{ℤ, pos, negsuc}
use Rattle.run.specs.Verdicts.{done, Narrow}
use Rattle.run.proofs.Chain.{or_else_pass, unless_pass, each_pass, check_narrow, unless_narrow, each_narrow, or_else_narrow, one_outcome, number_0}
use Rattle.run.proofs.Ranges.{range_holds}
use Rattle.run.proofs.Table.{tab_is}
use Rattle.whole.specs.Bound.{Bounded}
use Rattle.whole.proofs.Bound.{range_low, range_high}
use Rattle.aich.specs.Rule.{value_at, values_of, indicators_in}
use Rattle.aich.specs.Outcome.{map_verdict, read_head, read_verdict, set_verdict, map_available_verdict, read_available_verdict}
use Rattle.aich.specs.Method.{Sixteen}
use Rattle.aich.specs.Exact.{Gives, ReadExact, Sized, GivenSized, MapOnce, ReadOnce, Packs}
use Rattle.aich.proofs.Laws.{entry, values_length, value_at_lem, value_small, indicators_length, indicator_small, given_back}
use Rattle.aich.proofs.Reading.{given_every, every_given}
use Rattle.aich.proofs.Checks.{taken, Accepted, accepted}

given_units : {indicators values : List ℤ} → Gives indicators values → Sixteen 1 indicators
given_units {indicators} g = (taken indicators 32 (number_0 g.taken)).indicators_ok

-- ---- what reading accepts, its indicators give
module _ (values : List ℤ) (a : Accepted values 16) where
  read_values : values_of (indicators_in values) ≡ values
  unfolding values_of
  read_values =
      sym (tab_is (pos 0) values 32 (value_at (indicators_in values)) a.head.values_ok
      (λ j h. sym (given_every (indicators_in values) values a.gives j h)))

  read_taken : map_verdict (indicators_in values) 32 ≡ done
  unfolding map_verdict
  read_taken =
      let n = indicators_length values in
      or_else_pass (unless_pass 3 0 (eq-eqb _ _ n))
      (or_else_pass (unless_pass 3 1 (eq-eqb 32 32 refl))
      (each_pass 0 11 _ _ (λ s l. let b = indicator_small values s (rw n at l) in range_holds (negsuc 0) (pos 1) _ (range_low 0 _ b) (range_high 0 _ b))))

-- ---- what mapping gives, reading accepts, and gives the indicators back
module _ (indicators : List ℤ) (units : Sixteen 1 indicators) where
  mapped_value : (j : ℕ) → j < 32 → value_at indicators j ≡ entry (values_of indicators) j
  mapped_value j h = sym (value_at_lem indicators j h)

  mapped_back : indicators_in (values_of indicators) ≡ indicators
  mapped_back =
      let n = indicators_length (values_of indicators) in
      ext_get_or (pos 0) (indicators_in (values_of indicators)) indicators (n ∙ sym units.long)
      (λ s l. let h : s < 16 = rw n at l in given_back indicators (values_of indicators) mapped_value s h (units.small s h))

  mapped_accepted : read_verdict (values_of indicators) 16 ≡ done
  unfolding read_verdict read_head
  mapped_accepted =
      or_else_pass
      (or_else_pass (unless_pass 3 0 (eq-eqb _ _ (values_length indicators))) (unless_pass 3 1 (eq-eqb 16 16 refl)))
      (unless_pass 10 0 (rw mapped_back (every_given indicators (values_of indicators) mapped_value)))

handed : (values indicators : List ℤ) → Gives indicators values → indicators_in values ≡ indicators
handed values indicators g = ap indicators_in (sym g.written) ∙ mapped_back indicators (given_units g)

pub read_exact : ReadExact
read_exact values =
    record {
      accepts = (
        λ e.
            let a = accepted values 16 (number_0 e) in
            (indicators_in values, record { taken = read_taken values a; written = read_values values a }),
        λ s. subst (λ (v : List ℤ). read_verdict v 16 ≡ done) s.1.written (mapped_accepted s.0 (given_units s.1)),
      );
      hands_back = handed values;
      one_set = λ is js g h. sym (handed values is g) ∙ handed values js h;
    }

-- the values of units are 32, each in -16 to 16
pub units_sized : (indicators : List ℤ) → ((s : ℕ) → s < 16 → Bounded 1 (entry indicators s)) → Sized (values_of indicators)
units_sized indicators small =
    record {
      long = values_length indicators;
      small = λ j h.
          let b : Bounded 16 (entry (values_of indicators) j) = rw (value_at_lem indicators j h) (value_small indicators j small) in
          range_holds (negsuc 15) (pos 16) _ (range_low 15 _ b) (range_high 15 _ b);
    }

pub given_sized : GivenSized
given_sized indicators values g = rw (← g.written) (units_sized indicators (given_units g).small)

pub map_once : MapOnce
map_once indicators values a b x y p r = (one_outcome p.verdict_is r.verdict_is, one_outcome p.values_is r.values_is)

pub read_once : ReadOnce
read_once values indicators a b x y p r =
    (one_outcome p.verdict_is r.verdict_is, one_outcome p.indicators_is r.indicators_is)

map_narrow : (indicators : List ℤ) (values_len : ℕ) → Narrow (map_verdict indicators values_len)
unfolding map_verdict
map_narrow indicators values_len =
    check_narrow _ 3 0 _ (lit< tt) (lit< tt) (lit< tt)
    (λ e. check_narrow _ 3 1 _ (lit< tt) (lit< tt) (lit< tt)
    (λ _. let n : length indicators ≡ 16 = eqb-true _ _ e in each_narrow 0 11 _ _ (lit< tt) (omega arith)))

read_narrow : (values : List ℤ) (indicators_len : ℕ) → Narrow (read_verdict values indicators_len)
unfolding read_verdict read_head
read_narrow values indicators_len =
    or_else_narrow _ _
    (check_narrow _ 3 0 _ (lit< tt) (lit< tt) (lit< tt) (λ _. unless_narrow _ 3 1 (lit< tt) (lit< tt)))
    (λ _. unless_narrow _ 10 0 (lit< tt) (lit< tt))

set_narrow : (available : ℕ) (indicators : List ℤ) → Narrow (set_verdict available indicators)
unfolding set_verdict
set_narrow available indicators = each_narrow 0 26 _ 16 (lit< tt) (lit< tt)

map_available_narrow : (available : ℕ) (indicators : List ℤ) (values_len : ℕ) → Narrow (map_available_verdict available indicators values_len)
unfolding map_available_verdict
map_available_narrow available indicators values_len =
    or_else_narrow _ _ (map_narrow indicators values_len) (λ _. set_narrow available indicators)

read_available_narrow : (available : ℕ) (values : List ℤ) (indicators_len : ℕ) → Narrow (read_available_verdict available values indicators_len)
unfolding read_available_verdict
read_available_narrow available values indicators_len =
    or_else_narrow _ _ (read_narrow values indicators_len) (λ _. set_narrow available (indicators_in values))

pub packs : Packs
packs =
    record {
      map_narrow = map_narrow;
      read_narrow = read_narrow;
      map_available_narrow = map_available_narrow;
      read_available_narrow = read_available_narrow;
    }
