-- The theorems of specs/Exact.antt.
-- Assumes nothing.
use mathlib.Core.Path.{◌≡◌, refl, sym, ◌∙◌, subst}
use mathlib.Core.List.{List, [], ◌∷◌}
use Prim.Native.Nat.{ℕ}
use native.Mathlib.Omega.{arith}
use lib.ListN.{length, get_or}
use Rattle.run.specs.Pairs.{Reads, PairRead}
use Rattle.run.specs.Table.{tab}
use Rattle.run.specs.Verdicts.{done}
use Rattle.run.proofs.Chain.{one_outcome, number_0}
use Rattle.run.proofs.First.{no_diff, diff_none}
use Rattle.run.proofs.Pairs.{pairs_exact}
use Rattle.run.proofs.Table.{tab_is}
use Rattle.sttd.specs.Rule.{bar_digit}
use Rattle.sttd.proofs.Bars.{bar_twice}
use Rattle.sttd.proofs.Blocks.{any_blocks}
use Rattle.sttd.proofs.Exact.{rule_laws}
use Rattle.hspdsch.specs.Rule.{slot_sizes, size, Pick, plain, bar, pick, picked, figure8_a, eights, coded, second_of}
use Rattle.hspdsch.specs.Outcome.{read_verdict}
use Rattle.hspdsch.specs.Exact.{TakenBoth, as_it_is, ReadExact, Sizes, ByEights, ByFours, SecondTells, MapOnce, ReadOnce, Packs}
use Rattle.hspdsch.proofs.Laws.{eight_long, by_format, size_whole, second_length, second_bits, eight_placed, four_placed}
use Rattle.hspdsch.proofs.Checks.{Taken, taken, taken_pass, map_narrow, Accepted, accepted, accepted_pass, read_narrow}

-- ---- the law of pairs, at antenna 1 as the data and antenna 2 as what it gives
module _ (format : ℕ) where
  -- a stream of antenna 1 is read where it is taken as data
  first_reads : Reads (TakenBoth format) as_it_is (TakenBoth format) as_it_is
  first_reads =
      record {
        exactly = λ s. (
          λ a. record { fields = s; taken = a; gives = refl },
          λ g. subst (TakenBoth format) g.gives g.taken,
        );
        back = λ d e. refl;
      }

  mapped : (d : List ℕ) → Taken format d (size format) (size format) → Accepted format d (second_of format d) (size format)
  mapped d t =
      let n = second_length format t.format_ok d t.long in
      let w = size_whole format t.format_ok in
      let long = t.long in
      record {
        head = record { format_ok = t.format_ok; first_ok = t.long; second_ok = n; data_ok = refl };
        bits1 = t.bits;
        bits2 = second_bits d (omega arith) t.bits format;
        agrees = diff_none (second_of format d) (second_of format d) _ refl;
      }

  module _ (antenna1 antenna2 : List ℕ) where
    pair : PairRead (TakenBoth format) as_it_is (second_of format) (TakenBoth format) as_it_is (second_of format) antenna1 antenna2
    pair = pairs_exact (List ℕ) (List ℕ) (TakenBoth format) as_it_is (second_of format) (TakenBoth format) as_it_is (second_of format) first_reads (λ d e. refl) antenna1 antenna2

    apart : read_verdict format antenna1 antenna2 (size format) ≡ done → TakenBoth format antenna1 × (second_of format antenna1 ≡ antenna2)
    apart e =
        let a = accepted format antenna1 antenna2 (size format) (number_0 e) in
        let h = a.head in
        let n = second_length format h.format_ok antenna1 h.first_ok in
        let m = h.second_ok in (
          taken_pass format antenna1 (size format) (size format) (record { format_ok = h.format_ok; long = h.first_ok; first_ok = refl; second_ok = refl; bits = a.bits1 }),
          no_diff (second_of format antenna1) antenna2 (n ∙ sym m) (λ k l. a.agrees k (omega arith)),
        )

    together : TakenBoth format antenna1 × (second_of format antenna1 ≡ antenna2) → read_verdict format antenna1 antenna2 (size format) ≡ done
    together p =
        subst (λ (t : List ℕ). read_verdict format antenna1 t (size format) ≡ done) p.1
        (accepted_pass format antenna1 (second_of format antenna1) (size format) (mapped antenna1 (taken format antenna1 (size format) (size format) (number_0 p.0))))

pub read_exact : ReadExact
read_exact format antenna1 antenna2 =
    let p = pair format antenna1 antenna2 in
    record {
      accepts = (λ e. p.exactly.0 (apart format antenna1 antenna2 e), λ g. together format antenna1 antenna2 (p.exactly.1 g));
      hands_back = p.hands_back;
      one_set = p.one_set;
    }

-- ---- sizes and places

pub sizes : Sizes
unfolding size slot_sizes
sizes = record { qpsk = refl; qam = refl; second_long = second_length }

pub by_eights : ByEights
unfolding coded
by_eights d long k h = eight_placed d (omega arith) k (omega arith)

pub by_fours : ByFours
unfolding coded
by_fours = four_placed

-- ---- antenna 2 read back, block by block

figure_back : List Pick
figure_back = plain 4 ∷ bar 5 ∷ plain 6 ∷ plain 7 ∷ bar 0 ∷ plain 1 ∷ plain 2 ∷ plain 3 ∷ []

undone : (b : List ℕ) → length b ≡ 8 → picked bar_digit figure_back (picked bar_digit figure8_a b) ≡ b
unfolding picked pick figure_back tab
undone b long = rw (bar_twice (get_or b 1 0), bar_twice (get_or b 4 0)) (sym (tab_is 0 b 8 (λ (k : ℕ). get_or b k 0) long (λ k h. refl)))

pub second_tells : SecondTells
unfolding coded eights size slot_sizes
second_tells =
    by_format (λ (f : ℕ). (d e : List ℕ) → length d ≡ size f → length e ≡ size f → second_of f d ≡ second_of f e → d ≡ e)
    (λ d e p q same. (rule_laws ℕ bar_digit).one_input bar_twice d e same)
    (λ d e p q same. (any_blocks ℕ 240 8 (picked bar_digit figure8_a) (eight_long bar_digit)).one_input (picked bar_digit figure_back) undone d e p q (rw (p, q) at same))

pub map_once : MapOnce
map_once format d antenna1 antenna2 a b x1 x2 y1 y2 p r =
    (one_outcome p.verdict_is r.verdict_is, one_outcome p.antenna1_is r.antenna1_is, one_outcome p.antenna2_is r.antenna2_is)

pub read_once : ReadOnce
read_once format antenna1 antenna2 d a b x y p r = (one_outcome p.verdict_is r.verdict_is, one_outcome p.data_is r.data_is)

pub packs : Packs
packs = record { map_narrow = map_narrow; read_narrow = read_narrow }
