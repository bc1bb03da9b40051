-- The theorems of specs/Exact.antt.
-- Assumes nothing.
use mathlib.Core.Path.{◌≡◌, refl, sym, ap, ◌∙◌, subst}
use mathlib.Core.Bool.{Bool, true, false, ◌&&◌}
use mathlib.Core.List.{List, [], ◌∷◌, ◌++◌}
use Prim.Native.Nat.{ℕ, ◌+◌, ◌-◌, ◌*◌, ◌≤◌, ◌<◌}
use native.Mathlib.Nat.{zero-add}
use native.Mathlib.Omega.{arith}
use borrow.Author.Tests.{eqb-true}
use lib.Dec.{eqb, lit<}
use lib.ListN.{length, get_or, drop}
use lib.Seq.{get_or-take, get_or-drop}
use Rattle.run.specs.First.{first_bad, Every}
use Rattle.run.specs.Fields.{cut, field, joined, start, total}
use Rattle.run.specs.Pairs.{Reads, PairRead}
use Rattle.run.specs.Table.{tab}
use Rattle.run.specs.Verdicts.{done, leaves, Narrow}
use Rattle.run.proofs.Bools.{and_left, and_right}
use Rattle.run.proofs.Chain.{or_else_pass, or_else_narrow, check_narrow, each_narrow, lengths_done, lengths_narrow, four_done, leaves_small, one_outcome, number_0}
use Rattle.run.proofs.First.{no_diff, every_by}
use Rattle.run.proofs.Pairs.{pairs_exact}
use Rattle.run.proofs.Table.{by_table}
use Rattle.dpch.specs.Formats.{formats, format_of}
use Rattle.dpch.specs.Pilots.{symbols1, symbols3, symbols5, symbols7, symbols_of, symbols_for, pilot_of}
use Rattle.dpch.specs.SecondPilots.{table14, printed14, second_pilot}
use Rattle.dpch.proofs.Heads.{slot_head_narrow}
use Rattle.slot.specs.Rule.{data_size, slot_of, command_in}
use Rattle.slot.specs.Outcome as base
use Rattle.slot.specs.Exact as base-exact
use Rattle.slot.proofs.Laws.{sound_format, normal_row, sum, slot_length, data_small, tfci_small}
use Rattle.slot.proofs.Accept as base-accept
use Rattle.slot.proofs.Exact as base-proofs
use Rattle.slot.proofs.Rows.{command_bit, digits_narrow}
use Rattle.sttd.specs.Rule.{sttd, bar_digit, digit_value}
use Rattle.sttd.proofs.Laws.{block}
use Rattle.sttd.proofs.Antenna2.{both_bars, zero_product}
use Rattle.antenna.specs.Rule.{pilot_start, second_of, sent_of, coded_from, coded_to, coded}
use Rattle.antenna.specs.Outcome.{map_head, map_verdict, read_head, read_body, read_verdict}
use Rattle.antenna.specs.Exact.{AntennaOne, Fields, Taken, sent, fields_in, ReadExact, WholeBlocks, Block, SecondPlaced, TwoBitPilots, Orthogonal, symbol_at, SecondPinned, MapOnce, ReadOnce, Packs}
use Rattle.antenna.proofs.Laws.{blocks, behind, start_coded, start_behind, coded_long, second_length, second_at, second_coded}
use Rattle.antenna.proofs.Checks.{map_in_range, first_mapped, mapped_first, headed, head_pass, body_given, accepted}

pub antenna_one : AntennaOne
unfolding sent_of
antenna_one format slot tpc d tfci out =
    record {
      same_verdict = map_in_range format slot 0 tpc d tfci (length out) (omega arith);
      same_slot = refl;
      same_promise = λ answer after. (λ p. mapped_first format slot tpc d tfci out p, λ p. first_mapped format slot tpc d tfci out p);
    }

-- ---- the base's reader reads the first stream
module _ (format slot : ℕ) (format_ok : format ≤ 16) (slot_ok : slot ≤ 14) where
  abbrev Reading : List ℕ → Type 0
  Reading s = base.read_verdict format slot s (data_size (format_of format)) (format_of format).tfci ≡ done

  base_taken : (x : Fields) → Taken format slot x → base.map_verdict format slot x.tpc x.d x.tfci (format_of format).slot ≡ done
  base_taken x t = sym (map_in_range format slot 0 x.tpc x.d x.tfci (format_of format).slot (omega arith)) ∙ t 0 (omega arith)

  new_taken : (x : Fields) → base.map_verdict format slot x.tpc x.d x.tfci (format_of format).slot ≡ done → Taken format slot x
  new_taken x e antenna h = map_in_range format slot antenna x.tpc x.d x.tfci (format_of format).slot h ∙ e

  base_fields : (x : Fields) (s : List ℕ) → Taken format slot x → sent format slot 0 x ≡ s → base-exact.Fields format slot s
  unfolding sent_of
  base_fields x s t e = record { tpc = x.tpc; d = x.d; tfci = x.tfci; gives = record { taken = base_taken x t; written = e } }

  slot_long : (x : Fields) (s : List ℕ) → Taken format slot x → sent format slot 0 x ≡ s → length s ≡ (format_of format).slot
  unfolding sent_of
  slot_long x s t e =
      let r = (base-accept.mapped format slot x.tpc x.d x.tfci (format_of format).slot (number_0 (base_taken x t))).head.ready in
      ap length (sym e) ∙ slot_length (format_of format) (sound_format format) slot x.tpc x.d x.tfci r.data_ok r.tfci_ok

  first_reads : Reads (Taken format slot) (sent format slot 0) Reading (fields_in format)
  unfolding sent_of
  first_reads =
      record {
        exactly = λ s. (
          λ a.
              let long = (base-accept.accepted format slot s _ _ (number_0 a)).head.ready.slot_ok in
              let x = (base-proofs.read_exact format slot s format_ok slot_ok long).accepts.0 a in
              record { fields = record { tpc = x.tpc; d = x.d; tfci = x.tfci }; taken = new_taken _ x.gives.taken; gives = x.gives.written },
          λ g. (base-proofs.read_exact format slot s format_ok slot_ok (slot_long g.fields s g.taken g.gives)).accepts.1 (base_fields g.fields s g.taken g.gives),
        );
        back = λ x t.
            let p = (base-proofs.read_exact format slot (sent format slot 0 x) format_ok slot_ok (slot_long x _ t refl)).hands_back (record { tpc = x.tpc; d = x.d; tfci = x.tfci; gives = record { taken = base_taken x t; written = refl } }) in
            λ i. record { tpc = p.0 i; d = p.1 i; tfci = p.2 i };
      }

  -- the pair is read where the base reads the first stream and the second is what it implies
  module _ (first second : List ℕ) (long : length first ≡ (format_of format).slot) (long2 : length second ≡ (format_of format).slot) where
    pair : PairRead (Taken format slot) (sent format slot 0) (sent format slot 1) Reading (fields_in format) (second_of format slot) first second
    unfolding sent_of
    pair = pairs_exact Fields (List ℕ) (Taken format slot) (sent format slot 0) (sent format slot 1) Reading (fields_in format) (second_of format slot) first_reads (λ x t. refl) first second

    apart : read_verdict format slot first second (data_size (format_of format)) (format_of format).tfci ≡ done → Reading first × (second_of format slot first ≡ second)
    unfolding base.read_verdict
    apart e =
        let a = accepted format slot first second _ _ (number_0 e) in
        let n = second_length format slot first long in (
          or_else_pass (base-accept.read_head_pass format slot _ _ _ format_ok slot_ok long refl refl) (base-accept.digits_pass (format_of format) slot first 0 a.body.digits),
          no_diff (second_of format slot first) second (n ∙ sym long2) (rw (sym n) at a.body.agrees),
        )

    together : Reading first × (second_of format slot first ≡ second) → read_verdict format slot first second (data_size (format_of format)) (format_of format).tfci ≡ done
    unfolding read_verdict
    together p =
        let k = (base-accept.accepted format slot first _ _ (number_0 p.0)).digits in
        or_else_pass
        (head_pass format slot _ _ _ _ (record { format_ok = format_ok; slot_ok = slot_ok; first_ok = long; second_ok = long2; data_ok = refl; tfci_ok = refl }))
        (body_given format slot first second k long p.1)

pub read_exact : ReadExact
read_exact format slot first second format_ok slot_ok long long2 =
    let p = pair format slot format_ok slot_ok first second long long2 in
    record {
      accepts = (
        λ e. p.exactly.0 (apart format slot format_ok slot_ok first second long long2 e),
        λ g. together format slot format_ok slot_ok first second long long2 (p.exactly.1 g),
      );
      hands_back = p.hands_back;
      one_set = p.one_set;
    }

-- ---- what is encoded: tests of the table's rows

rows_512 : Every (λ (n : ℕ). eqb (coded_from n) 2 && eqb (coded_to n) 6) 2
unfolding coded_from coded_to formats format_of start total first_bad
rows_512 = every_by _ 2 refl

rows_two : Every (λ (n : ℕ). eqb (coded_from (2 + n)) 0 && eqb (coded_to (2 + n)) (format_of (2 + n)).slot) 2
unfolding coded_from coded_to formats format_of start total first_bad
rows_two = every_by _ 2 refl

rows_others : Every (λ (n : ℕ). eqb (coded_from (4 + n)) 0 && eqb (coded_to (4 + n)) (pilot_start (4 + n))) 13
unfolding coded_from coded_to formats format_of start total first_bad
rows_others = every_by _ 13 refl

both_equal : (a b c d : ℕ) → (eqb a b && eqb c d) ≡ true → (a ≡ b) × (c ≡ d)
both_equal a b c d e = (eqb-true a b (and_left _ _ e), eqb-true c d (and_right (eqb a b) _ e))

pub whole_blocks : WholeBlocks
whole_blocks format h =
    let b = blocks format in
    record {
      ordered = b.ordered;
      in_slot = b.within;
      whole = b.whole;
      factor_512 = λ l. both_equal _ _ _ _ (rows_512 format l);
      two_bits = λ low high.
          let k : 2 + (format - 2) ≡ format = omega arith in
          subst (λ (n : ℕ). (coded_from n ≡ 0) × (coded_to n ≡ (format_of n).slot)) k (both_equal _ _ _ _ (rows_two (format - 2) (omega arith)));
      others = λ low.
          let k : 4 + (format - 4) ≡ format = omega arith in
          subst (λ (n : ℕ). (coded_from n ≡ 0) × (coded_to n ≡ pilot_start n)) k (both_equal _ _ _ _ (rows_others (format - 4) (omega arith)));
    }

-- ---- place by place
module _ (format slot : ℕ) (first : List ℕ) (long : length first ≡ (format_of format).slot) where
  -- place m of the encoded digits, on both antennas
  coded_at : (m : ℕ) → m < coded_to format - coded_from format → get_or (second_of format slot first) (coded_from format + m) 0 ≡ get_or (sttd bar_digit (coded format first)) m 0
  coded_at m h = ap (λ (n : ℕ). get_or (second_of format slot first) (n + m) 0) (sym (start_coded format)) ∙ second_at format slot first long 1 m (lit< tt) h

  old_at : (m : ℕ) → m < coded_to format - coded_from format → get_or (coded format first) m 0 ≡ get_or first (coded_from format + m) 0
  old_at m h = get_or-take (coded_to format - coded_from format) (drop (coded_from format) first) m 0 h ∙ get_or-drop (coded_from format) first m 0

  block_placed : (k : ℕ) → coded_from format + 4 * k + 4 ≤ coded_to format → Block first (second_of format slot first) (coded_from format + 4 * k)
  block_placed k h =
      let n = coded_long format slot first long in
      let b = block bar_digit (coded format first) 0 k (omega arith) in
      record {
        at_0 = coded_at (4 * k) (omega arith) ∙ b.first ∙ ap bar_digit (old_at (4 * k + 2) (omega arith) ∙ there 2);
        at_1 = back 1 ∙ coded_at (4 * k + 1) (omega arith) ∙ b.second ∙ old_at (4 * k + 3) (omega arith) ∙ there 3;
        at_2 = back 2 ∙ coded_at (4 * k + 2) (omega arith) ∙ b.third ∙ old_at (4 * k) (omega arith);
        at_3 = back 3 ∙ coded_at (4 * k + 3) (omega arith) ∙ b.fourth ∙ ap bar_digit (old_at (4 * k + 1) (omega arith) ∙ there 1);
      }
    where
      there : (j : ℕ) → get_or first (coded_from format + (4 * k + j)) 0 ≡ get_or first (coded_from format + 4 * k + j) 0
      there j = let e : coded_from format + (4 * k + j) ≡ coded_from format + 4 * k + j = omega arith in ap (λ (n : ℕ). get_or first n 0) e

      back : (j : ℕ) → get_or (second_of format slot first) (coded_from format + 4 * k + j) 0 ≡ get_or (second_of format slot first) (coded_from format + (4 * k + j)) 0
      back j = let e : coded_from format + 4 * k + j ≡ coded_from format + (4 * k + j) = omega arith in ap (λ (n : ℕ). get_or (second_of format slot first) n 0) e

  same_placed : (i : ℕ) → i < coded_from format → get_or (second_of format slot first) i 0 ≡ get_or first i 0
  unfolding start total
  same_placed i h =
      ap (λ (n : ℕ). get_or (second_of format slot first) n 0) (sym (zero-add i)) ∙ second_at format slot first long 0 i (lit< tt) h ∙ get_or-take (coded_from format) first i 0 h

  pilot_placed : (i : ℕ) → coded_to format + i < (format_of format).slot
      → get_or (second_of format slot first) (coded_to format + i) 0 ≡ get_or (second_pilot (format_of format).pilot slot) i 0
  unfolding coded_to
  pilot_placed i h =
      ap (λ (n : ℕ). get_or (second_of format slot first) (n + i) 0) (sym (start_behind format))
      ∙ second_at format slot first long 2 i (lit< tt) (omega arith)
      ∙ side (eqb (format_of format).pilot 2) refl
    where
      side : (b : Bool) → eqb (format_of format).pilot 2 ≡ b → get_or (behind format slot) i 0 ≡ get_or (second_pilot (format_of format).pilot slot) i 0
      side true e = absurd (let z : ⊥ = omega (arith, rw e at h) in z)
      side false e = rw e

pub second_placed : SecondPlaced
second_placed format slot first long =
    record {
      long = second_length format slot first long;
      same = same_placed format slot first long;
      blocks = block_placed format slot first long;
      pilot = pilot_placed format slot first long;
    }

pub orthogonal : Orthogonal
orthogonal format slot first long k h =
    let n = coded_long format slot first long in
    rw (second_coded format slot first long) (zero_product ℕ bar_digit digit_value both_bars.of_digits (coded format first) k (omega arith))

-- ---- table 14: all fifteen rows at once

-- what is printed for two bits
pair_printed : (slot : ℕ) → slot < 15 → bar_digit (get_or (pilot_of 2 slot) 0 0) ∷ get_or (pilot_of 2 slot) 1 0 ∷ [] ≡ second_pilot 2 slot
unfolding tab table14 printed14 second_pilot field cut joined symbols1 symbols3 symbols5 symbols7 symbols_of symbols_for pilot_of bar_digit
pair_printed slot h = by_table [] 15 (λ (s : ℕ). bar_digit (get_or (pilot_of 2 s) 0 0) ∷ get_or (pilot_of 2 s) 1 0 ∷ []) (second_pilot 2) refl slot h

pub second_pinned : SecondPinned
unfolding tab table14 printed14 second_pilot field cut joined symbols1 symbols3 symbols5 symbols7 symbols_of symbols_for pilot_of sttd bar_digit
second_pinned slot h =
    record {
      four = by_table [] 15 (second_pilot 4) (λ (s : ℕ). sttd bar_digit (pilot_of 4 s)) refl slot h;
      eight = record {
        encoded_1_3 = by_table [] 15 (λ (s : ℕ). symbol_at 1 (second_pilot 8 s) ++ symbol_at 3 (second_pilot 8 s)) (λ (s : ℕ). sttd bar_digit (symbol_at 1 (pilot_of 8 s) ++ symbol_at 3 (pilot_of 8 s))) refl slot h;
        symbol_0 = by_table [] 15 (λ (s : ℕ). symbol_at 0 (second_pilot 8 s)) (λ (s : ℕ). 1 ∷ 1 ∷ []) refl slot h;
        symbol_2 = by_table [] 15 (λ (s : ℕ). symbol_at 2 (second_pilot 8 s)) (λ (s : ℕ). 0 ∷ 0 ∷ []) refl slot h;
      };
      sixteen = record {
        front = record {
          encoded_1_3 = by_table [] 15 (λ (s : ℕ). symbol_at 1 (second_pilot 16 s) ++ symbol_at 3 (second_pilot 16 s)) (λ (s : ℕ). sttd bar_digit (symbol_at 1 (pilot_of 16 s) ++ symbol_at 3 (pilot_of 16 s))) refl slot h;
          symbol_0 = by_table [] 15 (λ (s : ℕ). symbol_at 0 (second_pilot 16 s)) (λ (s : ℕ). 1 ∷ 1 ∷ []) refl slot h;
          symbol_2 = by_table [] 15 (λ (s : ℕ). symbol_at 2 (second_pilot 16 s)) (λ (s : ℕ). 0 ∷ 0 ∷ []) refl slot h;
        };
        encoded_5_7 = by_table [] 15 (λ (s : ℕ). symbol_at 5 (second_pilot 16 s) ++ symbol_at 7 (second_pilot 16 s)) (λ (s : ℕ). sttd bar_digit (symbol_at 5 (pilot_of 16 s) ++ symbol_at 7 (pilot_of 16 s))) refl slot h;
        symbol_4 = by_table [] 15 (λ (s : ℕ). symbol_at 4 (second_pilot 16 s)) (λ (s : ℕ). 1 ∷ 1 ∷ []) refl slot h;
        symbol_6 = by_table [] 15 (λ (s : ℕ). symbol_at 6 (second_pilot 16 s)) (λ (s : ℕ). 0 ∷ 0 ∷ []) refl slot h;
      };
      two = λ a b.
          ap (λ (l : List ℕ). l ++ (a ∷ bar_digit b ∷ [])) (pair_printed slot h);
    }

-- ---- the two-bit pilots: formats 2 and 3 have twenty digits, of which the pilot is the last two
rows_small : Every (λ (n : ℕ). eqb (format_of (2 + n)).slot 20 && eqb (format_of (2 + n)).pilot 2) 2
unfolding formats format_of first_bad
rows_small = every_by _ 2 refl

pub two_bit_pilots : TwoBitPilots
unfolding sent_of
two_bit_pilots format slot tpc d tfci low high h e =
    let f = format_of format in
    let m = base-accept.mapped format slot tpc d tfci f.slot (number_0 (sym (map_in_range format slot 1 tpc d tfci f.slot (omega arith)) ∙ e)) in
    let r = m.head.ready in
    let s = base-proofs.slot_placed format slot tpc d tfci r.data_ok r.tfci_ok in
    let k : 2 + (format - 2) ≡ format = omega arith in
    let small = subst (λ (n : ℕ). ((format_of n).slot ≡ 20) × ((format_of n).pilot ≡ 2)) k (both_equal _ _ _ _ (rows_small (format - 2) (omega arith))) in
    let from = ((whole_blocks format (omega arith)).two_bits low high).0 in
    let to = ((whole_blocks format (omega arith)).two_bits low high).1 in
    let total_is = sum f (sound_format format) in
    let z = small.0 in
    let w = small.1 in
    let sixteen : coded_from format + 4 * 4 ≡ 16 = omega arith in
    let b = subst (λ (i : ℕ). Block (slot_of f slot tpc d tfci) (second_of format slot (slot_of f slot tpc d tfci)) i) sixteen
    (block_placed format slot (slot_of f slot tpc d tfci) s.long 4 (omega arith))
    in
    let p18 : 18 ≡ f.data1 + f.tpc + f.tfci + f.data2 + 0 = omega arith in
    let p19 : 19 ≡ f.data1 + f.tpc + f.tfci + f.data2 + 1 = omega arith in
    let q18 : get_or (slot_of f slot tpc d tfci) 18 0 ≡ get_or (pilot_of 2 slot) 0 0 =
    ap (λ (i : ℕ). get_or (slot_of f slot tpc d tfci) i 0) p18 ∙ s.pilot_at 0 (omega arith) ∙ ap (λ (n : ℕ). get_or (pilot_of n slot) 0 0) w
    in
    let q19 : get_or (slot_of f slot tpc d tfci) 19 0 ≡ get_or (pilot_of 2 slot) 1 0 =
    ap (λ (i : ℕ). get_or (slot_of f slot tpc d tfci) i 0) p19 ∙ s.pilot_at 1 (omega arith) ∙ ap (λ (n : ℕ). get_or (pilot_of n slot) 1 0) w
    in
    record {
      pilot_0 = b.at_0 ∙ ap bar_digit q18 ∙ ap (λ (l : List ℕ). get_or l 0 0) (pair_printed slot h);
      pilot_1 = b.at_1 ∙ q19 ∙ ap (λ (l : List ℕ). get_or l 1 0) (pair_printed slot h);
      data_0 = b.at_2;
      data_1 = b.at_3;
    }

-- ---- one outcome, and room for it

pub map_once : MapOnce
map_once format slot antenna tpc d tfci out a b x y p r = (one_outcome p.verdict_is r.verdict_is, one_outcome p.out_is r.out_is)

pub read_once : ReadOnce
read_once format slot first second d tfci a b x y s t p r = (
  λ i. record { verdict = one_outcome p.verdict_is r.verdict_is i; tpc = one_outcome p.command_is r.command_is i },
  one_outcome p.data_is r.data_is,
  one_outcome p.tfci_is r.tfci_is,
)

map_narrow : (format slot antenna tpc : ℕ) (d tfci : List ℕ) (out_length : ℕ) → Narrow (map_verdict format slot antenna tpc d tfci out_length)
unfolding map_verdict map_head
map_narrow format slot antenna tpc d tfci out_length =
    or_else_narrow _ _
    (check_narrow _ 1 0 _ (lit< tt) (lit< tt) (lit< tt)
    (λ _. check_narrow _ 2 0 _ (lit< tt) (lit< tt) (lit< tt)
    (λ _. check_narrow _ 11 0 _ (lit< tt) (lit< tt) (lit< tt)
    (λ _. lengths_narrow _ (lit< tt)))))
    (λ e.
    let right = lengths_done _ (four_done _ _ _ _ e).fourth in
    let p : length d ≡ data_size (format_of format) = eqb-true _ _ (right 0 (lit< tt)) in
    let q : length tfci ≡ (format_of format).tfci = eqb-true _ _ (right 1 (lit< tt)) in
    let n = data_small (format_of format) (sound_format format) in
    let t = tfci_small (format_of format) (sound_format format) in
    base-proofs.fields_narrow tpc d tfci 0 0 0 (lit< tt) (omega arith) (omega arith))

read_narrow : (format slot : ℕ) (first second : List ℕ) (data_length tfci_length : ℕ) → Narrow (read_verdict format slot first second data_length tfci_length)
unfolding read_verdict read_head read_body
read_narrow format slot first second data_length tfci_length =
    or_else_narrow _ _ (slot_head_narrow 16 format _ slot (lit< tt))
    (λ e.
    let p = headed format slot (length first) (length second) data_length tfci_length e in
    let a = p.first_ok in
    let b = p.second_ok in
    let short = (sound_format format).short in
    or_else_narrow _ _ (each_narrow 0 4 _ _ (lit< tt) (omega arith))
    (λ _. or_else_narrow _ _ (each_narrow _ 4 _ _ (lit< tt) (omega arith))
    (λ _. or_else_narrow _ _ (digits_narrow (format_of format) (sound_format format) slot first 0 a (omega arith))
    (λ _. each_narrow _ 9 _ _ (lit< tt) (omega arith)))))

pub command_fits : (format slot : ℕ) (first second : List ℕ) (data_length tfci_length : ℕ)
    → leaves (read_verdict format slot first second data_length tfci_length) (command_in (format_of format) first) 0 < 65536
command_fits format slot first second data_length tfci_length =
    leaves_small _ _ 65536
    (λ z.
    let a = accepted format slot first second data_length tfci_length z in
    let bit = command_bit (format_of format) (normal_row format a.head.format_ok) slot first a.body.digits a.head.first_ok in
    omega arith)
    (lit< tt)

pub packs : Packs
packs =
    record {
      map_narrow = map_narrow;
      read_narrow = read_narrow;
      command_small = λ format slot first second d tfci answer x t p. rw p.command_is (command_fits format slot first second (length d) (length tfci));
    }
