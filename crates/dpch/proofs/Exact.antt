-- The theorems of specs/Exact.antt.
-- Assumes nothing.
use mathlib.Core.Path.{◌≡◌, refl, sym, ap, ◌∙◌, subst}
use mathlib.Core.Bool.{Bool, true, false, cond, ◌&&◌, ◌||◌}
use mathlib.Core.List.{List, [], ◌∷◌, map}
use Prim.Native.Nat.{ℕ, ◌+◌, ◌-◌, ◌*◌, ◌/◌, ◌^◌, ◌≤◌, ◌<◌}
use native.Mathlib.Nat.{not-suc-le-zero}
use native.Mathlib.Omega.{arith}
use borrow.Author.Tests.{eqb-true, leb-true, ltb-true, ltb-false, le-leb, ne_eqb}
use lib.Dec.{leb, ltb, eqb, lit<}
use lib.ListN.{length, get_or, take, drop, replicate, length-append, get_or-eq_default}
use lib.Seq.{take_all}
use Rattle.run.specs.First.{first_bad, Every}
use Rattle.run.specs.Fields.{total, cut, joined, field, start}
use Rattle.run.specs.Table.{tab}
use Rattle.run.proofs.Bools.{and_left, and_right, either}
use Rattle.run.proofs.Each.{Each, each_take, each_drop, each_append}
use Rattle.run.proofs.Fields.{field_is, field_length}
use Rattle.run.proofs.First.{every_by}
use Rattle.run.proofs.Stretch.{each_field}
use Rattle.run.proofs.Table.{by_table, table_test, all_of}
use Rattle.dpch.specs.declared.Format.{Format}
use Rattle.dpch.specs.declared.Dpcch.{Dpcch}
use Rattle.dpch.specs.Formats.{kind_a, kind_b, no_row, formats, format_of, widths}
use Rattle.dpch.specs.Pilots.{bits_of, symbols1, symbols3, symbols5, symbols7, symbols_of, symbols_for, pilot_row, pilot_source, pilot_of}
use Rattle.dpch.specs.Compressed.{formats_a, formats_b, format_in, pairs_twice, pilot_for, source_for}
use Rattle.dpch.specs.SecondPilots.{table14, printed14, patterns14, second_pilot, second_source}
use Rattle.dpch.specs.Uplink.{dpdch_sizes, dpdch_size, dpcch_row, dpcch_formats, dpcch_format, dpcch_widths}
use Rattle.dpch.specs.UplinkPilots.{table3, table4, printed_row, patterns, dpcch_pilot, shadowed, word_bits, pinned_bit, pinned_pilot}
use Rattle.dpch.specs.Layouts.{Layout, Channel, downlink_dpch, uplink_dpdch, uplink_dpcch, layout_of}
use Rattle.dpch.specs.Exact.{FieldsFill, FormatSizes, FormatPilots, NormalFormats, KindSizes, as_a, as_b, Pinned, FieldsDoubled, FormatSecondPilots, PatternsBegin, DpdchSizes, DpdchShort, DpcchFormats, DpcchPilots, PilotsPinned}

-- a test of a format that holds for each row, and for the row of zeros, holds for every number
every_format : (ok : Format → Bool) → ok no_row ≡ true → all_of ok formats ≡ true → (n : ℕ) → ok (format_of n) ≡ true
unfolding format_of
every_format ok h t n = table_test ok _ h formats t n

-- .. and so on the uplink
every_dpcch : (ok : Dpcch → Bool) → ok (dpcch_row 0 0 0 0 0) ≡ true → all_of ok dpcch_formats ≡ true → (n : ℕ) → ok (dpcch_format n) ≡ true
unfolding dpcch_format
every_dpcch ok h t n = table_test ok _ h dpcch_formats t n

-- .. and so for every row of every kind
every_row : (ok : Format → Bool) → ok no_row ≡ true → all_of ok formats ≡ true → all_of ok formats_a ≡ true → all_of ok formats_b ≡ true
    → (kind n : ℕ) → ok (format_in kind n) ≡ true
unfolding format_in
every_row ok none rows rowsA rowsB kind n =
    either_row (eqb kind 0) (every_format ok none rows n)
    (either_row (eqb kind 1) (table_test ok _ none formats_a rowsA n)
    (either_row (eqb kind 2) (table_test ok _ none formats_b rowsB n) none))
  where
    either_row : (b : Bool) {f g : Format} → ok f ≡ true → ok g ≡ true → ok (cond b f g) ≡ true
    either_row true p q = p
    either_row false p q = q

-- one test for all tables
full : Layout → Bool
full l = eqb (total l.fields) l.slot

every_full : (channel : Channel) (n : ℕ) → full (layout_of channel n) ≡ true
unfolding full formats formats_a formats_b dpdch_size dpdch_sizes dpcch_formats total
every_full (downlink_dpch kind) n = every_row (λ (f : Format). full (record { fields = widths f; slot = f.slot })) refl refl refl refl kind n
every_full uplink_dpdch n = table_test (λ (size : ℕ). full (record { fields = size ∷ []; slot = size })) 0 refl dpdch_sizes refl n
every_full uplink_dpcch n = every_dpcch (λ (f : Dpcch). full (record { fields = dpcch_widths f; slot = f.slot })) refl refl n

pub fields_fill : FieldsFill
unfolding full
fields_fill channel n = eqb-true _ _ (every_full channel n)

-- .. of the normal formats by their number
pub normal_fill : (format : ℕ) → total (widths (format_of format)) ≡ (format_of format).slot
unfolding format_in
normal_fill format = fields_fill (downlink_dpch 0) format

tpc_some : Every (λ (n : ℕ). ltb 0 (format_of n).tpc) 17
unfolding formats format_of first_bad
tpc_some = every_by _ 17 refl

pub format_sizes : FormatSizes
unfolding formats
format_sizes n =
    record {
      short = leb-true _ _ (every_format (λ (f : Format). leb f.slot 1280) refl refl n);
      has_tpc = λ h. ltb-true _ _ (tpc_some n h);
    }

-- the bits that a pilot of a kind can have
bits_of_kind : ℕ → ℕ → Bool
bits_of_kind kind bits =
    cond (eqb kind 2) (eqb bits 4 || eqb bits 8 || eqb bits 16 || eqb bits 32) (eqb bits 0 || eqb bits 2 || eqb bits 4 || eqb bits 8 || eqb bits 16)

-- what holds for patterns of 0, 2, 4, 8 and 16 bits of other kinds, and for those of 4, 8, 16 and 32 bits of B, holds for the pilot of every row
pub at_rows : (P : ℕ → ℕ → Type 0) → ((kind : ℕ) → eqb kind 2 ≡ false → P kind 0 × P kind 2 × P kind 4 × P kind 8 × P kind 16) → P 2 4 → P 2 8 → P 2 16 → P 2 32
    → (kind format : ℕ) → P (format_in kind format).kind (format_in kind format).pilot
unfolding formats formats_a formats_b bits_of_kind
at_rows P plain b4 b8 b16 b32 kind format =
    by_kind (format_in kind format).kind (format_in kind format).pilot (eqb (format_in kind format).kind 2) refl
    (every_row (λ (f : Format). bits_of_kind f.kind f.pilot) refl refl refl refl kind format)
  where
    by_kind : (k n : ℕ) (b : Bool) → eqb k 2 ≡ b
        → cond (eqb k 2) (eqb n 4 || eqb n 8 || eqb n 16 || eqb n 32) (eqb n 0 || eqb n 2 || eqb n 4 || eqb n 8 || eqb n 16) ≡ true → P k n
    by_kind k n true e t =
        rw (eqb-true k 2 e)
        (either _ (eqb n 32) (rw e at t)
        (λ t. either _ (eqb n 16) t
        (λ t. either (eqb n 4) (eqb n 8) t (λ h. rw (eqb-true n 4 h) b4) (λ h. rw (eqb-true n 8 h) b8))
        (λ h. rw (eqb-true n 16 h) b16))
        (λ h. rw (eqb-true n 32 h) b32))
    by_kind k n false e t =
        either _ (eqb n 16) (rw e at t)
        (λ t. either _ (eqb n 8) t
        (λ t. either _ (eqb n 4) t
        (λ t. either (eqb n 0) (eqb n 2) t (λ h. rw (eqb-true n 0 h) (plain k e).0) (λ h. rw (eqb-true n 2 h) (plain k e).1))
        (λ h. rw (eqb-true n 4 h) (plain k e).2))
        (λ h. rw (eqb-true n 8 h) (plain k e).3))
        (λ h. rw (eqb-true n 16 h) (plain k e).4)

-- the digits of a pattern, in all fifteen slots
abbrev all_bits : (ℕ → List ℕ) → Type 0
all_bits pattern = Every (λ (slot : ℕ). all_of (λ (x : ℕ). leb x 1) (pattern slot)) 15

pilot_bits : (kind format : ℕ) → all_bits (pilot_for (format_in kind format).kind (format_in kind format).pilot)
unfolding pilot_for pairs_twice pilot_of symbols_for symbols_of symbols1 symbols3 symbols5 symbols7 joined first_bad
pilot_bits =
    at_rows (λ (k n : ℕ). all_bits (pilot_for k n))
    (λ k e. rw e (every_by _ 15 refl, every_by _ 15 refl, every_by _ 15 refl, every_by _ 15 refl, every_by _ 15 refl))
    (every_by _ 15 refl) (every_by _ 15 refl) (every_by _ 15 refl) (every_by _ 15 refl)

pub format_pilots : FormatPilots
unfolding pilot_for source_for pairs_twice pilot_of pilot_source pilot_row symbols_for symbols_of joined
format_pilots kind format slot =
    record {
      cut_from = at_rows (λ (k n : ℕ). pilot_for k n slot ≡ take n (source_for k n slot)) (λ k e. rw e (refl, refl, refl, refl, refl)) refl refl refl refl kind format;
      enough = at_rows (λ (k n : ℕ). n ≤ length (source_for k n slot)) (λ k e. rw e (omega arith, omega arith, omega arith, omega arith, omega arith))
          (omega arith) (omega arith) (omega arith) (omega arith) kind format;
      long = at_rows (λ (k n : ℕ). length (pilot_for k n slot) ≡ n) (λ k e. rw e (refl, refl, refl, refl, refl)) refl refl refl refl kind format;
      digits = λ h k.
          leb-true _ _
          (table_test (λ (x : ℕ). leb x 1) 0 refl (pilot_for (format_in kind format).kind (format_in kind format).pilot slot) (pilot_bits kind format slot h) k);
    }

normal_kind : (format : ℕ) → (format_of format).kind ≡ 0
unfolding formats
normal_kind format = eqb-true _ _ (every_format (λ (f : Format). eqb f.kind 0) refl refl format)

fifteen : Every (λ (n : ℕ). eqb (format_of n).fewest 15 && eqb (format_of n).most 15) 17
unfolding formats format_of first_bad
fifteen = every_by _ 17 refl

pub normal_formats : NormalFormats
unfolding pilot_for
normal_formats format =
    record {
      is_normal = normal_kind format;
      pilot_is = λ slot. rw (normal_kind format);
      all_slots = λ h. (eqb-true _ _ (and_left _ _ (fifteen format h)), eqb-true _ _ (and_right (eqb (format_of format).fewest 15) _ (fifteen format h)));
    }

-- ---- compressed frames

-- what is asked of a row that is there
row_test : Format → Bool
row_test f = leb f.slot 1280 && (eqb f.kind 0 || (ltb 0 f.tpc && (eqb f.fewest 8 && eqb f.most 14)))

pub kind_sizes : KindSizes
unfolding formats formats_a formats_b row_test
kind_sizes kind format =
    record {
      short = leb-true _ _ (and_left _ _ test);
      has_tpc = λ h. ltb-true _ _ (and_left _ _ (there h));
      eight = λ h. eqb-true _ _ (and_left _ _ (and_right (ltb 0 (format_in kind format).tpc) _ (there h)));
      fourteen = λ h. eqb-true _ _ (and_right (eqb (format_in kind format).fewest 8) _ (and_right (ltb 0 (format_in kind format).tpc) _ (there h)));
    }
  where
    test : row_test (format_in kind format) ≡ true
    test = every_row row_test refl refl refl refl kind format

    there : 0 < (format_in kind format).kind → (ltb 0 (format_in kind format).tpc && (eqb (format_in kind format).fewest 8 && eqb (format_in kind format).most 14)) ≡ true
    there h =
        either (eqb (format_in kind format).kind 0) _ (and_right (leb (format_in kind format).slot 1280) _ test)
        (λ e. absurd (let z : (format_in kind format).kind ≡ 0 = eqb-true _ _ e in let y : ⊥ = omega arith in y))
        (λ e. e)

-- the printed rows of A, with none in the place of 1A, and of B, compared at once
rows_a : (format : ℕ) → format < 17 → format_in kind_a format ≡ cond (eqb format 1) no_row (as_a (format_of format))
unfolding format_in formats_a format_of formats tab
rows_a = by_table no_row 17 (format_in kind_a) (λ (n : ℕ). cond (eqb n 1) no_row (as_a (format_of n))) refl

rows_b : (format : ℕ) → format < 16 → format_in kind_b format ≡ as_b (format_of format)
unfolding format_in formats_b format_of formats tab
rows_b = by_table no_row 16 (format_in kind_b) (λ (n : ℕ). as_b (format_of n)) refl

pub pinned : Pinned
unfolding formats formats_a formats_b format_in format_of
pinned =
    record {
      a_is = λ format h other. rows_a format (omega arith) ∙ rw (ne_eqb format 1 other);
      gives_up = λ format. leb-true _ _ (every_format (λ (f : Format). leb f.tfci f.data2) refl refl format);
      b_is = λ format h. rows_b format (omega arith);
      no_1_a = refl;
      no_16_b = refl;
      no_number = λ kind format h. no_number kind format (omega arith);
      no_kind = λ kind format h.
          rw (ne_eqb kind 0 (λ e. let z : ⊥ = omega arith in z), ne_eqb kind 1 (λ e. let z : ⊥ = omega arith in z), ne_eqb kind 2 (λ e. let z : ⊥ = omega arith in z));
    }
  where
    same : (b : Bool) {f g : Format} → f ≡ no_row → g ≡ no_row → cond b f g ≡ no_row
    same true p q = p
    same false p q = q

    no_number : (kind format : ℕ) → 17 ≤ format → format_in kind format ≡ no_row
    no_number kind format h =
        let past : 16 ≤ format = omega arith in
        same (eqb kind 0) (get_or-eq_default formats _ h)
        (same (eqb kind 1) (get_or-eq_default formats_a _ h) (same (eqb kind 2) (get_or-eq_default formats_b _ past) refl))

-- the TPC bits of the rows of B
tpc_widths : Every (λ (n : ℕ). eqb (format_of n).tpc 2 || eqb (format_of n).tpc 4 || eqb (format_of n).tpc 8) 16
unfolding formats format_of first_bad
tpc_widths = every_by _ 16 refl

pub fields_doubled : FieldsDoubled
unfolding pilot_for pairs_twice
fields_doubled format h =
    record {
      tpc_twice = λ tpc. ap (λ (f : Format). replicate f.tpc tpc) (rows_b format (omega arith)) ∙ twice tpc (format_of format).tpc (tpc_widths format (omega arith));
      pilot_twice = λ slot.
          ap (λ (f : Format). pairs_twice (pilot_of (f.pilot / 2) slot)) (rows_b format (omega arith))
          ∙ ap (λ (n : ℕ). pairs_twice (pilot_of n slot)) (omega arith);
    }
  where
    twice : (tpc n : ℕ) → (eqb n 2 || eqb n 4 || eqb n 8) ≡ true → replicate (2 * n) tpc ≡ pairs_twice (replicate n tpc)
    twice tpc n e =
        either _ (eqb n 8) e
        (λ e. either (eqb n 2) (eqb n 4) e (λ h. rw (eqb-true n 2 h)) (λ h. rw (eqb-true n 4 h)))
        (λ h. rw (eqb-true n 8 h))

-- ---- antenna 2

-- what holds for patterns of 0, 2, 4, 8 and 16 bits holds for the pilot of every normal format
at_each : (P : ℕ → Type 0) → P 0 → P 2 → P 4 → P 8 → P 16 → (format : ℕ) → P (format_of format).pilot
unfolding format_in
at_each P p0 p2 p4 p8 p16 format =
    at_rows (λ (k n : ℕ). k < 2 → P n) (λ k e. ((λ _. p0), (λ _. p2), (λ _. p4), (λ _. p8), (λ _. p16))) not_b not_b not_b not_b
    0 format (rw (normal_kind format) (lit< tt))
  where
    not_b : {n : ℕ} → 2 < 2 → P n
    not_b h = let z : ⊥ = omega arith in absurd z

abbrev bit : ℕ → Bool
bit x = leb x 1

-- a row has so many digits, and all are bits
is_row : ℕ → List ℕ → Bool
is_row n row = eqb (length row) n && all_of bit row

row_long : (n : ℕ) (row : List ℕ) → is_row n row ≡ true → length row ≡ n
unfolding is_row
row_long n row e = eqb-true _ _ (and_left _ _ e)

row_bits : (n : ℕ) (row : List ℕ) → is_row n row ≡ true → Each bit row
unfolding is_row
row_bits n row e k h = table_test bit 0 refl row (and_right (eqb (length row) n) _ e) k

printed_row_lem : (slot : ℕ) → is_row 30 (printed14 slot) ≡ true
unfolding table14 printed14 joined is_row
printed_row_lem slot = table_test (λ (row : List ℕ). is_row 30 (joined (map bits_of row))) (replicate 15 0) refl table14 refl slot

-- a part of the row
second_long : (slot k : ℕ) → k < 4 → length (field k patterns14 (printed14 slot)) ≡ get_or patterns14 k 0
unfolding total
second_long slot k h = let n = row_long 30 _ (printed_row_lem slot) in field_length k patterns14 (printed14 slot) h (omega arith)

second_bits : (slot k : ℕ) → k < 4 → Each bit (field k patterns14 (printed14 slot))
second_bits slot k h = each_field bit k patterns14 (printed14 slot) h (row_bits 30 _ (printed_row_lem slot))

-- a slot of the table, or one past it
by_slot : (slot : ℕ) {X : Type 0} → (slot < 15 → X) → (15 ≤ slot → X) → X
by_slot slot {X} f g = side (ltb slot 15) refl
  where
    side : (b : Bool) → ltb slot 15 ≡ b → X
    side true e = f (ltb-true _ _ e)
    side false e = g (ltb-false _ _ e)

pub patterns_begin : PatternsBegin
unfolding tab table14 printed14 second_pilot field cut joined
patterns_begin slot =
    by_slot slot
    (λ h.
    record {
      eight = by_table [] 15 (second_pilot 8) (λ (k : ℕ). take 8 (second_pilot 16 k)) refl slot h;
      two = by_table [] 15 (second_pilot 2) (λ (k : ℕ). take 2 (second_pilot 4 k)) refl slot h;
    })
    (λ h. let past = get_or-eq_default table14 (replicate 15 0) h in record { eight = rw past; two = rw past })

pub format_second_pilots : FormatSecondPilots
unfolding second_pilot second_source
format_second_pilots format slot =
    record {
      cut_from = at_each (λ (n : ℕ). second_pilot n slot ≡ take n (second_source n slot)) refl (patterns_begin slot).two
          (sym (take_all 4 _ (let n = second_long slot 1 (lit< tt) in omega arith))) (patterns_begin slot).eight
          (sym (take_all 16 _ (let n = second_long slot 3 (lit< tt) in omega arith))) format;
      enough = at_each (λ (n : ℕ). n ≤ length (second_source n slot)) (omega arith) (let n = second_long slot 1 (lit< tt) in omega arith)
          (let n = second_long slot 1 (lit< tt) in omega arith) (let n = second_long slot 3 (lit< tt) in omega arith)
          (let n = second_long slot 3 (lit< tt) in omega arith) format;
      long = at_each (λ (n : ℕ). length (second_pilot n slot) ≡ n) refl (second_long slot 0 (lit< tt)) (second_long slot 1 (lit< tt)) (second_long slot 2 (lit< tt)) (second_long slot 3 (lit< tt)) format;
      digits = at_each (λ (n : ℕ). Each bit (second_pilot n slot)) (λ k h. absurd (not-suc-le-zero h)) (second_bits slot 0 (lit< tt)) (second_bits slot 1 (lit< tt)) (second_bits slot 2 (lit< tt)) (second_bits slot 3 (lit< tt)) format;
    }

-- ---- the uplink

sizes_double : Every (λ (n : ℕ). eqb (dpdch_size n) (10 * 2 ^ n)) 7
unfolding dpdch_size dpdch_sizes first_bad
sizes_double = every_by _ 7 refl

pub dpdch_sizes_lem : DpdchSizes
dpdch_sizes_lem format h = eqb-true _ _ (sizes_double format (omega arith))

pub dpdch_short : DpdchShort
unfolding dpdch_size dpdch_sizes
dpdch_short n = leb-true _ _ (table_test (λ (size : ℕ). leb size 640) 0 refl dpdch_sizes refl n)

ten_and_two : Every (λ (n : ℕ). eqb (dpcch_format n).slot 10 && eqb (dpcch_format n).tpc 2) 4
unfolding dpcch_format dpcch_formats first_bad
ten_and_two = every_by _ 4 refl

pub dpcch_formats_lem : DpcchFormats
unfolding dpcch_formats
dpcch_formats_lem n =
    record {
      short = leb-true _ _ (every_dpcch (λ (f : Dpcch). leb f.slot 10) refl refl n);
      ten = λ h. eqb-true _ _ (and_left _ _ (ten_and_two n (omega arith)));
      two_tpc = λ h. eqb-true _ _ (and_right (eqb (dpcch_format n).slot 10) _ (ten_and_two n (omega arith)));
    }

-- all six patterns of all fifteen slots are compared at once
pub pilots_pinned : PilotsPinned
unfolding tab table3 table4 printed_row dpcch_pilot field cut symbols1 symbols3 word_bits shadowed pinned_bit pinned_pilot
pilots_pinned bits slot low high h =
    let j : bits - 3 < 6 = omega arith in
    let e : 3 + (bits - 3) ≡ bits = omega arith in
    subst (λ (n : ℕ). dpcch_pilot n slot ≡ pinned_pilot n slot) e
    (by_table [] 15 (dpcch_pilot (3 + (bits - 3))) (pinned_pilot (3 + (bits - 3)))
    (by_table [] 6 (λ (j : ℕ). tab 15 (dpcch_pilot (3 + j))) (λ (j : ℕ). tab 15 (pinned_pilot (3 + j))) refl (bits - 3) j) slot h)

row3 : (slot : ℕ) → is_row 18 (get_or table3 slot (replicate 18 0)) ≡ true
unfolding table3 is_row
row3 slot = table_test (is_row 18) (replicate 18 0) refl table3 refl slot

row4 : (slot : ℕ) → is_row 15 (get_or table4 slot (replicate 15 0)) ≡ true
unfolding table4 is_row
row4 slot = table_test (is_row 15) (replicate 15 0) refl table4 refl slot

pub row4_long : (slot : ℕ) → length (get_or table4 slot (replicate 15 0)) ≡ 15
row4_long slot = row_long 15 _ (row4 slot)

printed_long : (slot : ℕ) → length (printed_row slot) ≡ 33
unfolding printed_row
printed_long slot =
    let p = row_long 18 _ (row3 slot) in
    let q = row4_long slot in
    length-append (get_or table3 slot (replicate 18 0)) (get_or table4 slot (replicate 15 0)) ∙ omega arith

printed_bits : (slot : ℕ) → Each bit (printed_row slot)
unfolding printed_row
printed_bits slot =
    each_append bit (get_or table3 slot (replicate 18 0)) (get_or table4 slot (replicate 15 0)) (row_bits 18 _ (row3 slot)) (row_bits 15 _ (row4 slot))

-- pattern j has 3 + j columns
columns : Every (λ (j : ℕ). eqb (get_or patterns j 0) (3 + j)) 6
unfolding first_bad
columns = every_by _ 6 refl

-- a pattern of so many bits
module _ (bits slot : ℕ) (low : 3 ≤ bits) (high : bits ≤ 8) where
  as_field : dpcch_pilot bits slot ≡ field (bits - 3) patterns (printed_row slot)
  unfolding dpcch_pilot
  as_field = rw (le-leb 3 bits low)

  pattern_long : length (dpcch_pilot bits slot) ≡ bits
  unfolding total
  pattern_long =
      let n = printed_long slot in
      let w : get_or patterns (bits - 3) 0 ≡ 3 + (bits - 3) = eqb-true _ _ (columns (bits - 3) (omega arith)) in
      ap length as_field ∙ field_length (bits - 3) patterns (printed_row slot) (omega arith) (omega arith) ∙ omega arith

  pattern_bits : Each bit (dpcch_pilot bits slot)
  pattern_bits =
      subst (λ (s : List ℕ). Each bit s) (sym (as_field ∙ field_is (bits - 3) patterns (printed_row slot) (omega arith)))
      (each_take bit (get_or patterns (bits - 3) 0) (drop (start (bits - 3) patterns) (printed_row slot)) (each_drop bit (start (bits - 3) patterns) (printed_row slot) (printed_bits slot)))

-- what holds for no bits and for patterns of 3 to 8 bits holds for the pilot of every DPCCH format
at_pilots : (P : ℕ → Type 0) → P 0 → ((bits : ℕ) → 3 ≤ bits → bits ≤ 8 → P bits) → (format : ℕ) → P (dpcch_format format).pilot
unfolding dpcch_formats
at_pilots P none some format =
    either (eqb (dpcch_format format).pilot 0) _ (every_dpcch (λ (f : Dpcch). eqb f.pilot 0 || (leb 3 f.pilot && leb f.pilot 8)) refl refl format)
    (λ h. rw (eqb-true (dpcch_format format).pilot 0 h) none)
    (λ h. some _ (leb-true _ _ (and_left _ _ h)) (leb-true _ _ (and_right (leb 3 (dpcch_format format).pilot) _ h)))

pub dpcch_pilots : DpcchPilots
unfolding dpcch_pilot
dpcch_pilots format slot =
    record {
      long = at_pilots (λ (n : ℕ). length (dpcch_pilot n slot) ≡ n) refl (λ bits low high. pattern_long bits slot low high) format;
      digits = at_pilots (λ (n : ℕ). Each bit (dpcch_pilot n slot)) (λ k h. absurd (not-suc-le-zero h)) (λ bits low high. pattern_bits bits slot low high) format;
    }
