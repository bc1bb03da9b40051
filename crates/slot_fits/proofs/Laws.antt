-- What a look at a field of constant width says of the field's check, and what the looks together say of the verdict.
-- Assumes nothing.
use mathlib.Core.Path.{◌≡◌, refl, sym, ap, ◌∙◌}
use mathlib.Core.Bool.{Bool, true, false, not, ◌&&◌, true≢false}
use mathlib.Core.List.{List}
use Prim.Native.Nat.{ℕ, ◌+◌, ◌-◌, ◌<◌}
use native.Mathlib.Nat.{not-suc-le-zero}
use native.Mathlib.Omega.{arith}
use borrow.Author.Tests.{eqb-true, eq-eqb, ne_eqb, le-leb, lt-leb}
use lib.Dec.{eqb, leb, ltb, lit<}
use lib.ListN.{length, get_or, take, drop}
use Rattle.std.specs.Prelude.{Option, is_some}
use Rattle.std.specs.Option.{unwrap_or}
use Rattle.std.specs.declared.option.Option.TheVariants.{Some, None}
use Rattle.std.specs.List.{position}
use Rattle.run.specs.First.{first_bad, all, at_most, is_at, like_first, agree}
use Rattle.run.specs.Verdicts.{done, each}
use Rattle.run.specs.Fields.{joined, field, start}
use Rattle.run.proofs.First.{first_is, first_same}
use Rattle.run.proofs.Places.{above_first, found_below}
use Rattle.run.proofs.Chain.{or_else_done, unless_done, or_else_pass, unless_pass, each_fits}
use Rattle.run.proofs.Fields.{field_lent}
use Rattle.dpch.specs.declared.Format.{Format}
use Rattle.dpch.specs.Formats.{kind_b, widths}
use Rattle.dpch.specs.Pilots.{pilot_row, symbols_of, symbols_for, pilot_of}
use Rattle.dpch.specs.Compressed.{format_in, pairs_twice, pilot_for}
use Rattle.dpch.proofs.Exact.{at_rows}
use Rattle.slot.specs.Outcome.{part_verdict}
use Rattle.slot.specs.Ready.{Whole}
use Rattle.slot.proofs.Laws.{field_long}
use Rattle.slot.proofs.Accept.{digits_ok, digits_pass}
use Rattle.slot_fits.specs.Method.{PilotWidth}

-- a scan that finds no digit above DTX
pub none_above : (s : List ℕ) {found : Option ℕ} {r : Bool} → is_some found ≡ not r → found ≡ position (ltb 2) s → r ≡ all (length s) (at_most 2 s)
none_above s {found} {r} told e = turned r told ∙ side found (above_first 2 s e) (λ i is. found_below (ltb 2) s i e is)
  where
    turned : (b : Bool) {a : Bool} → a ≡ not b → b ≡ not a
    turned true h = rw h
    turned false h = rw h

    side : (o : Option ℕ) → unwrap_or o (length s) ≡ first_bad (at_most 2 s) (length s) → ((i : ℕ) → o ≡ Some i → i < length s) → not (is_some o) ≡ all (length s) (at_most 2 s)
    side None p below = sym (le-leb _ _ (omega (arith, p)))
    side (Some i) p below = let l = below i refl in sym (lt-leb _ _ (omega (arith, p)))

-- a digit that is a bit v is not DTX
bit : (d v : ℕ) → (v ≡ 2 → ⊥) → (b : Bool) → eqb d v ≡ b → b ≡ (not (eqb d 2) && b)
bit d v h true e = rw (ne_eqb d 2 (λ t. h (sym (eqb-true _ _ e) ∙ t)))
bit d v h false e = either (eqb d 2)
  where
    either : (a : Bool) → false ≡ (not a && false)
    either true = refl
    either false = refl

-- a TPC field of n digits, compared with its first
module _ (s : List ℕ) where
  pub command_told : (n : ℕ) {r : Bool} → length s ≡ n → (get_or s 0 0 ≡ 2 → ⊥) → r ≡ all n (is_at (get_or s 0 0) s) → r ≡ all (length s) (like_first s)
  command_told n e h told =
      told ∙ ap (leb n) (first_same _ _ n (λ k _. bit (get_or s k 0) _ h _ refl)) ∙ ap (λ (m : ℕ). all m (like_first s)) (sym e)

  -- .. and one that begins with DTX
  pub command_silent : 0 < length s → get_or s 0 0 ≡ 2 → false ≡ all (length s) (like_first s)
  command_silent some e =
      let first = first_is (like_first s) (length s) 0 (omega arith) (λ k h. absurd (not-suc-le-zero h)) (λ h. rw (eq-eqb (get_or s 0 0) 2 e)) in
      sym (lt-leb (length s) (first_bad (like_first s) (length s)) (omega arith))

-- a pilot field of n digits, compared with the beginning of a run that begins with the pilot
pub pilot_told : (pilot : ℕ → List ℕ) (s source : List ℕ) (n : ℕ) {r : Bool} → length s ≡ n → first_bad (agree s source) n ≡ first_bad (agree s (pilot n)) n
    → r ≡ all n (agree s source) → r ≡ all (length s) (agree s (pilot (length s)))
pilot_told pilot s source n e same told = rw e (told ∙ ap (leb n) same)

-- the pilot of 4, 8 and 16 bits begins the row, and that of 2 bits is its second symbol
module _ (s : List ℕ) (slot : ℕ) where
  pub pilot_2 : first_bad (agree s (take 2 (drop 2 (pilot_row slot)))) 2 ≡ first_bad (agree s (pilot_of 2 slot)) 2
  unfolding pilot_row pilot_of symbols_for symbols_of joined
  pilot_2 = refl

  pub pilot_4 : first_bad (agree s (pilot_row slot)) 4 ≡ first_bad (agree s (pilot_of 4 slot)) 4
  unfolding pilot_row pilot_of symbols_for symbols_of joined first_bad
  pilot_4 = refl

  pub pilot_8 : first_bad (agree s (pilot_row slot)) 8 ≡ first_bad (agree s (pilot_of 8 slot)) 8
  unfolding pilot_row pilot_of symbols_for symbols_of joined first_bad
  pilot_8 = refl

  pub pilot_16 : first_bad (agree s (pilot_row slot)) 16 ≡ first_bad (agree s (pilot_of 16 slot)) 16
  unfolding pilot_row pilot_of symbols_for symbols_of joined
  pilot_16 = refl

  -- .. in B the pilot of 8, 16 and 32 bits begins the doubled row, and that of 4 bits is its second symbol, doubled
  pub doubled_4 : first_bad (agree s (take 4 (drop 4 (pairs_twice (pilot_row slot))))) 4 ≡ first_bad (agree s (pilot_for kind_b 4 slot)) 4
  unfolding pilot_row pilot_of pilot_for pairs_twice symbols_for symbols_of joined first_bad
  doubled_4 = refl

  pub doubled_8 : first_bad (agree s (pairs_twice (pilot_row slot))) 8 ≡ first_bad (agree s (pilot_for kind_b 8 slot)) 8
  unfolding pilot_row pilot_of pilot_for pairs_twice symbols_for symbols_of joined first_bad
  doubled_8 = refl

  pub doubled_16 : first_bad (agree s (pairs_twice (pilot_row slot))) 16 ≡ first_bad (agree s (pilot_for kind_b 16 slot)) 16
  unfolding pilot_row pilot_of pilot_for pairs_twice symbols_for symbols_of joined first_bad
  doubled_16 = refl

  pub doubled_32 : first_bad (agree s (pairs_twice (pilot_row slot))) 32 ≡ first_bad (agree s (pilot_for kind_b 32 slot)) 32
  unfolding pilot_row pilot_of pilot_for pairs_twice symbols_for symbols_of joined
  doubled_32 = refl

-- the pilot of every row has one of the widths of its kind
plain_width : (n kind : ℕ) → eqb kind 2 ≡ false → ((n ≡ 2 → ⊥) → (n ≡ 4 → ⊥) → (n ≡ 8 → ⊥) → (n ≡ 16 → ⊥) → n ≡ 0) → PilotWidth kind n
plain_width n kind e none = record { none = λ _. none; none_doubled = λ h. absurd (true≢false (sym (eq-eqb kind 2 h) ∙ e)) }

-- a kind that is not B has the widths of the normal formats
pub width_plain : (kind n : ℕ) → (kind ≡ 2 → ⊥) → PilotWidth kind n → PilotWidth 0 n
width_plain kind n h w = plain_width n 0 refl (w.none h)

doubled_width : (n : ℕ) → ((n ≡ 4 → ⊥) → (n ≡ 8 → ⊥) → (n ≡ 16 → ⊥) → (n ≡ 32 → ⊥) → n ≡ 0) → PilotWidth 2 n
doubled_width n none = record { none = λ h. absurd (h refl); none_doubled = λ _. none }

pub pilot_width : (kind format : ℕ) → PilotWidth (format_in kind format).kind (format_in kind format).pilot
pilot_width =
    at_rows PilotWidth
    (λ kind e. (
      plain_width 0 kind e (λ a b c d. refl),
      plain_width 2 kind e (λ a b c d. absurd (a refl)),
      plain_width 4 kind e (λ a b c d. absurd (b refl)),
      plain_width 8 kind e (λ a b c d. absurd (c refl)),
      plain_width 16 kind e (λ a b c d. absurd (d refl)),
    ))
    (doubled_width 4 (λ a b c d. absurd (a refl)))
    (doubled_width 8 (λ a b c d. absurd (b refl)))
    (doubled_width 16 (λ a b c d. absurd (c refl)))
    (doubled_width 32 (λ a b c d. absurd (d refl)))

-- a check of field k as it is lent from a to e
module _ (f : Format) (xs : List ℕ) (k a e : ℕ) (h : k < 5) (p : a ≡ start k (widths f)) (q : e ≡ a + get_or (widths f) k 0) where
  pub field_told : (base number : ℕ) (ok : List ℕ → ℕ → Bool) {r : Bool} → 0 < number
      → r ≡ all (length (take (e - a) (drop a xs))) (ok (take (e - a) (drop a xs)))
      → r ≡ eqb (each base number (ok (field k (widths f) xs)) (length (field k (widths f) xs))).number 0
  field_told base number ok some told = each_fits base number _ _ some (rw (field_lent k a e (widths f) xs h p q) at told)

  pub lent_long : Whole f (length xs) → length (take (e - a) (drop a xs)) ≡ get_or (widths f) k 0
  lent_long w = ap length (field_lent k a e (widths f) xs h p q) ∙ field_long f xs w k h

  -- .. with the pilot of the field's width
  pub pilot_lent : (w : Whole f (length xs)) (slot : ℕ) {r : Bool}
      → r ≡ all (length (take (e - a) (drop a xs))) (agree (take (e - a) (drop a xs)) (pilot_for f.kind (length (take (e - a) (drop a xs))) slot))
      → r ≡ all (length (take (e - a) (drop a xs))) (agree (take (e - a) (drop a xs)) (pilot_for f.kind (get_or (widths f) k 0) slot))
  pilot_lent w slot told =
      told ∙ ap (λ (n : ℕ). all (length (take (e - a) (drop a xs))) (agree (take (e - a) (drop a xs)) (pilot_for f.kind n slot))) (lent_long w)

-- a slot that fits is done, wherever its places count from
pub fits_anywhere : (f : Format) (slot : ℕ) (xs : List ℕ) (base : ℕ) {r : Bool} → r ≡ eqb (part_verdict f slot xs 0).number 0 → r ≡ true
    → done ≡ part_verdict f slot xs base
unfolding part_verdict
fits_anywhere f slot xs base told good =
    let c = or_else_done _ _ (eqb-true _ _ (sym told ∙ good)) in
    sym (or_else_pass
    (unless_pass 3 0 (unless_done _ 3 0 (lit< tt) c.first))
    (digits_pass f slot xs base (digits_ok f slot xs 0 c.rest)))
