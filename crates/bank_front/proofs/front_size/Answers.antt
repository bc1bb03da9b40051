-- `bank_front::front_size` meets its contract: a slot stands there exactly when each test passes.
use mathlib.Core.Path.{◌≡◌, sym, ap, ◌∙◌}
use mathlib.Core.Bool.{false≢true}
use mathlib.Core.List.{List}
use Prim.Native.Nat.{ℕ, ◌+◌, ◌-◌, ◌≤◌}
use native.Mathlib.Omega.{arith}
use lib.ListN.{length, take, drop}
use Rattle.run.specs.First.{all, at_most}
use Rattle.run.proofs.Lent.{part_width}
use Rattle.bank.specs.Slots.{is_length}
use Rattle.bank.specs.Layout.{length_in}
use Rattle.bank.proofs.Front.{length_low, length_there, length_known, digits_long, size_there, size_none}
use Rattle.bank.proofs.Nonzero.{none_is, some_is}
use Rattle.bank_front.proofs.front_size.Goals as goal
use Rattle.bank_front.proofs.front_size.Goals.{Else-not-is_length, then-s-end-via-then-s-end, then-s-end-via-else-s-end+then-s-ne0}

-- the number of digits, where a slot can have it
known : (c : Else-not-is_length) → c.front_length-length.result ≡ length_in c.args.s.now
known c =
    let told = c.front_length-length.ensures in
    told ∙ length_known _ (ap is_length (sym told) ∙ sym c.is_length.ensures ∙ c.if-not-is_length.false)

-- whether all digits of the part are such
all_there : (s : List ℕ) (n : ℕ) → n ≡ length_in s → 4 + n ≤ length s
    → all (length (take (4 + n - 4) (drop 4 s))) (at_most 2 (take (4 + n - 4) (drop 4 s))) ≡ all (length_in s) (at_most 2 (take (length_in s) (drop 4 s)))
all_there s n e h = let long = digits_long s (rw (← e) h) in rw (part_width 4 n, e, long)

pub returns-then-not-is_length : goal.returns-then-not-is_length
returns-then-not-is_length c =
    none_is (size_none _ (λ f.
    let fits = f.fits in
    let there = length_there _ (omega arith) in
    false≢true (sym c.if-not-is_length.true ∙ c.is_length.ensures ∙ ap is_length (c.front_length-length.ensures ∙ there) ∙ f.long)))

pub overflow_add-end : goal.overflow_add-end
overflow_add-end c = omega (arith, length_low _ (sym c.is_length.ensures ∙ c.if-not-is_length.false))

pub returns-then-s-end : goal.returns-then-s-end
returns-then-s-end c =
    none_is (size_none _ (λ f.
    let fits = f.fits in
    let n = known (goal.at.returns-then-s-end c).Else-not-is_length in
    elim c.then-s-end.branch [
      | then-s-end-via-then-s-end w ↦ let z : ⊥ = omega arith in z
      | then-s-end-via-else-s-end+then-s-ne0 w ↦ w.if-s-ne0.true f.blank
    ]))

pub returns-then-are_digits : goal.returns-then-are_digits
returns-then-are_digits c =
    let s = c.args.s.now in
    let n = known (goal.at.returns-then-are_digits c).Else-not-is_length in
    some_is
    (ap (λ (k : ℕ). 4 + k) n
    ∙ sym (size_there s
    (record {
      number = omega (arith, c.type_inv.s 0);
      blank = c.if-s-ne0.false;
      low = omega (arith, c.type_inv.s 3);
      long = ap is_length (sym n) ∙ sym c.is_length.ensures ∙ c.if-not-is_length.false;
      fits = omega arith;
      digits = sym (all_there s _ n (omega arith)) ∙ sym c.are_digits.ensures ∙ c.if-are_digits.true;
    })))
    (omega arith)

pub returns-else-are_digits : goal.returns-else-are_digits
returns-else-are_digits c =
    let s = c.args.s.now in
    none_is (size_none s (λ f. false≢true (sym c.if-are_digits.false ∙ c.are_digits.ensures ∙ all_there s _ (known (goal.at.returns-else-are_digits c).Else-not-is_length) (omega arith) ∙ f.digits)))
