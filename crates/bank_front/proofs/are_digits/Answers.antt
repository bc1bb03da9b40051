-- `bank_front::are_digits` meets its contract: parts of sixteen that pass, and the last part decides.
use Rattle.std.proofs.Common.{◌≡◌, sym, ap, ◌∙◌, length, ℕ, ◌+◌, ◌-◌, ◌*◌, ◌≤◌, ◌%◌, List, [], ◌∷◌, ◌++◌, take, drop, arith}
use Rattle.std.proofs.lemmas.List.{take-append-le, drop_at, drop-drop, length-append}
use mathlib.Core.Bool.{◌&&◌}
use lib.Dec.{leb}
use lib.ListN.{length-drop}
use lib.Seq.{take_all}
use Rattle.run.specs.First.{all, at_most, Every}
use Rattle.run.proofs.Lent.{rest_of}
use Rattle.bank.proofs.Digits.{part_told, part_good, part_bad, part_last}
use Rattle.bank_front.proofs.are_digits.Goals as goal

-- sixteen digits x at place i of s, and what is behind them
module _ (s x l : List ℕ) (i : ℕ) (is : drop i s ≡ x ++ l) (long : length x ≡ 16) where
  part_is : x ≡ take 16 (drop i s)
  part_is = sym (ap (take 16) is ∙ take-append-le 16 x l (omega arith) ∙ take_all 16 x (omega arith))

  behind_is : l ≡ drop (i + 16) s
  behind_is = sym (sym (drop-drop 16 i s) ∙ ap (drop 16) is ∙ drop_at x l 16 long)

  inside : i ≤ length s → i + 16 ≤ length s
  inside h = let a = sym (length-drop i s) ∙ ap length is ∙ length-append x l in omega arith

  told : i ≤ length s → Every (at_most 2 s) i → (leb 16 (length x) && all 16 (at_most 2 x)) ≡ all 16 (at_most 2 (take 16 (drop i s)))
  told h e = ap (λ (y : List ℕ). leb 16 (length y) && all 16 (at_most 2 y)) part_is ∙ part_told s i 16 (inside h) e

-- fewer than sixteen digits, which are all that are left
last_told : (s : List ℕ) (i : ℕ) → i ≤ length s → Every (at_most 2 s) i
    → (leb (length (drop i s)) (length (drop i s)) && all (length (drop i s)) (at_most 2 (drop i s))) ≡ all (length s) (at_most 2 s)
last_told s i h e =
    let n = length s - i in
    let fits : i + n ≤ length s = omega arith in
    let whole : i + n ≡ length s = omega arith in
    ap (λ (w : ℕ). leb w (length (drop i s)) && all w (at_most 2 (drop i s))) (length-drop i s)
    ∙ ap (λ (y : List ℕ). leb n (length y) && all n (at_most 2 y)) (sym (rest_of i s))
    ∙ part_told s i n fits e
    ∙ part_last s i n fits e whole

pub returns-then-not-all_at_most : goal.returns-then-not-all_at_most
returns-then-not-all_at_most c =
    let inv = c.loop-part.invariant in
    let steps = c.in-Some.ensures.steps in
    let s = c.args.s.now in
    let i = 16 * length c.loop-part.yielded in
    let is = sym inv.left ∙ steps.1.0 in
    let long = steps.1.1 ∙ inv.size in
    sym (part_bad s i 16 (inside s c.in-Some.part.now _ i is long inv.inside) inv.good
    (sym (told s c.in-Some.part.now _ i is long inv.inside inv.good) ∙ sym c.all_at_most.ensures ∙ c.if-not-all_at_most.true))

pub loop-part-preserved : goal.loop-part-preserved
loop-part-preserved c =
    let inv = c.loop-part.invariant in
    let steps = c.in-Some.ensures.steps in
    let s = c.args.s.now in
    let i = 16 * length c.loop-part.yielded in
    let is = sym inv.left ∙ steps.1.0 in
    let long = steps.1.1 ∙ inv.size in
    let more = length-append c.loop-part.yielded (c.in-Some.part ∷ []) in
    let next : i + 16 ≡ 16 * length (c.loop-part.yielded ++ c.in-Some.part ∷ []) = omega arith in
    record {
      size = steps.0 ∙ inv.size;
      left = behind_is s c.in-Some.part.now _ i is long ∙ ap (λ (k : ℕ). drop k s) next;
      inside = rw next at (inside s c.in-Some.part.now _ i is long inv.inside);
      good = rw next at (part_good s i 16 (inside s c.in-Some.part.now _ i is long inv.inside) inv.good
          (sym (told s c.in-Some.part.now _ i is long inv.inside inv.good) ∙ sym c.all_at_most.ensures ∙ c.if-not-all_at_most.false));
      behind = inv.behind;
    }

pub returns : goal.returns
returns c =
    let inv = c.loop-part.invariant in
    let few = c.in-None.ensures.steps.1.0 in
    let s = c.args.s.now in
    let i = 16 * length c.loop-part.yielded in
    let h = inv.inside in
    let size = inv.size in
    let left = ap length inv.left ∙ length-drop i s in
    let last : length s - length s % 16 ≡ i = omega arith in
    let is = inv.behind ∙ ap (λ (k : ℕ). drop k s) last in
    c.all_at_most-2.ensures ∙ ap (λ (y : List ℕ). leb (length y) (length y) && all (length y) (at_most 2 y)) is ∙ last_told s i inv.inside inv.good
