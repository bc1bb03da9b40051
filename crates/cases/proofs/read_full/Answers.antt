-- `read_full`: what is read stands behind what was read before.
use Rattle.std.proofs.Common.{◌≡◌, ℕ, ◌+◌, ◌-◌, ◌≤◌, List, ◌++◌, length, take, drop, sym, ap, ◌∙◌, subst, rules, arith}
use Rattle.std.proofs.Math.Seq.{take-add}
use Rattle.std.proofs.lemmas.List.{length-take-le, take-append-le, drop_at}
use Rattle.std.proofs.lemmas.Slice.{take-put_mid_below}
use Rattle.std.proofs.KnownBytes.{Consumes-trans}
use Rattle.std.specs.Io.KnownBytes.{Consumes}
use borrow.Rule.Slice.PartMut.{put_mid, post_of}
use Rattle.cases.proofs.read_full.Goals as goal

-- n bytes that were read behind the first a stand behind them
take-filled : (a k n : ℕ) (xs ys : List ℕ) → a ≤ length xs → n ≤ length ys → take (a + n) (put_mid a k xs ys) ≡ take a xs ++ take n ys
take-filled a k n xs ys inside fits =
    let below : take a (put_mid a k xs ys) ≡ take a xs = take-put_mid_below a k xs ys a (omega arith) inside in
    let behind : drop a (put_mid a k xs ys) ≡ ys ++ post_of a k xs = drop_at (take a xs) (ys ++ post_of a k xs) a (length-take-le a xs inside) in
    take-add a n (put_mid a k xs ys) ∙ ap (λ l. l ++ take n (drop a (put_mid a k xs ys))) below ∙ ap (λ l. take a xs ++ take n l) behind
    ∙ ap (λ l. take a xs ++ l) (take-append-le n ys (post_of a k xs) fits)

pub loop-done-preserved : goal.loop-done-preserved
loop-done-preserved g c =
    let inv = c.loop-done.invariant in
    let room = length c.loop-done.buffer - c.loop-done.done in
    let fits = c.in_ok-n.ensures.bound.0 in
    record {
      kept = search rules;
      inside = search rules;
      given = subst (Consumes _ _) (sym (take-filled c.loop-done.done room c.in_ok-n.n c.loop-done.buffer c.read.new.buf inv.inside fits))
          (Consumes-trans _ _ _ _ _ inv.given c.in_ok-n.ensures.bytes.0);
    }
