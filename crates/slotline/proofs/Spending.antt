-- What is read of an input: a buffer that is filled from its front holds it, and one part of the run reads after the other.
-- Assumes nothing.
use Rattle.std.proofs.Common.{◌≡◌, ℕ, ◌+◌, ◌≤◌, List, [], ◌++◌, length, take, drop, sym, ap, ◌∙◌, subst, arith, length-append}
use Rattle.std.proofs.Math.Seq.{take-add}
use Rattle.std.proofs.lemmas.List.{length-take-le, take-append-le, drop_at}
use Rattle.std.proofs.lemmas.Slice.{take-put_mid_below}
use Rattle.std.proofs.KnownBytes.{Consumes-nil, Consumes-trans}
use Rattle.std.specs.Prelude.{Option, Result, Ok, Err}
use Rattle.std.specs.Io.KnownBytes.{Consumes}
use borrow.Rule.Slice.PartMut.{put_mid, post_of}
use Rattle.slotline.specs.declared.Stand.{Stand}
use Rattle.slotline.specs.Input.{Spends, Within}

-- n bytes that were read behind the first a stand behind them
take-filled : (a k n : ℕ) (xs ys : List ℕ) → a ≤ length xs → n ≤ length ys → take (a + n) (put_mid a k xs ys) ≡ take a xs ++ take n ys
take-filled a k n xs ys inside fits =
    let below : take a (put_mid a k xs ys) ≡ take a xs = take-put_mid_below a k xs ys a (omega arith) inside in
    let behind : drop a (put_mid a k xs ys) ≡ ys ++ post_of a k xs = drop_at (take a xs) (ys ++ post_of a k xs) a (length-take-le a xs inside) in
    take-add a n (put_mid a k xs ys) ∙ ap (λ l. l ++ take n (drop a (put_mid a k xs ys))) below ∙ ap (λ l. take a xs ++ take n l) behind
    ∙ ap (λ l. take a xs ++ l) (take-append-le n ys (post_of a k xs) fits)

pub filled_more : (x y z : Option (List ℕ)) (a k n : ℕ) (xs ys : List ℕ) → a ≤ length xs → n ≤ length ys → Consumes x y (take a xs) → Consumes y z (take n ys)
    → Consumes x z (take (a + n) (put_mid a k xs ys))
filled_more x y z a k n xs ys inside fits before more =
    subst (Consumes x z) (sym (take-filled a k n xs ys inside fits)) (Consumes-trans x y z _ _ before more)

-- nothing was read
pub unspent : (x : Option (List ℕ)) (n left : ℕ) → left ≤ n → Spends x x n left
unspent x n left h = record { bytes = []; given = Consumes-nil x; few = omega arith }

-- first some bytes were read, and then others
pub spent_then : {x y z : Option (List ℕ)} {n m l : ℕ} → Spends x y n m → Spends y z m l → Spends x z n l
spent_then {x = x} {y = y} {z = z} p q =
    let k = length-append p.bytes q.bytes in
    record { bytes = p.bytes ++ q.bytes; given = Consumes-trans x y z p.bytes q.bytes p.given q.given; few = omega arith }

-- fewer may be read than could be
pub spent_less : {x y : Option (List ℕ)} {n m l : ℕ} → Spends x y n m → l ≤ m → Spends x y n l
spent_less p h = record { bytes = p.bytes; given = p.given; few = omega arith }

-- .. the others in a part of the run, also where a read or a write failed
pub within_then : {E : Type 0} {x y : Option (List ℕ)} {n m : ℕ} (z : Option (List ℕ)) (r : Result Stand E) → Spends x y n m → Within y z m r → Within x z n r
within_then z (Ok s) p q = spent_then p q
within_then z (Err e) p q = spent_then p q

-- more might be read than was said
pub spent_of_more : {x y : Option (List ℕ)} {n m l : ℕ} → Spends x y n m → n ≤ l → Spends x y l m
spent_of_more p h = record { bytes = p.bytes; given = p.given; few = omega arith }
