-- The theorems of specs/Blocks.antt, and one part more of a run that is written from the front on.
-- Assumes nothing.
use Prim.Native.Nat.{ℕ, ◌+◌, ◌-◌, ◌*◌, ◌<◌, ◌≤◌}
use mathlib.Core.Path.{◌≡◌, sym, ap, ◌∙◌}
use mathlib.Core.List.{List}
use native.Mathlib.Nat.{add-mul, mul-le-mul_right}
use native.Mathlib.Omega.{arith}
use borrow.Rule.Slice.PartMut.{put_mid}
use lib.ListN.{length, take, drop, length-drop}
use lib.Seq.{length-take-le}
use Rattle.run.specs.Fields.{joined}
use Rattle.run.specs.Parts.{part}
use Rattle.run.proofs.Front.{Front, front_part}
use Rattle.run.proofs.Lent.{part_width}
use Rattle.run.proofs.Parts.{part_length, part_within, part_joined, joined_part, joined_tab_length}
use Rattle.run.proofs.Table.{tab_same}
use Rattle.sttd.specs.Rule.{sttd}
use Rattle.sttd.specs.Blocks.{blockwise, OfBlocks, AnyBlocks, Fours}
use Rattle.sttd.proofs.Laws.{sttd_length, sttd_part}

-- a stretch of whole blocks
stretch_long : {A : Type 0} (j k m w : ℕ) (s : List A) → length s ≡ m * w → j + k ≤ m → length (take (k * w) (drop (j * w) s)) ≡ k * w
stretch_long j k m w s long h =
    let within : (j + k) * w ≤ m * w = mul-le-mul_right w h in
    let sum = add-mul j k w in
    length-take-le (k * w) (drop (j * w) s) (simp length-drop (omega arith))

module _ {A : Type 0} (m w : ℕ) (code : List A → List A) (keeps : OfBlocks w (λ (b : List A). length (code b) ≡ w)) (s : List A) (long : length s ≡ m * w) where
  coded : (k : ℕ) → k < m → length (code (part k w s)) ≡ w
  coded k h = keeps (part k w s) (part_length k m w s h long)

  pub blockwise_length : length (blockwise m w code s) ≡ length s
  unfolding blockwise
  blockwise_length = joined_tab_length m w (λ (k : ℕ). code (part k w s)) coded ∙ sym long

  pub blockwise_part : (k : ℕ) → k < m → part k w (blockwise m w code s) ≡ code (part k w s)
  unfolding blockwise
  blockwise_part k h = part_joined m w (λ (j : ℕ). code (part j w s)) coded k h

  pub blockwise_stretch : (j k : ℕ) → j + k ≤ m → blockwise k w code (take (k * w) (drop (j * w) s)) ≡ take (k * w) (drop (j * w) (blockwise m w code s))
  unfolding blockwise
  blockwise_stretch j k h =
      let within : (j + k) * w ≤ m * w = mul-le-mul_right w h in
      let n = blockwise_length in
      ap joined
      (tab_same k _ _
      (λ i l.
      ap code (part_within i j k w s l (omega arith))
      ∙ sym (part_within i j k w (blockwise m w code s) l (omega arith) ∙ blockwise_part (j + i) (omega arith))))
      ∙ joined_part k w (take (k * w) (drop (j * w) (blockwise m w code s))) (stretch_long j k m w (blockwise m w code s) (n ∙ long) h)

  pub blockwise_next : (next : List A → List A) → blockwise m w next (blockwise m w code s) ≡ blockwise m w (λ (b : List A). next (code b)) s
  unfolding blockwise
  blockwise_next next = ap joined (tab_same m _ _ (λ k h. ap next (part_joined m w (λ (j : ℕ). code (part j w s)) coded k h)))

  pub blockwise_back : (back : List A → List A) → OfBlocks w (λ (b : List A). back (code b) ≡ b) → blockwise m w back (blockwise m w code s) ≡ s
  unfolding blockwise
  blockwise_back back undoes =
      blockwise_next back
      ∙ ap joined (tab_same m _ (λ (k : ℕ). part k w s) (λ k h. undoes (part k w s) (part_length k m w s h long)))
      ∙ joined_part m w s long

pub any_blocks : AnyBlocks
any_blocks A m w code keeps =
    record {
      same_length = blockwise_length m w code keeps;
      by_blocks = blockwise_part m w code keeps;
      by_stretches = blockwise_stretch m w code keeps;
      in_turn = λ next s long. blockwise_next m w code keeps s long next;
      reads_back = λ back undoes s long. blockwise_back m w code keeps s long back undoes;
      one_input = λ back undoes s t p q e.
          sym (blockwise_back m w code keeps s p back undoes) ∙ ap (blockwise m w back) e ∙ blockwise_back m w code keeps t q back undoes;
    }

-- a block of four of an encoded run is the block encoded
pub four_part : {A : Type 0} (bar : A → A) (s : List A) (k : ℕ) → sttd bar (part k 4 s) ≡ part k 4 (sttd bar s)
unfolding part
four_part bar s k = sttd_part bar s (k * 4) 4 (omega arith) (omega arith)

pub fours : Fours
unfolding blockwise
fours A bar m s long =
    sym (joined_part m 4 (sttd bar s) (sttd_length bar s ∙ long)) ∙ ap joined (tab_same m _ _ (λ k h. sym (four_part bar s k)))

-- one part more of t is written, whose part from i on is what g makes of the part of d
pub part_more : {A : Type 0} (g : List A → List A) (d : List A) (w : ℕ) {t out₀ out ys : List A} {i : ℕ} → i + w ≤ length out₀ → Front t out₀ out i
    → g (take w (drop i d)) ≡ take w (drop i t) → ys ≡ g (take (i + w - i) (drop i d)) → Front t out₀ (put_mid i (i + w - i) out ys) (i + w)
part_more g d w {i = i} room front made y = front_part (i + w) front (omega arith) room (y ∙ rw (part_width i w) made)
