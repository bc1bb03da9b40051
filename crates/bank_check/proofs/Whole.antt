-- The check of a whole bank: what its loop keeps, from the header to the total.
-- Assumes nothing.
use mathlib.Core.Path.{◌≡◌, refl, sym, ap, ◌∙◌}
use mathlib.Core.Bool.{Bool, true, false, not, ◌&&◌}
use mathlib.Core.List.{List, ◌++◌}
use Prim.Native.Nat.{ℕ, zero, suc, ◌+◌, ◌-◌, ◌≤◌, ◌<◌}
use native.Mathlib.Nat.{add-zero}
use native.Mathlib.Omega.{arith}
use borrow.Author.Tests.{eq-eqb, ne_eqb}
use lib.Dec.{eqb}
use lib.ListN.{length, get_or, set, take, drop, replicate, length-set, length-drop, length-replicate, take-append-drop}
use lib.Seq.{length-take-le, take-take, drop-drop, get_or-take, get_or-drop}
use Rattle.bank.specs.Slots.{taken}
use Rattle.bank.specs.Layout.{head, layout, length_in, total_in, slots_in, is_bank}
use Rattle.bank.specs.Outcome.{head_total, front_size}
use Rattle.bank.specs.Exact.{Holds}
use Rattle.bank.proofs.Front.{Slotted, stands, stands_slotted, size_there, size_stands, none_stands, heads, heads_headed, heads_total, total_heads, heads_is}
use Rattle.bank.proofs.Laws.{same_test, run_length, count_total, drop_take}
use Rattle.bank.proofs.Reading.{holds_run, holds_total, holds_fits, holds_heads, holds_bank, bank_holds}
use Rattle.bank_check.proofs.Walk.{walks, walks_step, walks_end, walks_run, Walked, walks_list}

-- a bank has a header
bank_heads : (bytes : List ℕ) → is_bank bytes ≡ true → heads bytes ≡ true
bank_heads bytes e = holds_heads (bank_holds bytes e)

pub bank_none : (bytes : List ℕ) → head_total bytes ≡ 0 → is_bank bytes ≡ false
bank_none bytes e = side (is_bank bytes) refl
  where
    side : (b : Bool) → is_bank bytes ≡ b → b ≡ false
    side true t =
        let there = bank_heads bytes t in
        let low = (heads_headed bytes there).low in
        let told = heads_total bytes there in
        absurd (let z : ⊥ = omega arith in z)
    side false t = refl

-- the header of a bank gives the total taken
pub total_told : (bytes : List ℕ) → is_bank bytes ≡ true → head_total bytes ≡ taken (slots_in bytes)
total_told bytes e = let h = bank_holds bytes e in heads_total bytes (holds_heads h) ∙ holds_total h

unmarked : (n k : ℕ) → get_or (replicate n false) k false ≡ false
unmarked zero k = refl
unmarked (suc n) zero = refl
unmarked (suc n) (suc k) = unmarked n k

-- behind a header, the bytes are a bank exactly where the walk passes
module _ (bytes : List ℕ) (there : heads bytes ≡ true) where
  bank_passes : is_bank bytes ≡ true → walks (length bytes) (replicate 256 false) (take (total_in bytes - 8) (drop 8 bytes)) ≡ true
  unfolding taken
  bank_passes e =
      let h = bank_holds bytes e in
      let few = count_total (slots_in bytes) in
      let fits = holds_fits h in
      ap (walks (length bytes) (replicate 256 false)) (holds_run h)
      ∙ walks_run (length bytes) (replicate 256 false) (slots_in bytes) (omega arith) h.list (λ k _. unmarked 256 k)

  module _ (w : Walked (replicate 256 false) (take (total_in bytes - 8) (drop 8 bytes))) where
    total_is : taken w.slots ≡ total_in bytes
    unfolding taken
    total_is =
        let f = heads_headed bytes there in
        let low = f.low in
        let fits = f.fits in
        let room : total_in bytes - 8 ≤ length (drop 8 bytes) = simp length-drop (omega arith) in
        let n = length-take-le (total_in bytes - 8) (drop 8 bytes) room in
        let m = ap length w.is in
        let r = run_length w.slots in
        omega arith

    walked_holds : Holds bytes w.slots
    unfolding layout
    walked_holds =
        let f = heads_headed bytes there in
        let low = f.low in
        let fits = f.fits in
        record {
          room = f.room;
          list = w.list;
          laid =
              ap (λ (n : ℕ). take n bytes) total_is
              ∙ sym (take-append-drop 8 (take (total_in bytes) bytes))
              ∙ ap (λ (l : List ℕ). l ++ drop 8 (take (total_in bytes) bytes)) (take-take 8 (total_in bytes) bytes low ∙ heads_is bytes there ∙ ap head (sym total_is))
              ∙ ap (λ (l : List ℕ). head (taken w.slots) ++ l) (drop_take 8 (total_in bytes) bytes low fits ∙ w.is);
        }

  bank_walks : is_bank bytes ≡ walks (length bytes) (replicate 256 false) (take (total_in bytes - 8) (drop 8 bytes))
  bank_walks =
      same_test _ _ bank_passes
      (λ e. holds_bank (walked_holds (walks_list (length bytes) (replicate 256 false) (take (total_in bytes - 8) (drop 8 bytes)) (length-replicate 256 false) e)))

-- ---- the loop: what is left to look at is a walk too
pub record Walking (bytes : List ℕ) (end at : ℕ) (marks : List Bool) : Type 0 where
  pub more : ℕ
  pub enough : end ≤ at + more
  pub within : at ≤ end
  pub fits : end ≤ length bytes
  pub wide : length marks ≡ 256
  pub left : is_bank bytes ≡ walks more marks (take (end - at) (drop at bytes))

pub walking_start : (bytes : List ℕ) (end : ℕ) → end ≡ head_total bytes → (end ≡ 0 → ⊥) → Walking bytes end 8 (replicate 256 false)
walking_start bytes end e some =
    let there = total_heads bytes (λ z. some (e ∙ z)) in
    let f = heads_headed bytes there in
    let low = f.low in
    let fits = f.fits in
    let is : end ≡ total_in bytes = e ∙ heads_total bytes there in
    record {
      more = length bytes;
      enough = omega arith;
      within = omega arith;
      fits = omega arith;
      wide = length-replicate 256 false;
      left = bank_walks bytes there ∙ ap (λ (n : ℕ). walks (length bytes) (replicate 256 false) (take (n - 8) (drop 8 bytes))) (sym is);
    }

module _ {bytes : List ℕ} {end at : ℕ} {marks : List Bool} (w : Walking bytes end at marks) where
  pub walking_end : end ≤ at → is_bank bytes ≡ true
  walking_end h =
      let none : end - at ≡ 0 = omega arith in
      w.left ∙ ap (λ (n : ℕ). walks w.more marks (take n (drop at bytes))) none ∙ walks_end w.more marks

  module _ (h : at < end) where
    part_long : length (take (end - at) (drop at bytes)) ≡ end - at
    part_long =
        let fits = w.fits in
        let room : end - at ≤ length (drop at bytes) = simp length-drop (omega arith) in
        length-take-le (end - at) (drop at bytes) room

    first_is : get_or (take (end - at) (drop at bytes)) 0 0 ≡ get_or bytes at 0
    first_is =
        let some : 0 < end - at = omega arith in
        get_or-take (end - at) (drop at bytes) 0 0 some ∙ get_or-drop at bytes 0 0 ∙ ap (λ (k : ℕ). get_or bytes k 0) (add-zero at)

    -- the walk's next step, at the byte of the slot's number
    step : (n : ℕ) → w.more ≡ suc n
        → is_bank bytes
        ≡ (stands (take (end - at) (drop at bytes))
        && (not (get_or marks (get_or bytes at 0) false)
        && walks n (set marks (get_or bytes at 0) true) (drop (4 + length_in (take (end - at) (drop at bytes))) (take (end - at) (drop at bytes)))))
    step n e =
        let long = part_long in
        w.left
        ∙ ap (λ (m : ℕ). walks m marks (take (end - at) (drop at bytes))) e
        ∙ walks_step n marks (take (end - at) (drop at bytes)) (omega arith)
        ∙ rw first_is

    more_is : w.more ≡ suc (w.more - 1)
    more_is = let e = w.enough in omega arith

    pub walking_none : front_size (take (end - at) (drop at bytes)) ≡ 0 → is_bank bytes ≡ false
    walking_none e = step (w.more - 1) more_is ∙ rw (none_stands (take (end - at) (drop at bytes)) e)

    module _ (there : front_size (take (end - at) (drop at bytes)) ≡ 0 → ⊥) where
      pub walking_seen : get_or marks (get_or bytes at 0) false ≡ true → is_bank bytes ≡ false
      walking_seen e =
          step (w.more - 1) more_is ∙ rw (size_stands (take (end - at) (drop at bytes)) there, e)

      front : Slotted (take (end - at) (drop at bytes))
      front = stands_slotted (take (end - at) (drop at bytes)) (size_stands (take (end - at) (drop at bytes)) there)

      pub number_low : get_or bytes at 0 ≤ 255
      number_low = let l = front.number in let e = first_is in omega arith

      pub size_fits : at + front_size (take (end - at) (drop at bytes)) ≤ end
      size_fits =
          let e = size_there (take (end - at) (drop at bytes)) front in
          let l = front.fits in
          let long = part_long in
          omega arith

      pub walking_next : (size : ℕ) → size ≡ front_size (take (end - at) (drop at bytes)) → get_or marks (get_or bytes at 0) false ≡ false
          → Walking bytes end (at + size) (set marks (get_or bytes at 0) true)
      walking_next size told clean =
          let e = size_there (take (end - at) (drop at bytes)) front in
          let is : 4 + length_in (take (end - at) (drop at bytes)) ≡ size = sym e ∙ sym told in
          let fits = size_fits in
          let all = w.fits in
          let enough = w.enough in
          let m = more_is in
          let long = part_long in
          let own : end - at - size ≡ end - (at + size) = omega arith in
          let room : end - at ≤ length (drop at bytes) = simp length-drop (omega arith) in
          let four : 4 ≤ size = omega arith in
          let short : size ≤ end - at = omega arith in
          record {
            more = w.more - 1;
            enough = omega arith;
            within = omega arith;
            fits = all;
            wide = length-set marks (get_or bytes at 0) true ∙ w.wide;
            left =
                step (w.more - 1) more_is
                ∙ rw (size_stands (take (end - at) (drop at bytes)) there, clean, is)
                (ap (walks (w.more - 1) (set marks (get_or bytes at 0) true))
                (drop_take size (end - at) (drop at bytes) short room ∙ rw (own, drop-drop size at bytes)));
          }
