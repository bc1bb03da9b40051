-- The theorems of specs/Exact.antt.
-- Assumes nothing.
use mathlib.Core.Path.{◌≡◌, refl, sym, ap, ◌∙◌}
use mathlib.Core.Bool.{Bool, true, false}
use mathlib.Core.List.{List, [], ◌++◌}
use Prim.Native.Nat.{ℕ, ◌+◌, ◌-◌, ◌≤◌, ◌<◌}
use native.Mathlib.Omega.{arith}
use borrow.Author.Tests.{eqb-true, eqb-false, le-leb}
use lib.Dec.{eqb, lit<}
use lib.ListN.{length, drop}
use Rattle.run.specs.Verdict.{Verdict}
use Rattle.run.specs.Fields.{total}
use Rattle.run.specs.Verdicts.{refused, or_else, unless, leaves, Narrow}
use Rattle.run.specs.Written.{over}
use Rattle.run.proofs.Chain.{unless_done, unless_pass, or_else_next, or_else_narrow, unless_narrow, check_narrow, each_narrow, leaves_done, leaves_refused, leaves_small, number_0, one_outcome}
use Rattle.run.proofs.Never.{or_else_never, unless_never, each_never}
use Rattle.run.proofs.Over.{over_length}
use Rattle.bank.specs.Slots.{Slot, has, stored, fetched, without, taken, is_list}
use Rattle.bank.specs.Plain.{store_plain, drop_plain, fetch_plain, Call, stores, drops, after, after_all}
use Rattle.bank.specs.Layout.{layout, slots_in, is_room, is_bank}
use Rattle.bank.specs.Answers.{Counted}
use Rattle.bank.specs.Outcome.{empty_verdict, store_verdict, drop_verdict, fetch_verdict, room_verdict}
use Rattle.bank.specs.Exact.{Holds, Bijection, Keeps, Seen, Unseen, Made, emptied, stored_in, dropped, AllMade, none, more, AfterCalls, RoomAgain, Once, PartsOnce, Packs}
use Rattle.bank.proofs.Calls.{drop_done, store_done}
use Rattle.bank.proofs.Change.{taken_stored, taken_dropped}
use Rattle.bank.proofs.Front.{length_low, room_low}
use Rattle.bank.proofs.Lists.{list_stored, list_without, slot_good}
use Rattle.bank.proofs.Reading.{holds_fits, holds_total, holds_slots, holds_bank, bank_holds, over_holds, holds_over}
use Rattle.bank.proofs.Split.{present, slot_long, list_slot}

pub bijection : Bijection
bijection =
    record {
      written_read = λ slots bytes list room fits. let h = over_holds slots bytes list room fits in (holds_bank h, holds_slots h);
      read_written = λ bytes e. holds_over (bank_holds bytes e);
      accepts = λ bytes. (λ e. (slots_in bytes, bank_holds bytes e), λ s. holds_bank s.1);
      one_list = λ bytes slots others p q. sym (holds_slots p) ∙ holds_slots q;
      total_is = λ bytes e. holds_total (bank_holds bytes e);
    }

-- ---- a chain behind the check of the bytes
bank_next : (bytes : List ℕ) (v : Verdict) → is_bank bytes ≡ true → or_else (unless (is_bank bytes) 28 0) v ≡ v
bank_next bytes v e = or_else_next _ v (number_0 (unless_pass 28 0 e))

bank_stops : (bytes : List ℕ) (v : Verdict) → is_bank bytes ≡ false → or_else (unless (is_bank bytes) 28 0) v ≡ refused 28 0
unfolding or_else unless
bank_stops bytes v e = rw e

-- what is left by a verdict that is another's
left_by : {A : Type 0} {v w : Verdict} (new old : A) → v ≡ w → leaves v new old ≡ leaves w new old
left_by new old e = rw e

same_bank : {bank : List ℕ} → is_bank bank ≡ true → Keeps bank bank (slots_in bank)
same_bank {bank} e = record { sized = refl; holds = bank_holds bank e }

-- ---- store
module _ (bank : List ℕ) (number : ℕ) (slot : List ℕ) (e : is_bank bank ≡ true) where
  store_plain_lem : store_verdict bank number slot ≡ store_plain (length bank) (slots_in bank) number slot
  unfolding store_verdict
  store_plain_lem = bank_next bank _ e

  store_keeps : Keeps bank (leaves (store_verdict bank number slot) (over (layout (stored (slots_in bank) (record { number = number; digits = slot }))) bank) bank)
      (after (length bank) (slots_in bank) (stores number slot))
  unfolding after
  store_keeps = rw (sym store_plain_lem) (side (eqb (store_verdict bank number slot).number 0) refl)
    where
      new : Slot
      new = record { number = number; digits = slot }

      side : (b : Bool) → eqb (store_verdict bank number slot).number 0 ≡ b
          → Keeps bank (leaves (store_verdict bank number slot) (over (layout (stored (slots_in bank) new)) bank) bank) (leaves (store_verdict bank number slot) (stored (slots_in bank) new) (slots_in bank))
      side true t =
          let z = eqb-true _ _ t in
          let s = store_done bank number slot z in
          let h = bank_holds bank e in
          let fits = s.fits in
          let long = taken_stored h new in
          rw (leaves_done (store_verdict bank number slot) (over (layout (stored (slots_in bank) new)) bank) bank z, leaves_done (store_verdict bank number slot) (stored (slots_in bank) new) (slots_in bank) z)
          (record {
            sized = over_length (layout (stored (slots_in bank) new)) bank;
            holds = over_holds (stored (slots_in bank) new) bank (list_stored (slots_in bank) new h.list (slot_good new s.low s.long s.digits) s.new) h.room (omega arith);
          })
      side false t =
          let z = eqb-false _ _ t in
          rw (leaves_refused (store_verdict bank number slot) (over (layout (stored (slots_in bank) new)) bank) bank z, leaves_refused (store_verdict bank number slot) (stored (slots_in bank) new) (slots_in bank) z) (same_bank e)

-- ---- drop
module _ (bank : List ℕ) (number : ℕ) (e : is_bank bank ≡ true) where
  drop_plain_lem : drop_verdict bank number ≡ drop_plain (slots_in bank) number
  unfolding drop_verdict
  drop_plain_lem = bank_next bank _ e

  without_fits : has number (slots_in bank) ≡ true → taken (without number (slots_in bank)) ≤ length bank
  without_fits there =
      let h = bank_holds bank e in
      let p = present number (slots_in bank) there in
      let t = taken_dropped h p in
      let w : taken (without number (slots_in bank)) ≡ taken (p.before ++ p.behind) = ap taken p.without_is in
      omega (arith, holds_fits h)

  drop_keeps : Keeps bank (leaves (drop_verdict bank number) (over (layout (without number (slots_in bank))) bank) bank) (after (length bank) (slots_in bank) (drops number))
  unfolding after
  drop_keeps = rw (sym drop_plain_lem) (side (eqb (drop_verdict bank number).number 0) refl)
    where
      side : (b : Bool) → eqb (drop_verdict bank number).number 0 ≡ b
          → Keeps bank (leaves (drop_verdict bank number) (over (layout (without number (slots_in bank))) bank) bank) (leaves (drop_verdict bank number) (without number (slots_in bank)) (slots_in bank))
      side true t =
          let z = eqb-true _ _ t in
          let h = bank_holds bank e in
          rw (leaves_done (drop_verdict bank number) (over (layout (without number (slots_in bank))) bank) bank z, leaves_done (drop_verdict bank number) (without number (slots_in bank)) (slots_in bank) z)
          (record {
            sized = over_length (layout (without number (slots_in bank))) bank;
            holds = over_holds (without number (slots_in bank)) bank (list_without number (slots_in bank) h.list) h.room (without_fits (drop_done bank number z).there);
          })
      side false t =
          let z = eqb-false _ _ t in
          rw (leaves_refused (drop_verdict bank number) (over (layout (without number (slots_in bank))) bank) bank z, leaves_refused (drop_verdict bank number) (without number (slots_in bank)) (slots_in bank) z) (same_bank e)

-- ---- empty
module _ (bank : List ℕ) (room : is_room (length bank) ≡ true) where
  empty_done : (empty_verdict (length bank)).number ≡ 0
  unfolding empty_verdict
  empty_done = number_0 (unless_pass 28 0 room)

  empty_keeps : Keeps bank (leaves (empty_verdict (length bank)) (over (layout []) bank) bank) []
  unfolding taken total is_list
  empty_keeps =
      let low = (room_low _ room).0 in
      rw (leaves_done (empty_verdict (length bank)) (over (layout []) bank) bank empty_done)
      (record { sized = over_length (layout []) bank; holds = over_holds [] bank refl room low })

-- ---- the calls that read
module _ (bank : List ℕ) (e : is_bank bank ≡ true) where
  fetch_plain_lem : (number out_length : ℕ) → fetch_verdict bank number out_length ≡ fetch_plain (slots_in bank) number out_length
  unfolding fetch_verdict
  fetch_plain_lem number out_length = bank_next bank _ e

  room_done : (room_verdict bank).number ≡ 0
  unfolding room_verdict
  room_done = number_0 (unless_pass 28 0 e)

pub seen : Seen
seen =
    record {
      store = λ bank number slot answer bank-after p e.
          (p.verdict_is ∙ store_plain_lem bank number slot e, rw p.bank_is (store_keeps bank number slot e));
      drop = λ bank number answer bank-after p e. (p.verdict_is ∙ drop_plain_lem bank number e, rw p.bank_is (drop_keeps bank number e));
      empty = λ bank answer bank-after p room. (ap (λ (v : Verdict). v.number) p.verdict_is ∙ empty_done bank room, rw p.bank_is (empty_keeps bank room));
      fetch = λ bank number out answer out-after p e.
          let v = fetch_plain_lem bank e number (length out) in
          (p.verdict_is ∙ v, p.out_is ∙ left_by (fetched number (slots_in bank)) out v);
      length_of = λ bank number answer p e.
          let v = drop_plain_lem bank number e in
          (p.verdict_is ∙ v, p.count_is ∙ left_by (length (fetched number (slots_in bank))) 0 v);
      room = λ bank answer p e.
          let d = room_done bank e in
          let fits = holds_fits (bank_holds bank e) in
          let c : answer.count ≡ length bank - taken (slots_in bank) = p.count_is ∙ leaves_done (room_verdict bank) (length bank - taken (slots_in bank)) 0 d in
          (ap (λ (v : Verdict). v.number) p.verdict_is ∙ d, omega arith);
    }

-- ---- bytes that are no bank
refused_28 : {A : Type 0} {v : Verdict} (new old : A) → v ≡ refused 28 0 → leaves v new old ≡ old
refused_28 new old e = left_by new old e ∙ leaves_refused (refused 28 0) new old (λ z. let w : ⊥ = omega arith in w)

module _ (bank : List ℕ) (e : is_bank bank ≡ false) where
  store_stops : (number : ℕ) (slot : List ℕ) → store_verdict bank number slot ≡ refused 28 0
  unfolding store_verdict
  store_stops number slot = bank_stops bank _ e

  drop_stops : (number : ℕ) → drop_verdict bank number ≡ refused 28 0
  unfolding drop_verdict
  drop_stops number = bank_stops bank _ e

  fetch_stops : (number out_length : ℕ) → fetch_verdict bank number out_length ≡ refused 28 0
  unfolding fetch_verdict
  fetch_stops number out_length = bank_stops bank _ e

  room_stops : room_verdict bank ≡ refused 28 0
  unfolding room_verdict unless
  room_stops = rw e

pub unseen : Unseen
unseen =
    record {
      store = λ bank number slot answer bank-after p e. let v = store_stops bank e number slot in (p.verdict_is ∙ v, p.bank_is ∙ refused_28 _ bank v);
      drop = λ bank number answer bank-after p e. let v = drop_stops bank e number in (p.verdict_is ∙ v, p.bank_is ∙ refused_28 _ bank v);
      fetch = λ bank number out answer out-after p e. let v = fetch_stops bank e number (length out) in (p.verdict_is ∙ v, p.out_is ∙ refused_28 _ out v);
      length_of = λ bank number answer p e. let v = drop_stops bank e number in (p.verdict_is ∙ v, p.count_is ∙ refused_28 _ 0 v);
      room = λ bank answer p e. let v = room_stops bank e in (p.verdict_is ∙ v, p.count_is ∙ refused_28 _ 0 v);
    }

-- ---- any sequence of calls
made_keeps : (bank : List ℕ) (call : Call) (next : List ℕ) → Made bank call next → is_bank bank ≡ true → Keeps bank next (after (length bank) (slots_in bank) call)
unfolding after
made_keeps bank _ _ (emptied answer next p) e = (seen.empty bank answer next p (bank_holds bank e).room).1
made_keeps bank _ _ (stored_in number slot answer next p) e = (seen.store bank number slot answer next p e).1
made_keeps bank _ _ (dropped number answer next p) e = (seen.drop bank number answer next p e).1

all_keep : (n : ℕ) (bank : List ℕ) (calls : List Call) (last : List ℕ) (slots : List Slot) → AllMade bank calls last → length bank ≡ n → Holds bank slots
    → (length last ≡ n) × Holds last (after_all n slots calls)
unfolding after_all
all_keep n _ _ _ slots (none bank) long h = (long, h)
all_keep n _ _ _ slots (more bank call next calls last m rest) long h =
    let k = made_keeps bank call next m (holds_bank h) in
    all_keep n next calls last (after n slots call) rest (k.sized ∙ long) (rw (long, holds_slots h) at k.holds)

room_there : (bytes : List ℕ) → (empty_verdict (length bytes)).number ≡ 0 → is_room (length bytes) ≡ true
unfolding empty_verdict
room_there bytes z = unless_done _ 28 0 (lit< tt) z

pub after_calls : AfterCalls
after_calls buffer answer bank calls last p d made =
    let room = room_there buffer (ap (λ (v : Verdict). v.number) (sym p.verdict_is) ∙ d) in
    let k = (seen.empty buffer answer bank p room).1 in
    let all = all_keep (length buffer) bank calls last [] made k.sized k.holds in
    let h = all.1 in
    record {
      sized = all.0;
      holds = h;
      total_is = holds_total h;
      fetches = λ number out answer out-after f. rw (← holds_slots h) (seen.fetch last number out answer out-after f (holds_bank h));
    }

-- ---- room that was dropped
dropped_list : (bank : List ℕ) (number : ℕ) → is_bank bank ≡ true → (drop_verdict bank number).number ≡ 0 → after (length bank) (slots_in bank) (drops number) ≡ without number (slots_in bank)
unfolding after
dropped_list bank number e z = leaves_done (drop_plain (slots_in bank) number) _ _ (ap (λ (v : Verdict). v.number) (sym (drop_plain_lem bank number e)) ∙ z)

plain_never : (n : ℕ) (ss : List Slot) (number : ℕ) (slot : List ℕ) → taken ss + (4 + length slot) ≤ n → (store_plain n ss number slot).number ≡ 31 → ⊥
unfolding store_plain
plain_never n ss number slot fits =
    or_else_never 31 some _ _ (unless_never 31 some _ 11 0 (λ z. let w : ⊥ = omega arith in w))
    (or_else_never 31 some _ _ (unless_never 31 some _ 3 0 (λ z. let w : ⊥ = omega arith in w))
    (or_else_never 31 some _ _ (each_never 31 some 0 4 _ _ (λ z. let w : ⊥ = omega arith in w))
    (or_else_never 31 some _ _ (unless_never 31 some _ 30 0 (λ z. let w : ⊥ = omega arith in w))
    (λ e. let z : ◌≡◌ {A = ℕ} 0 31 = ap (λ (v : Verdict). v.number) (sym (unless_pass 31 0 (le-leb _ _ fits))) ∙ e in let w : ⊥ = omega arith in w))))
  where
    some : 0 < 31
    some = lit< tt

-- a store is refused for room only where there is none
never_room : (bytes : List ℕ) (number : ℕ) (slot : List ℕ) → (is_bank bytes ≡ true → taken (slots_in bytes) + (4 + length slot) ≤ length bytes) → (store_verdict bytes number slot).number ≡ 31 → ⊥
unfolding store_verdict
never_room bytes number slot fits e = side (is_bank bytes) refl
  where
    side : (b : Bool) → is_bank bytes ≡ b → ⊥
    side true t = plain_never (length bytes) (slots_in bytes) number slot (fits t) (ap (λ (v : Verdict). v.number) (sym (bank_next bytes _ t)) ∙ e)
    side false t = let z : ◌≡◌ {A = ℕ} 28 31 = ap (λ (v : Verdict). v.number) (sym (bank_stops bytes _ t)) ∙ e in let w : ⊥ = omega arith in w

pub room_again : RoomAgain
room_again bank number answer bank-after p d other slot short e =
    let z : (drop_verdict bank number).number ≡ 0 = ap (λ (v : Verdict). v.number) (sym p.verdict_is) ∙ d in
    let known = drop_done bank number z in
    let h = bank_holds bank known.bank in
    let at_slot = present number (slots_in bank) known.there in
    let keeps = (seen.drop bank number answer bank-after p known.bank).1 in
    let slots : slots_in bank-after ≡ at_slot.before ++ at_slot.behind = holds_slots keeps.holds ∙ dropped_list bank number known.bank z ∙ at_slot.without_is in
    let fits = holds_fits h in
    let t = taken_dropped h at_slot in
    let n : length (fetched number (slots_in bank)) ≡ length at_slot.slot.digits = ap length at_slot.fetched_is in
    let long = keeps.sized in
    let w : taken (slots_in bank-after) ≡ taken (at_slot.before ++ at_slot.behind) = ap taken slots in
    never_room bank-after other slot (λ _. omega arith) e

-- ---- one outcome
counted : {a b : Counted} → a.verdict ≡ b.verdict → a.count ≡ b.count → a ≡ b
counted p q = λ i. record { verdict = p i; count = q i }

pub once : Once
once =
    record {
      empty = λ bank a b x y p q. (one_outcome p.verdict_is q.verdict_is, one_outcome p.bank_is q.bank_is);
      store = λ bank number slot a b x y p q. (one_outcome p.verdict_is q.verdict_is, one_outcome p.bank_is q.bank_is);
      drop = λ bank number a b x y p q. (one_outcome p.verdict_is q.verdict_is, one_outcome p.bank_is q.bank_is);
      fetch = λ bank number out a b x y p q. (one_outcome p.verdict_is q.verdict_is, one_outcome p.out_is q.out_is);
      length_of = λ bank number a b p q. counted (one_outcome p.verdict_is q.verdict_is) (one_outcome p.count_is q.count_is);
      room = λ bank a b p q. counted (one_outcome p.verdict_is q.verdict_is) (one_outcome p.count_is q.count_is);
    }

pub parts_once : PartsOnce
parts_once =
    record {
      find = λ bank number a b p q i.
          record {
            verdict = one_outcome p.verdict_is q.verdict_is i;
            total = one_outcome p.total_is q.total_is i;
            start = one_outcome p.start_is q.start_is i;
            length = one_outcome p.length_is q.length_is i;
          };
    }

-- ---- answers that fit
bank_narrow : (bytes : List ℕ) (v : Verdict) → Narrow v → Narrow (or_else (unless (is_bank bytes) 28 0) v)
bank_narrow bytes v n = check_narrow _ 28 0 v (lit< tt) (lit< tt) (lit< tt) (λ _. n)

store_fits : (n : ℕ) (ss : List Slot) (number : ℕ) (slot : List ℕ) → Narrow (store_plain n ss number slot)
unfolding store_plain
store_fits n ss number slot =
    check_narrow _ 11 0 _ (lit< tt) (lit< tt) (lit< tt)
    (λ _. check_narrow _ 3 0 _ (lit< tt) (lit< tt) (lit< tt)
    (λ long. or_else_narrow _ _ (let h = (length_low _ long).1 in each_narrow 0 4 _ _ (lit< tt) (omega arith))
    (λ _. check_narrow _ 30 0 _ (lit< tt) (lit< tt) (lit< tt)
    (λ _. unless_narrow _ 31 0 (lit< tt) (lit< tt)))))

drop_fits : (ss : List Slot) (number : ℕ) → Narrow (drop_plain ss number)
unfolding drop_plain
drop_fits ss number = check_narrow _ 11 0 _ (lit< tt) (lit< tt) (lit< tt) (λ _. unless_narrow _ 29 0 (lit< tt) (lit< tt))

fetch_fits : (ss : List Slot) (number out_length : ℕ) → Narrow (fetch_plain ss number out_length)
unfolding fetch_plain
fetch_fits ss number out_length = or_else_narrow _ _ (drop_fits ss number) (λ _. unless_narrow _ 3 0 (lit< tt) (lit< tt))

fetched_low : (bank : List ℕ) (number : ℕ) → (drop_verdict bank number).number ≡ 0 → length (fetched number (slots_in bank)) < 65536
fetched_low bank number z =
    let d = drop_done bank number z in
    let h = bank_holds bank d.bank in
    let p = present number (slots_in bank) d.there in
    let low = (length_low _ (slot_long p.slot (list_slot p.before p.slot p.behind (ap is_list (sym p.whole) ∙ h.list)))).1 in
    let n : length (fetched number (slots_in bank)) ≡ length p.slot.digits = ap length p.fetched_is in
    omega arith

room_low_of : (bank : List ℕ) → (room_verdict bank).number ≡ 0 → length bank - taken (slots_in bank) < 65536
unfolding room_verdict taken
room_low_of bank z = let r = (room_low _ (bank_holds bank (unless_done _ 28 0 (lit< tt) z)).room).1 in omega arith

pub packs : Packs
unfolding empty_verdict store_verdict drop_verdict fetch_verdict room_verdict
packs =
    record {
      empty_narrow = λ n. unless_narrow _ 28 0 (lit< tt) (lit< tt);
      store_narrow = λ bank number slot. bank_narrow bank _ (store_fits (length bank) (slots_in bank) number slot);
      drop_narrow = λ bank number. bank_narrow bank _ (drop_fits (slots_in bank) number);
      fetch_narrow = λ bank number out_length. bank_narrow bank _ (fetch_fits (slots_in bank) number out_length);
      room_narrow = λ bank. unless_narrow _ 28 0 (lit< tt) (lit< tt);
      length_small = λ bank number. leaves_small (drop_verdict bank number) _ 65536 (fetched_low bank number) (lit< tt);
      room_small = λ bank. leaves_small (room_verdict bank) _ 65536 (room_low_of bank) (lit< tt);
    }
