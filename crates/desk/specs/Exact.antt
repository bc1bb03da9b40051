-- The theorems of the random access desk (docs/RULES.md, 'The random access desk'). Each statement is proved in proofs/Exact.antt under its name in small letters.
-- Assumes nothing.
use Rattle.std.specs.Prelude.{ℕ, zero, suc, ◌+◌, ◌/◌, ◌≤◌, ◌<◌, min, ◌≡◌, Bool, true, false, ◌&&◌, List, ◌⊎◌, ltb, length, get_or, ℤ, pos, negsuc}
use Rattle.run.specs.Table.{tab}
use Rattle.run.specs.Verdicts.{done, leaves, Narrow}
use Rattle.whole.specs.Equal.{eq_z}
use Rattle.aich.specs.Rule.{offers, values_of}
use Rattle.aich.specs.Available.{GivesUnder}
use Rattle.desk.specs.declared.Desk.{Desk}
use Rattle.desk.specs.Answers.{Served, Distance}
use Rattle.run.specs.Count.{count}
use Rattle.desk.specs.Rule.{candidate, place_of, signature_at, indicators_of, last_after, fresh_last, to_aich, to_message}
use Rattle.desk.specs.Outcome.{Fresh, serve_verdict, Serve, timing_verdict, ToAich, ToMessage}

-- signature s got this indicator
abbrev pub Gets : (ℕ → Bool) → ℕ → ℕ → ℕ → ℤ → Type 0
Gets asks last n s indicator = get_or (indicators_of asks last n) s (pos 0) ≡ indicator

-- whether it got +1
abbrev pub got_one : (ℕ → Bool) → ℕ → ℕ → ℕ → Bool
got_one asks last n s = eq_z (get_or (indicators_of asks last n) s (pos 0)) (pos 1)

-- ---- one access slot, for any signatures that ask

-- exactly min(n, how many ask) get +1; who does not ask gets nothing, and who asks gets +1 or -1; -1 only where n others that come earlier got +1
pub record FairSlot (asks : ℕ → Bool) (last n : ℕ) : Type 0 where
  pub as_many : count 16 (got_one asks last n) ≡ min n (count 16 asks)
  pub others_nothing : (s : ℕ) → s < 16 → asks s ≡ false → Gets asks last n s (pos 0)
  pub askers_told : (s : ℕ) → s < 16 → asks s ≡ true → Gets asks last n s (pos 1) ⊎ Gets asks last n s (negsuc 0)
  pub refused_behind : (s : ℕ) → s < 16 → Gets asks last n s (negsuc 0) → count 16 (λ (t : ℕ). got_one asks last n t && ltb (place_of last t) (place_of last s)) ≡ n

abbrev pub SlotFair : Type 0
SlotFair = (asks : ℕ → Bool) (last n : ℕ) → last ≤ 15 → FairSlot asks last n

-- the desk afterwards: where somebody got +1, one who did and after whom nobody did; else as it was. It is always a signature
pub record Moved (asks : ℕ → Bool) (last n : ℕ) : Type 0 where
  pub nobody : count 16 (got_one asks last n) ≡ 0 → last_after asks last n ≡ last
  pub one_served : 0 < count 16 (got_one asks last n) → Gets asks last n (last_after asks last n) (pos 1)
  pub latest : (s : ℕ) → s < 16 → Gets asks last n s (pos 1) → place_of last s ≤ place_of last (last_after asks last n)
  pub signature : last_after asks last n ≤ 15

abbrev pub DeskMoves : Type 0
DeskMoves = (asks : ℕ → Bool) (last n : ℕ) → last ≤ 15 → Moved asks last n

-- a slot that serves nobody is one in which nobody asks, and its values are all 0
pub record Quiet (asks : ℕ → Bool) (last n : ℕ) : Type 0 where
  pub nobody_asks : (s : ℕ) → s < 16 → asks s ≡ false
  pub all_0 : values_of (indicators_of asks last n) ≡ tab 32 (λ (j : ℕ). pos 0)

abbrev pub NobodyServed : Type 0
NobodyServed = (asks : ℕ → Bool) (last n : ℕ) → last ≤ 15 → 1 ≤ n → count 16 (got_one asks last n) ≡ 0 → Quiet asks last n

-- places are a circle of the sixteen signatures, and a fresh desk has them in order from 0
pub record Circle : Type 0 where
  pub there : (last s : ℕ) → last ≤ 15 → s < 16 → signature_at last (place_of last s) ≡ s
  pub back : (last p : ℕ) → last ≤ 15 → p < 16 → place_of last (signature_at last p) ≡ p
  pub from_0 : (s : ℕ) → s < 16 → place_of fresh_last s ≡ s

-- the mapper under the available set takes the indicators of heard and available signatures, and writes the values that the desk does
abbrev pub MapperTakes : Type 0
MapperTakes =
    (heard available last n : ℕ)
    → GivesUnder available (indicators_of (candidate heard available) last n) (values_of (indicators_of (candidate heard available) last n))

-- ---- access slots in a row: `heard k` is what is heard in slot k; n and the set do not change

-- the desk before slot k
unfoldable pub desk_at : (ℕ → ℕ) → ℕ → ℕ → ℕ → ℕ → ℕ
desk_at heard available n last zero = last
desk_at heard available n last (suc k) = last_after (candidate (heard k) available) (desk_at heard available n last k) n

-- signature s gets +1 in slot k
abbrev pub ServedIn : (ℕ → ℕ) → ℕ → ℕ → ℕ → ℕ → ℕ → Type 0
ServedIn heard available n last s k = Gets (candidate (heard k) available) (desk_at heard available n last k) n s (pos 1)

-- 16/n, rounded up
unfoldable pub turns : ℕ → ℕ
turns n = (15 + n) / n

-- from any desk, and from any slot of any sequence on: an available signature that is heard in each of the next ⌈16/n⌉ slots gets +1 in one of them, whatever else is heard
abbrev pub Fairness : Type 0
Fairness =
    (heard : ℕ → ℕ) (available n last s start : ℕ) → 1 ≤ n → n ≤ 16 → last ≤ 15 → s < 16 → offers available s ≡ true
    → ((k : ℕ) → k < turns n → offers (heard (start + k)) s ≡ true)
    → (k : ℕ) × (k < turns n) × ServedIn heard available n last s (start + k)

-- no smaller number will do: where all sixteen are heard in every slot, signature 15 gets -1 in all but the last of the first ⌈16/n⌉ slots of a fresh desk
abbrev pub Tight : Type 0
Tight =
    (n k : ℕ) → 1 ≤ n → n ≤ 16 → k + 1 < turns n
    → Gets (candidate 65535 65535) (desk_at (λ (j : ℕ). 65535) 65535 n fresh_last k) n 15 (negsuc 0)

-- calls in a row: each is given the desk that the one before it answered
pub record Row (heard : ℕ → ℕ) (available n : ℕ) (answers : ℕ → Served) (values : ℕ → List ℤ) (start : Desk) (m : ℕ) : Type 0 where
  pub first : 0 < m → (run : List ℤ) × (length run ≡ 32) × Serve start (heard 0) available n run (answers 0) (values 0)
  pub next : (k : ℕ) → k + 1 < m → (run : List ℤ) × (length run ≡ 32) × Serve (answers k).desk (heard (k + 1)) available n run (answers (k + 1)) (values (k + 1))

-- .. answer the desks of the definition, and write the values of its indicators
pub record RowIs (heard : ℕ → ℕ) (available n : ℕ) (answers : ℕ → Served) (values : ℕ → List ℤ) (start : Desk) (k : ℕ) : Type 0 where
  pub is_done : (answers k).verdict ≡ done
  pub desk_is : (answers k).desk.last ≡ desk_at heard available n start.last (k + 1)
  pub values_are : values k ≡ values_of (indicators_of (candidate (heard k) available) (desk_at heard available n start.last k) n)

abbrev pub CallsRow : Type 0
CallsRow =
    (heard : ℕ → ℕ) (available n : ℕ) (answers : ℕ → Served) (values : ℕ → List ℤ) (start : Desk) (m : ℕ)
    → 1 ≤ n → n ≤ 16 → start.last ≤ 15 → Row heard available n answers values start m → (k : ℕ) → k < m → RowIs heard available n answers values start k

-- ---- what a promise allows

-- each allows one outcome
pub record DeskOnce : Type 0 where
  pub fresh : (a b : Desk) → Fresh a → Fresh b → a ≡ b
  pub serve : (desk : Desk) (heard available n : ℕ) (values : List ℤ) (a b : Served) (x y : List ℤ)
      → Serve desk heard available n values a x → Serve desk heard available n values b y → (a ≡ b) × (x ≡ y)
  pub to_aich_lem : (timing : ℕ) (a b : Distance) → ToAich timing a → ToAich timing b → a ≡ b
  pub to_message_lem : (timing : ℕ) (a b : Distance) → ToMessage timing a → ToMessage timing b → a ≡ b

-- number and place fit the 16 and 32 bits that the C boundary has for them, and a distance its 16
pub record Packs : Type 0 where
  pub serve_narrow : (last n values_length : ℕ) → Narrow (serve_verdict last n values_length)
  pub timing_narrow : (timing : ℕ) → Narrow (timing_verdict timing)
  pub to_aich_small : (timing : ℕ) → leaves (timing_verdict timing) (to_aich timing) 0 < 65536
  pub to_message_small : (timing : ℕ) → leaves (timing_verdict timing) (to_message timing) 0 < 65536
