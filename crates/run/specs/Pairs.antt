-- Two streams of one set of fields: a reader takes the fields of the first and compares the second with what the first implies. Which pairs it accepts, said once for every channel that is sent
-- from two antennas. The statement is proved in proofs/Pairs.antt under its name in small letters.
-- Assumes nothing.
use Rattle.std.specs.Prelude.{◌≡◌, ◌↔◌}

-- some fields that are taken give a stream
pub record Given {F S : Type 0} (Taken : F → Type 0) (one : F → S) (s : S) : Type 0 where
  pub fields : F
  pub taken : Taken fields
  pub gives : one fields ≡ s

-- .. and a pair of streams
pub record PairGiven {F S : Type 0} (Taken : F → Type 0) (one two : F → S) (s t : S) : Type 0 where
  pub fields : F
  pub taken : Taken fields
  pub first : one fields ≡ s
  pub second : two fields ≡ t

-- a reader of one stream: it accepts exactly the streams that some fields give, and takes those out of the stream
pub record Reads {F S : Type 0} (Taken : F → Type 0) (one : F → S) (accepts : S → Type 0) (take : S → F) : Type 0 where
  pub exactly : (s : S) → accepts s ↔ Given Taken one s
  pub back : (x : F) → Taken x → take (one x) ≡ x

-- the reader of pairs then accepts exactly those that some fields give, hands back those, and there is one set of them
pub record PairRead {F S : Type 0} (Taken : F → Type 0) (one two : F → S) (accepts : S → Type 0) (take : S → F) (implied : S → S) (s t : S) : Type 0 where
  pub exactly : (accepts s × (implied s ≡ t)) ↔ PairGiven Taken one two s t
  pub hands_back : (g : PairGiven Taken one two s t) → take s ≡ g.fields
  pub one_set : (g h : PairGiven Taken one two s t) → g.fields ≡ h.fields

abbrev pub PairsExact : Type 1
PairsExact =
    (F S : Type 0) (Taken : F → Type 0) (one two : F → S) (accepts : S → Type 0) (take : S → F) (implied : S → S)
    → Reads Taken one accepts take → ((x : F) → Taken x → two x ≡ implied (one x)) → (s t : S) → PairRead Taken one two accepts take implied s t
