-- docs/RULES.md, 'STTD'; TS 25.211, 5.3.1.1.1, figure 8: what antenna 2 sends, over the meaning of the bar.
-- Assumes nothing.
use Rattle.std.specs.Prelude.{ℕ, cond, List, [], ◌∷◌, eqb, ℤ, pos, negsuc}

-- b0 b1 b2 b3 on antenna 1 make bar b2, b3, b0, bar b1 on antenna 2, block by block.
-- The encoder works on whole blocks: one, two or three entries behind the last of them are not encoded and stay as they are.
unfoldable pub sttd : {A : Type 0} → (A → A) → List A → List A
sttd bar [] = []
sttd bar (b0 ∷ []) = b0 ∷ []
sttd bar (b0 ∷ b1 ∷ []) = b0 ∷ b1 ∷ []
sttd bar (b0 ∷ b1 ∷ b2 ∷ []) = b0 ∷ b1 ∷ b2 ∷ []
sttd bar (b0 ∷ b1 ∷ b2 ∷ b3 ∷ rest) = bar b2 ∷ b3 ∷ b0 ∷ bar b1 ∷ sttd bar rest

-- the bar of a digit: 0 and 1 change places, DTX stays. Of an AICH value it is negation, `neg_ℤ`.
unfoldable pub bar_digit : ℕ → ℕ
bar_digit d = cond (eqb d 0) 1 (cond (eqb d 1) 0 d)

-- the real value of a digit: +1 for 0, -1 for 1, 0 for DTX (docs/RULES.md, 'Digits'). A number that is no digit has the value 0 too: its bar is itself, so 0 is the one
-- value that the bar's value can be the negative of.
unfoldable pub digit_value : ℕ → ℤ
digit_value d = cond (eqb d 0) (pos 1) (cond (eqb d 1) (negsuc 0) (pos 0))
