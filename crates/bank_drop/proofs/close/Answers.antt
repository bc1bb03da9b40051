-- `bank_drop::close` meets its contract: each turn copies one byte more, which stands behind all that was written.
use mathlib.Core.Path.{◌≡◌, sym, ap, ◌∙◌}
use mathlib.Core.List.{List}
use Prim.Native.Nat.{ℕ, ◌+◌, ◌-◌, ◌<◌, ◌≤◌}
use native.Mathlib.Omega.{arith}
use lib.ListN.{length, get_or, drop, length-drop}
use lib.Seq.{paste, get_or-drop}
use Rattle.std.proofs.lemmas.List.Edits.{paste_more, drop-paste}
use Rattle.bank_drop.proofs.close.Goals as goal

-- a byte that was not written yet
unread : (d : List ℕ) (start from i : ℕ) → start ≤ from → from + i < length d → get_or (paste d start (drop from d) i) (from + i) 0 ≡ get_or (drop from d) i 0
unread d start from i below inside =
    let n = length-drop from d in
    let k : start + i + (from - start) ≡ from + i = omega arith in
    ap (λ (j : ℕ). get_or (paste d start (drop from d) i) j 0) (sym k)
    ∙ sym (get_or-drop (start + i) (paste d start (drop from d) i) (from - start) 0)
    ∙ ap (λ (l : List ℕ). get_or l (from - start) 0) (drop-paste d start (drop from d) i (omega arith) (omega arith))
    ∙ get_or-drop (start + i) d (from - start) 0
    ∙ ap (λ (j : ℕ). get_or d j 0) k
    ∙ sym (get_or-drop from d i 0)

pub loop-i-preserved : goal.loop-i-preserved
loop-i-preserved c =
    let d = c.args.bank.now in
    let n = length-drop c.args.from d in
    rw (c.loop-i.invariant, unread d c.args.start c.args.from c.loop-i.i c.requires.0 (omega (arith, c.requires, c.loop-i-test.true)))
    (paste_more d c.args.start (drop c.args.from d) c.loop-i.i 0 (omega (arith, c.requires, c.loop-i-test.true)) (omega (arith, c.requires, c.loop-i-test.true)))
