-- `hspdsch_encode::encode_one` meets its contract: two blocks of four, or one of eight.
use mathlib.Core.Path.{◌≡◌, refl, ap, ◌∙◌}
use mathlib.Core.List.{List}
use Prim.Native.Nat.{ℕ, ◌%◌}
use native.Mathlib.Omega.{arith}
use borrow.Author.Tests.{eq-eqb, ne_eqb}
use lib.ListN.{length}
use lib.Seq.{take_all}
use Rattle.hspdsch.specs.Rule.{picked, figure8_a, eights, coded}
use Rattle.hspdsch.specs.Outcome.{flip}
use Rattle.hspdsch.proofs.Laws.{eights_length, eights_at}
use Rattle.hspdsch_encode.proofs.encode_one.Goals as goal

one_block : (b : List ℕ) → length b ≡ 8 → picked flip figure8_a b ≡ eights flip b
one_block b long =
    let whole : length b % 8 ≡ 0 = ap (λ (n : ℕ). n % 8) long in
    let n = eights_length flip b whole in
    let here = eights_at flip b whole 0 refl (omega arith) in
    rw (take_all 8 b (omega arith), take_all 8 (eights flip b) (omega arith)) at here

pub returns-then-this-eq0 : goal.returns-then-this-eq0
unfolding coded
returns-then-this-eq0 g c = c.encode_two_fours.ensures ∙ rw (eq-eqb _ _ c.if-this-eq0.true)

pub returns-else-this-eq0 : goal.returns-else-this-eq0
unfolding coded
returns-else-this-eq0 g c = c.encode_eight.ensures ∙ one_block _ c.requires.0 ∙ rw (ne_eqb _ _ c.if-this-eq0.false)
