-- `dpcch_map::are_good` meets its contract.
use mathlib.Core.Path.{sym, ◌∙◌}
use native.Mathlib.Omega.{arith}
use borrow.Author.Tests.{leb-true}
use Rattle.dpcch.proofs.Accept.{fields_pass}
use Rattle.dpcch_map.proofs.are_good.Goals as goal
use Rattle.dpcch_map.proofs.are_good.Goals.{then-tpc-le1, else-tpc-le1}

pub returns-then-are_bits : goal.returns-then-are_bits
returns-then-are_bits c =
    λ good. elim c.if-tpc-le1.branch [
      | then-tpc-le1 way ↦ fields_pass c.args.tpc c.args.tfci.now c.args.fbi.now 0 0 0
          (record {
            tpc_ok = way.if-tpc-le1.true;
            tfci_bits = way.are_bits.ensures (sym way.value-is ∙ c.if-are_bits.true);
            fbi_bits = c.are_bits-then-are_bits.ensures good;
          })
      | else-tpc-le1 way ↦ absurd (let small = leb-true _ _ (sym way.value-is ∙ c.if-are_bits.true) in let z : ⊥ = omega (arith, way.if-tpc-le1.false) in z)
    ]
