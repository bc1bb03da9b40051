-- `desk_serve::turned` meets its contract: a set beside itself, shifted.
use Prim.Native.Nat.{◌<◌}
use native.Mathlib.Omega.{arith}
use Rattle.desk.proofs.Digits.{turned_digit}
use Rattle.desk_serve.proofs.turned.Goals as goal

pub returns : goal.returns
returns c =
    let small : c.args.candidates < 65536 = c.ranges.candidates.fits in
    record { small = omega arith; digit = λ p h. turned_digit c.args.candidates c.args.last p small c.requires h }
