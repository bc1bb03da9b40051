-- `lines::aich_line` meets its contract: 32 values have at most 128 bytes.
use native.Mathlib.Omega.{arith}
use Rattle.std.proofs.Common.{rules}
use Rattle.lines.proofs.Put.{sofar_first, sofar_then}
use Rattle.lines.proofs.Values.{spaced_all}
use Rattle.lines.specs.Rule.{aich_line}
use Rattle.lines.specs.Text.{Wrote}
use Rattle.lines.proofs.aich_line.Goals as goal

pub values-requires : goal.values-requires
values-requires c =
    let s1 = sofar_first 4 (omega (arith, c.requires.2)) (omega arith) c.word.ensures.wrote in
    (c.requires.0, omega (arith, c.requires.1, c.requires.2, s1.within, s1.same))

pub byte-requires : goal.byte-requires
byte-requires c =
    let s1 = sofar_first 4 (omega (arith, c.requires.2)) (omega arith) c.word.ensures.wrote in
    let s2 = sofar_then 128 (omega (arith, c.requires.2)) (spaced_all _ c.requires.0 c.requires.1) s1 c.values.ensures.wrote in
    omega (arith, c.requires.2, s2.within, s2.same)

pub returns : goal.returns
unfolding aich_line
returns c =
    let s1 = sofar_first 4 (omega (arith, c.requires.2)) (omega arith) c.word.ensures.wrote in
    let s2 = sofar_then 128 (omega (arith, c.requires.2)) (spaced_all _ c.requires.0 c.requires.1) s1 c.values.ensures.wrote in
    let s3 = sofar_then 1 (omega (arith, c.requires.2)) (omega arith) s2 c.byte.ensures.wrote in
    let w : Wrote 0 (aich_line c.args.values.now) c.args.line.now c.byte.new.self.end c.byte.new.self.line.now = s3.wrote in
    search rules
