-- `lines::pich_line` meets its contract.
use native.Mathlib.Omega.{arith}
use Rattle.std.proofs.Common.{rules}
use Rattle.lines.proofs.Put.{sofar_first, sofar_then}
use Rattle.lines.proofs.Words.{number_length, row_length}
use Rattle.lines.specs.Rule.{pich_line}
use Rattle.lines.specs.Text.{Wrote}
use Rattle.lines.proofs.pich_line.Goals as goal

pub number-requires : goal.number-requires
number-requires c =
    let s1 = sofar_first 5 (omega (arith, c.requires.2)) (omega arith) c.word.ensures.wrote in
    omega (arith, c.requires.2, s1.within, s1.same, number_length 2 c.args.np 32 (omega (arith, c.requires.0)))

pub row-requires : goal.row-requires
row-requires c =
    let s1 = sofar_first 5 (omega (arith, c.requires.2)) (omega arith) c.word.ensures.wrote in
    let s2 = sofar_then 4 (omega (arith, c.requires.2)) (number_length 2 _ _ (omega (arith, c.requires.0))) s1 c.number.ensures.wrote in
    omega (arith, c.requires.2, s2.within, s2.same, c.requires.1)

pub returns : goal.returns
unfolding pich_line
returns c =
    let s1 = sofar_first 5 (omega (arith, c.requires.2)) (omega arith) c.word.ensures.wrote in
    let s2 = sofar_then 4 (omega (arith, c.requires.2)) (number_length 2 _ _ (omega (arith, c.requires.0))) s1 c.number.ensures.wrote in
    let s3 = sofar_then 301 (omega (arith, c.requires.2)) (omega (arith, c.requires.1, row_length c.args.frame.now)) s2 c.row.ensures.wrote in
    let w : Wrote 0 (pich_line c.args.np c.args.frame.now) c.args.line.now c.row.new.self.end c.row.new.self.line.now = s3.wrote in
    search rules
