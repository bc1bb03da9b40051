-- `lines::dpch_line` meets its contract.
use native.Mathlib.Omega.{arith}
use Rattle.std.proofs.Common.{rules}
use Rattle.lines.proofs.Put.{sofar_first, sofar_then}
use Rattle.lines.proofs.Words.{number_length, row_length}
use Rattle.lines.specs.Rule.{dpch_line}
use Rattle.lines.specs.Text.{Wrote}
use Rattle.lines.proofs.dpch_line.Goals as goal

pub number-requires : goal.number-requires
number-requires c =
    let s1 = sofar_first 5 (omega (arith, c.requires.3)) (omega arith) c.word.ensures.wrote in
    omega (arith, c.requires.3, s1.within, s1.same, number_length 1 c.args.format 32 (omega (arith, c.requires.0)))

pub number-requires-2 : goal.number-requires-2
number-requires-2 c =
    let s1 = sofar_first 5 (omega (arith, c.requires.3)) (omega arith) c.word.ensures.wrote in
    let s2 = sofar_then 3 (omega (arith, c.requires.3)) (number_length 1 _ _ (omega (arith, c.requires.0))) s1 c.number.ensures.wrote in
    omega (arith, c.requires.3, s2.within, s2.same, number_length 1 c.args.slot 32 (omega (arith, c.requires.1)))

pub row-requires : goal.row-requires
row-requires c =
    let s1 = sofar_first 5 (omega (arith, c.requires.3)) (omega arith) c.word.ensures.wrote in
    let s2 = sofar_then 3 (omega (arith, c.requires.3)) (number_length 1 _ _ (omega (arith, c.requires.0))) s1 c.number.ensures.wrote in
    let s3 = sofar_then 3 (omega (arith, c.requires.3)) (number_length 1 _ _ (omega (arith, c.requires.1))) s2 c.number-2.ensures.wrote in
    omega (arith, c.requires.3, s3.within, s3.same, c.requires.2)

pub returns : goal.returns
unfolding dpch_line
returns c =
    let s1 = sofar_first 5 (omega (arith, c.requires.3)) (omega arith) c.word.ensures.wrote in
    let s2 = sofar_then 3 (omega (arith, c.requires.3)) (number_length 1 _ _ (omega (arith, c.requires.0))) s1 c.number.ensures.wrote in
    let s3 = sofar_then 3 (omega (arith, c.requires.3)) (number_length 1 _ _ (omega (arith, c.requires.1))) s2 c.number-2.ensures.wrote in
    let s4 = sofar_then 1281 (omega (arith, c.requires.3)) (omega (arith, c.requires.2, row_length c.args.digits.now)) s3 c.row.ensures.wrote in
    let w : Wrote 0 (dpch_line c.args.format c.args.slot c.args.digits.now) c.args.line.now c.row.new.self.end c.row.new.self.line.now = s4.wrote in
    search rules
