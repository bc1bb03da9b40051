-- `lines::head_line` meets its contract: a version has at most three digits, and a count five.
use native.Mathlib.Omega.{arith}
use Rattle.std.proofs.Common.{rules}
use Rattle.lines.proofs.Put.{sofar_first, sofar_then}
use Rattle.lines.proofs.Words.{number_length}
use Rattle.lines.specs.Rule.{head_line}
use Rattle.lines.specs.Text.{Wrote}
use Rattle.lines.proofs.head_line.Goals as goal

pub number-requires : goal.number-requires
number-requires c =
    let s1 = sofar_first 4 (omega (arith, c.requires)) (omega arith) c.word.ensures.wrote in
    omega (arith, c.requires, s1.within, s1.same, number_length 2 c.args.version 32 (omega arith))

pub number-requires-2 : goal.number-requires-2
number-requires-2 c =
    let s1 = sofar_first 4 (omega (arith, c.requires)) (omega arith) c.word.ensures.wrote in
    let s2 = sofar_then 4 (omega (arith, c.requires)) (number_length 2 _ _ (omega arith)) s1 c.number.ensures.wrote in
    omega (arith, c.requires, s2.within, s2.same, number_length 4 c.args.count 10 (omega arith))

pub returns : goal.returns
unfolding head_line
returns c =
    let s1 = sofar_first 4 (omega (arith, c.requires)) (omega arith) c.word.ensures.wrote in
    let s2 = sofar_then 4 (omega (arith, c.requires)) (number_length 2 _ _ (omega arith)) s1 c.number.ensures.wrote in
    let s3 = sofar_then 6 (omega (arith, c.requires)) (number_length 4 _ _ (omega arith)) s2 c.number-2.ensures.wrote in
    let w : Wrote 0 (head_line c.args.version c.args.count) c.args.line.now c.number-2.new.self.end c.number-2.new.self.line.now = s3.wrote in
    search rules
