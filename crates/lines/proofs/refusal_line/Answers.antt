-- `lines::refusal_line` meets its contract: a machine number has at most twenty digits.
use native.Mathlib.Omega.{arith}
use Rattle.std.proofs.Common.{rules}
use Rattle.run.specs.Verdicts.{refused}
use Rattle.lines.proofs.Put.{sofar_first, sofar_then}
use Rattle.lines.proofs.Words.{number_length}
use Rattle.lines.specs.Rule.{refusal_line}
use Rattle.lines.specs.Text.{Wrote}
use Rattle.lines.proofs.refusal_line.Goals as goal

pub number-requires : goal.number-requires
number-requires c =
    let s1 = sofar_first 8 (omega (arith, c.requires)) (omega arith) c.word.ensures.wrote in
    omega (arith, c.requires, s1.within, s1.same, number_length 19 c.args.number 32 (omega arith))

pub number-requires-2 : goal.number-requires-2
number-requires-2 c =
    let s1 = sofar_first 8 (omega (arith, c.requires)) (omega arith) c.word.ensures.wrote in
    let s2 = sofar_then 21 (omega (arith, c.requires)) (number_length 19 _ _ (omega arith)) s1 c.number.ensures.wrote in
    omega (arith, c.requires, s2.within, s2.same, number_length 19 c.args.place 10 (omega arith))

pub returns : goal.returns
unfolding refusal_line
returns c =
    let s1 = sofar_first 8 (omega (arith, c.requires)) (omega arith) c.word.ensures.wrote in
    let s2 = sofar_then 21 (omega (arith, c.requires)) (number_length 19 _ _ (omega arith)) s1 c.number.ensures.wrote in
    let s3 = sofar_then 21 (omega (arith, c.requires)) (number_length 19 _ _ (omega arith)) s2 c.number-2.ensures.wrote in
    let w : Wrote 0 (refusal_line (refused c.args.number c.args.place)) c.args.line.now c.number-2.new.self.end c.number-2.new.self.line.now = s3.wrote in
    search rules
