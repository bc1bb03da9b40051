-- `pccpch_read::read` meets its contract: what is given is read at once, and all else goes through the checks in their order.
use mathlib.Core.Path.{◌≡◌, sym, ap, ◌∙◌, subst}
use mathlib.Core.List.{List}
use Prim.Native.Nat.{ℕ}
use lib.ListN.{length}
use Rattle.run.specs.Answers.{verdict_of}
use Rattle.pccpch.specs.Outcome.{Read}
use Rattle.pccpch_read.proofs.Laws.{given_read, lengths_told}
use borrow.Author.Rules.{rules}
use Rattle.pccpch_read.proofs.read.Goals as goal
use Rattle.pccpch_read.proofs.read.Goals.{then-lengths_fit+else-take_given, else-lengths_fit, Joined-lengths_fit}

-- what was not given is as it was
kept : (c : Joined-lengths_fit) → c.if-lengths_fit.«data» ≡ c.args.«data».now
kept c = elim c.if-lengths_fit.branch [ then-lengths_fit+else-take_given w ↦ w.data-is ∙ w.take_given.ensures.1 w.if-take_given.false | else-lengths_fit w ↦ w.data-is ]

pub take_given-requires : goal.take_given-requires
take_given-requires c =
    lengths_told (length c.args.antenna1.now) (length c.args.antenna2.now) (length c.args.«data».now) (sym c.lengths_fit.ensures ∙ c.if-lengths_fit.true)

pub returns-then-take_given : goal.returns-then-take_given
returns-then-take_given c =
    let fit =
    lengths_told (length c.args.antenna1.now) (length c.args.antenna2.now) (length c.args.«data».now) (sym c.lengths_fit.ensures ∙ c.if-lengths_fit.true)
    in
    given_read fit.2 (c.take_given.ensures.0 c.if-take_given.true)

pub shape_of-data : goal.shape_of-data
shape_of-data c =
    let same : length c.read_checked.new.«data» ≡ length c.if-lengths_fit.«data» = search rules in
    same ∙ ap length (kept (goal.at.shape_of-data c).Joined-lengths_fit)

pub returns : goal.returns
returns c =
    subst (λ (l : List ℕ). Read c.args.antenna1.now c.args.antenna2.now l (verdict_of c.read_checked.result) c.read_checked.new.«data») (kept (goal.at.returns c).Joined-lengths_fit)
    c.read_checked.ensures
