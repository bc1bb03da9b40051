-- The law of specs/Pairs.antt.
-- Assumes nothing.
use mathlib.Core.Path.{◌≡◌, sym, ap, ◌∙◌}
use Rattle.run.specs.Pairs.{PairGiven, PairsExact}

pub pairs_exact : PairsExact
pairs_exact F S Taken one two accepts take implied reads follows s t =
    record {
      exactly = (
        λ a.
            let g = (reads.exactly s).0 a.0 in
            record { fields = g.fields; taken = g.taken; first = g.gives; second = follows g.fields g.taken ∙ ap implied g.gives ∙ a.1 },
        λ g. ((reads.exactly s).1 (record { fields = g.fields; taken = g.taken; gives = g.first }), ap implied (sym g.first) ∙ sym (follows g.fields g.taken) ∙ g.second),
      );
      hands_back = handed;
      one_set = λ g h. sym (handed g) ∙ handed h;
    }
  where
    handed : (g : PairGiven Taken one two s t) → take s ≡ g.fields
    handed g = ap take (sym g.first) ∙ reads.back g.fields g.taken
