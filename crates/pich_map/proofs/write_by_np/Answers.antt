-- `pich_map::write_by_np` meets its contract: each arm writes the frame of the Np that it names.
use native.Mathlib.Omega.{arith}
use mathlib.Core.Path.{◌≡◌, refl, sym, ◌∙◌}
use Rattle.pich.specs.Rule.{is_np}
use Rattle.pich.proofs.Laws.{last_np}
use Rattle.pich_map.proofs.write_by_np.Goals as goal
use Rattle.pich_map.proofs.write_by_np.Goals.{In_default}

-- the arm of all other numbers
rest-np : (c : In_default) → c.args.np ≡ 144
rest-np c =
    last_np _ c.requires.0 (λ e. grind arith) (λ e. grind arith) (λ e. grind arith)

pub write_frame-requires : goal.write_frame-requires
unfolding is_np
write_frame-requires c = let p = c.requires in (refl, p.1 ∙ c.in-18.is, p.2)

pub write_frame-requires-in-36 : goal.write_frame-requires-in-36
unfolding is_np
write_frame-requires-in-36 c = let p = c.requires in (refl, p.1 ∙ c.in-36.is, p.2)

pub write_frame-requires-in-72 : goal.write_frame-requires-in-72
unfolding is_np
write_frame-requires-in-72 c = let p = c.requires in (refl, p.1 ∙ c.in-72.is, p.2)

pub write_frame-requires-in_default : goal.write_frame-requires-in_default
unfolding is_np
write_frame-requires-in_default c = let p = c.requires in (refl, p.1 ∙ rest-np (goal.at.write_frame-requires-in_default c).In_default, p.2)

pub returns-in-18 : goal.returns-in-18
returns-in-18 c = c.write_frame.ensures ∙ rw (sym c.in-18.is)

pub returns-in-36 : goal.returns-in-36
returns-in-36 c = c.write_frame-in-36.ensures ∙ rw (sym c.in-36.is)

pub returns-in-72 : goal.returns-in-72
returns-in-72 c = c.write_frame-in-72.ensures ∙ rw (sym c.in-72.is)

pub returns-in_default : goal.returns-in_default
returns-in_default c = c.write_frame-in_default.ensures ∙ rw (sym (rest-np (goal.at.returns-in_default c).In_default))
