-- `bank_find::held` meets its contract.
use mathlib.Core.Path.{◌≡◌, sym, ap, ◌∙◌}
use mathlib.Core.Bool.{true, false}
use mathlib.Core.List.{List}
use Prim.Native.Nat.{ℕ, ◌≤◌}
use native.Mathlib.Omega.{arith}
use lib.ListN.{length}
use Rattle.run.specs.declared.refusal.Reason.TheVariants.{Absent}
use Rattle.run.specs.Verdicts.{refused, unless}
use Rattle.run.proofs.Answers.{stops, goes_on}
use Rattle.bank.specs.Slots.{has, fetched, taken}
use Rattle.bank.specs.Layout.{slots_in, is_bank, place_of}
use Rattle.bank.specs.Outcome.{drop_verdict}
use Rattle.bank.specs.Plain.{drop_plain}
use Rattle.bank.proofs.Reading.{bank_holds, holds_fits}
use Rattle.bank.proofs.Told.{looked_bank, looked_total, looked_start, looked_done, looked_refused, start_some, start_none, found_refused, found_err}
use Rattle.bank_find.proofs.Seek.{place_within, length_found}
use Rattle.bank_find.proofs.held.Goals as goal
use Rattle.bank_find.proofs.held.Goals.{In_default, In-Some}

-- the slot is not there ..
absent : (c : In_default) → has c.args.number (slots_in c.args.bank.now) ≡ false
absent c = start_none _ _ (sym c.in_default.is ∙ looked_start _ _ c.in_ok-there.ensures)

-- .. or is, at a place within the total
record There (bytes : List ℕ) (number total start : ℕ) : Type 0 where
  pub bank : is_bank bytes ≡ true
  pub present : has number (slots_in bytes) ≡ true
  pub total_is : total ≡ taken (slots_in bytes)
  pub start_is : start ≡ place_of number (slots_in bytes)
  pub within : start ≤ total
  pub fits : total ≤ length bytes

there : (c : In-Some) → There c.args.bank.now c.args.number c.in_ok-there.there.total c.in-Some.start
there c =
    let e = looked_bank _ _ c.in_ok-there.ensures in
    let t = looked_total _ _ c.in_ok-there.ensures in
    let s = start_some _ _ (sym c.in-Some.is ∙ looked_start _ _ c.in_ok-there.ensures) in
    record {
      bank = e;
      present = s.0;
      total_is = t;
      start_is = s.1;
      within = omega (arith, place_within _ c.args.number e, s.1);
      fits = omega (arith, holds_fits (bank_holds _ e));
    }

pub returns-in_err-there : goal.returns-in_err-there
unfolding drop_verdict
returns-in_err-there c = found_err _ _ _ _ c.from_residual.ensures.1 (stops _ _ _ c.from_residual.ensures.1 (looked_refused _ _ c.in_err-there.ensures))

pub returns-in_err-require : goal.returns-in_err-require
unfolding drop_verdict drop_plain
returns-in_err-require c =
    found_err _ _ _ _ c.from_residual-in_err-require.ensures.1
    (goes_on (looked_done _ _ c.in_ok-there.ensures) (stops _ _ _ c.from_residual-in_err-require.ensures.1 c.in_err-require.ensures))

pub returns-in_default : goal.returns-in_default
unfolding drop_verdict drop_plain unless
returns-in_default c =
    let a = absent (goal.at.returns-in_default c).In_default in
    found_refused _ _ (record { reason = Absent; place = 0 }) (goes_on (looked_done _ _ c.in_ok-there.ensures) (goes_on c.in_ok-require.ensures (rw a)))

pub slice_bounds-front_length-count : goal.slice_bounds-front_length-count
slice_bounds-front_length-count c = (there (goal.at.slice_bounds-front_length-count c).In-Some).within

pub slice_bounds-front_length-start : goal.slice_bounds-front_length-start
slice_bounds-front_length-start c = let t = there (goal.at.slice_bounds-front_length-start c).In-Some in let w = t.within in let f = t.fits in omega arith

pub slice_bounds-front_length-end : goal.slice_bounds-front_length-end
slice_bounds-front_length-end c = (there (goal.at.slice_bounds-front_length-end c).In-Some).fits

pub returns : goal.returns
unfolding drop_verdict drop_plain unless
returns c =
    let t = there (goal.at.returns c).In-Some in
    let n = c.front_length-length.ensures ∙ rw (t.total_is, t.start_is) (length_found _ c.args.number t.bank) in
    record {
      verdict_is = goes_on (looked_done _ _ c.in_ok-there.ensures) (goes_on c.in_ok-require.ensures (rw t.present));
      total_is = rw t.bank t.total_is;
      start_is = rw t.bank t.start_is;
      length_is = rw t.bank n;
    }
