-- `bank_find::find` meets its contract.
use mathlib.Core.Path.{◌≡◌, sym, ◌∙◌}
use mathlib.Core.Bool.{Bool, true, false, false≢true}
use mathlib.Core.List.{List}
use Prim.Native.Nat.{ℕ, ◌≤◌}
use native.Mathlib.Omega.{arith}
use lib.Dec.{ltb}
use lib.ListN.{length}
use Rattle.run.specs.Verdicts.{or_else, unless}
use Rattle.bank.specs.Slots.{fetched, taken, is_number}
use Rattle.bank.specs.Layout.{slots_in, is_bank, place_of}
use Rattle.bank.proofs.Calls.{drop_verdict_lem}
use Rattle.bank.proofs.Reading.{bank_holds, holds_fits}
use Rattle.bank.proofs.Told.{looked_bank, looked_total, looked_start, looked_none}
use Rattle.bank_find.proofs.Seek.{place_within, length_found, place_told}
use Rattle.bank_find.proofs.find.Goals as goal
use Rattle.bank_find.proofs.find.Goals.{After-unwrap_or-start}

told : {a b : Bool} → a ≡ b → (number n : ℕ)
    → or_else (unless a 28 0) (or_else (unless (is_number number) 11 0) (unless (ltb 0 n) 29 0)) ≡ or_else (unless b 28 0) (or_else (unless (is_number number) 11 0) (unless (ltb 0 n) 29 0))
told e number n = rw e

-- where the slot is told to begin, within the total of a bank
record There (bytes : List ℕ) (number total start : ℕ) : Type 0 where
  pub bank : is_bank bytes ≡ true
  pub total_is : total ≡ taken (slots_in bytes)
  pub start_is : start ≡ place_of number (slots_in bytes)
  pub within : start ≤ total
  pub fits : total ≤ length bytes

there : (c : After-unwrap_or-start) → There c.args.bank.now c.args.number c.in-Ok.there.total c.unwrap_or-start.result
there c =
    let e = looked_bank _ _ c.in-Ok.ensures in
    let t = looked_total _ _ c.in-Ok.ensures in
    let s = c.unwrap_or-start.ensures ∙ place_told _ c.args.number e (looked_start _ _ c.in-Ok.ensures) t in
    record {
      bank = e;
      total_is = t;
      start_is = s;
      within = omega (arith, place_within _ c.args.number e, s);
      fits = omega (arith, holds_fits (bank_holds _ e));
    }

pub returns-in_default : goal.returns-in_default
returns-in_default c =
    let e = looked_none _ _ (sym c.in_default.is ∙ c.look.ensures) in
    record {
      verdict_is = c.verdict_of.ensures ∙ told (sym e) c.args.number 0 ∙ drop_verdict_lem c.args.bank.now c.args.number 0 (λ t. absurd (false≢true (sym e ∙ t)));
      total_is = rw e;
      start_is = rw e;
      length_is = rw e;
    }

pub slice_bounds-front_length-count : goal.slice_bounds-front_length-count
slice_bounds-front_length-count c = (there (goal.at.slice_bounds-front_length-count c).After-unwrap_or-start).within

pub slice_bounds-front_length-start : goal.slice_bounds-front_length-start
slice_bounds-front_length-start c = let t = there (goal.at.slice_bounds-front_length-start c).After-unwrap_or-start in let w = t.within in let f = t.fits in omega arith

pub slice_bounds-front_length-end : goal.slice_bounds-front_length-end
slice_bounds-front_length-end c = (there (goal.at.slice_bounds-front_length-end c).After-unwrap_or-start).fits

pub returns : goal.returns
returns c =
    let t = there (goal.at.returns c).After-unwrap_or-start in
    let n : c.front_length-length.result ≡ length (fetched c.args.number (slots_in c.args.bank.now)) =
    c.front_length-length.ensures ∙ rw (t.total_is, t.start_is) (length_found _ c.args.number t.bank)
    in
    record {
      verdict_is = c.verdict_of-2.ensures ∙ told (sym t.bank) c.args.number c.front_length-length.result ∙ drop_verdict_lem c.args.bank.now c.args.number c.front_length-length.result (λ _. n);
      total_is = rw t.bank t.total_is;
      start_is = rw t.bank t.start_is;
      length_is = rw t.bank n;
    }
