-- A slot's pilot and its command, checked in their lent stretches.
-- Assumes nothing.
use mathlib.Core.Path.{◌≡◌, refl, sym, ap, ◌∙◌}
use mathlib.Core.Bool.{not}
use mathlib.Core.List.{List}
use Prim.Native.Nat.{ℕ, ◌+◌, ◌-◌, ◌≤◌, min}
use native.Mathlib.Nat.{add-zero}
use native.Mathlib.Omega.{arith}
use lib.Dec.{eqb, leb, lit<}
use lib.ListN.{length, get_or, take, drop}
use Rattle.std.specs.List.{position, zip}
use Rattle.std.specs.Option.{unwrap_or}
use Rattle.std.specs.Prelude.{Option}
use Rattle.run.specs.Verdict.{Verdict}
use Rattle.run.specs.First.{like_first, agree, is_unlike}
use Rattle.run.specs.Verdicts.{unless, each}
use Rattle.run.specs.Fields.{start}
use Rattle.run.proofs.Places.{unlike_first, difference_first}
use Rattle.run.proofs.Stretch.{lent_long, check_field, check_pattern}
use Rattle.dpch.specs.declared.Dpcch.{Dpcch}
use Rattle.dpch.specs.Uplink.{dpcch_widths}
use Rattle.dpch.specs.UplinkPilots.{dpcch_pilot}
use Rattle.dpcch.specs.Rule.{pilot_in, tpc_in}
use Rattle.dpcch.specs.Ready.{pilot_source, Whole}
use Rattle.dpcch.proofs.Laws.{start_pilot, start_tpc, all_room}

-- the TPC field as the code lends it
abbrev pub tpc_lent : Dpcch → List ℕ → List ℕ
tpc_lent f xs = take (f.pilot + f.tfci + f.fbi + f.tpc - (f.pilot + f.tfci + f.fbi)) (drop (f.pilot + f.tfci + f.fbi) xs)

-- the pilot begins the slot, so its places count from the slot's own base
pub check_pilot : (f : Dpcch) (xs : List ℕ) (w : Whole f (length xs)) (slot base number : ℕ) (found : Option ℕ) (r : Verdict)
    → found ≡ position (λ pair. not (eqb pair.0 pair.1)) (zip (take (f.pilot - 0) (drop 0 xs)) (pilot_source (length (take (f.pilot - 0) (drop 0 xs))) slot))
    → r ≡ unless (leb (length (take (f.pilot - 0) (drop 0 xs))) (unwrap_or found (length (take (f.pilot - 0) (drop 0 xs))))) number
    (base + unwrap_or found (length (take (f.pilot - 0) (drop 0 xs))))
    → r ≡ each (base + start 0 (dpcch_widths f)) number (agree (pilot_in f xs) (dpcch_pilot f.pilot slot)) (length (pilot_in f xs))
check_pilot f xs w slot base number found r is told =
    let cut = w.sound.pilot slot in
    let s = take (f.pilot - 0) (drop 0 xs) in
    let t = pilot_source (length s) slot in
    let long : length s ≡ f.pilot = lent_long (dpcch_widths f) xs 0 0 f.pilot (lit< tt) (start_pilot f) (omega arith) (all_room f xs w) in
    let enough : length s ≤ length t = rw long cut.enough in
    let shorter : length s ≡ min (length s) (length t) = omega arith in
    check_pattern (dpcch_widths f) xs 0 0 f.pilot (lit< tt) (start_pilot f) (omega arith) (all_room f xs w)
    (λ (n : ℕ). pilot_source n slot) (dpcch_pilot f.pilot slot) cut.cut_from cut.enough base number (unwrap_or found (length s)) r
    (ap (unwrap_or found) shorter ∙ difference_first s t is)
    (told ∙ ap (λ (b : ℕ). unless (leb (length s) (unwrap_or found (length s))) number (b + unwrap_or found (length s))) (sym (add-zero base)))

-- the TPC field stands behind the three others
pub check_tpc : (f : Dpcch) (xs : List ℕ) (base number : ℕ) (found : Option ℕ) (r : Verdict)
    → found ≡ position (is_unlike (get_or (tpc_lent f xs) 0 0)) (tpc_lent f xs)
    → r ≡ unless (leb (length (tpc_lent f xs)) (unwrap_or found (length (tpc_lent f xs)))) number (base + (f.pilot + f.tfci + f.fbi) + unwrap_or found (length (tpc_lent f xs)))
    → r ≡ each (base + start 3 (dpcch_widths f)) number (like_first (tpc_in f xs)) (length (tpc_in f xs))
check_tpc f xs base number found r is told =
    check_field (dpcch_widths f) xs 3 _ _ (lit< tt) (sym (start_tpc f)) refl base number like_first _ r (unlike_first (tpc_lent f xs) is) told
