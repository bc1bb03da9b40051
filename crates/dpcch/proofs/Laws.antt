-- The fields of a DPCCH slot: where they begin, how long they are, and a slot written or cut field by field.
-- Assumes nothing.
use mathlib.Core.Path.{◌≡◌, refl, sym, ap, ◌∙◌}
use mathlib.Core.List.{List, [], map}
use Prim.Native.Nat.{ℕ, ◌+◌, ◌-◌, ◌≤◌, ◌<◌}
use native.Mathlib.Nat.{add-zero}
use native.Mathlib.Omega.{arith}
use borrow.Author.Tests.{eq-eqb}
use borrow.Rule.Slice.PartMut.{put_mid, mid_of}
use lib.Dec.{lit<}
use lib.ListN.{length, get_or, replicate, length-replicate}
use lib.Seq.{length-take-le, take_all}
use Rattle.run.specs.Fields.{total, field, start}
use Rattle.run.specs.Written.{over}
use Rattle.run.proofs.Chain.{or_else_next, unless_pass, number_0}
use Rattle.run.proofs.Fields.{joined_length, field_room, field_joined, field_length, field_at}
use Rattle.run.proofs.Front.{Front, front_none, front_lent, front_all}
use Rattle.run.proofs.Stretch.{field_copied, field_filled}
use Rattle.dpch.specs.declared.Dpcch.{Dpcch}
use Rattle.dpch.specs.Layouts.{uplink_dpcch}
use Rattle.dpch.specs.Uplink.{dpcch_format, dpcch_widths}
use Rattle.dpch.specs.UplinkPilots.{dpcch_pilot}
use Rattle.dpch.proofs.Exact.{fields_fill, dpcch_formats_lem}
use Rattle.dpcch.specs.Rule.{fields_of, slot_of, command_in}
use Rattle.dpcch.specs.Outcome.{digits_verdict, part_verdict}
use Rattle.dpcch.specs.Ready.{pilot_source, Sound, Whole}
use Rattle.dpcch.proofs.Pilots.{pilot_cut}

-- every row of the table is sound
pub sound_format : (format : ℕ) → Sound (dpcch_format format)
sound_format format = record { fills = fields_fill uplink_dpcch format; short = (dpcch_formats_lem format).short; pilot = pilot_cut format }

module _ (f : Dpcch) where
  -- where the fields begin
  pub start_pilot : 0 ≡ start 0 (dpcch_widths f)
  unfolding start total
  start_pilot = refl

  pub start_tfci : start 1 (dpcch_widths f) ≡ f.pilot
  unfolding start total
  start_tfci = omega arith

  pub start_fbi : start 2 (dpcch_widths f) ≡ f.pilot + f.tfci
  unfolding start total
  start_fbi = omega arith

  pub start_tpc : start 3 (dpcch_widths f) ≡ f.pilot + f.tfci + f.fbi
  unfolding start total
  start_tpc = omega arith

  pub sum : Sound f → f.pilot + f.tfci + f.fbi + f.tpc ≡ f.slot
  unfolding total
  sum s = let h = s.fills in omega arith

-- a slot's fields have the widths of the table
module _ (f : Dpcch) (s : Sound f) (slot tpc : ℕ) (tfci fbi : List ℕ) (tfci_long : length tfci ≡ f.tfci) (fbi_long : length fbi ≡ f.fbi) where
  pilot_long : length (dpcch_pilot f.pilot slot) ≡ f.pilot
  pilot_long = ap length (s.pilot slot).cut_from ∙ length-take-le f.pilot (pilot_source f.pilot slot) (s.pilot slot).enough

  pub fields_widths : map length (fields_of f slot tpc tfci fbi) ≡ dpcch_widths f
  unfolding fields_of
  fields_widths = rw (pilot_long, tfci_long, fbi_long, length-replicate f.tpc tpc)

  pub field_of : (k : ℕ) → field k (dpcch_widths f) (slot_of f slot tpc tfci fbi) ≡ get_or (fields_of f slot tpc tfci fbi) k []
  unfolding slot_of
  field_of k = field_joined k (dpcch_widths f) (fields_of f slot tpc tfci fbi) fields_widths

  pub slot_length : length (slot_of f slot tpc tfci fbi) ≡ f.slot
  unfolding slot_of
  slot_length = joined_length (fields_of f slot tpc tfci fbi) ∙ ap total fields_widths ∙ s.fills

  -- the four parts of the slot's run, lent and filled one after the other
  module _ (out : List ℕ) (out_long : length out ≡ f.slot) where
    room : length out ≡ total (dpcch_widths f)
    room = out_long ∙ sym s.fills

    none : Front (slot_of f slot tpc tfci fbi) out out 0
    none = front_none (slot_length ∙ sym out_long)

    pilot_written : (y : List ℕ) → y ≡ over (pilot_source (length (mid_of 0 (f.pilot - 0) out)) slot) (mid_of 0 (f.pilot - 0) out)
        → Front (slot_of f slot tpc tfci fbi) out (put_mid 0 (f.pilot - 0) out y) f.pilot
    unfolding fields_of slot_of
    pilot_written y e =
        let n = sum f s in
        let p = s.pilot slot in
        let lent : length (mid_of 0 (f.pilot - 0) out) ≡ f.pilot = front_lent 0 f.pilot none (omega arith) ∙ omega arith in
        field_copied (dpcch_widths f) (fields_of f slot tpc tfci fbi) fields_widths out room 0 0 f.pilot (lit< tt) (start_pilot f) (omega arith)
        (pilot_source f.pilot slot) none p.enough (e ∙ ap (λ (k : ℕ). over (pilot_source k slot) (mid_of 0 (f.pilot - 0) out)) lent) (sym p.cut_from)

    tfci_written : (x y : List ℕ) → Front (slot_of f slot tpc tfci fbi) out x f.pilot
        → y ≡ over tfci (mid_of f.pilot (f.pilot + f.tfci - f.pilot) x)
        → Front (slot_of f slot tpc tfci fbi) out (put_mid f.pilot (f.pilot + f.tfci - f.pilot) x y) (f.pilot + f.tfci)
    unfolding fields_of slot_of
    tfci_written x y h e =
        field_copied (dpcch_widths f) (fields_of f slot tpc tfci fbi) fields_widths out room 1 f.pilot (f.pilot + f.tfci) (lit< tt) (sym (start_tfci f)) refl
        tfci h (omega arith) e (take_all f.tfci tfci (omega arith))

    fbi_written : (x y : List ℕ) → Front (slot_of f slot tpc tfci fbi) out x (f.pilot + f.tfci)
        → y ≡ over fbi (mid_of (f.pilot + f.tfci) (f.pilot + f.tfci + f.fbi - (f.pilot + f.tfci)) x)
        → Front (slot_of f slot tpc tfci fbi) out (put_mid (f.pilot + f.tfci) (f.pilot + f.tfci + f.fbi - (f.pilot + f.tfci)) x y) (f.pilot + f.tfci + f.fbi)
    unfolding fields_of slot_of
    fbi_written x y h e =
        field_copied (dpcch_widths f) (fields_of f slot tpc tfci fbi) fields_widths out room 2 (f.pilot + f.tfci) (f.pilot + f.tfci + f.fbi) (lit< tt) (sym (start_fbi f)) refl
        fbi h (omega arith) e (take_all f.fbi fbi (omega arith))

    tpc_written : (x y : List ℕ) → Front (slot_of f slot tpc tfci fbi) out x (f.pilot + f.tfci + f.fbi)
        → y ≡ replicate (length (mid_of (f.pilot + f.tfci + f.fbi) (f.pilot + f.tfci + f.fbi + f.tpc - (f.pilot + f.tfci + f.fbi)) x)) tpc
        → put_mid (f.pilot + f.tfci + f.fbi) (f.pilot + f.tfci + f.fbi + f.tpc - (f.pilot + f.tfci + f.fbi)) x y ≡ slot_of f slot tpc tfci fbi
    unfolding fields_of slot_of
    tpc_written x y h e =
        let n = sum f s in
        let at = f.pilot + f.tfci + f.fbi in
        front_all
        (field_filled (dpcch_widths f) (fields_of f slot tpc tfci fbi) fields_widths out room 3 at (at + f.tpc) (lit< tt) (sym (start_tpc f)) refl tpc h e refl)
        (omega arith)

    -- the run after each part
    abbrev after1 : List ℕ → List ℕ
    after1 y1 = put_mid 0 (f.pilot - 0) out y1

    abbrev after2 : List ℕ → List ℕ → List ℕ
    after2 y1 y2 = put_mid f.pilot (f.pilot + f.tfci - f.pilot) (after1 y1) y2

    abbrev after3 : List ℕ → List ℕ → List ℕ → List ℕ
    after3 y1 y2 y3 = put_mid (f.pilot + f.tfci) (f.pilot + f.tfci + f.fbi - (f.pilot + f.tfci)) (after2 y1 y2) y3

    -- all four: y1 to y4 are what the parts came back as
    pub all_written : (y1 y2 y3 y4 : List ℕ)
        → y1 ≡ over (pilot_source (length (mid_of 0 (f.pilot - 0) out)) slot) (mid_of 0 (f.pilot - 0) out)
        → y2 ≡ over tfci (mid_of f.pilot (f.pilot + f.tfci - f.pilot) (after1 y1))
        → y3 ≡ over fbi (mid_of (f.pilot + f.tfci) (f.pilot + f.tfci + f.fbi - (f.pilot + f.tfci)) (after2 y1 y2))
        → y4 ≡ replicate (length (mid_of (f.pilot + f.tfci + f.fbi) (f.pilot + f.tfci + f.fbi + f.tpc - (f.pilot + f.tfci + f.fbi)) (after3 y1 y2 y3))) tpc
        → put_mid (f.pilot + f.tfci + f.fbi) (f.pilot + f.tfci + f.fbi + f.tpc - (f.pilot + f.tfci + f.fbi)) (after3 y1 y2 y3) y4 ≡ slot_of f slot tpc tfci fbi
    all_written y1 y2 y3 y4 e1 e2 e3 e4 =
        tpc_written (after3 y1 y2 y3) y4 (fbi_written (after2 y1 y2) y3 (tfci_written (after1 y1) y2 (pilot_written y1 e1) e2) e3) e4

-- the fields of a whole slot
module _ (f : Dpcch) (xs : List ℕ) (w : Whole f (length xs)) where
  pub all_room : total (dpcch_widths f) ≤ length xs
  all_room =
      let fills = w.sound.fills in
      let long = w.slot_ok in
      omega arith

  pub field_long : (k : ℕ) → k < 4 → length (field k (dpcch_widths f) xs) ≡ get_or (dpcch_widths f) k 0
  field_long k h = field_length k (dpcch_widths f) xs h all_room

  -- the first TPC digit stands where FBI ends
  pub command_at : 0 < f.tpc → get_or xs (f.pilot + f.tfci + f.fbi) 0 ≡ command_in f xs
  command_at h =
      sym (field_at 3 (dpcch_widths f) xs 0 0 (lit< tt) h ∙ ap (λ (n : ℕ). get_or xs n 0) (add-zero (start 3 (dpcch_widths f)) ∙ start_tpc f))

-- every field of a format ends within ten digits
pub field_small : (format k : ℕ) → k < 4 → start k (dpcch_widths (dpcch_format format)) + get_or (dpcch_widths (dpcch_format format)) k 0 ≤ 10
field_small format k h =
    let r = field_room k (dpcch_widths (dpcch_format format)) h in
    let s = sound_format format in
    let fills = s.fills in
    let short = s.short in
    omega arith

pub tfci_small : (format : ℕ) → (dpcch_format format).tfci ≤ 10
tfci_small format = let s = field_small format 1 (lit< tt) in omega arith

pub fbi_small : (format : ℕ) → (dpcch_format format).fbi ≤ 10
fbi_small format = let s = field_small format 2 (lit< tt) in omega arith

-- what the lookup's answer says of the lengths of one slot's runs
pub record Sizes (format : ℕ) (f : Dpcch) : Type 0 where
  pub tfci_is : f.tfci ≡ (dpcch_format format).tfci
  pub fbi_is : f.fbi ≡ (dpcch_format format).fbi
  pub slot_is : f.slot ≡ (dpcch_format format).slot
  pub tfci_short : f.tfci ≤ 10
  pub fbi_short : f.fbi ≤ 10
  pub slot_short : f.slot ≤ 10

pub sizes : (format : ℕ) (f : Dpcch) → f ≡ dpcch_format format → Sizes format f
sizes format f e =
    rw e
    (record { tfci_is = refl; fbi_is = refl; slot_is = refl; tfci_short = tfci_small format; fbi_short = fbi_small format; slot_short = (sound_format format).short })

-- a run that is a slot is checked digit by digit
pub part_whole : (format slot : ℕ) (xs : List ℕ) (base : ℕ) → length xs ≡ (dpcch_format format).slot
    → part_verdict format slot xs base ≡ digits_verdict (dpcch_format format) slot xs base
unfolding part_verdict
part_whole format slot xs base e = or_else_next _ _ (number_0 (unless_pass 3 0 (eq-eqb _ _ e)))
