-- The fields of a slot: where they begin, how long they are, and a slot written or cut field by field.
-- Assumes nothing.
use mathlib.Core.Path.{◌≡◌, refl, sym, ap, ◌∙◌}
use mathlib.Core.List.{List, [], map}
use Prim.Native.Nat.{ℕ, ◌+◌, ◌-◌, ◌≤◌, ◌<◌}
use native.Mathlib.Nat.{add-zero}
use native.Mathlib.Omega.{arith}
use borrow.Rule.Slice.PartMut.{put_mid, mid_of}
use lib.ListN.{length, get_or, take, drop, replicate, length-append, length-drop, length-replicate}
use lib.Seq.{length-take-le, take_all, take_at, drop_at}
use lib.Dec.{lit<}
use borrow.Author.Tests.{eq-eqb}
use Rattle.std.specs.Prelude.{Option}
use Rattle.std.specs.Option.{unwrap_or}
use Rattle.std.specs.List.{position}
use Rattle.run.specs.First.{first_bad}
use Rattle.run.specs.Fields.{total, field, start}
use Rattle.run.specs.Written.{over}
use Rattle.run.proofs.Places.{Opposite, position_first}
use Rattle.run.proofs.Chain.{or_else_next, unless_pass, number_0}
use Rattle.run.proofs.Fields.{joined_length, field_is, field_joined, field_length, field_at}
use Rattle.run.proofs.Lent.{part_width}
use Rattle.run.proofs.Stretch.{field_copied, field_filled, field_taken}
use Rattle.run.proofs.Front.{Front, front_none, front_copy, front_lent, front_all}
use Rattle.dpch.specs.declared.Format.{Format}
use Rattle.dpch.specs.Formats.{format_of, widths}
use Rattle.dpch.specs.Compressed.{format_in, pilot_for, source_for}
use Rattle.dpch.specs.Layouts.{downlink_dpch}
use Rattle.dpch.proofs.Exact.{fields_fill, format_sizes, format_pilots, kind_sizes}
use Rattle.slot.specs.Rule.{data_size, fields_of, slot_of, tfci_in, data_in, command_in, tfci_stands, is_mixed}
use Rattle.slot.specs.Outcome.{digits_verdict, part_verdict}
use Rattle.slot.specs.Ready.{Sound, Row, Whole}

-- every row of the table is sound, of whichever kind
pub sound_row : (kind format : ℕ) → Sound (format_in kind format)
sound_row kind format =
    record {
      fills = fields_fill (downlink_dpch kind) format;
      short = (kind_sizes kind format).short;
      pilot = λ slot. record { cut_from = (format_pilots kind format slot).cut_from; enough = (format_pilots kind format slot).enough };
    }

pub sound_format : (format : ℕ) → Sound (format_of format)
unfolding format_in
sound_format format = sound_row 0 format

-- .. and those that are there are rows: the normal ones, and the compressed ones
pub normal_row : (format : ℕ) → format ≤ 16 → Row (format_of format)
unfolding format_in
normal_row format h =
    record { sound = sound_format format; has_tpc = (format_sizes format).has_tpc (omega arith); pilot_bits = λ slot l k. (format_pilots 0 format slot).digits l k }

pub compressed_row : (kind format : ℕ) → 0 < (format_in kind format).kind → Row (format_in kind format)
compressed_row kind format h =
    record { sound = sound_row kind format; has_tpc = (kind_sizes kind format).has_tpc h; pilot_bits = λ slot l k. (format_pilots kind format slot).digits l k }

module _ (f : Format) where
  -- where the fields begin
  pub start_data1 : 0 ≡ start 0 (widths f)
  unfolding start total
  start_data1 = refl

  pub start_tpc : start 1 (widths f) ≡ f.data1
  unfolding start total
  start_tpc = omega arith

  pub start_tfci : start 2 (widths f) ≡ f.data1 + f.tpc
  unfolding start total
  start_tfci = omega arith

  pub start_data2 : start 3 (widths f) ≡ f.data1 + f.tpc + f.tfci
  unfolding start total
  start_data2 = omega arith

  pub start_pilot : start 4 (widths f) ≡ f.data1 + f.tpc + f.tfci + f.data2
  unfolding start total
  start_pilot = omega arith

  pub sum : Sound f → f.data1 + f.tpc + f.tfci + f.data2 + f.pilot ≡ f.slot
  unfolding total
  sum s = let h = s.fills in omega arith

-- a slot's fields have the widths of the table
module _ (f : Format) (s : Sound f) (slot tpc : ℕ) (d tfci : List ℕ) (data_long : length d ≡ data_size f) (tfci_long : length tfci ≡ f.tfci) where
  pub pilot_long : length (pilot_for f.kind f.pilot slot) ≡ f.pilot
  pilot_long = ap length (s.pilot slot).cut_from ∙ length-take-le f.pilot (source_for f.kind f.pilot slot) (s.pilot slot).enough

  pub fields_widths : map length (fields_of f slot tpc d tfci) ≡ widths f
  unfolding fields_of
  fields_widths =
      let p : length (take f.data1 d) ≡ f.data1 = length-take-le f.data1 d (omega arith) in
      let q : length (drop f.data1 d) ≡ f.data2 = length-drop f.data1 d ∙ omega arith in
      rw (p, length-replicate f.tpc tpc, tfci_long, q, pilot_long)

  pub field_of : (k : ℕ) → field k (widths f) (slot_of f slot tpc d tfci) ≡ get_or (fields_of f slot tpc d tfci) k []
  unfolding slot_of
  field_of k = field_joined k (widths f) (fields_of f slot tpc d tfci) fields_widths

  pub slot_length : length (slot_of f slot tpc d tfci) ≡ f.slot
  unfolding slot_of
  slot_length = joined_length (fields_of f slot tpc d tfci) ∙ ap total fields_widths ∙ s.fills

  -- the five parts of the slot's run, lent and filled one after the other
  module _ (out : List ℕ) (out_long : length out ≡ f.slot) where
    room : length out ≡ total (widths f)
    room = out_long ∙ sym s.fills

    data1_written : (y : List ℕ) → y ≡ over d (mid_of 0 (f.data1 - 0) out)
        → Front (slot_of f slot tpc d tfci) out (put_mid 0 (f.data1 - 0) out y) f.data1
    unfolding fields_of slot_of
    data1_written y e =
        field_copied (widths f) (fields_of f slot tpc d tfci) fields_widths out room 0 0 f.data1 (lit< tt) (start_data1 f) (omega arith)
        d (front_none (slot_length ∙ sym out_long)) (omega arith) e refl

    tpc_written : (x y : List ℕ) → Front (slot_of f slot tpc d tfci) out x f.data1
        → y ≡ replicate (length (mid_of f.data1 (f.data1 + f.tpc - f.data1) x)) tpc
        → Front (slot_of f slot tpc d tfci) out (put_mid f.data1 (f.data1 + f.tpc - f.data1) x y) (f.data1 + f.tpc)
    unfolding fields_of slot_of
    tpc_written x y h e =
        field_filled (widths f) (fields_of f slot tpc d tfci) fields_widths out room 1 f.data1 (f.data1 + f.tpc) (lit< tt) (sym (start_tpc f)) refl
        tpc h e refl

    tfci_written : (x y : List ℕ) → Front (slot_of f slot tpc d tfci) out x (f.data1 + f.tpc)
        → y ≡ over tfci (mid_of (f.data1 + f.tpc) (f.data1 + f.tpc + f.tfci - (f.data1 + f.tpc)) x)
        → Front (slot_of f slot tpc d tfci) out (put_mid (f.data1 + f.tpc) (f.data1 + f.tpc + f.tfci - (f.data1 + f.tpc)) x y) (f.data1 + f.tpc + f.tfci)
    unfolding fields_of slot_of
    tfci_written x y h e =
        field_copied (widths f) (fields_of f slot tpc d tfci) fields_widths out room 2 (f.data1 + f.tpc) (f.data1 + f.tpc + f.tfci) (lit< tt) (sym (start_tfci f)) refl
        tfci h (omega arith) e (take_all f.tfci tfci (omega arith))

    -- `rest` is the data from Data1's end on
    data2_written : (x y rest : List ℕ) → rest ≡ drop f.data1 d → Front (slot_of f slot tpc d tfci) out x (f.data1 + f.tpc + f.tfci)
        → y ≡ over rest (mid_of (f.data1 + f.tpc + f.tfci) (f.data1 + f.tpc + f.tfci + f.data2 - (f.data1 + f.tpc + f.tfci)) x)
        → Front (slot_of f slot tpc d tfci) out
        (put_mid (f.data1 + f.tpc + f.tfci) (f.data1 + f.tpc + f.tfci + f.data2 - (f.data1 + f.tpc + f.tfci)) x y) (f.data1 + f.tpc + f.tfci + f.data2)
    unfolding fields_of slot_of
    data2_written x y rest r h e =
        let long : length rest ≡ f.data2 = ap length r ∙ length-drop f.data1 d ∙ omega arith in
        field_copied (widths f) (fields_of f slot tpc d tfci) fields_widths out room 3 (f.data1 + f.tpc + f.tfci) (f.data1 + f.tpc + f.tfci + f.data2) (lit< tt) (sym (start_data2 f)) refl
        rest h (omega arith) e (take_all f.data2 rest (omega arith) ∙ r)

    pilot_written : (x y : List ℕ) → Front (slot_of f slot tpc d tfci) out x (f.data1 + f.tpc + f.tfci + f.data2)
        → y ≡ over (source_for f.kind (length (mid_of (f.data1 + f.tpc + f.tfci + f.data2) (f.data1 + f.tpc + f.tfci + f.data2 + f.pilot - (f.data1 + f.tpc + f.tfci + f.data2)) x)) slot)
        (mid_of (f.data1 + f.tpc + f.tfci + f.data2) (f.data1 + f.tpc + f.tfci + f.data2 + f.pilot - (f.data1 + f.tpc + f.tfci + f.data2)) x)
        → put_mid (f.data1 + f.tpc + f.tfci + f.data2) (f.data1 + f.tpc + f.tfci + f.data2 + f.pilot - (f.data1 + f.tpc + f.tfci + f.data2)) x y
        ≡ slot_of f slot tpc d tfci
    unfolding fields_of slot_of
    pilot_written x y h e =
        let n = sum f s in
        let p = s.pilot slot in
        let at = f.data1 + f.tpc + f.tfci + f.data2 in
        let lent = front_lent at (at + f.pilot) h (omega arith) ∙ part_width at f.pilot in
        front_all
        (field_copied (widths f) (fields_of f slot tpc d tfci) fields_widths out room 4 at (at + f.pilot) (lit< tt) (sym (start_pilot f)) refl
        (source_for f.kind f.pilot slot) h p.enough (e ∙ ap (λ (k : ℕ). over (source_for f.kind k slot) (mid_of at (at + f.pilot - at) x)) lent) (sym p.cut_from))
        (omega arith)

    -- the run after each part
    abbrev after1 : List ℕ → List ℕ
    after1 y1 = put_mid 0 (f.data1 - 0) out y1

    abbrev after2 : List ℕ → List ℕ → List ℕ
    after2 y1 y2 = put_mid f.data1 (f.data1 + f.tpc - f.data1) (after1 y1) y2

    abbrev after3 : List ℕ → List ℕ → List ℕ → List ℕ
    after3 y1 y2 y3 = put_mid (f.data1 + f.tpc) (f.data1 + f.tpc + f.tfci - (f.data1 + f.tpc)) (after2 y1 y2) y3

    abbrev after4 : List ℕ → List ℕ → List ℕ → List ℕ → List ℕ
    after4 y1 y2 y3 y4 =
        put_mid (f.data1 + f.tpc + f.tfci) (f.data1 + f.tpc + f.tfci + f.data2 - (f.data1 + f.tpc + f.tfci)) (after3 y1 y2 y3) y4

    -- all five: y1 to y5 are what the parts came back as
    pub all_written : (y1 y2 y3 y4 y5 rest : List ℕ) → rest ≡ drop f.data1 d
        → y1 ≡ over d (mid_of 0 (f.data1 - 0) out)
        → y2 ≡ replicate (length (mid_of f.data1 (f.data1 + f.tpc - f.data1) (after1 y1))) tpc
        → y3 ≡ over tfci (mid_of (f.data1 + f.tpc) (f.data1 + f.tpc + f.tfci - (f.data1 + f.tpc)) (after2 y1 y2))
        → y4 ≡ over rest (mid_of (f.data1 + f.tpc + f.tfci) (f.data1 + f.tpc + f.tfci + f.data2 - (f.data1 + f.tpc + f.tfci)) (after3 y1 y2 y3))
        → y5 ≡ over (source_for f.kind (length (mid_of (f.data1 + f.tpc + f.tfci + f.data2) (f.data1 + f.tpc + f.tfci + f.data2 + f.pilot - (f.data1 + f.tpc + f.tfci + f.data2)) (after4 y1 y2 y3 y4))) slot)
        (mid_of (f.data1 + f.tpc + f.tfci + f.data2) (f.data1 + f.tpc + f.tfci + f.data2 + f.pilot - (f.data1 + f.tpc + f.tfci + f.data2)) (after4 y1 y2 y3 y4))
        → put_mid (f.data1 + f.tpc + f.tfci + f.data2) (f.data1 + f.tpc + f.tfci + f.data2 + f.pilot - (f.data1 + f.tpc + f.tfci + f.data2)) (after4 y1 y2 y3 y4) y5
        ≡ slot_of f slot tpc d tfci
    all_written y1 y2 y3 y4 y5 rest r e1 e2 e3 e4 e5 =
        pilot_written (after4 y1 y2 y3 y4) y5
        (data2_written (after3 y1 y2 y3) y4 rest r (tfci_written (after2 y1 y2) y3 (tpc_written (after1 y1) y2 (data1_written y1 e1) e2) e3) e4) e5

-- the fields of a whole slot have their lengths
module _ (f : Format) (xs : List ℕ) (w : Whole f (length xs)) where
  pub field_long : (k : ℕ) → k < 5 → length (field k (widths f) xs) ≡ get_or (widths f) k 0
  field_long k h =
      let fills = w.sound.fills in
      let long = w.slot_ok in
      field_length k (widths f) xs h (omega arith)

  -- the first TPC digit stands where Data1 ends
  pub command_at : 0 < f.tpc → get_or xs f.data1 0 ≡ command_in f xs
  command_at h =
      sym (field_at 1 (widths f) xs 0 0 (lit< tt) h ∙ ap (λ (n : ℕ). get_or xs n 0) (add-zero (start 1 (widths f)) ∙ start_tpc f))

  pub data_length : length (data_in f xs) ≡ data_size f
  data_length =
      let p = field_long 0 (lit< tt) in
      let q = field_long 3 (lit< tt) in
      length-append (field 0 (widths f) xs) (field 3 (widths f) xs) ∙ omega arith

  -- Data1 and Data2 taken into one run, part by part, and TFCI into its own
  module _ (out : List ℕ) (out_long : length out ≡ data_size f) where
    pub data1_taken : (y : List ℕ) → y ≡ over xs (mid_of 0 (f.data1 - 0) out) → Front (data_in f xs) out (put_mid 0 (f.data1 - 0) out y) f.data1
    data1_taken y e =
        let n = sum f w.sound in
        let long = w.slot_ok in
        let z : f.data1 - 0 ≡ f.data1 = omega arith in
        front_copy f.data1 xs (front_none (data_length ∙ sym out_long)) (omega arith) (omega arith) (omega arith) e
        (rw z
        (sym (field_is 0 (widths f) xs (lit< tt) ∙ ap (λ (k : ℕ). take f.data1 (drop k xs)) (sym (start_data1 f)))
        ∙ sym (take_at (field 0 (widths f) xs) (field 3 (widths f) xs) f.data1 (field_long 0 (lit< tt)))))

    -- `part` is Data2 as it is lent
    pub data2_taken : (x y part : List ℕ) → part ≡ field 3 (widths f) xs → Front (data_in f xs) out x f.data1
        → y ≡ over part (mid_of f.data1 (f.data1 + f.data2 - f.data1) x)
        → put_mid f.data1 (f.data1 + f.data2 - f.data1) x y ≡ data_in f xs
    data2_taken x y part p h e =
        let long : length part ≡ f.data2 = ap length p ∙ field_long 3 (lit< tt) in
        front_all
        (front_copy (f.data1 + f.data2) part h (omega arith) (omega arith) (omega arith) e
        (ap (λ (l : List ℕ). take (f.data1 + f.data2 - f.data1) l)
        (p ∙ sym (drop_at (field 0 (widths f) xs) (field 3 (widths f) xs) f.data1 (field_long 0 (lit< tt))))))
        (omega arith)

  pub tfci_taken : (out y : List ℕ) → length out ≡ f.tfci → y ≡ over (take (f.data1 + f.tpc + f.tfci - (f.data1 + f.tpc)) (drop (f.data1 + f.tpc) xs)) out
      → y ≡ tfci_in f xs
  tfci_taken out y long e =
      let fills = w.sound.fills in
      let whole = w.slot_ok in
      field_taken (widths f) xs 2 (f.data1 + f.tpc) (f.data1 + f.tpc + f.tfci) (lit< tt) (sym (start_tfci f)) refl (omega arith) out y long e

pub data_small : (f : Format) → Sound f → data_size f ≤ 1280
data_small f s =
    let n = sum f s in
    let short = s.short in
    omega arith

pub tfci_small : (f : Format) → Sound f → f.tfci ≤ 1280
tfci_small f s =
    let n = sum f s in
    let short = s.short in
    omega arith

-- the first TFCI digit of another kind than the first is the first place at which the TFCI rule fails
pub mixed_opposite : (tfci : List ℕ) → Opposite (is_mixed (get_or tfci 0 0)) (tfci_stands tfci) 0 tfci
unfolding tfci_stands
mixed_opposite tfci k h = refl

pub mixed_first : (tfci : List ℕ) {r : Option ℕ} → r ≡ position (is_mixed (get_or tfci 0 0)) tfci → unwrap_or r (length tfci) ≡ first_bad (tfci_stands tfci) (length tfci)
mixed_first tfci e = rw e (position_first (is_mixed (get_or tfci 0 0)) (tfci_stands tfci) 0 tfci (mixed_opposite tfci))

-- a run that is a slot is checked digit by digit
pub part_whole : (f : Format) (slot : ℕ) (xs : List ℕ) (base : ℕ) → length xs ≡ f.slot → part_verdict f slot xs base ≡ digits_verdict f slot xs base
unfolding part_verdict
part_whole f slot xs base e = or_else_next _ _ (number_0 (unless_pass 3 0 (eq-eqb _ _ e)))
