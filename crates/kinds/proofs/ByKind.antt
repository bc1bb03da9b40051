-- The kinds of a record: what stands for each, and that there are three.
-- Assumes nothing.
use mathlib.Core.Path.{◌≡◌, sym, ap, ◌∙◌}
use mathlib.Core.Bool.{Bool, true, false, cond, false≢true}
use Prim.Native.Nat.{ℕ, ◌+◌, ◌≤◌, ◌<◌}
use native.Mathlib.Omega.{arith}
use borrow.Author.Tests.{eqb-true, eq-eqb, ne_eqb}
use lib.Dec.{eqb}
use Rattle.run.specs.Answers.{verdict_of}
use Rattle.run.specs.Fields.{total}
use Rattle.dpch.specs.Formats.{format_of}
use Rattle.dpch.proofs.Exact.{normal_fill, format_sizes}
use Rattle.slot.specs.Rule.{data_size}
use Rattle.std.specs.Prelude.{Result, Ok, Err, is_ok}
use Rattle.std.specs.Result.{result_unwrap_or}
use Rattle.kinds.specs.declared.Kind.{Kind}
use Rattle.kinds.specs.declared.Kind.TheVariants.{Aich, Pich, Dpch}
use Rattle.kinds.specs.declared.UnknownKind.{UnknownKind}
use Rattle.kinds.specs.declared.Shape.{Shape as Found}
use Rattle.kinds.specs.Kinds.{byte_of, Names, told}
use Rattle.kinds.specs.Rule.{aich_kind, pich_kind, dpch_kind, is_kind, by_kind, size_of, second_verdict, shape_of, Shape}

module _ {A : Type 0} (kind : ℕ) (a p d : A) where
  pub by_aich : kind ≡ aich_kind → by_kind kind a p d ≡ a
  unfolding by_kind
  by_aich e = rw (eq-eqb kind 1 e)

  pub by_pich : kind ≡ pich_kind → by_kind kind a p d ≡ p
  unfolding by_kind
  by_pich e = rw (ne_eqb kind 1 (λ h. absurd (let z : ⊥ = omega arith in z)), eq-eqb kind 2 e)

  pub by_dpch : (kind ≡ aich_kind → ⊥) → (kind ≡ pich_kind → ⊥) → by_kind kind a p d ≡ d
  unfolding by_kind
  by_dpch h k = rw (ne_eqb kind 1 h, ne_eqb kind 2 k)

pub no_kind : (kind : ℕ) → (kind ≡ aich_kind → ⊥) → (kind ≡ pich_kind → ⊥) → (kind ≡ dpch_kind → ⊥) → is_kind kind ≡ false
unfolding is_kind
no_kind kind a p d = rw (ne_eqb kind 1 a, ne_eqb kind 2 p, ne_eqb kind 3 d)

pub kind_last : (kind : ℕ) → is_kind kind ≡ true → (kind ≡ aich_kind → ⊥) → (kind ≡ pich_kind → ⊥) → kind ≡ dpch_kind
unfolding is_kind
kind_last kind h a p = eqb-true kind 3 (rw (ne_eqb kind 1 a, ne_eqb kind 2 p) at h)

-- a kind that is named, and the byte that names none and stands for a DPCH record
pub named_kind : (byte : ℕ) (kind : Result Kind UnknownKind) → Names byte kind → is_ok kind ≡ is_kind byte
unfolding is_kind
named_kind byte (Ok Aich) e = rw (sym e)
named_kind byte (Ok Pich) e = rw (sym e)
named_kind byte (Ok Dpch) e = rw (sym e)
named_kind byte (Err x) e = sym e.1

pub named_by : {A : Type 0} (byte : ℕ) (kind : Result Kind UnknownKind) (a p d : A) → Names byte kind → by_kind (byte_of (result_unwrap_or kind Dpch)) a p d ≡ by_kind byte a p d
unfolding is_kind
named_by byte (Ok k) a p d e = rw e
named_by byte (Err x) a p d e =
    by_dpch 3 a p d (λ h. grind arith) (λ h. grind arith)
    ∙ sym (by_dpch byte a p d (λ h. false≢true (sym e.1 ∙ rw h)) (λ h. false≢true (sym e.1 ∙ rw h)))

-- what the code says of a record's first two bytes
module _ (s : Found) (kind second : ℕ) (e : told s ≡ shape_of kind second) where
  pub known_is : s.known ≡ is_kind kind
  unfolding shape_of
  known_is = ap (λ (t : Shape). t.known) e

  pub second_is : verdict_of s.second ≡ second_verdict kind second
  unfolding shape_of
  second_is = ap (λ (t : Shape). t.verdict) e

  pub size_is : s.size ≡ size_of kind second
  unfolding shape_of
  size_is = ap (λ (t : Shape). t.size) e

-- every record has a kind and a byte behind it, and none more than 1284 bytes
pub size_some : (kind second : ℕ) → 2 ≤ size_of kind second
unfolding size_of by_kind
size_some kind second = pick (eqb kind 1) (eqb kind 2)
  where
    pick : (a p : Bool) → 2 ≤ cond a 17 (cond p (2 + second) (4 + (format_of second).tfci + data_size (format_of second)))
    pick true p = omega arith
    pick false true = omega arith
    pick false false = omega arith

pub size_small : (kind second : ℕ) → second < 256 → size_of kind second ≤ 1284
unfolding size_of by_kind total
size_small kind second h =
    let f = format_of second in
    let fills = normal_fill second in
    let short = (format_sizes second).short in
    let d : 4 + f.tfci + (f.data1 + f.data2) ≤ 1284 = omega arith in
    pick (eqb kind 1) (eqb kind 2) d
  where
    pick : (a p : Bool) → 4 + (format_of second).tfci + ((format_of second).data1 + (format_of second).data2) ≤ 1284
        → cond a 17 (cond p (2 + second) (4 + (format_of second).tfci + ((format_of second).data1 + (format_of second).data2))) ≤ 1284
    pick true p d = omega arith
    pick false true d = omega arith
    pick false false d = d
