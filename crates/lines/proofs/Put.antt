-- Texts put into a line, one behind the other.
-- Assumes nothing.
use mathlib.Core.Path.{◌≡◌, refl, sym, ap, ap₂, ◌∙◌}
use mathlib.Core.List.{List, [], ◌∷◌, ◌++◌, append_assoc}
use Prim.Native.Nat.{ℕ, ◌+◌, ◌-◌, ◌≤◌, ◌<◌}
use native.Mathlib.Nat.{add-zero, add_assoc}
use native.Mathlib.Numerals.{add-one}
use native.Mathlib.Omega.{arith}
use borrow.Rule.Slice.PartMut.{put_mid, Post-is}
use lib.ListN.{length, set, take, drop, take-append-drop, length-append, length-take, length-drop}
use lib.Seq.{take_at, drop_at, drop-drop, length-take-le, set_split}
use Rattle.lines.specs.Text.{put, Wrote}

-- a line keeps its length
pub put_length : (place : ℕ) (text line : List ℕ) → place + length text ≤ length line → length (put place text line) ≡ length line
unfolding put
put_length place text line h = simp (length-append, length-take, length-drop) (omega arith)

-- a text behind another is their join
put_put : (place : ℕ) (t u line : List ℕ) → place + length t ≤ length line → put (place + length t) u (put place t line) ≡ put place (t ++ u) line
unfolding put
put_put place t u line h =
    let p : length (take place line ++ t) ≡ place + length t = length-append (take place line) t ∙ ap (λ (n : ℕ). n + length t) (length-take-le place line (omega arith)) in
    let rest : List ℕ = drop (place + length t) line in
    let regroup : take place line ++ (t ++ rest) ≡ (take place line ++ t) ++ rest = sym (append_assoc (take place line) t rest) in
    let front : take (place + length t) (take place line ++ (t ++ rest)) ≡ take place line ++ t = ap (take (place + length t)) regroup ∙ take_at (take place line ++ t) rest (place + length t) p in
    let back : drop (place + length t + length u) (take place line ++ (t ++ rest)) ≡ drop (place + length (t ++ u)) line =
    sym (drop-drop (length u) (place + length t) (take place line ++ (t ++ rest)))
    ∙ ap (drop (length u)) (ap (drop (place + length t)) regroup ∙ drop_at (take place line ++ t) rest (place + length t) p)
    ∙ drop-drop (length u) (place + length t) line
    ∙ ap (λ (n : ℕ). drop n line) (add_assoc place (length t) (length u) ∙ ap (λ (n : ℕ). place + n) (sym (length-append t u))) in
    ap₂ (λ (x y : List ℕ). x ++ (u ++ y)) front back
    ∙ append_assoc (take place line) t (u ++ drop (place + length (t ++ u)) line)
    ∙ ap (λ (x : List ℕ). take place line ++ x) (sym (append_assoc t u (drop (place + length (t ++ u)) line)))

pub wrote_then : {place end end' : ℕ} {t u line line' line'' : List ℕ} → place + length t ≤ length line
    → Wrote place t line end line' → Wrote end u line' end' line'' → Wrote place (t ++ u) line end' line''
wrote_then {place} {end} {end'} {t} {u} {line} {line'} {line''} h w v =
    record {
      ends = v.ends ∙ ap (λ (n : ℕ). n + length u) w.ends ∙ add_assoc place (length t) (length u) ∙ ap (λ (n : ℕ). place + n) (sym (length-append t u));
      is = v.is ∙ ap₂ (λ (n : ℕ) (l : List ℕ). put n u l) w.ends w.is ∙ put_put place t u line h;
    }

pub wrote_length : {place end : ℕ} {t line line' : List ℕ} → place + length t ≤ length line → Wrote place t line end line' → length line' ≡ length line
wrote_length h w = ap length w.is ∙ put_length _ _ _ h

-- the part from the place on is lent, and comes back as the text
pub wrote_lent : (place end : ℕ) (text line ys : List ℕ) → end ≡ place + length text → ys ≡ text → Wrote place text line end (put_mid place (end - place) line ys)
unfolding put
wrote_lent place end text line ys e y =
    record {
      ends = e;
      is = rw y (ap (λ (l : List ℕ). take place line ++ (text ++ l)) (Post-is place end line (omega arith) ∙ ap (λ (n : ℕ). drop n line) e));
    }

-- one byte
pub wrote_byte : (place b : ℕ) (line : List ℕ) → place < length line → Wrote place (b ∷ []) line (place + 1) (set line place b)
unfolding put
wrote_byte place b line h = record { ends = refl; is = set_split line place b h ∙ ap (λ (n : ℕ). take place line ++ b ∷ drop n line) (sym (add-one place)) }

-- nothing
pub wrote_none : (place : ℕ) (line : List ℕ) → Wrote place [] line place line
unfolding put
wrote_none place line =
    record {
      ends = sym (add-zero place);
      is = sym (take-append-drop place line) ∙ ap (λ (n : ℕ). take place line ++ drop n line) (sym (add-zero place));
    }

-- a line so far: its text, which has at most `bound` bytes, stands at the front
pub record Sofar (bound : ℕ) (text line : List ℕ) (end : ℕ) (line_after : List ℕ) : Type 0 where
  pub wrote : Wrote 0 text line end line_after
  pub short : length text ≤ bound
  pub within : end ≤ bound
  pub same : length line_after ≡ length line

pub sofar_first : {text line line' : List ℕ} {end : ℕ} (bound : ℕ) → bound ≤ length line → length text ≤ bound → Wrote 0 text line end line' → Sofar bound text line end line'
sofar_first bound room h w =
    record { wrote = w; short = h; within = omega (arith, w.ends); same = wrote_length (omega arith) w }

pub sofar_then : {bound : ℕ} {t u line line' line'' : List ℕ} {end end' : ℕ} (more : ℕ) → bound + more ≤ length line → length u ≤ more
    → Sofar bound t line end line' → Wrote end u line' end' line'' → Sofar (bound + more) (t ++ u) line end' line''
sofar_then {bound} {t} {u} more room h s w =
    let both = wrote_then (omega (arith, s.short)) s.wrote w in
    let l = length-append t u in
    let short : length (t ++ u) ≤ bound + more = omega (arith, s.short) in
    record { wrote = both; short = short; within = omega (arith, both.ends); same = wrote_length (omega arith) both }
