-- What is known where no check refused, when none does, and that the checks' answers fit a packed answer.
-- Assumes nothing.
use mathlib.Core.Path.{◌≡◌, ◌∙◌}
use mathlib.Core.Bool.{true}
use mathlib.Core.List.{List, [], ◌∷◌}
use Prim.Native.Nat.{ℕ, ◌%◌, ◌≤◌, ◌<◌}
use native.Mathlib.Omega.{arith}
use borrow.Author.Tests.{eqb-true, eq-eqb}
use lib.Dec.{eqb, lit<}
use lib.ListN.{length}
use Rattle.run.specs.Verdict.{Verdict}
use Rattle.run.specs.First.{Every, at_most, agree}
use Rattle.run.specs.Verdicts.{done, Narrow}
use Rattle.run.proofs.Chain.{or_else_done, each_done, or_else_pass, each_pass, or_else_narrow, each_narrow}
use Rattle.dpch.specs.Heads.{frame_head}
use Rattle.dpch.proofs.Heads.{head_three, frame_headed, frame_head_pass, frame_head_narrow}
use Rattle.hspdsch.specs.Rule.{size, second_of}
use Rattle.hspdsch.specs.Outcome.{map_verdict, read_head, read_body, read_verdict, encoded_over}
use Rattle.hspdsch.proofs.Laws.{size_whole, size_small, coded_flip}

-- the head as the code asks for it
pub head_is : (format n a b c : ℕ) (r : Verdict) → n ≡ size format → r ≡ frame_head 1 format (eqb a n ∷ eqb b n ∷ eqb c n ∷ true ∷ [])
    → r ≡ frame_head 1 format (eqb a (size format) ∷ eqb b (size format) ∷ eqb c (size format) ∷ [])
head_is format n a b c r e h = h ∙ rw e (head_three 1 format (eqb a (size format)) (eqb b (size format)) (eqb c (size format)))

-- ---- map

pub record Taken (format : ℕ) (d : List ℕ) (length1 length2 : ℕ) : Type 0 where
  pub format_ok : format ≤ 1
  pub long : length d ≡ size format
  pub first_ok : length1 ≡ size format
  pub second_ok : length2 ≡ size format
  pub bits : Every (at_most 1 d) (length d)

module _ (format : ℕ) (d : List ℕ) (length1 length2 : ℕ) where
  pub taken : (map_verdict format d length1 length2).number ≡ 0 → Taken format d length1 length2
  unfolding map_verdict
  taken h =
      let c = or_else_done _ _ h in
      let p = frame_headed 1 format _ c.first in
      record {
        format_ok = p.format_ok;
        long = eqb-true _ _ (p.right_ok 0 (lit< tt));
        first_ok = eqb-true _ _ (p.right_ok 1 (lit< tt));
        second_ok = eqb-true _ _ (p.right_ok 2 (lit< tt));
        bits = each_done 0 4 _ _ (lit< tt) c.rest;
      }

  -- what is taken is whole eights of bits, so the encoder writes what antenna 2 sends
  pub taken_coded : Taken format d length1 length2 → (out : List ℕ) {after : List ℕ} → length out ≡ length2 → after ≡ encoded_over format d out → after ≡ second_of format d
  unfolding encoded_over
  taken_coded t out room e =
      let w = size_whole format t.format_ok in
      let n = t.long in
      let m = t.second_ok in
      e ∙ rw (eq-eqb (length d % 8) 0 (omega arith), eq-eqb (length out) (length d) (omega arith)) (coded_flip format d t.bits)

  pub taken_pass : Taken format d length1 length2 → map_verdict format d length1 length2 ≡ done
  unfolding map_verdict
  taken_pass t =
      or_else_pass (frame_head_pass 1 format _ t.format_ok (eq-eqb _ _ t.long, (eq-eqb _ _ t.first_ok, (eq-eqb _ _ t.second_ok, tt))))
      (each_pass 0 4 _ _ t.bits)

  pub map_narrow : Narrow (map_verdict format d length1 length2)
  unfolding map_verdict
  map_narrow =
      or_else_narrow _ _ (frame_head_narrow 1 format _ (lit< tt))
      (λ h.
      let p = frame_headed 1 format _ h in
      let long : length d ≡ size format = eqb-true _ _ (p.right_ok 0 (lit< tt)) in
      let small = size_small format p.format_ok in
      each_narrow 0 4 _ _ (lit< tt) (omega arith))

-- ---- read

pub record Headed (format length1 length2 data_length : ℕ) : Type 0 where
  pub format_ok : format ≤ 1
  pub first_ok : length1 ≡ size format
  pub second_ok : length2 ≡ size format
  pub data_ok : data_length ≡ size format

pub headed : (format length1 length2 data_length : ℕ) → (read_head format length1 length2 data_length).number ≡ 0 → Headed format length1 length2 data_length
unfolding read_head
headed format length1 length2 data_length h =
    let p = frame_headed 1 format _ h in
    record {
      format_ok = p.format_ok;
      first_ok = eqb-true _ _ (p.right_ok 0 (lit< tt));
      second_ok = eqb-true _ _ (p.right_ok 1 (lit< tt));
      data_ok = eqb-true _ _ (p.right_ok 2 (lit< tt));
    }

pub record Accepted (format : ℕ) (antenna1 antenna2 : List ℕ) (data_length : ℕ) : Type 0 where
  pub head : Headed format (length antenna1) (length antenna2) data_length
  pub bits1 : Every (at_most 1 antenna1) (length antenna1)
  pub bits2 : Every (at_most 1 antenna2) (length antenna2)
  pub agrees : Every (agree (second_of format antenna1) antenna2) (length antenna2)

module _ (format : ℕ) (antenna1 antenna2 : List ℕ) (data_length : ℕ) where
  pub accepted : (read_verdict format antenna1 antenna2 data_length).number ≡ 0 → Accepted format antenna1 antenna2 data_length
  unfolding read_verdict read_body
  accepted h =
      let c = or_else_done _ _ h in
      let c1 = or_else_done _ _ c.rest in
      let c2 = or_else_done _ _ c1.rest in
      record {
        head = headed format _ _ data_length c.first;
        bits1 = each_done 0 4 _ _ (lit< tt) c1.first;
        bits2 = each_done (size format) 4 _ _ (lit< tt) c2.first;
        agrees = each_done (size format) 9 _ _ (lit< tt) c2.rest;
      }

  pub accepted_pass : Accepted format antenna1 antenna2 data_length → read_verdict format antenna1 antenna2 data_length ≡ done
  unfolding read_verdict read_head read_body
  accepted_pass a =
      or_else_pass
      (frame_head_pass 1 format _ a.head.format_ok (eq-eqb _ _ a.head.first_ok, (eq-eqb _ _ a.head.second_ok, (eq-eqb _ _ a.head.data_ok, tt))))
      (or_else_pass (each_pass 0 4 _ _ a.bits1)
      (or_else_pass (each_pass (size format) 4 _ _ a.bits2)
      (each_pass (size format) 9 _ _ a.agrees)))

  pub read_narrow : Narrow (read_verdict format antenna1 antenna2 data_length)
  unfolding read_verdict read_head read_body
  read_narrow =
      or_else_narrow _ _ (frame_head_narrow 1 format _ (lit< tt))
      (λ h.
      let p = headed format (length antenna1) (length antenna2) data_length h in
      let small = size_small format p.format_ok in
      let n = p.first_ok in
      let m = p.second_ok in
      or_else_narrow _ _ (each_narrow 0 4 _ _ (lit< tt) (omega arith))
      (λ _. or_else_narrow _ _ (each_narrow (size format) 4 _ _ (lit< tt) (omega arith)) (λ _. each_narrow (size format) 9 _ _ (lit< tt) (omega arith))))
