-- The theorems of specs/Demand3.antt.
-- Assumes nothing.
use mathlib.Core.Path.{◌≡◌, sym, ap, ◌∙◌}
use mathlib.Core.List.{List}
use Prim.Native.Nat.{ℕ, ◌<◌}
use lib.ListN.{length, get_or}
use lib.IntN.{ℤ, pos, neg_ℤ, ◌+ℤ◌}
use Rattle.run.specs.Verdict.{Verdict}
use Rattle.run.specs.First.{Every}
use Rattle.run.specs.Verdicts.{done}
use Rattle.run.proofs.Chain.{or_else_pass, leaves_done, number_0}
use Rattle.run.proofs.Table.{tab_at}
use Rattle.aich.specs.Rule.{values_of}
use Rattle.aich.specs.Method.{Sixteen}
use Rattle.aich.specs.Outcome.{map_verdict}
use Rattle.aich.proofs.Checks.{taken}
use Rattle.sttd.specs.Rule.{sttd}
use Rattle.sttd.specs.Outcome.{values_verdict}
use Rattle.correlator.specs.declared.Complex.{Complex}
use Rattle.correlator.specs.Rule.{number_of, numbers_of}
use Rattle.correlator.specs.Method.{Small}
use Rattle.combiner.specs.Outcome.{part_in, combine_verdict, Combine}
use Rattle.combiner.specs.Demand3.{clean, noisy, own, Allowed, Sent, SecondAntenna, NoNoise, WithNoise}
use Rattle.combiner.proofs.Channel.{sent_second, clean_length, clean_parts, clean_number, noisy_length, noisy_number}
use Rattle.combiner.proofs.Checks.{Taken, gain_small, small_parts, head_passes, body_passes}
use Rattle.combiner.proofs.Exact.{encoder_takes}

-- ---- a call that is taken
module _ (h1 h2 : Complex) (received results : List ℤ) (long : length received ≡ 32) (room : length results ≡ 16) (t : Taken h1 h2 received) where
  passes : combine_verdict h1 h2 received (length results) ≡ done
  unfolding combine_verdict
  passes = or_else_pass (head_passes (length received) (length results) long room) (body_passes h1 h2 received t)

  result_at : (answer : Verdict) (after : List ℤ) → Combine h1 h2 received results answer after → (s : ℕ) → s < 16 → get_or after s (pos 0) ≡ number_of h1 h2 received s
  unfolding numbers_of
  result_at answer after c s h =
      ap (λ (l : List ℤ). get_or l s (pos 0)) (c.results_is ∙ leaves_done (combine_verdict h1 h2 received (length results)) (numbers_of h1 h2 received) results (number_0 passes))
      ∙ tab_at 16 (number_of h1 h2 received) s (pos 0) h

-- ---- what the demand allows is taken
module _ {indicators : List ℤ} {h1 h2 : Complex} (a : Allowed indicators h1 h2) where
  units : Sixteen 1 indicators
  units = (taken indicators 32 (number_0 a.indicators_taken)).indicators_ok

  first_gain : Small 4096 h1
  first_gain = record { re_in = gain_small h1.re a.h1_re_in; im_in = gain_small h1.im a.h1_im_in }

  second_gain : Small 4096 h2
  second_gain = record { re_in = gain_small h2.re a.h2_re_in; im_in = gain_small h2.im a.h2_im_in }

  with_parts : {received : List ℤ} → Every (part_in received) 32 → Taken h1 h2 received
  with_parts all = record { h1_ok = first_gain; h2_ok = second_gain; parts_ok = all; gains_ok = a.not_both_zero }

  clean_taken : Taken h1 h2 (clean h1 h2 indicators)
  clean_taken = with_parts (small_parts (clean h1 h2 indicators) (clean_parts h1 h2 indicators units first_gain second_gain))

pub no_noise : NoNoise
no_noise indicators h1 h2 results answer after a room c =
    let t = clean_taken a in
    let long = clean_length h1 h2 indicators in (
      c.verdict_is ∙ passes h1 h2 (clean h1 h2 indicators) results long room t,
      λ s h. result_at h1 h2 (clean h1 h2 indicators) results long room t answer after c s h ∙ clean_number h1 h2 indicators s h,
    )

pub with_noise : WithNoise
with_noise indicators h1 h2 noise results others answer answer-alone after alone a n room room-alone c c-alone =
    let both = noisy h1 h2 indicators noise in
    let long = noisy_length h1 h2 indicators noise in
    let t = with_parts a n.sum_in in
    let t-alone = with_parts a n.noise_in in (
      c.verdict_is ∙ passes h1 h2 both results long room t,
      c-alone.verdict_is ∙ passes h1 h2 noise others n.long room-alone t-alone,
      λ s h.
          result_at h1 h2 both results long room t answer after c s h
          ∙ noisy_number h1 h2 indicators noise s h
          ∙ sym (ap (λ (z : ℤ). own indicators h1 h2 s +ℤ z) (result_at h1 h2 noise others n.long room-alone t-alone answer-alone alone c-alone s h)),
    )

pub second_antenna : SecondAntenna
second_antenna = sent_second

pub sent : Sent
sent indicators values out a b v w ok room room-2 m e =
    let map-ok : map_verdict indicators (length values) ≡ done = rw room ok in
    let v-is : v ≡ values_of indicators = m.values_is ∙ leaves_done (map_verdict indicators (length values)) (values_of indicators) values (number_0 map-ok) in
    let values_ok : values_verdict v (length out) ≡ done = rw (v-is, room-2) (encoder_takes indicators ok) in (
      m.verdict_is ∙ map-ok,
      v-is,
      e.verdict_is ∙ values_ok,
      e.out_is ∙ leaves_done (values_verdict v (length out)) (sttd neg_ℤ v) out (number_0 values_ok) ∙ ap (sttd neg_ℤ) v-is,
    )
