-- An identification record, as the code asks it: one law for each way out, over what the reader of the packet answered. Assumes nothing.
use Prim.Native.Nat.{ℕ}
use mathlib.Core.Bool.{false}
use mathlib.Core.List.{List}
use mathlib.Core.Path.{◌≡◌, refl, sym, ap, ◌∙◌}
use Rattle.reading.specs.Outcome.{ok, bad}
use Rattle.reading.proofs.Least.{true_not_false}
use Rattle.std.specs.Prelude.{Result, Ok, Err}
use Rattle.bits.specs.declared.refusal.Refusal.{Refusal}
use Rattle.bits.specs.Inner.Cursors.{refusal_of}
use Rattle.bits.specs.Reasons.{number}
use Rattle.identification.specs.declared.Identity.{Identity}
use Rattle.identification.specs.Identification.{identification}
use Rattle.identification.specs.Sound.{Sound, AcceptedSound}
use Rattle.identification.specs.Inner.Answers as A
use Rattle.identification.proofs.SoundLaws.{sound_test_lem}
use Rattle.records.specs.declared.Answer.TheVariants.{Refused}
use Rattle.record_step.specs.declared.Kept.{Kept}
use Rattle.record_step.specs.declared.Stepped.{Stepped}
use Rattle.record_step.specs.Inner.Kept.{stream_of, unchanged, identity_accepted, IdentificationStep}

module _ (k : Kept) (s : List ℕ) where
  -- what was read, by its outcome
  accepted_step : (i : Identity) → identification 8 s ≡ ok i → Sound 8 i → IdentificationStep k s (identity_accepted k i)
  unfolding stream_of
  accepted_step i e sound =
      record {
        stream = λ t. rw e refl;
        tables = λ t x. record {
          identity_sound = (sound_test_lem 8 i).1 sound;
          identity_first = λ h. refl;
          tables_sound = λ h. absurd (true_not_false false h refl);
          tables_long = x.tables_long;
        };
        ends = record { curves = refl; words = refl };
      }

  refused_step : (n : ℕ) (z : Refusal) → identification 8 s ≡ bad (refusal_of z) → n ≡ number z.reason → IdentificationStep k s (unchanged k (Refused n))
  refused_step n z e same = record { stream = λ t. rw (e, same) refl; tables = λ t x. x; ends = record { curves = refl; words = refl } }

  -- and as the program answered it
  module _ {most : ℕ} (eight : most ≡ 8) {o : Result Identity Refusal} (e : (A.identified o ≡ identification most s) × AcceptedSound most o) {r : Stepped} where
    pub identification_accepted : {i : Identity} → o ≡ Ok i → r ≡ identity_accepted k i → IdentificationStep k s r
    unfolding A.identified AcceptedSound
    identification_accepted {i} q a =
        let read : A.identified o ≡ identification 8 s = rw eight at e.0 in
        let sound : AcceptedSound 8 (Ok i) = rw (eight, q) at e.1 in
        rw a (accepted_step i (sym read ∙ ap A.identified q) sound)

    pub identification_refused : {z : Refusal} {n : ℕ} → o ≡ Err z → n ≡ number z.reason → r ≡ unchanged k (Refused n) → IdentificationStep k s r
    unfolding A.identified
    identification_refused {z} {n} q same a =
        let read : A.identified o ≡ identification 8 s = rw eight at e.0 in
        rw a (refused_step n z (sym read ∙ ap A.identified q) same)
