-- The tally's step, as the code asks it. Assumes nothing.
use Rattle.std.specs.Prelude.{Option, Some, None, Ok, Err}
use Prim.Native.Nat.{ℕ}
use mathlib.Core.List.{List}
use mathlib.Core.Path.{◌≡◌, sym, ap, ◌∙◌}
use Rattle.reading.specs.Outcome.{Outcome}
use Rattle.audio.specs.declared.Head.{Head}
use Rattle.audio.specs.declared.Tally.{Tally}
use Rattle.audio_tally.specs.Inner.Answers.{counted_as}
use Rattle.audio_settle.specs.Inner.Judged.{accepted_by, finished_by}

module _ (f : ℕ → Outcome (Tally × ℕ)) {c : Option (Tally × ℕ)} (e : (stop : ℕ) → counted_as c ≡ f stop) (h : Head) (used : List ℕ) (words stop : ℕ) where
  pub finish_refused : {n : ℕ} → n ≡ 19 → c ≡ None → Err n ≡ finished_by (f stop) h used words
  unfolding counted_as
  finish_refused a m = (λ j. Err (a j)) ∙ ap (λ (o : Outcome (Tally × ℕ)). finished_by o h used words) (ap counted_as (sym m) ∙ e stop)

  pub finish_value : {after : Tally} {samples : ℕ} → c ≡ Some (after, samples) → Ok (accepted_by h used words samples after) ≡ finished_by (f stop) h used words
  unfolding counted_as
  finish_value m = ap (λ (o : Outcome (Tally × ℕ)). finished_by o h used words) (ap counted_as (sym m) ∙ e stop)
