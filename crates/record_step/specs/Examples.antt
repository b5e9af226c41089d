-- Worked examples of the tool's step, by computation: before the first record (01, the tool: "Setup or audio without what it needs is refusal 18").
use Rattle.std.specs.Prelude.{[], ◌≡◌, refl}
use Rattle.records.specs.declared.Answer.TheVariants.{Refused, Unknown}
use Rattle.record_step.specs.Step.{no_stream, step}

pub record StepExamples : Type 0 where
  -- an audio record of no bytes, the second record of 01's figure without the first
  pub audio : step no_stream 3 [] ≡ (no_stream, Refused 18)
  pub setup : step no_stream 2 [] ≡ (no_stream, Refused 18)
  pub unknown : step no_stream 4 [] ≡ (no_stream, Unknown)

pub step_examples : StepExamples
unfolding step
step_examples = record { audio = refl; setup = refl; unknown = refl }
