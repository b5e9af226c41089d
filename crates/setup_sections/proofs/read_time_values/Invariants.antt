-- `crate::read_time_values` meets its contract, by SectionLaws. Assumes nothing.
use Rattle.reading.specs.Outcome.{ok, then}
use Rattle.reading.specs.Reader.{many}
use Rattle.bits.specs.Inner.Cursors.{position}
use Rattle.setup.specs.Reading.{time_value}
use Rattle.setup_sections.proofs.SectionLaws.{TimesLeft}
use Rattle.setup_sections.proofs.read_time_values.Given as goal

abbrev pub invariant-loop-i : goal.invariant-loop-i
invariant-loop-i l = TimesLeft l.packet l.time_value_count (then (many time_value l.time_value_count l.packet (position l.initial.at)) (λ x. ok x.1)) l._i l.at
