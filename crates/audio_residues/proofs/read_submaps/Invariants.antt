-- `audio_residues::read_submaps` meets its contract, by RequestLaws and WholeLaws. Assumes nothing.
use Rattle.mapping_row.specs.Inner.Readable.{mapping_in}
use Rattle.audio_channels.specs.Inner.Live.{used_bools}
use Rattle.audio_residues.proofs.RequestLaws.{SubmapsRead}
use Rattle.audio_residues.proofs.read_submaps.Given as goal

abbrev pub invariant-loop-submap : goal.invariant-loop-submap
invariant-loop-submap l =
    SubmapsRead l.tables.books.now l.tables.lengths.now l.tables.residues.now l.tables.plans.now l.half (mapping_in l.row.mappings.now l.row.number) (used_bools l.channels l.live) l.packet l.initial.out l.initial.next l.out l.next l.submap
