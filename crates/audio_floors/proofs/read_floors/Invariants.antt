-- `audio_floors::read_floors` meets its contract, by FloorsLaws: what is left to read, written into the bytes and the flags as they are, is the whole. Assumes nothing.
use Rattle.bits.specs.Inner.Cursors.{position}
use Rattle.book_codeword.specs.Inner.Stored.{lengths_in}
use Rattle.floor_values.specs.Inner.Stored.{floor_in}
use Rattle.mapping_row.specs.Inner.Readable.{mapping_in}
use Rattle.audio.specs.Channels.{floors_of}
use Rattle.audio_floors.proofs.FloorsLaws.{Reading}
use Rattle.audio_floors.proofs.read_floors.Given as goal

abbrev pub invariant-loop-channel : goal.invariant-loop-channel
invariant-loop-channel l =
    Reading (lengths_in l.tables.books.now l.tables.lengths.now) l.half (floors_of (floor_in l.tables.floors.now) (mapping_in l.tables.mappings.now l.mapping) l.channels) l.packet (position l.initial.at) l.initial.curves l.curves l.used l.at l.start l.channel
