-- Packets with codewords that take bits, worked out. The ledger, which gives the codewords, cannot be computed; so these are shown by the laws of codewords.
use Rattle.std.specs.Prelude.{[], ◌∷◌, ◌≡◌}
use Rattle.audio.specs.Call.{audio_by}
use Rattle.audio.specs.ExampleSetup.{mono, coded_mono}
use Rattle.audio.specs.ExamplePackets.{last, room_of, vectors_of_one_channel, class_words_of_one_channel}

pub record CodedVectors : Type 0 where
  -- vectors 01 and 001, which are entries 3 and 2, the bits of a codeword from its left; before each a class word of one bit
  pub vectors : (audio_by coded_mono mono (last 100) vectors_of_one_channel (room_of 32 6)).codewords ≡ 4 ∷ 7 ∷ 4 ∷ 5 ∷ 0 ∷ 0 ∷ []
  -- class words 1 and 01, which are entries 1 and 3: partition 0 is in class 0, the other two are in class 1 and have two vectors each, of one bit. What
  -- the second class word says of a partition past the last is not read
  pub class_words_is : (audio_by coded_mono mono (last 100) class_words_of_one_channel (room_of 64 6)).codewords ≡ 2 ∷ 3 ∷ 3 ∷ 6 ∷ 3 ∷ 3 ∷ []
