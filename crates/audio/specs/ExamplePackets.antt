-- Small packets for the setup of specs/ExampleSetup.antt, and what they hold (specs/Vectors.antt). Bytes are written in bits: the last digit is read first.
use Rattle.std.specs.Prelude.{ℕ, List, [], ◌∷◌, replicate}
use Rattle.audio.specs.declared.Tally.{Tally}
use Rattle.audio.specs.declared.AudioAnswer.{AudioAnswer}
use Rattle.audio.specs.Call.{Room, Left, refused}

-- a stream whose last block had 64
abbrev pub last : ℕ → Tally
last samples = record { blocksize = 64; samples = samples }

abbrev pub room_of : ℕ → ℕ → Room
room_of curves codewords = record { curves = curves; codewords = codewords }

-- what a refusal leaves
abbrev pub left_by : ℕ → Tally → Room → Left
left_by n t room = record { answer = refused n; curves = replicate room.curves 0; codewords = replicate room.codewords 0; tally = t }

-- a short block behind one of 64, where channel 0 has a used floor or not
abbrev pub short_answer : ℕ → ℕ → AudioAnswer
short_answer used codewords =
    record {
      refusal = 0;
      mode = 0;
      blocksize = 64;
      previous = 0;
      next = 0;
      window = record { left_start = 0; left_end = 32; right_start = 32; right_end = 64 };
      samples = 32;
      codewords = codewords;
      used = used ∷ replicate 254 0;
    }

-- type bit 0, mode 0; channel 0: flag 1, values 8 and 2 in 6 bits each, the third by a 1; channel 1: flag 0. Then 16 codewords of a bit each, and 6 bits
-- are ignored
abbrev pub short : List ℕ
short = 0b10001000 ∷ 0b00001000 ∷ 0b10110101 ∷ 0b01100110 ∷ 0b11111101 ∷ []

-- values 8, 2 and 1 have final Y 8, 2 and 4; times 4, the curve falls from 32 at X 0 to 16 at X 16, and to 8 at X 32
abbrev pub drawn : List ℕ
drawn =
    32 ∷ 31 ∷ 30 ∷ 29 ∷ 28 ∷ 27 ∷ 26 ∷ 25 ∷ 24 ∷ 23 ∷ 22 ∷ 21 ∷ 20 ∷ 19 ∷ 18 ∷ 17
    ∷ 16 ∷ 16 ∷ 15 ∷ 15 ∷ 14 ∷ 14 ∷ 13 ∷ 13 ∷ 12 ∷ 12 ∷ 11 ∷ 11 ∷ 10 ∷ 10 ∷ 9 ∷ 9 ∷ []

-- both channels are live, since they are coupled. Class word 2 for each: partition 0 is in class 1 and has two codewords in pass 0, partition 1 is in class 0
-- and has two in pass 2. Class word 2 for each again: partition 2 is in class 1. Every entry is a sole one
abbrev pub codewords_of_short : List ℕ
codewords_of_short = 4 ∷ 4 ∷ 3 ∷ 3 ∷ 3 ∷ 3 ∷ 4 ∷ 4 ∷ 3 ∷ 3 ∷ 3 ∷ 3 ∷ 3 ∷ 3 ∷ 3 ∷ 3 ∷ []

-- type bit 0, mode 1, flags 1 and 0; both channels: flag 1, values 8 and 2, the third by a 1 and by a 0. Seven bits are left for a class word of 8 bits
abbrev pub long : List ℕ
long = 0b00101010 ∷ 0b00100010 ∷ 0b10001100 ∷ 0b00001000 ∷ 0b11110100 ∷ []

-- where channel 1 has a used floor or not
abbrev pub long_answer : ℕ → AudioAnswer
long_answer used =
    record {
      refusal = 0;
      mode = 1;
      blocksize = 128;
      previous = 1;
      next = 0;
      window = record { left_start = 0; left_end = 64; right_start = 80; right_end = 112 };
      samples = 48;
      codewords = 0;
      used = 1 ∷ used ∷ replicate 253 0;
    }

-- type bit 0, mode 2; both channels: flag 1, values 8 and 2, the third by a 0 and by a 1. Two class words, by a 0, which is the last bit of the fourth byte,
-- and by a 1. Seven bits are left for a vector of 8 bits
abbrev pub uncoupled : List ℕ
uncoupled = 0b10001100 ∷ 0b00001000 ∷ 0b00100010 ∷ 0b01000010 ∷ 0b11101111 ∷ []

-- the same of one channel, whose third value is read by a 1; then the codewords 01 and 001, each behind a class word, the first by a 0, the second by a 1
abbrev pub vectors_of_one_channel : List ℕ
vectors_of_one_channel = 0b10001100 ∷ 0b00001000 ∷ 0b10011001 ∷ []

-- type bit 0, mode 1, flags 1 and 0; channel 0: flag 1, values 8 and 2, the third by a 0; then the class words 1 and 01, each with two vectors behind it, by a 1
-- and a 0
abbrev pub class_words_of_one_channel : List ℕ
class_words_of_one_channel = 0b00101010 ∷ 0b00100010 ∷ 0b10011000 ∷ 0b00000001 ∷ []
