-- 01's figures for windows and samples; and the packets of specs/ExamplePackets.antt worked out, one for every way out and every kind of cut.
use Rattle.std.specs.Prelude.{ℕ, ◌-◌, ◌^◌, List, [], ◌∷◌, ◌++◌, ◌≡◌, refl, take, replicate}
use Rattle.reading.specs.Outcome.{refusal, ok, bad}
use Rattle.setup.specs.Content.{lengths_of}
use Rattle.requests.specs.Run.{read, run}
use Rattle.requests.specs.Refusing.{came_to}
use Rattle.audio.specs.declared.Tally.{Tally}
use Rattle.audio.specs.Head.{head_requests, window}
use Rattle.audio.specs.Packet.{Audio, standing}
use Rattle.audio.specs.Tally.{finished}
use Rattle.audio.specs.Call.{Room, Left, audio_by}
use Rattle.audio.specs.Computation.{computation}
use Rattle.audio.specs.ExampleSetup.{stereo, small}
use Rattle.audio.specs.ExamplePackets.{last, room_of, left_by, short_answer, short, drawn, codewords_of_short, long, long_answer, uncoupled}

-- n 2048, short 256, both flags 0: left 448 to 576, right 1472 to 1600 (01)
pub figure_window :
    window 256 (record { mode = 0; blockflag = 1; blocksize = 2048; previous = 0; next = 0 })
    ≡ record { left_start = 448; left_end = 576; right_start = 1472; right_end = 1600 }
unfolding window
figure_window = refl

-- after a block of 256, one of 2048 finishes 576 (01)
pub figure_samples : finished (record { blocksize = 256; samples = 0 }) 2048 ≡ 576
unfolding finished
figure_samples = refl

-- whatever was read behind the head: a body that was read whole stands, and so does one that was cut at bit 30; refusal 21 at bit 30 refuses the packet
pub record StandingVectors (a : Audio) : Type 0 where
  pub whole : standing (ok (tt, 40)) a ≡ ok a
  pub cut : standing (bad (refusal 1 30)) a ≡ ok a
  pub refused : standing (bad (refusal 21 30)) a ≡ bad (refusal 21 30)

pub which_stand : (a : Audio) → StandingVectors a
unfolding standing
which_stand a = record { whole = refl; cut = refl; refused = refl }

abbrev called : Tally → List ℕ → Room → Left
called t s room = audio_by small stereo t s room

abbrev room : Room
room = room_of 66 18

pub record PacketVectors : Type 0 where
  -- accepted, with two places more of each output than are needed
  pub accepted :
      called (last 100) short room
      ≡ record { answer = short_answer 1 16; curves = drawn ++ replicate 34 0; codewords = codewords_of_short ++ replicate 2 0; tally = last 132 }
  -- a stream's first packet finishes nothing
  pub first : (called (record { blocksize = 0; samples = 0 }) short room).tally ≡ last 0
  -- EVERY WAY OUT: 1 for a packet of no bytes; 1 for a flag in bit 8, since 33 modes take 6 bits; 15; 16, since mode 3 is not set up
  pub empty : called (last 100) [] room ≡ left_by 1 (last 100) room
  pub flag_cut :
      came_to (run (read (lengths_of small)) (head_requests stereo (replicate 33 (record { blockflag = 1; mapping = 0 }))) (0 ∷ []) 0) ≡ bad (refusal 1 8)
  pub type_bit : called (last 100) (0b1 ∷ []) room ≡ left_by 15 (last 100) room
  pub no_mode : called (last 100) (0b110 ∷ []) room ≡ left_by 16 (last 100) room
  -- 17: a place too few for the curves, or for the codewords; not with exact room
  pub no_room_curves : called (last 100) short (room_of 63 16) ≡ left_by 17 (last 100) (room_of 63 16)
  pub no_room_codewords : called (last 100) short (room_of 64 15) ≡ left_by 17 (last 100) (room_of 64 15)
  pub exact_room : (called (last 100) short (room_of 64 16)).codewords ≡ codewords_of_short
  -- 18 for the tally, before the type bit is judged; 19 where 32 samples more come to 2^64, not where they come to one less
  pub unsound : called (record { blocksize = 65; samples = 0 }) (0b1 ∷ []) room ≡ left_by 18 (record { blocksize = 65; samples = 0 }) room
  pub too_many : called (last (2 ^ 64 - 32)) short room ≡ left_by 19 (last (2 ^ 64 - 32)) room
  pub most : (called (last (2 ^ 64 - 33)) short room).tally ≡ last (2 ^ 64 - 1)
  -- CUT in the floor of channel 0, and just before its last value, which has one bit: both floors are unused
  pub in_floor :
      called (last 100) (take 1 short) room
      ≡ record { answer = short_answer 0 0; curves = replicate 66 0; codewords = replicate 18 0; tally = last 132 }
  pub before_last_value :
      called (last 100) (take 2 short) room
      ≡ record { answer = short_answer 0 0; curves = replicate 66 0; codewords = replicate 18 0; tally = last 132 }
  -- cut in the floor of channel 1: it is unused, that of channel 0 stands, and no codeword is read
  pub in_second_floor :
      called (last 100) (take 3 long) (room_of 128 1)
      ≡ record {
        answer = long_answer 0;
        curves = drawn ++ replicate 32 8 ++ replicate 64 0;
        codewords = 0 ∷ [];
        tally = record { blocksize = 128; samples = 148 };
      }
  -- cut in a class word: both floors stand, flat from X 32 on
  pub in_class_word :
      called (last 100) long (room_of 128 1)
      ≡ record {
        answer = long_answer 1;
        curves = drawn ++ replicate 32 8 ++ drawn ++ replicate 32 8;
        codewords = 0 ∷ [];
        tally = record { blocksize = 128; samples = 148 };
      }
  -- cut in a vector: the class words before it are listed; a class word whose one bit is missing, exactly at the end of the packet, is not
  pub in_vector : (called (last 100) uncoupled room).codewords ≡ 4 ∷ 4 ∷ replicate 16 0
  pub at_the_end : (called (last 100) (take 4 uncoupled) room).codewords ≡ 4 ∷ replicate 17 0

pub packets : PacketVectors
unfolding computation
packets =
    record {
      accepted = refl;
      first = refl;
      empty = refl;
      flag_cut = refl;
      type_bit = refl;
      no_mode = refl;
      no_room_curves = refl;
      no_room_codewords = refl;
      exact_room = refl;
      unsound = refl;
      too_many = refl;
      most = refl;
      in_floor = refl;
      before_last_value = refl;
      in_second_floor = refl;
      in_class_word = refl;
      in_vector = refl;
      at_the_end = refl;
    }
