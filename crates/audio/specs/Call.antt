-- THE AUDIO CALL: any identity, tables, tally, bytes and rooms (01, "Order": 18, then the first fault in reading order, then 17 for curves and codewords, then
-- 19). A refusal leaves its number alone, both outputs all zero, and the tally as it stood. Assumes nothing: these are definitions.
use Rattle.std.specs.Prelude.{ℕ, ◌*◌, ◌/◌, List, map, leb, length, replicate}
use Rattle.reading.specs.Least.{one}
use Rattle.reading.specs.Outcome.{refusal, Outcome, ok, bad, then, need}
use Rattle.reading.specs.Pad.{pad}
use Rattle.limits.specs.declared.Limits.{Limits}
use Rattle.identification.specs.declared.Identity.{Identity}
use Rattle.setup.specs.Content.{Setup}
use Rattle.setup.specs.Layout.{Tables}
use Rattle.setup.specs.Inner.Decode.{decode_setup}
use Rattle.setup.specs.Later.{later_call}
use Rattle.residue_requests.specs.Listed.{residue_words, listed}
use Rattle.audio.specs.declared.Tally.{Tally}
use Rattle.audio.specs.declared.Window.{Window}
use Rattle.audio.specs.declared.AudioAnswer.{AudioAnswer}
use Rattle.audio.specs.Head.{window}
use Rattle.audio.specs.Channels.{is_used}
use Rattle.audio.specs.Packet.{Audio, audio, channel_floors}
use Rattle.audio.specs.Tally.{tally_sound, counted}
use Rattle.audio.specs.Curves.{curves_of}

-- how many places each output is lent
pub record Room : Type 0 where
  pub curves : ℕ
  pub codewords : ℕ

-- an accepted packet, with the tally after it and the samples it finished
pub record Accepted : Type 0 where
  pub packet : Audio
  pub tally : Tally
  pub samples : ℕ

-- 17 for the curves, which need channels times n/2 places, then for the codewords; then 19
unfoldable pub judged : ℕ → Tally → Room → Audio → Outcome Accepted
judged channels t room a =
    need (leb (channels * (a.head.blocksize / 2)) room.curves) (refusal 17 0)
    (need (leb (length (residue_words a.items)) room.codewords) (refusal 17 0)
    (then (counted t a.head.blocksize a.position) (λ x.
    ok (record { packet = a; tally = x.0; samples = x.1 }))))

-- by a content: 18 for the tally, then the packet, then what is judged of it
unfoldable pub accepted : Identity → Tally → Room → List ℕ → Setup → Outcome Accepted
accepted i t room s c = need (tally_sound i t) (refusal 18 0) (then (audio i c s) (λ a. judged i.channels t room a))

-- what a call leaves behind
pub record Left : Type 0 where
  pub answer : AudioAnswer
  pub curves : List ℕ
  pub codewords : List ℕ
  pub tally : Tally

abbrev pub no_window : Window
no_window = record { left_start = 0; left_end = 0; right_start = 0; right_end = 0 }

-- a refusal: its number alone
abbrev pub refused : ℕ → AudioAnswer
refused n =
    record {
      refusal = n;
      mode = 0;
      blocksize = 0;
      previous = 0;
      next = 0;
      window = no_window;
      samples = 0;
      codewords = 0;
      used = replicate 255 0;
    }

-- an accepted packet's answer
abbrev pub answer_of : Identity → Accepted → AudioAnswer
answer_of i x =
    record {
      refusal = 0;
      mode = x.packet.head.mode;
      blocksize = x.packet.head.blocksize;
      previous = x.packet.head.previous;
      next = x.packet.head.next;
      window = window i.blocksize0 x.packet.head;
      samples = x.samples;
      codewords = length (residue_words x.packet.items);
      used = pad 255 (map (λ f. one (is_used f)) x.packet.floors);
    }

-- accepted: the answer, the curves and the codewords with zeros behind them, the tally after the packet. Refused: the number, zeros, the tally as it stood
unfoldable pub answered : Identity → Tally → Room → Setup → Outcome Accepted → Left
answered i t room c (ok x) =
    record {
      answer = answer_of i x;
      curves = pad room.curves (curves_of (x.packet.head.blocksize / 2) (channel_floors i.channels c x.packet.head) x.packet.floors);
      codewords = pad room.codewords (map listed (residue_words x.packet.items));
      tally = x.tally;
    }
answered i t room c (bad z) =
    record { answer = refused z.number; curves = replicate room.curves 0; codewords = replicate room.codewords 0; tally = t }

-- BY A CONTENT, for an identity that is sound with it
unfoldable pub audio_by : Setup → Identity → Tally → List ℕ → Room → Left
audio_by c i tally s room = answered i tally room c (accepted i tally room s c)

-- THE CALL, of tables that anyone hands in
unfoldable pub audio_call : Limits → Identity → Tables → Tally → List ℕ → Room → Left
audio_call limits i t tally s room = answered i tally room (decode_setup t) (later_call limits i t (accepted i tally room s))

-- the outputs as a contract names them: the places that are lent, and what is left with the answer and the tally
abbrev pub room_of : List ℕ → List ℕ → Room
room_of curves words = record { curves = length curves; codewords = length words }

abbrev pub left_of : AudioAnswer → Tally → List ℕ → List ℕ → Left
left_of answer tally curves words = record { answer = answer; curves = curves; codewords = words; tally = tally }
