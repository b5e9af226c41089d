-- What the program keeps of a stream: numbers by value, and the tables and outputs that it was lent.
use Rattle.std.specs.Prelude.{ℕ, ◌*◌, ◌/◌, true, false, cond, List, None, Some, IfSome, IsSome, ◌≡◌, eqb, length}
use Rattle.limits.specs.Standard.{standard}
use Rattle.identification.specs.declared.Identity.{Identity}
use Rattle.identification.specs.Identification.{identification}
use Rattle.identification.specs.Sound.{is_sound}
use Rattle.setup.specs.Layout.{Tables, has_room}
use Rattle.setup.specs.SoundTest.{sound_test}
use Rattle.setup.specs.Inner.Decode.{decode_setup}
use Rattle.audio.specs.declared.Tally.{Tally}
use Rattle.audio.specs.declared.AudioAnswer.{AudioAnswer}
use Rattle.audio_settle.specs.Inner.Judged.{ZeroFrom}
use Rattle.records.specs.declared.Answer.{Answer}
use Rattle.records.specs.declared.Answer.TheVariants.{Identified, SetUp, AudioRead, Refused}
use Rattle.record_step.specs.declared.Kept.{Kept}
use Rattle.record_step.specs.declared.Stepped.{Stepped}
use Rattle.record_step.specs.Step.{Stream, no_tally, no_stream, identified, setup_step, audio_step}

-- the stream that it stands for
unfoldable pub stream_of : Kept → Tables → Stream
stream_of k t =
    record {
      identity = k.identity;
      setup = cond k.has_tables (Some (decode_setup t)) None;
      tally = k.tally;
    }

-- the identity is sound; the tables that are kept are those of an accepted setup for it; every table has its fixed need
pub record KeptTables (k : Kept) (t : Tables) : Type 0 where
  pub identity_sound : IfSome k.identity (λ i. is_sound standard.channels i ≡ true)
  pub identity_first : k.has_tables ≡ true → IsSome k.identity
  pub tables_sound : k.has_tables ≡ true → IfSome k.identity (λ i. sound_test standard i t ≡ true)
  pub tables_long : has_room standard t ≡ true

-- the outputs have the room that the tool lends, and hold nothing behind what the packet before left
pub record KeptOutputs (k : Kept) (curves words : List ℕ) : Type 0 where
  pub curves_long : length curves ≡ 32768
  pub words_long : length words ≡ 16384
  pub curves_zero : ZeroFrom k.curves_end curves
  pub words_zero : ZeroFrom k.words_end words

-- before the first record: nothing is kept, and the outputs may hold anything
pub record StartsWith (k : Kept) : Type 0 where
  pub stream : (t : Tables) → stream_of k t ≡ no_stream
  pub no_identity_is : k.identity ≡ None
  pub no_tables : k.has_tables ≡ false
  pub curves_end_is : k.curves_end ≡ 32768
  pub words_end_is : k.words_end ≡ 16384

-- WHAT IS KEPT AFTER A RECORD, with what it came to: nothing changes
abbrev pub unchanged : Kept → Answer → Stepped
unchanged k a = record { kept = k; answer = a }

-- a good identification clears tables and tally
abbrev pub identity_accepted : Kept → Identity → Stepped
identity_accepted k i =
    record {
      kept =
          record {
            identity = Some i;
            has_tables = false;
            tally = no_tally;
            curves_end = k.curves_end;
            words_end = k.words_end;
          };
      answer = Identified i;
    }

-- a good setup clears the tally
abbrev pub setup_accepted : Kept → ℕ → ℕ → Stepped
setup_accepted k books modes =
    record {
      kept =
          record {
            identity = k.identity;
            has_tables = true;
            tally = no_tally;
            curves_end = k.curves_end;
            words_end = k.words_end;
          };
      answer = SetUp books modes;
    }

-- a refused setup leaves no tables
abbrev pub setup_refused : Kept → ℕ → Stepped
setup_refused k number =
    record {
      kept =
          record {
            identity = k.identity;
            has_tables = false;
            tally = k.tally;
            curves_end = k.curves_end;
            words_end = k.words_end;
          };
      answer = Refused number;
    }

-- by the setup call's number, of which 0 is acceptance
abbrev pub setup_numbered : Kept → ℕ → ℕ → ℕ → Stepped
setup_numbered k number books modes = cond (eqb number 0) (setup_accepted k books modes) (setup_refused k number)

-- an audio packet brings the tally up to date, and its curves and codewords stand in the outputs
abbrev pub packet_read : Kept → Tally → ℕ → ℕ → Answer → Stepped
packet_read k t curves words a =
    record {
      kept =
          record {
            identity = k.identity;
            has_tables = k.has_tables;
            tally = t;
            curves_end = curves;
            words_end = words;
          };
      answer = a;
    }

-- by the audio call's answer, in which the refusal 0 is acceptance: channels times n/2 curve bytes, and so many codewords
abbrev pub packet_answered : Kept → Identity → Tally → AudioAnswer → Stepped
packet_answered k i t a =
    cond (eqb a.refusal 0)
    (packet_read k t (i.channels * (a.blocksize / 2)) a.codewords (AudioRead a.blocksize a.samples a.codewords))
    (packet_read k t 0 0 (Refused a.refusal))

-- the outputs were not touched
pub record SameEnds (k k' : Kept) : Type 0 where
  pub curves : k'.curves_end ≡ k.curves_end
  pub words : k'.words_end ≡ k.words_end

-- AN IDENTIFICATION RECORD touches neither tables nor outputs, whatever they hold
pub record IdentificationStep (k : Kept) (s : List ℕ) (r : Stepped) : Type 0 where
  pub stream : (t : Tables) → (stream_of r.kept t, r.answer) ≡ identified (stream_of k t) (identification standard.channels s)
  pub tables : (t : Tables) → KeptTables k t → KeptTables r.kept t
  pub ends : SameEnds k r.kept

-- A SETUP RECORD: the tables were t, and are u
pub record SetupStep (k : Kept) (s : List ℕ) (t : Tables) (r : Stepped) (u : Tables) : Type 0 where
  pub stream : (stream_of r.kept u, r.answer) ≡ setup_step (stream_of k t) (stream_of k t).identity s
  pub tables : KeptTables r.kept u
  pub ends : SameEnds k r.kept

-- AN AUDIO RECORD touches the outputs alone
pub record AudioStep (k : Kept) (s : List ℕ) (t : Tables) (r : Stepped) (curves words : List ℕ) : Type 0 where
  pub stream : (stream_of r.kept t, r.answer) ≡ audio_step (stream_of k t) (stream_of k t).identity (stream_of k t).setup s
  pub tables : KeptTables r.kept t
  pub outputs : KeptOutputs r.kept curves words
