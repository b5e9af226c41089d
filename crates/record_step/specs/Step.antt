-- THE TOOL'S STEP, by one record: what is kept of the stream and what the record came to (01, the tool). Assumes nothing: these are definitions.
use Rattle.std.specs.Prelude.{ℕ, cond, List, Option, None, Some, eqb, length}
use Rattle.reading.specs.Outcome.{Outcome, ok, bad}
use Rattle.limits.specs.Standard.{standard}
use Rattle.identification.specs.declared.Identity.{Identity}
use Rattle.identification.specs.Identification.{identification}
use Rattle.setup.specs.Content.{Setup}
use Rattle.setup.specs.Reading.{setup}
use Rattle.residue_requests.specs.Listed.{residue_words}
use Rattle.audio.specs.declared.Tally.{Tally}
use Rattle.audio.specs.Call.{Room, Accepted, accepted}
use Rattle.records.specs.declared.Answer.{Answer}
use Rattle.records.specs.declared.Answer.TheVariants.{Identified, SetUp, AudioRead, Refused, Unknown}

-- what is kept from record to record: the identity, the setup whose tables are kept, and the tally
pub record Stream : Type 0 where
  pub identity : Option Identity
  pub setup : Option Setup
  pub tally : Tally

abbrev pub no_tally : Tally
no_tally = record { blocksize = 0; samples = 0 }

-- before the first record
abbrev pub no_stream : Stream
no_stream = record { identity = None; setup = None; tally = no_tally }

-- the outputs that the tool lends: 32,768 curve bytes and 16,384 codewords
abbrev pub room : Room
room = record { curves = 32768; codewords = 16384 }

-- a good identification clears tables and tally; a refused one changes nothing
abbrev pub identified : Stream → Outcome Identity → Stream × Answer
identified x (ok i) = (record { identity = Some i; setup = None; tally = no_tally }, Identified i)
identified x (bad z) = (x, Refused z.number)

-- a good setup clears the tally; a refused one leaves no tables
abbrev pub set_up : Stream → Outcome Setup → Stream × Answer
set_up x (ok c) = (record { identity = x.identity; setup = Some c; tally = no_tally }, SetUp (length c.books) (length c.modes))
set_up x (bad z) = (record { identity = x.identity; setup = None; tally = x.tally }, Refused z.number)

-- without an identity it is 18
abbrev pub setup_step : Stream → Option Identity → List ℕ → Stream × Answer
setup_step x None s = (x, Refused 18)
setup_step x (Some i) s = set_up x (setup standard i.channels s)

-- a good packet brings the tally up to date
abbrev pub audio_read : Stream → Outcome Accepted → Stream × Answer
audio_read x (ok a) = (
  record { identity = x.identity; setup = x.setup; tally = a.tally },
  AudioRead a.packet.head.blocksize a.samples (length (residue_words a.packet.items)),
)
audio_read x (bad z) = (x, Refused z.number)

-- without an identity and tables it is 18
abbrev pub audio_step : Stream → Option Identity → Option Setup → List ℕ → Stream × Answer
audio_step x (Some i) (Some c) s = audio_read x (accepted i x.tally room s c)
audio_step x (Some i) None s = (x, Refused 18)
audio_step x None c s = (x, Refused 18)

-- A RECORD of a kind, with its body
unfoldable pub step : Stream → ℕ → List ℕ → Stream × Answer
step x kind s =
    cond (eqb kind 1) (identified x (identification standard.channels s))
    (cond (eqb kind 2) (setup_step x x.identity s)
    (cond (eqb kind 3) (audio_step x x.identity x.setup s)
    (x, Unknown)))
