-- What the front door answers: 01's number and values for each outcome.
use Rattle.std.specs.Prelude.{pos}
use Rattle.reading.specs.Outcome.{Outcome, ok, bad}
use Rattle.identification.specs.declared.Identity.{Identity}
use Rattle.torchvalley.specs.declared.IdentityAnswer.{IdentityAnswer}

-- an identity of zeros, which is not sound
abbrev pub no_identity : Identity
no_identity =
    record {
      channels = 0;
      rate = 0;
      bitrate_maximum = pos 0;
      bitrate_nominal = pos 0;
      bitrate_minimum = pos 0;
      blocksize0 = 0;
      blocksize1 = 0;
    }

-- 0 and the identity where the packet is accepted; the number alone where it is refused (01, "Every refusal returns its number alone")
unfoldable pub answer_of : Outcome Identity → IdentityAnswer
answer_of (ok i) = record { refusal = 0; identity = i }
answer_of (bad z) = record { refusal = z.number; identity = no_identity }
