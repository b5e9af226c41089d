-- The numbers that 01 gives its reasons to send a packet back ("When the packet is sent back").
use Rattle.std.specs.Prelude.{ℕ}
use Rattle.bits.specs.declared.refusal.Reason.{Reason}
use Rattle.bits.specs.declared.refusal.Reason.TheVariants as R

abbrev pub number : Reason → ℕ
number R.Cut = 1
number R.Header = 2
number R.Version = 3
number R.Identity = 4
number R.Framing = 5
number R.Codebook = 6
number R.Overspecified = 7
number R.Underspecified = 8
number R.NotZero = 9
number R.UnknownType = 10
number R.NotSetUp = 11
number R.XList = 12
number R.Residue = 13
number R.Limit = 14
number R.NotAudio = 15
number R.Mode = 16
number R.Room = 17
number R.Unsound = 18
number R.Samples = 19
