-- What the audio call is known to do, for every input (specs/Claims.antt). Assumes nothing.
use Prim.Native.Nat.{ℕ}
use mathlib.Core.List.{List}
use Rattle.limits.specs.declared.Limits.{Limits}
use Rattle.identification.specs.declared.Identity.{Identity}
use Rattle.setup.specs.Layout.{Tables}
use Rattle.audio.specs.declared.Tally.{Tally}
use Rattle.audio.specs.Call.{Room}
use Rattle.audio.specs.Claims.{AudioClaims}
use Rattle.audio.proofs.Cuts.{cut_stands}
use Rattle.audio.proofs.Outputs.{outputs}
use Rattle.audio.proofs.Numbers.{numbered}

pub audio_claims : (limits : Limits) (i : Identity) (t : Tables) (tally : Tally) (s : List ℕ) (room : Room) → AudioClaims limits i t tally s room
audio_claims limits i t tally s room =
    record { cut = cut_stands limits i t tally room; outputs = outputs limits i t tally s room; numbered = numbered limits i t tally s room }
