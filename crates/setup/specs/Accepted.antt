-- What an accepted setup comes to (01, "What the reader takes and gives": which tables a later call accepts).
use Rattle.std.specs.Prelude.{ℕ, ◌≤◌, true, false, List, ◌≡◌}
use Rattle.reading.specs.Outcome.{Refusal, ok, bad}
use Rattle.limits.specs.declared.Limits.{Limits}
use Rattle.identification.specs.declared.Identity.{Identity}
use Rattle.setup.specs.Content.{Setup}
use Rattle.setup.specs.Layout.{Tables, written_out, cleared}
use Rattle.setup.specs.Inner.Decode.{decode_setup}
use Rattle.setup.specs.SoundTest.{sound_test}
use Rattle.setup.specs.Call.{setup_of}

pub record AcceptedSound (limits : Limits) (i : Identity) (s : List ℕ) (t : Tables) : Type 0 where
  -- the tables as the call left them are sound: a later call takes them, and answers by the content that was read
  pub tested : (c : Setup) → setup_of limits i s t ≡ ok c → sound_test limits i (written_out c t) ≡ true
  pub decoded : (c : Setup) → setup_of limits i s t ≡ ok c → decode_setup (written_out c t) ≡ c
  -- tables as a refusal leaves them are not
  pub cleared_unsound : sound_test limits i (cleared t) ≡ false
  -- the number 0 stands for acceptance alone
  pub numbered : (z : Refusal) → setup_of limits i s t ≡ bad z → 1 ≤ z.number
