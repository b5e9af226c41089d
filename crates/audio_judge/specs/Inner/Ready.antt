-- Identity and tables that an accepted setup left, or that the recogniser took: what the inner call asks for (01: a later call accepts tables exactly when they
-- are the writing-out of some content that meets every rule).
use Rattle.std.specs.Prelude.{◌≤◌, true, ◌≡◌}
use Rattle.limits.specs.declared.Limits.{Limits}
use Rattle.identification.specs.declared.Identity.{Identity}
use Rattle.setup.specs.Layout.{Tables}
use Rattle.setup.specs.SoundTest.{sound_test}
use Rattle.setup.specs.Inner.Parts.{Small}

-- sound under limits within which the program can count; an entry's number fits 16 bits
pub record Ready (i : Identity) (t : Tables) : Type 0 where
  pub limits : Limits
  pub sound : sound_test limits i t ≡ true
  pub small : Small limits
  pub few_entries : limits.book_entries ≤ 65536
