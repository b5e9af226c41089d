-- Which identity and tables a later call accepts (01, "What the reader takes and gives"; refusal 18), and that tables have one content alone.
use Rattle.std.specs.Prelude.{ℕ, true, ◌≡◌}
use Rattle.limits.specs.declared.Limits.{Limits}
use Rattle.identification.specs.declared.Identity.{Identity}
use Rattle.identification.specs.Sound as I
use Rattle.setup.specs.Content.{Setup}
use Rattle.setup.specs.Carried.{Carried}
use Rattle.setup.specs.Rules.{MeetsRules}
use Rattle.setup.specs.Layout.{Tables, has_room, written_out}
use Rattle.setup.specs.Inner.Decode.{decode_setup}

-- the writing-out of some content that meets every rule, for an identity's channels
pub record Sound (limits : Limits) (channels : ℕ) (t : Tables) : Type 0 where
  pub content : Setup
  pub carried : Carried channels content
  pub rules : MeetsRules limits channels content
  pub room : has_room limits t ≡ true
  pub written : t ≡ written_out content t

-- identity and tables are sound
pub record SoundCall (limits : Limits) (i : Identity) (t : Tables) : Type 0 where
  pub identity : I.Sound limits.channels i
  pub tables : Sound limits i.channels t

-- ONE WRITING-OUT, ONE CONTENT, for every identity and under whatever limits (01: "One content has one writing-out, which no other content shares")
pub record OneContent (t : Tables) : Type 0 where
  -- it is what the tables decode to
  pub decoded : {limits : Limits} {channels : ℕ} (x : Sound limits channels t) → x.content ≡ decode_setup t
  -- so any two are the same
  pub same : {limits limits' : Limits} {channels channels' : ℕ} (x : Sound limits channels t) (y : Sound limits' channels' t) → x.content ≡ y.content
