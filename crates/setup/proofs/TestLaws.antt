-- THE TEST OF SOUNDNESS IS TRUE EXACTLY FOR SOUND IDENTITY AND TABLES, under whatever limits. Assumes nothing.
use Prim.Native.Nat.{ℕ}
use mathlib.Core.Bool.{Bool, true, false}
use mathlib.Core.Logic.{◌↔◌}
use mathlib.Core.Path.{◌≡◌, refl, sym, ap, subst, ◌∙◌}
use Rattle.reading.specs.Inner.Decide.{both_tell}
use Rattle.limits.specs.declared.Limits.{Limits}
use Rattle.identification.specs.declared.Identity.{Identity}
use Rattle.identification.specs.Sound.{is_sound}
use Rattle.identification.proofs.SoundLaws.{sound_test_lem}
use Rattle.setup.specs.Content.{Setup}
use Rattle.setup.specs.Carried.{Carried}
use Rattle.setup.specs.Rules.{MeetsRules}
use Rattle.setup.specs.Layout.{Tables, written_out}
use Rattle.setup.specs.Inner.Decode.{decode_setup}
use Rattle.setup.specs.Sound.{Sound, SoundCall}
use Rattle.setup.specs.SoundTest.{DecodedSound, decoded_sound, sound_test, Tested}
use Rattle.setup.proofs.DecodeLaws.{content_decoded, one_content}

-- sound with a witness and without
module _ {limits : Limits} {channels : ℕ} {t : Tables} where
  decoded_sound_lem : DecodedSound limits channels t → Sound limits channels t
  decoded_sound_lem x = record { content = decode_setup t; carried = x.carried; rules = x.rules; room = x.room; written = x.written }

  sound_decoded : Sound limits channels t → DecodedSound limits channels t
  sound_decoded x =
      let e = content_decoded x in
      record {
        carried = subst (Carried channels) e x.carried;
        rules = subst (MeetsRules limits channels) e x.rules;
        room = x.room;
        written = x.written ∙ ap (λ (c : Setup). written_out c t) e;
      }

-- tests of one claim are the same
same_test : (a b : Bool) {P : Type 0} → (a ≡ true) ↔ P → (b ≡ true) ↔ P → a ≡ b
same_test true b f g = sym (g.1 (f.0 refl))
same_test false true f g = f.1 (g.0 refl)
same_test false false f g = refl

module _ {limits : Limits} {i : Identity} {t : Tables} where
  pub test_tells : (sound_test limits i t ≡ true) ↔ SoundCall limits i t
  unfolding sound_test
  test_tells =
      let d = decoded_sound limits i.channels t in
      let w = both_tell (is_sound limits.channels i) d.test (sound_test_lem limits.channels i) d.tells in (
        (λ h. let p = w.0 h in record { identity = p.0; tables = decoded_sound_lem p.1 }),
        (λ x. w.1 (x.identity, sound_decoded x.tables)),
      )

  pub test_is : {r : Bool} → (r ≡ true) ↔ SoundCall limits i t → r ≡ sound_test limits i t
  test_is {r} e = same_test r (sound_test limits i t) e test_tells

  pub tested : Tested limits i t
  tested = record { tells = test_tells; one_content = one_content t }
