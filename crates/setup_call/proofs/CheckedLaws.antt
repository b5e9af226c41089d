-- Laws of what is judged before the content, as the code asks them, and of the content behind it. Assumes nothing.
use Rattle.std.specs.Prelude.{Result, Ok, Err}
use Prim.Native.Nat.{ℕ, ◌≤◌}
use native.Mathlib.Omega.{arith}
use borrow.Author.Tests.{not-true, not-false}
use mathlib.Core.Bool.{Bool, true, false, not}
use mathlib.Core.List.{List}
use mathlib.Core.Logic.{◌↔◌}
use mathlib.Core.Path.{◌≡◌, refl, sym, ◌∙◌}
use Rattle.reading.specs.Outcome.{refusal, bad, then, need}
use Rattle.reading.proofs.Outcomes.{need-ok}
use Rattle.bits.specs.declared.Cursor.{Cursor}
use Rattle.bits.specs.declared.refusal.Refusal.{Refusal}
use Rattle.bits.specs.Inner.Cursors.{position, stepped}
use Rattle.bits.proofs.Steps.{next_is, stop_is}
use Rattle.header.specs.Header.{common_header}
use Rattle.limits.specs.declared.Limits.{Limits}
use Rattle.identification.specs.declared.Identity.{Identity}
use Rattle.identification.specs.Sound.{Sound, is_sound}
use Rattle.identification.proofs.SoundLaws.{sound_test_lem}
use Rattle.setup.specs.Content.{Setup}
use Rattle.setup.specs.Layout.{Tables, has_room}
use Rattle.setup.specs.Inner.Parts.{ReadInto, Small, after_header, packet_part, checked_part}
use Rattle.setup.proofs.ReadIntoLaws.{read_into_refused}
use Rattle.setup_call.specs.Inner.Begun.{begun}

said_false : {P : Type 0} {x : Bool} (t : Bool) → (x ≡ true) ↔ P → (t ≡ true) ↔ P → not x ≡ true → t ≡ false
said_false {P} {x} true e f n = let y : x ≡ true = e.1 (f.0 refl) in let z : ◌≡◌ {A = ℕ} 0 1 = cc in absurd (omega arith)
said_false {P} {x} false e f n = refl

-- each way out of what is judged before the content
module _ (limits : Limits) (i : Identity) (room : Bool) (s : List ℕ) {x : Bool} (sound : (x ≡ true) ↔ Sound limits.channels i) where
  pub identity_unsound : (answer : Result Cursor Refusal) → not x ≡ true → stepped answer ≡ bad (refusal 18 0) → stepped answer ≡ begun limits i room s
  unfolding begun
  identity_unsound answer n e = rw (e, said_false _ sound (sound_test_lem limits.channels i) n) refl

  module _ (y : not x ≡ false) where
    pub no_room : (answer : Result Cursor Refusal) → not room ≡ true → stepped answer ≡ bad (refusal 17 0) → stepped answer ≡ begun limits i room s
    unfolding begun
    no_room answer n e = rw (e, (sound_test_lem limits.channels i).1 (sound.0 (not-false x y)), not-true room n) refl

    pub header_judged : (answer : Result Cursor Refusal) → not room ≡ false → stepped answer ≡ common_header 5 s → stepped answer ≡ begun limits i room s
    unfolding begun
    header_judged answer n e = rw ((sound_test_lem limits.channels i).1 (sound.0 (not-false x y)), not-false room n) e

-- the content behind it
checked_whole : (limits : Limits) (i : Identity) (s : List ℕ) (t : Tables) → checked_part limits i s t ≡ then (begun limits i (has_room limits t) s) (λ k. after_header limits i.channels s k)
unfolding checked_part packet_part begun
checked_whole limits i s t = go (is_sound limits.channels i) (has_room limits t)
  where
    go : (x y : Bool) → need x (refusal 18 0) (need y (refusal 17 0) (then (common_header 5 s) (λ k. after_header limits i.channels s k)))
        ≡ then (need x (refusal 18 0) (need y (refusal 17 0) (common_header 5 s))) (λ k. after_header limits i.channels s k)
    go false y = refl
    go true false = refl
    go true true = refl

module _ (limits : Limits) (i : Identity) (s : List ℕ) (t : Tables) {room : Bool} {st : Result Cursor Refusal} (e : room ≡ has_room limits t) (h : stepped st ≡ begun limits i room s) where
  pub checked_refused : {z : Refusal} {L : Setup → Type 0} → st ≡ Err z → ReadInto (checked_part limits i s t) (Err z) L
  checked_refused q = read_into_refused (rw (checked_whole limits i s t, ← e, stop_is h q) refl)

  pub checked_read : {c : Cursor} {answer : Result Cursor Refusal} {L : Setup → Type 0} → st ≡ Ok c → ReadInto (after_header limits i.channels s (position c)) answer L → ReadInto (checked_part limits i s t) answer L
  checked_read q l = rw (checked_whole limits i s t, ← e, next_is h q) l

  pub content_ready : {c : Cursor} → Small limits → st ≡ Ok c → (has_room limits t ≡ true) × Small limits × (1 ≤ i.channels) × (i.channels ≤ 255)
  unfolding begun
  content_ready {c} small q =
      let a = need-ok (is_sound limits.channels i) (refusal 18 0) (need room (refusal 17 0) (common_header 5 s)) (next_is h q) in
      let b = need-ok room (refusal 17 0) (common_header 5 s) a.1 in
      let w = (sound_test_lem limits.channels i).0 a.0 in
      let few : i.channels ≤ limits.channels = w.few_channels in
      let most = small.few_channels in
      (sym e ∙ b.0, small, w.some_channel, omega arith)
