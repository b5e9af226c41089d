-- Both doors, as the code asks it. Assumes nothing.
use Rattle.std.specs.Prelude.{Result, IfOk}
use Prim.Native.Nat.{ℕ, ◌≤◌}
use native.Mathlib.Omega.{arith}
use mathlib.Core.Bool.{Bool, true, false, not}
use mathlib.Core.List.{List}
use mathlib.Core.Path.{◌≡◌, ap, sym, ◌∙◌}
use borrow.Author.Tests.{not-true, not-false}
use lib.ListN.{length}
use Rattle.reading.specs.Outcome.{refusal, need}
use Rattle.limits.specs.declared.Limits.{Limits}
use Rattle.limits.specs.Standard.{standard}
use Rattle.identification.specs.declared.Identity.{Identity}
use Rattle.setup.specs.Layout.{Tables}
use Rattle.setup.specs.Inner.Decode.{decode_setup}
use Rattle.setup.specs.Inner.Parts.{Small}
use Rattle.setup.specs.SoundTest.{sound_test}
use Rattle.setup.specs.Later.{later_call}
use Rattle.audio.specs.declared.Tally.{Tally}
use Rattle.audio.specs.Call.{Room, Left, accepted, answered, audio_by, audio_call, room_of}
use Rattle.audio_settle.specs.declared.Judged.{Judged}
use Rattle.audio_settle.specs.declared.Rejected.{Rejected}
use Rattle.audio_judge.specs.Inner.Ready.{Ready}
use Rattle.audio_settle.specs.Inner.Judged.{JudgedIs, ZeroFrom, refused_left, settled}
use Rattle.audio_judge.proofs.ReadyLaws.{channels_few, first_high}
use Rattle.audio_settle.proofs.SettleLaws.{settled_is, zero_past}

-- THE INNER DOOR
module _ (i : Identity) (t : Tables) (x : Ready i t) (tally : Tally) (s entry list : List ℕ) {r : Result Judged Rejected} {exit list' : List ℕ}
    (j : JudgedIs i.channels (decode_setup t) (accepted i tally (room_of entry list) s (decode_setup t)) r entry exit list list') where
  pub settle_asked : (i.channels ≤ 255) × (i.blocksize0 ≤ 8192) × IfOk r (λ x. x.head.blocksize ≤ 8192)
  settle_asked = (channels_few i t x, first_high i t x, j.size)

  pub packet_left : {curves_end words_end : ℕ} {l : Left} → ZeroFrom curves_end entry → ZeroFrom words_end list → l ≡ settled i tally r exit list' curves_end words_end
      → l ≡ audio_by (decode_setup t) i tally s (room_of entry list)
  unfolding audio_by
  packet_left {curves_end} {words_end} zc zw e = e ∙ settled_is i (decode_setup t) tally entry list curves_end words_end zc zw (accepted i tally (room_of entry list) s (decode_setup t)) j

-- THE PUBLIC CALL
module _ (limits : Limits) (i : Identity) (t : Tables) {b : Bool} (e : b ≡ sound_test limits i t) where
  pub call_unsound : (tally : Tally) (s entry list : List ℕ) {l : Left} {n : ℕ} → not b ≡ true → n ≡ 18 → l ≡ refused_left n tally entry list → l ≡ audio_call limits i t tally s (room_of entry list)
  unfolding audio_call later_call answered
  call_unsound tally s entry list n number a =
      let q : sound_test limits i t ≡ false = sym e ∙ not-true b n in
      a ∙ ap (λ (m : ℕ). refused_left m tally entry list) number
      ∙ ap (λ (z : Bool). answered i tally (room_of entry list) (decode_setup t) (need z (refusal 18 0) (accepted i tally (room_of entry list) s (decode_setup t)))) (sym q)

  module _ (n : not b ≡ false) where
    is_sound_lem : sound_test limits i t ≡ true
    is_sound_lem = sym e ∙ not-false b n

    pub packet_asked : Small limits → limits.book_entries ≤ 65536 → {entry list : List ℕ} → Ready i t × ZeroFrom (length entry) entry × ZeroFrom (length list) list
    packet_asked small few {entry} {list} = (record { limits = limits; sound = is_sound_lem; small = small; few_entries = few }, zero_past entry, zero_past list)

    pub call_sound : (tally : Tally) (s entry list : List ℕ) {l : Left} → l ≡ audio_by (decode_setup t) i tally s (room_of entry list) → l ≡ audio_call limits i t tally s (room_of entry list)
    unfolding audio_by audio_call later_call
    call_sound tally s entry list a = a ∙ ap (λ (z : Bool). answered i tally (room_of entry list) (decode_setup t) (need z (refusal 18 0) (accepted i tally (room_of entry list) s (decode_setup t)))) (sym is_sound_lem)

-- what `standard` answers is the standard
module _ {l : Limits} (e : (l.channels ≡ 8) × (l.book_entries ≡ 8192) × (l.entries ≡ 16384) × (l.multiplicands ≡ 16384)) where
  pub limits_asked : Small l × (l.book_entries ≤ 65536)
  limits_asked =
      let a = e.0 in
      let b = e.1 in
      let c = e.2 in
      let d = e.3 in
      (record { few_channels = omega arith; few_entries = omega arith; few_values = omega arith }, omega arith)

  pub call_standard : (i : Identity) (t : Tables) (tally : Tally) (s : List ℕ) (room : Room) {x : Left} → x ≡ audio_call l i t tally s room → x ≡ audio_call standard i t tally s room
  call_standard i t tally s room a = a ∙ (λ j. audio_call (record { channels = e.0 j; book_entries = e.1 j; entries = e.2 j; multiplicands = e.3 j }) i t tally s room)
