-- A packet that is accepted: each of the call's steps came to its value. Assumes nothing.
use Prim.Native.Nat.{ℕ, ◌*◌, ◌/◌}
use mathlib.Core.Bool.{true}
use mathlib.Core.List.{List}
use mathlib.Core.Path.{◌≡◌, ap, subst, ◌∙◌}
use lib.Dec.{eqb, leb}
use lib.ListN.{length}
use Rattle.reading.specs.Outcome.{refusal, Outcome, ok, bad}
use Rattle.reading.proofs.Outcomes.{then_ok, need-ok, ok_is}
use Rattle.limits.specs.declared.Limits.{Limits}
use Rattle.identification.specs.declared.Identity.{Identity}
use Rattle.setup.specs.Content.{Setup}
use Rattle.setup.specs.Layout.{Tables}
use Rattle.setup.specs.Inner.Decode.{decode_setup}
use Rattle.setup.specs.SoundTest.{sound_test}
use Rattle.setup.specs.Later.{later_call}
use Rattle.requests.specs.Refusing.{came_to}
use Rattle.residue_requests.specs.Listed.{residue_words}
use Rattle.audio.specs.declared.Head.{Head}
use Rattle.audio.specs.declared.Tally.{Tally}
use Rattle.audio.specs.Packet.{Audio, body_run, body_at, head_run, standing, audio}
use Rattle.audio.specs.Tally.{tally_sound, counted}
use Rattle.audio.specs.Call.{Room, Accepted, judged, accepted}

-- a packet that stands is what was read of it
pub stood : (o : Outcome (Unit × ℕ)) (b : Audio) {a : Audio} → standing o b ≡ ok a → b ≡ a
unfolding standing
stood (ok x) b e = ok_is e
stood (bad z) b e = ok_is (need-ok (eqb z.number 1) z (ok b) e).1

-- its head was read, and its body behind it
pub packet_read_lem : (i : Identity) (c : Setup) (s : List ℕ) {a : Audio} → audio i c s ≡ ok a
    → (h : Head × ℕ) × (came_to (head_run i c s) ≡ ok h) × (body_at i.channels c s (head_run i c s).items h.0 h.1 ≡ a)
unfolding audio
packet_read_lem i c s e =
    let x = then_ok (came_to (head_run i c s)) _ e in
    let h = x.0 in
    (h, x.1, stood (came_to (body_run i.channels c s h.0 h.1)) (body_at i.channels c s (head_run i c s).items h.0 h.1) x.2)

-- there is room for both outputs, and the samples can be counted
pub record Judged (channels : ℕ) (t : Tally) (room : Room) (a : Audio) (x : Accepted) : Type 0 where
  pub curves : leb (channels * (a.head.blocksize / 2)) room.curves ≡ true
  pub codewords : leb (length (residue_words a.items)) room.codewords ≡ true
  pub step : counted t a.head.blocksize a.position ≡ ok (x.tally, x.samples)

packet-judged : (channels : ℕ) (t : Tally) (room : Room) (a : Audio) (x : Accepted) → judged channels t room a ≡ ok x
    → (a ≡ x.packet) × Judged channels t room a x
unfolding judged
packet-judged channels t room a x e =
    let curves = need-ok (leb (channels * (a.head.blocksize / 2)) room.curves) (refusal 17 0) _ e in
    let codewords = need-ok (leb (length (residue_words a.items)) room.codewords) (refusal 17 0) _ curves.1 in
    let y = then_ok (counted t a.head.blocksize a.position) _ codewords.1 in
    let same = ok_is y.2 in (
      ap (λ (z : Accepted). z.packet) same,
      record { curves = curves.0; codewords = codewords.0; step = y.1 ∙ ap (λ (z : Accepted). ok (z.tally, z.samples)) same },
    )

module _ (limits : Limits) (i : Identity) (t : Tables) (tally : Tally) (room : Room) (s : List ℕ) (x : Accepted) where
  -- identity, tables and tally are sound, and the packet was read and judged
  pub record PacketAccepted : Type 0 where
    pub tables : sound_test limits i t ≡ true
    pub sound : tally_sound i tally ≡ true
    pub packet : audio i (decode_setup t) s ≡ ok x.packet
    pub judged : Judged i.channels tally room x.packet x

  pub packet_accepted : later_call limits i t (accepted i tally room s) ≡ ok x → PacketAccepted
  unfolding later_call accepted
  packet_accepted e =
      let tables = need-ok (sound_test limits i t) (refusal 18 0) _ e in
      let sound = need-ok (tally_sound i tally) (refusal 18 0) _ tables.1 in
      let read = then_ok (audio i (decode_setup t) s) _ sound.1 in
      let j = packet-judged i.channels tally room read.0 x read.2 in
      record {
        tables = tables.0;
        sound = sound.0;
        packet = read.1 ∙ ap ok j.0;
        judged = subst (λ (a : Audio). Judged i.channels tally room a x) j.0 j.1;
      }
