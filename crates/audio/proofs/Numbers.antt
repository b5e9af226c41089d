-- EVERY REFUSAL of the audio call has a number, so that 0 stands for acceptance alone (specs/Claims.antt, `numbered`). The trees of head and body end in outcomes
-- that have one, and so does every run of them; what is judged behind them names its numbers. Assumes nothing.
use Prim.Native.Nat.{ℕ, ◌+◌, ◌*◌, ◌/◌, ◌^◌, ◌≤◌}
use native.Mathlib.Omega.{arith}
use mathlib.Core.List.{List}
use mathlib.Core.Path.{◌≡◌}
use lib.Dec.{eqb, ltb, leb}
use lib.ListN.{length}
use Rattle.reading.specs.Outcome.{Refusal, refusal, Outcome, bad}
use Rattle.reading.proofs.Outcomes.{Numbered, value, number, need_numbered, then_numbered}
use Rattle.limits.specs.declared.Limits.{Limits}
use Rattle.identification.specs.declared.Identity.{Identity}
use Rattle.mode.specs.Content.{Mode}
use Rattle.setup.specs.Content.{Setup, lengths_of}
use Rattle.setup.specs.Layout.{Tables}
use Rattle.setup.specs.Inner.Decode.{decode_setup}
use Rattle.setup.specs.SoundTest.{sound_test}
use Rattle.setup.specs.Later.{later_call}
use Rattle.setup.proofs.Numbers.{not_zero}
use Rattle.requests.specs.Requests.{request, bind}
use Rattle.requests.specs.Run.{read}
use Rattle.requests.specs.Refusing.{lifted, in_turn}
use Rattle.requests.proofs.Refusing.{EndsNumbered, either_ends, lifted_ends, then_ends, turn_ends, run_numbered}
use Rattle.floor_requests.specs.Requests.{floor_requests}
use Rattle.residue_requests.specs.Listed.{residue_words}
use Rattle.audio.specs.declared.Head.{Head}
use Rattle.audio.specs.declared.Tally.{Tally}
use Rattle.audio.specs.Head.{mode_at, flag_requests, mode_requests, head_requests}
use Rattle.audio.specs.Packet.{Audio, channel_floors, channel_requests, residues_after, body_requests, standing, audio}
use Rattle.audio.specs.Tally.{tally_sound, finished, counted}
use Rattle.audio.specs.Call.{Room, judged, accepted}

-- THE HEAD's tree: 15 and 16
head_ends : (i : Identity) (modes : List Mode) → EndsNumbered (head_requests i modes)
unfolding head_requests mode_requests flag_requests bind request EndsNumbered
head_ends i modes =
    λ type.
    either_ends (eqb type 0) _ _
    (λ mode.
    either_ends (ltb mode (length modes)) _ _
    (either_ends (eqb (mode_at modes mode).blockflag 0) _ _ (value _) (λ previous. λ next. value _))
    (number (refusal 16 1) (omega arith)))
    (number (refusal 15 0) (omega arith))

-- THE BODY's: neither floors of type 1 nor residues refuse anything
body_ends : (channels : ℕ) (c : Setup) (h : Head) → EndsNumbered (body_requests channels c h)
unfolding body_requests channel_requests
body_ends channels c h =
    then_ends (in_turn channel_requests (channel_floors channels c h)) (λ floors. lifted (residues_after c h floors))
    (turn_ends channel_requests (λ f. lifted_ends (floor_requests f)) (channel_floors channels c h)) (λ floors. lifted_ends (residues_after c h floors))

standing_numbered : {o : Outcome (Unit × ℕ)} → Numbered o → (a : Audio) → Numbered (standing o a)
unfolding standing
standing_numbered (value x) a = value a
standing_numbered (number z w) a = need_numbered (eqb z.number 1) z w (value a)

packet_numbered : (i : Identity) (c : Setup) (s : List ℕ) → Numbered (audio i c s)
unfolding audio
packet_numbered i c s =
    let reads = read (lengths_of c) in
    then_numbered (run_numbered reads s (head_requests i c.modes) (head_ends i c.modes) 0) (λ h.
    standing_numbered (run_numbered reads s (body_requests i.channels c h.0) (body_ends i.channels c h.0) h.1) _)

-- what is judged behind it: 17 twice, 19
judged_numbered : (channels : ℕ) (t : Tally) (room : Room) (a : Audio) → Numbered (judged channels t room a)
unfolding judged counted
judged_numbered channels t room a =
    need_numbered (leb (channels * (a.head.blocksize / 2)) room.curves) (refusal 17 0) (omega arith)
    (need_numbered (leb (length (residue_words a.items)) room.codewords) (refusal 17 0) (omega arith)
    (then_numbered
    (need_numbered (ltb (t.samples + finished t a.head.blocksize) (2 ^ 64)) (refusal 19 0) (omega arith) (value _))
    (λ x. value _)))

pub accepted_numbered : (i : Identity) (t : Tally) (room : Room) (s : List ℕ) (c : Setup) → Numbered (accepted i t room s c)
unfolding accepted
accepted_numbered i t room s c =
    need_numbered (tally_sound i t) (refusal 18 0) (omega arith) (then_numbered (packet_numbered i c s) (λ a. judged_numbered i.channels t room a))

call_numbered : (limits : Limits) (i : Identity) (t : Tables) (tally : Tally) (s : List ℕ) (room : Room) → Numbered (later_call limits i t (accepted i tally room s))
unfolding later_call
call_numbered limits i t tally s room = need_numbered (sound_test limits i t) (refusal 18 0) (omega arith) (accepted_numbered i tally room s (decode_setup t))

pub numbered : (limits : Limits) (i : Identity) (t : Tables) (tally : Tally) (s : List ℕ) (room : Room) (z : Refusal)
    → later_call limits i t (accepted i tally room s) ≡ bad z → 1 ≤ z.number
numbered limits i t tally s room z e = not_zero (call_numbered limits i t tally s room) e
