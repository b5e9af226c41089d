-- What is known of an accepted audio packet beside its answer: its block is at most Vorbis I's greatest, and it has no more curve bytes than channels times
-- n/2. Assumes nothing.
use Prim.Native.Nat.{ℕ, suc, ◌+◌, ◌*◌, ◌/◌, ◌≤◌}
use native.Mathlib.Nat.{suc-mul}
use native.Mathlib.Omega.{arith}
use mathlib.Core.List.{List, [], ◌∷◌}
use mathlib.Core.Path.{◌≡◌, ap, subst, ◌∙◌}
use lib.Dec.{leb}
use lib.ListN.{length, get_or, length-map, length-append}
use Rattle.reading.specs.Outcome.{refusal, ok}
use Rattle.reading.proofs.Outcomes.{ok_is, then_ok, need-ok}
use Rattle.reading.specs.Tabulate.{tabulate}
use Rattle.reading.proofs.Tabulate.{tabulate-length}
use Rattle.identification.specs.declared.Identity.{Identity}
use Rattle.floor.specs.Content.{Floor, no_floor}
use Rattle.setup.specs.Content.{Setup}
use Rattle.setup.specs.Layout.{Tables}
use Rattle.setup.specs.Inner.Decode.{decode_setup}
use Rattle.floor_requests.specs.Requests.{FloorRead}
use Rattle.residue_requests.specs.Listed.{residue_words}
use Rattle.audio.specs.declared.Head.{Head}
use Rattle.audio.specs.declared.Tally.{Tally}
use Rattle.audio.specs.Channels.{floor_number, floors_of}
use Rattle.audio.specs.Packet.{Audio, mapping_of, channel_floors, body_at, audio}
use Rattle.audio.specs.Tally.{tally_sound, counted}
use Rattle.audio.specs.Curves.{curve_of, curves_of}
use Rattle.audio.specs.Call.{Room, Accepted, judged, accepted}
use Rattle.audio.proofs.Accepted.{packet_read_lem}
use Rattle.audio_floors.proofs.FloorsLaws.{curve_long}
use Rattle.audio_settle.specs.Inner.Judged.{curves_by}
use Rattle.audio_judge.specs.Inner.Ready.{Ready}
use Rattle.audio_judge.proofs.ReadyLaws.{size_high}

-- SIZES of an accepted packet
judged-packet : (channels : ℕ) (t : Tally) (room : Room) (a : Audio) (x : Accepted) → judged channels t room a ≡ ok x → a ≡ x.packet
unfolding judged
judged-packet channels t room a x e =
    let curves = need-ok (leb (channels * (a.head.blocksize / 2)) room.curves) (refusal 17 0) _ e in
    let codewords = need-ok (leb (length (residue_words a.items)) room.codewords) (refusal 17 0) _ curves.1 in
    let y = then_ok (counted t a.head.blocksize a.position) _ codewords.1 in
    ap (λ (z : Accepted). z.packet) (ok_is y.2)

pub block_high : (i : Identity) (t : Tables) → Ready i t → (tally : Tally) (room : Room) (s : List ℕ) (x : Accepted) → accepted i tally room s (decode_setup t) ≡ ok x
    → x.packet.head.blocksize ≤ 8192
unfolding accepted body_at
block_high i t ready tally room s x e =
    let sound = need-ok (tally_sound i tally) (refusal 18 0) _ e in
    let read = then_ok (audio i (decode_setup t) s) _ sound.1 in
    let h = packet_read_lem i (decode_setup t) s read.1 in
    let same : read.0 ≡ x.packet = judged-packet i.channels tally room read.0 x read.2 in
    let high = size_high i t ready s h.0.0 h.0.1 h.1 in
    subst (λ (a : Audio). a.head.blocksize ≤ 8192) (h.2 ∙ same) high

curves_few : (half : ℕ) (fs : List Floor) (vs : List FloorRead) → length (curves_of half fs vs) ≤ length fs * half
unfolding curves_of
curves_few half [] vs = omega arith
curves_few half (f ∷ fs) [] = omega arith
curves_few half (f ∷ fs) (v ∷ vs) =
    let a = length-append (curve_of half f v) (curves_of half fs vs) in
    let b = curve_long half f v in
    let d = curves_few half fs vs in
    let m : suc (length fs) * half ≡ length fs * half + half = suc-mul (length fs) half in
    omega arith

all_floors : (channels : ℕ) (c : Setup) (h : Head) → length (channel_floors channels c h) ≡ channels
unfolding channel_floors floors_of
all_floors channels c h =
    length-map (tabulate (floor_number (mapping_of c h)) channels) (λ (n : ℕ). get_or c.floors n no_floor)
    ∙ tabulate-length (floor_number (mapping_of c h)) channels

pub bytes_few : (channels : ℕ) (c : Setup) (x : Accepted) → length (curves_by channels c x) ≤ channels * (x.packet.head.blocksize / 2)
bytes_few channels c x =
    subst (λ (n : ℕ). length (curves_by channels c x) ≤ n * (x.packet.head.blocksize / 2)) (all_floors channels c x.packet.head)
    (curves_few (x.packet.head.blocksize / 2) (channel_floors channels c x.packet.head) x.packet.floors)
