-- A PACKET THAT WAS CUT (specs/Claims.antt, `CutStands`): head and body are runs of trees of requests, so the cut theorem of runs gives the items, once for
-- each; the floors are the values that are whole. No refusal of the body can newly arise, nor 17 or 19. Assumes nothing.
use Prim.Native.Nat.{ℕ, zero, suc, ◌-◌, ◌≤◌}
use native.Mathlib.Omega.{arith}
use borrow.Author.Tests.{leb-true, le-leb}
use mathlib.Core.List.{List, [], ◌∷◌, ◌++◌, map, append-nil, append_assoc}
use mathlib.Core.Logic.{◌⊎◌, inl, inr, ⊎_elim}
use mathlib.Core.Path.{◌≡◌, refl, sym, ap, subst, ◌∙◌}
use lib.Dec.{eqb}
use lib.ListN.{length, take, replicate, length-append}
use Rattle.reading.specs.Outcome.{refusal, Outcome, ok, bad, then}
use Rattle.reading.proofs.Outcomes.{then_ok, need-ok}
use Rattle.limits.specs.declared.Limits.{Limits}
use Rattle.identification.specs.declared.Identity.{Identity}
use Rattle.setup.specs.Content.{Setup, lengths_of}
use Rattle.setup.specs.Layout.{Tables}
use Rattle.setup.specs.Inner.Decode.{decode_setup}
use Rattle.setup.specs.Later.{later_call}
use Rattle.requests.specs.Run.{read, Item, Run}
use Rattle.requests.specs.Values.{whole_values}
use Rattle.requests.specs.Refusing.{values_of, came_to}
use Rattle.requests.specs.Claims.{SameOrPrefix}
use Rattle.requests.proofs.Cuts.{cut_theorem}
use Rattle.requests.proofs.Values.{sequence}
use Rattle.requests.proofs.Refusing.{values_begin}
use Rattle.floor_requests.specs.Requests.{FloorRead, unused}
use Rattle.residue_requests.specs.Listed.{residue_words, listed}
use Rattle.residue_requests.proofs.ListedLaws.{words_append}
use Rattle.audio.specs.declared.Tally.{Tally}
use Rattle.audio.specs.declared.Head.{Head}
use Rattle.audio.specs.Head.{head_requests}
use Rattle.audio.specs.Packet.{Audio, channel_floors, channel_requests, body_requests, body_run, by_channel, body_at, head_run, standing, audio}
use Rattle.audio.specs.Tally.{counted}
use Rattle.audio.specs.Call.{Room, Accepted, judged, accepted}
use Rattle.audio.specs.Claims.{CutPacket, CutStands}
use Rattle.audio.proofs.Accepted.{stood, Judged, packet_accepted}

-- FLOORS: those before the cut, and unused ones
pub by_channel_long : (n : ℕ) (l : List FloorRead) → length (by_channel n l) ≡ n
unfolding by_channel
by_channel_long zero l = refl
by_channel_long (suc n) [] = ap suc (by_channel_long n [])
by_channel_long (suc n) (x ∷ l) = ap suc (by_channel_long n l)

all_unused : (n : ℕ) → by_channel n [] ≡ replicate n unused
unfolding by_channel
all_unused zero = refl
all_unused (suc n) = ap (λ (l : List FloorRead). unused ∷ l) (all_unused n)

channels_cut : (n : ℕ) (l r : List FloorRead) → by_channel n l ≡ take (length l) (by_channel n (l ++ r)) ++ replicate (n - length l) unused
unfolding by_channel
channels_cut zero [] r = refl
channels_cut zero (x ∷ l) r = let none_left : 0 - length (x ∷ l) ≡ 0 = omega arith in rw none_left
channels_cut (suc n) [] r = let all : suc n - 0 ≡ suc n = omega arith in rw all (all_unused (suc n))
channels_cut (suc n) (x ∷ l) r =
    let less : suc n - suc (length l) ≡ n - length l = omega arith in
    rw less (ap (λ (t : List FloorRead). x ∷ t) (channels_cut n l r))

-- CODEWORDS of items that follow each other
listed_append : (l m : List Item) → map listed (l ++ m) ≡ map listed l ++ map listed m
listed_append [] m = refl
listed_append (x ∷ l) m = ap (λ (t : List ℕ). listed x ∷ t) (listed_append l m)

codewords_append : (l m : List Item) → map listed (residue_words (l ++ m)) ≡ map listed (residue_words l) ++ map listed (residue_words m)
codewords_append l m = rw (words_append l m) (listed_append (residue_words l) (residue_words m))

-- THE BODY: its items begin those of the whole packet
begun : {A : Type 0} (r' r : Run A) → SameOrPrefix r' r → (rest : List Item) × (r.items ≡ r'.items ++ rest)
unfolding SameOrPrefix
begun r' r (inl e) = ([], rw e (sym (append-nil r.items)))
begun r' r (inr p) = (p.rest, p.items)

-- its values before a refusal begin those of the whole packet
values_begun : (l' l : List (Outcome FloorRead)) → (rest : List (Outcome FloorRead)) × (l ≡ l' ++ rest) → (rest : List FloorRead) × (values_of l ≡ values_of l' ++ rest)
values_begun l' l p = let v = values_begin l' p.0 in (v.0, ap values_of p.1 ∙ v.1)

module _ (channels : ℕ) (c : Setup) (s : List ℕ) (m : ℕ) (l : List Item) (h : Head) (k : ℕ) where
  body_cut : CutPacket (body_at channels c s l h k) (body_at channels c (take m s) l h k)
  unfolding body_at
  body_cut =
      let reads = read (lengths_of c) in
      let floors = channel_floors channels c h in
      let whole = whole_values reads channel_requests floors s k in
      let v = values_begun (whole_values reads channel_requests floors (take m s) k) whole ((sequence (lengths_of c) channel_requests floors).prefix s m k) in
      let w = begun (body_run channels c (take m s) h k) (body_run channels c s h k) ((cut_theorem (lengths_of c) (body_requests channels c h)).prefix s m k) in
      let cut = (body_run channels c (take m s) h k).items in
      let items : l ++ (body_run channels c s h k).items ≡ (l ++ cut) ++ w.0 = ap (λ (t : List Item). l ++ t) w.1 ∙ sym (append_assoc l cut w.0) in
      let values = values_of (whole_values reads channel_requests floors (take m s) k) in
      record {
        head = refl;
        before = length values;
        floors = rw (v.1, by_channel_long channels (values ++ v.0)) (channels_cut channels values v.0);
        rest = w.0;
        items = items;
        codewords = ap (λ (t : List Item). map listed (residue_words t)) items ∙ codewords_append (l ++ cut) w.0;
      }

-- IT STANDS where the whole packet did: its run is the same, or a cut ended it
stands_again : (o : Outcome (Unit × ℕ)) (b b' : Audio) {a : Audio} → standing o b ≡ ok a → standing o b' ≡ ok b'
unfolding standing
stands_again (ok x) b b' e = refl
stands_again (bad z) b b' e = rw (need-ok (eqb z.number 1) z (ok b) e).0

body_stands : (r' r : Run (Outcome Unit)) → SameOrPrefix r' r → (b b' : Audio) {a : Audio} → standing (came_to r) b ≡ ok a → standing (came_to r') b' ≡ ok b'
unfolding SameOrPrefix standing came_to
body_stands r' r (inl f) b b' e = rw f (stands_again (came_to r) b b' e)
body_stands r' r (inr p) b b' e = rw p.cut

-- THE PACKET: a cut in the head is refusal 1
module _ (i : Identity) (c : Setup) (s : List ℕ) (m : ℕ) (a : Audio) where
  -- behind a head in packet p, with the head's items
  abbrev packet_at : List ℕ → List Item → Head × ℕ → Outcome Audio
  packet_at p l h = standing (came_to (body_run i.channels c p h.0 h.1)) (body_at i.channels c p l h.0 h.1)

  -- what a run of the head comes to
  abbrev packet_of : List ℕ → Run (Outcome Head) → Outcome Audio
  packet_of p r = then (came_to r) (λ h. packet_at p r.items h)

  abbrev Cut : Outcome Audio → Type 0
  Cut o = ((place : ℕ) × (o ≡ bad (refusal 1 place))) ⊎ ((a' : Audio) × (o ≡ ok a') × CutPacket a a')

  packet_cut : (r' r : Run (Outcome Head)) → SameOrPrefix r' r → packet_of s r ≡ ok a → Cut (packet_of (take m s) r')
  unfolding SameOrPrefix came_to
  packet_cut r' r (inr p) e = inl (r'.position, rw p.cut)
  packet_cut r' r (inl f) e =
      let x = then_ok (came_to r) _ e in
      let h = x.0.0 in
      let k = x.0.1 in
      let b = body_at i.channels c s r.items h k in
      let a' = body_at i.channels c (take m s) r.items h k in
      let g = body_cut i.channels c s m r.items h k in
      let same = (cut_theorem (lengths_of c) (body_requests i.channels c h)).prefix s m k in
      let stands = body_stands (body_run i.channels c (take m s) h k) (body_run i.channels c s h k) same b a' x.2 in
      let read : packet_of (take m s) r ≡ ok a' = ap (λ (o : Outcome (Head × ℕ)). then o (λ y. packet_at (take m s) r.items y)) x.1 ∙ stands in
      rw f (inr (a', read, subst (λ (y : Audio). CutPacket y a') (stood (came_to (body_run i.channels c s h k)) b x.2) g))

  audio_cut : audio i c s ≡ ok a → Cut (audio i c (take m s))
  unfolding audio
  audio_cut e = packet_cut (head_run i c (take m s)) (head_run i c s) ((cut_theorem (lengths_of c) (head_requests i c.modes)).prefix s m 0) e

-- ROOM AND SAMPLES: the head is the same, and there are no more codewords
fewer : (l r : List Item) (n : ℕ) → length (residue_words (l ++ r)) ≤ n → length (residue_words l) ≤ n
fewer l r n h =
    let a = length-append (residue_words l) (residue_words r) in
    let b = ap length (words_append l r) in
    omega arith

judged_cut : (channels : ℕ) (t : Tally) (room : Room) (a a' : Audio) (x : Accepted) → CutPacket a a' → Judged channels t room a x
    → judged channels t room a' ≡ ok (record { packet = a'; tally = x.tally; samples = x.samples })
unfolding judged counted
judged_cut channels t room a a' x c p =
    let all = leb-true (length (residue_words a.items)) room.codewords p.codewords in
    let few = fewer a'.items c.rest room.codewords (subst (λ (l : List Item). length (residue_words l) ≤ room.codewords) c.items all) in
    rw (c.head, p.curves, le-leb (length (residue_words a'.items)) room.codewords few, p.step)

-- ALL OF IT
module _ (limits : Limits) (i : Identity) (t : Tables) (tally : Tally) (room : Room) where
  abbrev called : List ℕ → Outcome Accepted
  called s = later_call limits i t (accepted i tally room s)

  pub cut_stands : CutStands limits i t tally room
  unfolding later_call accepted
  cut_stands = record { stands = go }
    where
      go : (s : List ℕ) (m : ℕ) (x : Accepted) → called s ≡ ok x
          → ((place : ℕ) × (called (take m s) ≡ bad (refusal 1 place)))
          ⊎ ((x' : Accepted) × (called (take m s) ≡ ok x') × CutPacket x.packet x'.packet)
      go s m x e =
          let c = decode_setup t in
          let p = packet_accepted limits i t tally room s x e in
          let a = x.packet in
          ⊎_elim
          (λ z. inl (z.0, rw (p.tables, p.sound, z.1)))
          (λ z.
          inr (
            record { packet = z.0; tally = x.tally; samples = x.samples },
            rw (p.tables, p.sound, z.1) (judged_cut i.channels tally room a z.0 x z.2 p.judged),
            z.2,
          ))
          (audio_cut i c s m a p.packet)
