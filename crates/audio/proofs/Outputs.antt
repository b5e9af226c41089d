-- WHAT AN ACCEPTED PACKET GIVES (specs/Claims.antt, `Outputs`): every place of the curves is a byte, and every codeword names an entry of its book.
-- Assumes nothing.
use Prim.Native.Nat.{ℕ, zero, suc, ◌/◌, ◌≤◌}
use native.Mathlib.Omega.{arith}
use mathlib.Core.Bool.{Bool, true, false, cond}
use mathlib.Core.List.{List, [], ◌∷◌, ◌++◌}
use mathlib.Core.Path.{◌≡◌, refl, subst}
use lib.ListN.{length, get_or, replicate}
use Rattle.reading.specs.Outcome.{Outcome, ok, bad}
use Rattle.reading.specs.Encoding.{Each}
use Rattle.reading.specs.Pad.{pad}
use Rattle.limits.specs.declared.Limits.{Limits}
use Rattle.identification.specs.declared.Identity.{Identity}
use Rattle.codeword.proofs.Laws.{read_used}
use Rattle.floor.specs.Content.{Floor, x_list}
use Rattle.setup.specs.Content.{Setup, lengths_of}
use Rattle.setup.specs.Layout.{Tables}
use Rattle.setup.specs.Inner.Decode.{decode_setup}
use Rattle.setup.specs.Later.{later_call}
use Rattle.floor_curve.specs.Curve.{curve_at, places, fitting, left, curve}
use Rattle.floor_curve.proofs.CurveLaws.{curve_bytes}
use Rattle.requests.specs.Requests.{Request, number, word, Requests, done, ask}
use Rattle.requests.specs.Run.{read, Item, continued, run}
use Rattle.floor_requests.specs.Requests.{FloorRead, unused, values}
use Rattle.audio.specs.declared.Tally.{Tally}
use Rattle.audio.specs.Head.{head_requests}
use Rattle.audio.specs.Packet.{Audio, channel_floors, body_requests, body_run, body_at, head_run, audio}
use Rattle.audio.specs.Curves.{points_of, curve_of, curves_of}
use Rattle.audio.specs.Call.{Room, Accepted, accepted, answered, audio_call}
use Rattle.audio.specs.Claims.{NamesEntry, Outputs}
use Rattle.audio.proofs.Accepted.{packet_read_lem, packet_accepted}
use Rattle.audio.proofs.UntilCut.{packet_until_cut}

-- CURVES: a list of bytes
abbrev Byte : ℕ → Type 0
Byte v = v ≤ 255

bytes_get : (l : List ℕ) → Each Byte l → (k : ℕ) → get_or l k 0 ≤ 255
unfolding Each
bytes_get [] h k = omega arith
bytes_get (x ∷ l) h zero = h.0
bytes_get (x ∷ l) h (suc k) = bytes_get l h.1 k

each_append : {A : Type 0} (P : A → Type 0) (l m : List A) → Each P l → Each P m → Each P (l ++ m)
unfolding Each
each_append P [] m h g = g
each_append P (x ∷ l) m h g = (h.0, each_append P l m h.1 g)

bytes_zeros : (n : ℕ) → Each Byte (replicate n 0)
unfolding Each
bytes_zeros zero = tt
bytes_zeros (suc n) = (omega arith, bytes_zeros n)

bytes_pad : (n : ℕ) (l : List ℕ) → Each Byte l → Each Byte (pad n l)
unfolding Each pad
bytes_pad zero l h = tt
bytes_pad (suc n) [] h = (omega arith, bytes_pad n [] h)
bytes_pad (suc n) (x ∷ l) h = (h.0, bytes_pad n l h.1)

bytes_places : (f : ℕ → ℕ) → ((x : ℕ) → f x ≤ 255) → (i n : ℕ) → Each Byte (places f i n)
unfolding Each places
bytes_places f h i zero = tt
bytes_places f h i (suc n) = (h i, bytes_places f h (suc i) n)

bytes_curve : (xs ys flags : List ℕ) (m n : ℕ) → Each Byte (curve xs ys flags m n).out
unfolding curve
bytes_curve xs ys flags m n = go (fitting xs (length ys) (length flags))
  where
    go : (t : Bool) → Each Byte (cond t (left true (places (curve_at xs ys flags m) 0 n)) (left false (replicate n 0))).out
    go true = bytes_places (curve_at xs ys flags m) (curve_bytes xs ys flags m).byte 0 n
    go false = bytes_zeros n

bytes_channel : (half : ℕ) (f : Floor) (v : FloorRead) → Each Byte (curve_of half f v)
unfolding curve_of
bytes_channel half f unused = bytes_zeros half
bytes_channel half f (values ys) = bytes_curve (x_list f.rangebits f.xs) (points_of f ys).final_y (points_of f ys).flags f.multiplier half

bytes_curves : (half : ℕ) (fs : List Floor) (vs : List FloorRead) → Each Byte (curves_of half fs vs)
unfolding Each curves_of
bytes_curves half [] vs = tt
bytes_curves half (f ∷ fs) [] = tt
bytes_curves half (f ∷ fs) (v ∷ vs) = each_append Byte (curve_of half f v) (curves_of half fs vs) (bytes_channel half f v) (bytes_curves half fs vs)

bytes_answered : (i : Identity) (t : Tally) (room : Room) (c : Setup) (o : Outcome Accepted) → Each Byte (answered i t room c o).curves
unfolding answered
bytes_answered i t room c (ok x) =
    let half = x.packet.head.blocksize / 2 in
    let fs = channel_floors i.channels c x.packet.head in
    bytes_pad room.curves (curves_of half fs x.packet.floors) (bytes_curves half fs x.packet.floors)
bytes_answered i t room c (bad z) = bytes_zeros room.curves

-- CODEWORDS: an item of a run names an entry of its book, whatever the tree
module _ (c : Setup) where
  abbrev Named : Item → Type 0
  Named item = NamesEntry c item.request item.answer

  read_named : (q : Request) (s : List ℕ) (k v n : ℕ) → read (lengths_of c) q s k ≡ ok (v, n) → NamesEntry c q v
  unfolding read
  read_named (number width) s k v n e = tt
  read_named (word book role) s k v n e = (read_used (lengths_of c book) s k v n e).0

  run_named : {A : Type 0} (x : Requests A) (s : List ℕ) (k : ℕ) → Each Named (run (read (lengths_of c)) x s k).items
  unfolding run Each
  run_named (done a) s k = tt
  run_named (ask q f) s k = go (λ v n. run_named (f v) s n) (read (lengths_of c) q s k) refl
    where
      go : ((v n : ℕ) → Each Named (run (read (lengths_of c)) (f v) s n).items) → (o : Outcome (ℕ × ℕ)) → read (lengths_of c) q s k ≡ o
          → Each Named (continued q k o (λ v n. run (read (lengths_of c)) (f v) s n)).items
      go h (ok x) e = (read_named q s k x.0 x.1 e, h x.0 x.1)
      go h (bad z) e = tt

  audio_named : (i : Identity) (s : List ℕ) (a : Audio) → audio i c s ≡ ok a → Each Named a.items
  unfolding body_at
  audio_named i s a e =
      let x = packet_read_lem i c s e in
      let h = x.0.0 in
      let k = x.0.1 in
      subst (λ (y : Audio). Each Named y.items) x.2
      (each_append Named (head_run i c s).items (body_run i.channels c s h k).items
      (run_named (head_requests i c.modes) s 0) (run_named (body_requests i.channels c h) s k))

-- ALL OF IT
module _ (limits : Limits) (i : Identity) (t : Tables) (tally : Tally) (s : List ℕ) (room : Room) where
  pub outputs : Outputs limits i t tally s room
  unfolding audio_call
  outputs =
      record {
        bytes =
            bytes_get (audio_call limits i t tally s room).curves
            (bytes_answered i tally room (decode_setup t) (later_call limits i t (accepted i tally room s)));
        entries = λ x e. audio_named (decode_setup t) i s x.packet (packet_accepted limits i t tally room s x e).packet;
        read_until_cut = λ x e. packet_until_cut i (decode_setup t) s x.packet (packet_accepted limits i t tally room s x e).packet;
      }
