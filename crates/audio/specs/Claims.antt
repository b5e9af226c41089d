-- What the audio call is known to do, stated without the program: a packet that was cut, and what an accepted packet's lists hold.
use Rattle.std.specs.Prelude.{ℕ, ◌-◌, ◌≤◌, ◌<◌, List, [], ◌∷◌, ◌++◌, map, ◌⊎◌, ◌≡◌, length, get_or, take, replicate}
use Rattle.std.proofs.Math.Option.{Option, none, some}
use Rattle.reading.specs.Outcome.{Refusal, refusal, Outcome, ok, bad}
use Rattle.reading.specs.Encoding.{Each}
use Rattle.limits.specs.declared.Limits.{Limits}
use Rattle.identification.specs.declared.Identity.{Identity}
use Rattle.setup.specs.Content.{Setup, lengths_of}
use Rattle.setup.specs.Layout.{Tables}
use Rattle.setup.specs.Inner.Decode.{decode_setup}
use Rattle.setup.specs.Later.{later_call}
use Rattle.requests.specs.Requests.{Request, number, word, Requests, done, ask}
use Rattle.requests.specs.Run.{Item, read}
use Rattle.requests.specs.Refusing.{and_then}
use Rattle.floor_requests.specs.Requests.{unused}
use Rattle.residue_requests.specs.Listed.{residue_words, listed}
use Rattle.audio.specs.declared.Tally.{Tally}
use Rattle.audio.specs.Head.{head_requests}
use Rattle.audio.specs.Packet.{Audio, body_requests}
use Rattle.audio.specs.Call.{Room, Accepted, accepted, audio_call}

-- AN ACCEPTED PACKET CUT AFTER ANY BYTE is refusal 1, or it stands: floors read before the cut are the same, later ones unused, and its codewords begin the
-- whole packet's list (01, behind "Audio order")
pub record CutPacket (whole of_cut : Audio) : Type 0 where
  pub head : of_cut.head ≡ whole.head
  -- so many channels' floors were read before the cut
  pub before : ℕ
  pub floors : of_cut.floors ≡ take before whole.floors ++ replicate (length whole.floors - before) unused
  -- every field and codeword that was read begins what is read of the whole packet
  pub rest : List Item
  pub items : whole.items ≡ of_cut.items ++ rest
  -- and so does the list of the residues' codewords
  pub codewords : map listed (residue_words whole.items) ≡ map listed (residue_words of_cut.items) ++ map listed (residue_words rest)

pub record CutStands (limits : Limits) (i : Identity) (t : Tables) (tally : Tally) (room : Room) : Type 0 where
  pub stands : (s : List ℕ) (m : ℕ) (x : Accepted) → later_call limits i t (accepted i tally room s) ≡ ok x
      → ((place : ℕ) × (later_call limits i t (accepted i tally room (take m s)) ≡ bad (refusal 1 place)))
      ⊎ ((x' : Accepted) × (later_call limits i t (accepted i tally room (take m s)) ≡ ok x') × CutPacket x.packet x'.packet)

-- an item that is a codeword names an entry of its book
abbrev pub NamesEntry : Setup → Request → ℕ → Type 0
NamesEntry c (number width) answer = Unit {0}
NamesEntry c (word book role) answer = answer < length (lengths_of c book)

-- ALL THAT IS ASKED OF A PACKET, head and body, as one tree of requests
unfoldable pub packet_requests : Identity → Setup → Requests (Outcome Unit)
packet_requests i c = and_then (head_requests i c.modes) (λ h. body_requests i.channels c h)

module _ {A : Type 0} where
  -- the requests that a tree makes on these answers, each after the answers before it; and the one that it makes next, none where it has ended
  unfoldable pub requests_made : Requests A → List ℕ → List Request
  requests_made (done a) l = []
  requests_made (ask q f) [] = []
  requests_made (ask q f) (v ∷ l) = q ∷ requests_made (f v) l

  unfoldable pub next_request : Requests A → List ℕ → Option Request
  next_request (done a) l = none
  next_request (ask q f) [] = some q
  next_request (ask q f) (v ∷ l) = next_request (f v) l

-- the items answer the requests of the tree in order. It makes none after them, or the one that it makes next is cut at that position
pub record ReadUntilCut {A : Type 0} (lengths_of : ℕ → List ℕ) (x : Requests A) (s : List ℕ) (items : List Item) (position : ℕ) : Type 0 where
  pub made : map (λ i. i.request) items ≡ requests_made x (map (λ i. i.answer) items)
  pub ended : (next_request x (map (λ i. i.answer) items) ≡ none)
      ⊎ ((q : Request) × (next_request x (map (λ i. i.answer) items) ≡ some q) × (read lengths_of q s position ≡ bad (refusal 1 position)))

-- WHAT AN ACCEPTED PACKET GIVES
pub record Outputs (limits : Limits) (i : Identity) (t : Tables) (tally : Tally) (s : List ℕ) (room : Room) : Type 0 where
  -- each curve byte lies between 0 and 255 (01, "Audio order" 3)
  pub bytes : (k : ℕ) → get_or (audio_call limits i t tally s room).curves k 0 ≤ 255
  -- each codeword's entry is one of the book that reading names
  pub entries : (x : Accepted) → later_call limits i t (accepted i tally room s) ≡ ok x
      → Each (λ (item : Item). NamesEntry (decode_setup t) item.request item.answer) x.packet.items
  -- all that head and body ask for was read, up to a cut: so the number of codewords is not free (01, "How an entry is closed")
  pub read_until_cut : (x : Accepted) → later_call limits i t (accepted i tally room s) ≡ ok x
      → ReadUntilCut (lengths_of (decode_setup t)) (packet_requests i (decode_setup t)) s x.packet.items x.packet.position

-- ALL OF IT, of the audio call; and a refusal has a number, so that 0 stands for acceptance alone
pub record AudioClaims (limits : Limits) (i : Identity) (t : Tables) (tally : Tally) (s : List ℕ) (room : Room) : Type 0 where
  pub cut : CutStands limits i t tally room
  pub outputs : Outputs limits i t tally s room
  pub numbered : (z : Refusal) → later_call limits i t (accepted i tally room s) ≡ bad z → 1 ≤ z.number
