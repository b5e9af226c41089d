-- The body of an audio packet by the tables, and what reading it leaves. Assumes nothing: these are definitions.
use Rattle.std.specs.Prelude.{ℕ, ◌≤◌, ◌<◌, cond, List, map, ◌≡◌, leb, length}
use Rattle.std.proofs.lemmas.List.Edits.{sets}
use Rattle.reading.specs.Least.{one}
use Rattle.reading.specs.Pad.{pad}
use Rattle.book_codeword.specs.Inner.Stored.{dimensions_in}
use Rattle.floor.specs.Content.{Floor}
use Rattle.floor_values.specs.Inner.Stored.{floor_in}
use Rattle.mapping_row.specs.Inner.Readable.{mapping_in}
use Rattle.residue.specs.Inner.Decode.{head_at}
use Rattle.residue.specs.Inner.Heads.{head_of}
use Rattle.residue.specs.declared.head.Head.{Head}
use Rattle.residue_pass.specs.Inner.Readable.{residue_in, ResidueReadable}
use Rattle.requests.specs.Requests.{Requests, bind, each}
use Rattle.requests.specs.Run.{Run}
use Rattle.floor_requests.specs.Requests.{FloorRead, floor_requests}
use Rattle.residue_requests.specs.Listed.{residue_words, listed}
use Rattle.codeword_list.specs.Inner.ListRead.{Ending, full, ending_of, ending_by}
use Rattle.audio.specs.Channels.{floors_of, is_used, coupled, all_requests}
use Rattle.audio.specs.Packet.{by_channel}
use Rattle.audio.specs.Curves.{curves_of}
use Rattle.audio_floors.specs.Inner.Floors.{FloorsReadable}
use Rattle.audio_residues.specs.Inner.Reading.{residue_number}
use Rattle.audio_body.specs.declared.BodyRead.{BodyRead}

-- the floors of so many channels, by mapping number n
abbrev pub floors_in : List ℕ → List ℕ → ℕ → ℕ → List Floor
floors_in mappings floors n channels = floors_of (floor_in floors) (mapping_in mappings n) channels

-- the residues behind what the floors came to
unfoldable pub residues_in : List ℕ → List ℕ → List ℕ → List ℕ → ℕ → ℕ → List FloorRead → Requests Unit
residues_in books residues plans mappings n half vs =
    all_requests (dimensions_in books) (residue_in residues plans) half (mapping_in mappings n) (coupled (mapping_in mappings n).couplings (map is_used vs)) 0 (mapping_in mappings n).submaps

-- floors, then residues
unfoldable pub body_in : List ℕ → List ℕ → List ℕ → List ℕ → List ℕ → ℕ → ℕ → ℕ → Requests Unit
body_in books floors residues plans mappings n channels half =
    bind (each floor_requests (floors_in mappings floors n channels)) (λ vs. residues_in books residues plans mappings n half vs)

-- how reading the codewords of a run ended, in a list of so many places
unfoldable pub ending_words : ℕ → Run Unit → Ending
ending_words room r = cond (leb (length (residue_words r.items)) room) (ending_by r.value r.position (length (residue_words r.items))) full

-- a body whose run is r and whose whole floors are vs, of so many channels, read into lent outputs
pub record BodyIs (r : Run Unit) (fs : List Floor) (vs : List FloorRead) (channels half : ℕ) (x : BodyRead) (entry exit list list' : List ℕ) : Type 0 where
  pub used : x.used ≡ pad 255 (map (λ f. one (is_used f)) vs)
  pub ending : ending_of x.words ≡ ending_words (length list) r
  pub curves : exit ≡ sets entry 0 (curves_of half fs (by_channel channels vs))
  pub words : list' ≡ sets list 0 (map listed (residue_words r.items))

-- what is known of the tables where they are sound: mapping n, the floors of so many channels, the residues of its submaps
pub record BodyReadable (mappings floors residues plans books lengths codewords : List ℕ) (n channels half : ℕ) : Type 0 where
  pub floors_readable : FloorsReadable channels n mappings floors books lengths codewords
  pub residue_is : (j : ℕ) → j < length (mapping_in mappings n).submaps → (h : Head) → head_of h ≡ head_at residues (residue_number (mapping_in mappings n) j)
      → ResidueReadable books lengths codewords plans (residue_number (mapping_in mappings n) j) h
  pub channels_few : channels ≤ 255
  pub half_few : half ≤ 4096
