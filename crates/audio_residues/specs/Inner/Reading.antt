-- The runs that reading residues by the tables is held to, and what it needs to know of the tables. Assumes nothing: these are definitions.
use Rattle.std.specs.Prelude.{ℕ, ◌≤◌, ◌<◌, Bool, List, ◌≡◌, length, get_or}
use Rattle.book_codeword.specs.Inner.Stored.{dimensions_in}
use Rattle.residue.specs.Inner.Decode.{head_at}
use Rattle.residue.specs.Inner.Heads.{head_of}
use Rattle.residue.specs.declared.head.Head.{Head}
use Rattle.mapping.specs.Content.{Submap, Mapping, no_submap}
use Rattle.mapping_row.specs.Inner.Readable.{mapping_in, MappingReadable}
use Rattle.requests.specs.Run.{Run}
use Rattle.codeword_list.specs.Inner.WordsRun.{words_run}
use Rattle.residue_pass.specs.Inner.Readable.{residue_in, ResidueReadable}
use Rattle.audio.specs.Channels.{submap_requests, all_requests}

-- the number of a submap's residue
unfoldable pub residue_number : Mapping → ℕ → ℕ
residue_number m submap = (get_or m.submaps submap no_submap).residue

module _ (books lengths residues plans : List ℕ) (half : ℕ) (m : Mapping) (live : List Bool) where
  -- one submap's residue, from bit `at` of a packet on
  abbrev pub submap_run : ℕ → List ℕ → ℕ → Run Unit
  submap_run submap packet at =
      words_run books lengths (submap_requests (dimensions_in books) half m live submap (residue_in residues plans (residue_number m submap))) packet at

  -- those of submaps from number n on
  abbrev pub submaps_run : ℕ → List Submap → List ℕ → ℕ → Run Unit
  submaps_run n submaps packet at = words_run books lengths (all_requests (dimensions_in books) (residue_in residues plans) half m live n submaps) packet at

-- what is known where the tables are sound for so many channels; `flags` has a number for each channel
pub record ResiduesReadable (books lengths codewords residues plans mappings flags : List ℕ) (channels mapping half : ℕ) : Type 0 where
  pub mapping_is : MappingReadable channels mappings mapping
  pub channels_few : channels ≤ 255
  pub half_few : half ≤ 4096
  pub flags-length : length flags ≡ 255
  pub residue_is : (j : ℕ) → j < length (mapping_in mappings mapping).submaps → (h : Head)
      → head_of h ≡ head_at residues (residue_number (mapping_in mappings mapping) j)
      → ResidueReadable books lengths codewords plans (residue_number (mapping_in mappings mapping) j) h
