-- The runs that the functions of this crate are held to, for residue number n, whose fields before the plan are h, with the books and plans of the
-- tables; and what functions that only count are held to. Assumes nothing: these are definitions.
use Rattle.std.specs.Prelude.{ℕ, ◌*◌, ◌≤◌, ◌<◌, List, [], ◌⊎◌, ◌≡◌}
use Rattle.book_codeword.specs.Inner.Stored.{dimensions_in}
use Rattle.residue.specs.declared.head.Head.{Head}
use Rattle.requests.specs.Run.{Run}
use Rattle.residue_requests.specs.Inner.Unplaced.{flat_later_passes, flat_residue}
use Rattle.residue_requests.specs.Inner.Again.{again}
use Rattle.codeword_list.specs.Inner.WordsRun.{words_run}
use Rattle.residue_pass.specs.declared.Decoder.{Decoder}
use Rattle.residue_pass.specs.Inner.Readable.{residue_by, place_in}

module _ (books lengths plans : List ℕ) (n : ℕ) (h : Head) where
  -- so many passes from one on, over partitions of these classes
  abbrev pub later_passes_run : ℕ → ℕ → List ℕ → List ℕ → ℕ → Run Unit
  later_passes_run pass count classes packet at = words_run books lengths (flat_later_passes (dimensions_in books) (residue_by h plans n) pass count classes) packet at

  -- all codewords of so many live vectors of so many partitions
  abbrev pub residue_run : ℕ → ℕ → List ℕ → ℕ → Run Unit
  residue_run live partitions packet at = words_run books lengths (flat_residue (dimensions_in books) (residue_by h plans n) live partitions) packet at

-- the classes of so many partitions, found again in the list from place `start` on
abbrev pub classes_in : List ℕ → ℕ → Head → ℕ → ℕ → List ℕ → ℕ → ℕ → List ℕ
classes_in plans n h digits live list partitions start = again digits (residue_by h plans n) live list partitions 0 [] start

-- the same of the residue that a decoder is of
abbrev pub later_passes_by : Decoder → ℕ → ℕ → List ℕ → List ℕ → ℕ → Run Unit
later_passes_by d = later_passes_run d.codebooks.books.now d.codebooks.lengths.now d.plans.now d.residue d.head

abbrev pub residue_by_decoder : Decoder → ℕ → ℕ → List ℕ → ℕ → Run Unit
residue_by_decoder d = residue_run d.codebooks.books.now d.codebooks.lengths.now d.plans.now d.residue d.head

abbrev pub classes_found : Decoder → ℕ → List ℕ → ℕ → ℕ → List ℕ
classes_found d = classes_in d.plans.now d.residue d.head d.digits

-- how many partitions the cycle takes at a time: all that are left, or those of 16 class words
pub record Chunk (digits left r : ℕ) : Type 0 where
  pub some : 0 < r
  pub low : r ≤ left
  pub whole : (r ≡ left) ⊎ (r ≡ 16 * digits)

-- no class has a book in a pass after `last`
pub record LastPass (plans : List ℕ) (n classes last : ℕ) : Type 0 where
  pub within : last ≤ 7
  pub none_after : (class pass : ℕ) → class < classes → last < pass → pass < 8 → place_in plans n class pass ≡ 0
