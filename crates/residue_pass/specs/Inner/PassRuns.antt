-- The runs that the functions of a residue's passes are held to, with the residue and its books as they lie in the tables. Assumes nothing: these are
-- abbreviations.
use Rattle.std.specs.Prelude.{ℕ, List, []}
use Rattle.book_codeword.specs.Inner.Stored.{dimensions_in}
use Rattle.requests.specs.Run.{Run}
use Rattle.residue.specs.declared.head.Head.{Head}
use Rattle.residue_requests.specs.Requests.{planned}
use Rattle.residue_requests.specs.Inner.Unplaced.{flat_partition, flat_partitions, flat_first_pass}
use Rattle.codeword_list.specs.Inner.WordsRun.{words_run}
use Rattle.residue_pass.specs.Inner.Readable.{residue_by}

module _ (books lengths plans : List ℕ) (n : ℕ) (h : Head) where
  -- a partition of a class in a pass
  abbrev pub partition_run : ℕ → ℕ → List ℕ → ℕ → Run Unit
  partition_run pass class packet at =
      words_run books lengths (flat_partition (dimensions_in books) (residue_by h plans n) (planned (residue_by h plans n) pass class)) packet at

  -- partitions, one for each class of a list
  abbrev pub partitions_run : ℕ → List ℕ → List ℕ → ℕ → Run Unit
  partitions_run pass classes packet at = words_run books lengths (flat_partitions (dimensions_in books) (residue_by h plans n) pass classes) packet at

  -- pass 0 of `live` vectors, where `left` partitions are to be read and each of the class words `es` has `unused` digits left
  abbrev pub first_pass_run : ℕ → ℕ → ℕ → List ℕ → List ℕ → ℕ → Run (List ℕ)
  first_pass_run live left unused es packet at =
      words_run books lengths (flat_first_pass (dimensions_in books) (residue_by h plans n) live left unused es []) packet at
