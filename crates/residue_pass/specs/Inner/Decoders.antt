-- What is known of a residue by a decoder of it, and the runs that functions are held to, of the residue that a decoder is of. Assumes nothing: these are
-- abbreviations.
use Rattle.std.specs.Prelude.{ℕ, List}
use Rattle.requests.specs.Run.{Run}
use Rattle.residue.specs.Content.{Residue}
use Rattle.residue_pass.specs.declared.Decoder.{Decoder}
use Rattle.residue_pass.specs.Inner.Readable.{residue_by, ResidueReadable, PassReadable}
use Rattle.residue_pass.specs.Inner.PassRuns.{partition_run, partitions_run, first_pass_run}

-- the residue
abbrev pub residue_of : Decoder → Residue
residue_of d = residue_by d.head d.plans.now d.residue

-- it can be read
abbrev pub ResidueReady : Decoder → Type 0
ResidueReady d = ResidueReadable d.codebooks.books.now d.codebooks.lengths.now d.codebooks.codewords.now d.plans.now d.residue d.head

-- and its digits and what the first is divided by are those of its class words
abbrev pub PassReady : Decoder → Type 0
PassReady d = PassReadable d.codebooks.books.now d.codebooks.lengths.now d.codebooks.codewords.now d.plans.now d.residue d.head d.digits d.top

abbrev pub partition_by : Decoder → ℕ → ℕ → List ℕ → ℕ → Run Unit
partition_by d = partition_run d.codebooks.books.now d.codebooks.lengths.now d.plans.now d.residue d.head

abbrev pub partitions_by : Decoder → ℕ → List ℕ → List ℕ → ℕ → Run Unit
partitions_by d = partitions_run d.codebooks.books.now d.codebooks.lengths.now d.plans.now d.residue d.head

abbrev pub first_pass_by : Decoder → ℕ → ℕ → ℕ → List ℕ → List ℕ → ℕ → Run (List ℕ)
first_pass_by d = first_pass_run d.codebooks.books.now d.codebooks.lengths.now d.plans.now d.residue d.head
