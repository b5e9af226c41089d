-- Which tables of mappings a later call accepts (01, "What the reader takes and gives").
use Rattle.std.specs.Prelude.{ℕ, List, ◌≡◌, length}
use Rattle.reading.specs.Encoding.{Encodes}
use Rattle.mapping.specs.Content.{Mapping}
use Rattle.mapping.specs.Carried.{CarriedMapping}
use Rattle.mapping.specs.declared.Known.{Known}
use Rattle.mapping.specs.Layout.{mapping_row}
use Rattle.mapping.specs.Inner.Valid.{ValidMapping}

-- so many multiplex numbers has each mapping of so many submaps and channels that a packet can carry
pub record MultiplexCount (submaps channels count : ℕ) : Type 0 where
  pub counted : (m : Mapping) → CarriedMapping channels m → length m.submaps ≡ submaps → length m.multiplex ≡ count

-- the writing-out of so many mappings, each of which meets every rule; zeros behind the last row
abbrev pub MappingsRecognised : Known → ℕ → List ℕ → Type 0
MappingsRecognised known count cells = Encodes mapping_row (ValidMapping known) count cells
