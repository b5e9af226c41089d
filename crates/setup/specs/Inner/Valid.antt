-- The content that meets every rule, part by part, as the programs judge it: what a packet can carry (specs/Carried.antt) and the rules by number
-- (specs/Rules.antt) put together; proofs/RuleLaws.antt shows that it is both and no more.
use Rattle.std.specs.Prelude.{ℕ, length}
use Rattle.reading.specs.Encoding.{Each}
use Rattle.reading.specs.Counted.{Counted}
use Rattle.limits.specs.declared.Limits.{Limits}
use Rattle.book.specs.Inner.Valid.{ValidBooks}
use Rattle.floor.specs.Inner.Valid.{ValidFloor}
use Rattle.residue.specs.Inner.Valid.{ValidResidue}
use Rattle.mapping.specs.Inner.Valid.{ValidMapping}
use Rattle.mode.specs.Inner.Valid.{ValidMode}
use Rattle.setup.specs.Content.{Setup, books_known, known}

-- for an identity's channels
pub record ValidSetup (limits : Limits) (channels : ℕ) (c : Setup) : Type 0 where
  pub book_count : Counted 256 (length c.books)
  pub books : ValidBooks limits (record { entries = 0; values = 0 }) c.books
  pub floor_count : Counted 64 (length c.floors)
  pub floors : Each (ValidFloor (length c.books)) c.floors
  pub residue_count : Counted 64 (length c.residues)
  pub residues : Each (ValidResidue (books_known c.books)) c.residues
  pub mapping_count : Counted 64 (length c.mappings)
  pub mappings : Each (ValidMapping (known channels c.floors c.residues)) c.mappings
  pub mode_count : Counted 64 (length c.modes)
  pub modes : Each (ValidMode (length c.mappings)) c.modes
