-- WHICH CONTENTS A PACKET CAN CARRY, whatever the rules say of them: numbers that fit their fields, and as many as the numbers before say (001 to 004). A number that no
-- field carries is in no content.
use Rattle.std.specs.Prelude.{ℕ, ◌≤◌, length}
use Rattle.reading.specs.Encoding.{Each}
use Rattle.reading.specs.Counted.{Counted}
use Rattle.book.specs.Carried.{CarriedBook}
use Rattle.floor.specs.Carried.{CarriedFloor}
use Rattle.residue.specs.Carried.{CarriedResidue}
use Rattle.mapping.specs.Carried.{CarriedMapping}
use Rattle.mode.specs.Carried.{CarriedMode}
use Rattle.setup.specs.Content.{Setup}

-- for an identity's channels, which the identification packet has 8 bits for (003, 4.2.2)
pub record Carried (channels : ℕ) (c : Setup) : Type 0 where
  pub few_channels : channels ≤ 255
  pub book_count : Counted 256 (length c.books)
  pub books : Each CarriedBook c.books
  pub floor_count : Counted 64 (length c.floors)
  pub floors : Each CarriedFloor c.floors
  pub residue_count : Counted 64 (length c.residues)
  pub residues : Each CarriedResidue c.residues
  pub mapping_count : Counted 64 (length c.mappings)
  pub mappings : Each (CarriedMapping channels) c.mappings
  pub mode_count : Counted 64 (length c.modes)
  pub modes : Each CarriedMode c.modes
