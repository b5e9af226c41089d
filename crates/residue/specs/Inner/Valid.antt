-- Which residues a packet can carry and meet every rule.
use Rattle.std.specs.Prelude.{ℕ, List, ◌≡◌}
use Rattle.reading.specs.Outcome.{ok}
use Rattle.reading.specs.Reader.{many}
use Rattle.reading.specs.Encoding.{Each}
use Rattle.residue.specs.Content.{Residue}
use Rattle.residue.specs.Reading.{Books, residue}
use Rattle.residue.specs.Carried.{CarriedResidue}
use Rattle.residue.specs.Rules.{Rule10, Residue11, Rule13}

pub record ValidResidue (books : Books) (r : Residue) : Type 0 where
  pub carried : CarriedResidue r
  pub rule10 : Rule10 r
  pub rule11 : Residue11 books.count r
  pub rule13 : Rule13 books r

-- residues that a packet is accepted with meet every rule
pub record AcceptedValid (books : Books) (n : ℕ) (packet : List ℕ) (k : ℕ) : Type 0 where
  pub valid : (x : List Residue × ℕ) → many (residue books) n packet k ≡ ok x → Each (ValidResidue books) x.0
