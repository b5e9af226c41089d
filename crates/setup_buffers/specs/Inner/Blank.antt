-- One table, cleared: as long as it was lent, and all zero.
use Rattle.std.specs.Prelude.{ℕ, List, ◌≡◌, length, replicate}
use Rattle.setup.specs.Handed.{Slice}

pub record Blank (entry exit : List ℕ) : Type 0 where
  pub zeros : exit ≡ replicate (length entry) 0

-- a slice that a call was lent and has left so
abbrev pub LeftBlank : Slice → Type 0
LeftBlank table = Blank table.entry.now table.exit.now
