-- A residue as content (001, "header decode"; 01, "Setup order").
use Rattle.std.specs.Prelude.{ℕ, List, []}

pub record Residue : Type 0 where
  -- 0, 1 or 2
  pub type : ℕ
  -- as they were read: an audio packet lowers them to its size
  pub begin : ℕ
  pub end : ℕ
  -- how many values a partition has
  pub size : ℕ
  pub classifications : ℕ
  -- the number of the class book
  pub classbook : ℕ
  -- for each class a row of 8 passes; a place holds a book's number plus one, or 0 for nothing
  pub plan : List (List ℕ)

-- what stands for a residue past the last
abbrev pub no_residue : Residue
no_residue = record { type = 0; begin = 0; end = 0; size = 0; classifications = 0; classbook = 0; plan = [] }
