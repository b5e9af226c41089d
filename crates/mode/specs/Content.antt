-- A mode as content (003, 4.2.4, "Modes"). Window and transform type have but one value, so they are no content.
use Rattle.std.specs.Prelude.{ℕ}

pub record Mode : Type 0 where
  -- 0 for a short block, 1 for a long one
  pub blockflag : ℕ
  pub mapping : ℕ

-- what stands for a mode past the last
abbrev pub no_mode : Mode
no_mode = record { blockflag = 0; mapping = 0 }
