-- When two tables are the writing-out of n residues that meet every rule (01, "What the reader takes and gives"), and what that is for the rows of one.
use Rattle.std.specs.Prelude.{ℕ, ◌≤◌, List, ◌≡◌, length, take}
use Rattle.reading.specs.Pad.{pad}
use Rattle.reading.specs.Lists.{rows}
use Rattle.reading.specs.Encoding.{Each}
use Rattle.residue.specs.Content.{Residue}
use Rattle.residue.specs.Reading.{Books, Head, with_plan}
use Rattle.residue.specs.Layout.{plan_width, residues_need, plans_need, head_row, plan_table}
use Rattle.residue.specs.Inner.Valid.{ValidResidue}
use Rattle.residue.specs.Inner.Decode.{decode_residue, decode_residues}

-- the tables hold a content's rows, and zeros behind them whatever length was lent
pub record Holds (books : Books) (n : ℕ) (residues plans : List ℕ) (content : List Residue) : Type 0 where
  pub count : length content ≡ n
  pub valid : Each (ValidResidue books) content
  pub head_rows : residues ≡ pad (length residues) (rows head_row content)
  pub plan_rows : plans ≡ pad (length plans) (rows plan_table content)

-- with room for 64 residues
pub record ResiduesRecognised (books : Books) (n : ℕ) (residues plans : List ℕ) : Type 0 where
  pub room : residues_need ≤ length residues
  pub room_plans : plans_need ≤ length plans
  pub content : List Residue
  pub holds : Holds books n residues plans content

-- the content is decided by the tables: no two contents share their rows
pub record OneContent (books : Books) (n : ℕ) (residues plans : List ℕ) : Type 0 where
  pub decoded : (s : ResiduesRecognised books n residues plans) → s.content ≡ decode_residues n residues plans

-- the fields before the plan are those of some residue that meets every rule
pub record ValidHead (books : Books) (h : Head) : Type 0 where
  pub plan : List (List ℕ)
  pub valid : ValidResidue books (with_plan h plan)

-- a row and a plan that begin two lists are those of a residue that meets every rule: of the one that they decode to, whose plan is written out there
pub record ValidRows (books : Books) (h p : List ℕ) : Type 0 where
  pub valid : ValidResidue books (decode_residue h p)
  pub written : take plan_width p ≡ plan_table (decode_residue h p)
