-- A residue's rows: 6 numbers in the table of residues, 64 classes by 8 passes in the table of plans. docs/TABLES.md draws them.
use Rattle.std.specs.Prelude.{ℕ, ◌*◌, List, [], ◌∷◌}
use Rattle.reading.specs.Pad.{pad}
use Rattle.reading.specs.Lists.{rows}
use Rattle.reading.specs.Inner.Table.{Table, put_row}
use Rattle.residue.specs.Content.{Residue}

-- the width of a row in the table of residues, and of one in the table of plans; the fixed need of each, for 64 residues
abbrev pub head_width : ℕ
head_width = 6

abbrev pub plan_width : ℕ
plan_width = 512

abbrev pub residues_need : ℕ
residues_need = 64 * head_width

abbrev pub plans_need : ℕ
plans_need = 64 * plan_width

unfoldable pub head_row : Residue → List ℕ
head_row r = r.type ∷ r.begin ∷ r.end ∷ r.size ∷ r.classifications ∷ r.classbook ∷ []

unfoldable pub plan_table : Residue → List ℕ
plan_table r = pad plan_width (rows (λ row. row) r.plan)

-- both tables while they are filled
pub record Tables : Type 0 where
  pub heads : Table
  pub plans : Table

unfoldable pub put_residue : Residue → Tables → Tables
put_residue r t = record { heads = put_row head_row r t.heads; plans = put_row plan_table r t.plans }
