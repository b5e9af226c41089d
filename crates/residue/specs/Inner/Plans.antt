-- What the program holds and judges in pieces: a plan as the array that holds it, the part of rule 13 that the fields before the plan decide, and both tables at the
-- place of a residue.
use Rattle.std.specs.Prelude.{ℕ, ◌*◌, Bool, ◌&&◌, List, ◌≡◌, length}
use Rattle.reading.specs.Inner.Table.{table}
use Rattle.rules.specs.Rules as Rule
use Rattle.residue.specs.Reading.{Books, Head}
use Rattle.residue.specs.Layout.{head_width, plan_width, Tables}
use Rattle.residue.specs.Carried.{Rows8}

-- 64 classes by 8 passes
pub record Grid (plan : List (List ℕ)) : Type 0 where
  pub classes : length plan ≡ 64
  pub passes : Rows8 plan

-- rule 13 for the fields before the plan
abbrev pub head_fits : Books → Head → Bool
head_fits books h =
    Rule.meets13 (Rule.begin_end h.begin h.end) && Rule.meets13 (Rule.class_words (books.entries h.classbook) (books.dimensions h.classbook) h.classifications)

-- both tables, with residue i the next to be written
abbrev pub tables_at : List ℕ → List ℕ → ℕ → Tables
tables_at residues plans i = record { heads = table residues (head_width * i); plans = table plans (plan_width * i) }
