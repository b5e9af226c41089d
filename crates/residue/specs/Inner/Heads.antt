-- The fields before the plan as the program holds them, and their numbers as a row.
use Rattle.std.specs.Prelude.{ℕ, List, [], ◌∷◌}
use Rattle.residue.specs.Reading.{Head}
use Rattle.residue.specs.declared.head.Head as D

abbrev pub head_of : D.Head → Head
head_of h = record { type = h.kind; begin = h.begin; end = h.end; size = h.size; classifications = h.classifications; classbook = h.classbook }

-- the numbers of the residue's row in the table of residues
abbrev pub head_numbers : Head → List ℕ
head_numbers h = h.type ∷ h.begin ∷ h.end ∷ h.size ∷ h.classifications ∷ h.classbook ∷ []
