-- What the program's answers stand for.
use Rattle.std.specs.Prelude.{ℕ, List, [], ◌∷◌}
use Rattle.book_lookup.specs.declared.lookup.Lookup.{Lookup}

-- a lookup's six numbers of a book's row
abbrev pub numbers_of : Lookup → List ℕ
numbers_of r = r.lookup ∷ r.minimum ∷ r.delta ∷ r.width ∷ r.sequence ∷ r.count ∷ []
