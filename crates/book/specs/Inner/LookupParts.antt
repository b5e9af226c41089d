-- Pieces of specs/LookupReading.antt under names of their own, one for each function that reads one. Nothing is added to what is read.
use Rattle.std.specs.Prelude.{ℕ, ◌+◌, List, [], ◌∷◌, length}
use Rattle.std.proofs.lemmas.List.Edits.{sets}
use Rattle.reading.specs.Outcome.{ok, then}
use Rattle.reading.specs.Reader.{Reader}
use Rattle.bits.specs.Field.{field}
use Rattle.book.specs.LookupReading.{Lookup}
use Rattle.book.specs.declared.Parameters.{Parameters}

-- the four numbers of a lookup that has multiplicands
unfoldable pub parameters : Reader Parameters
parameters s k =
    then (field 32 s k) (λ minimum.
    then (field 32 s minimum.1) (λ delta.
    then (field 4 s delta.1) (λ width.
    then (field 1 s width.1) (λ sequence.
    ok (record { minimum = minimum.0; delta = delta.0; width = width.0 + 1; sequence = sequence.0 }, sequence.1)))))

-- a lookup's six numbers of a book's row
abbrev pub lookup_numbers : Lookup → List ℕ
lookup_numbers l = l.lookup ∷ l.minimum ∷ l.delta ∷ l.width ∷ l.sequence ∷ length l.multiplicands ∷ []

-- a lookup laid out: those numbers, and the table with its multiplicands from a place on
abbrev pub stored : List ℕ → ℕ → Lookup → List ℕ × List ℕ
stored table first l = (lookup_numbers l, sets table first l.multiplicands)
