-- Pieces of specs/Reading.antt under names of their own, one for each function that reads one. Nothing is added to what is read.
use Rattle.std.specs.Prelude.{ℕ, List}
use Rattle.reading.specs.Outcome.{ok, then}
use Rattle.reading.specs.Reader.{Reader}
use Rattle.limits.specs.declared.Limits.{Limits}
use Rattle.book.specs.Content.{Book}
use Rattle.book.specs.declared.Head.{Head}
use Rattle.book.specs.Inner.LengthsParts.{entries}
use Rattle.book.specs.LookupReading.{Lookup, lookup}
use Rattle.book.specs.Reading.{books}

-- what follows a book's head; place is the book's first bit, most the limit on multiplicands in all, of which the books before have so many
abbrev pub book_of : Head → List ℕ → Lookup → Book
book_of h ls l =
    record {
      dimensions = h.dimensions;
      lengths = ls;
      lookup = l.lookup;
      minimum = l.minimum;
      delta = l.delta;
      width = l.width;
      sequence = l.sequence;
      multiplicands = l.multiplicands;
    }

unfoldable pub body : ℕ → Head → ℕ → ℕ → Reader Book
body place h most before s k =
    then (entries place h.entries s k) (λ ls.
    then (lookup place h.entries h.dimensions most before s ls.1) (λ l. ok (book_of h ls.0 l.0, l.1)))

-- the books of a setup packet, none before them
abbrev pub section : Limits → ℕ → Reader (List Book)
section limits count s k = books limits (record { entries = 0; values = 0 }) count s k
