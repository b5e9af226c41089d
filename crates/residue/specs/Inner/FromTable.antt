-- The books that a residue is judged against, as the table of books has them.
use Rattle.std.specs.Prelude.{ℕ, List}
use Rattle.book.specs.Layout.{dimensions_at, entries_at, lookup_at}
use Rattle.residue.specs.Reading.{Books}

abbrev pub books_of : ℕ → List ℕ → Books
books_of count t = record { count = count; dimensions = dimensions_at t; entries = entries_at t; lookup = lookup_at t }
