-- A setup as content: what the setup packet says, without how it was coded (01, "What the reader takes and gives"; 003, 4.2.4).
use Rattle.std.specs.Prelude.{ℕ, List, [], map, length, get_or}
use Rattle.book.specs.Content.{Book}
use Rattle.floor.specs.Content.{Floor}
use Rattle.residue.specs.Content.{Residue}
use Rattle.residue.specs.Reading.{Books}
use Rattle.mapping.specs.Content.{Mapping}
use Rattle.mapping.specs.declared.Known.{Known}
use Rattle.mode.specs.Content.{Mode}

pub record Setup : Type 0 where
  pub books : List Book
  pub floors : List Floor
  pub residues : List Residue
  pub mappings : List Mapping
  pub modes : List Mode

-- the books as a residue is judged against them
unfoldable pub books_known : List Book → Books
books_known bs =
    record {
      count = length bs;
      dimensions = λ b. get_or (map (λ x. x.dimensions) bs) b 0;
      entries = λ b. get_or (map (λ x. length x.lengths) bs) b 0;
      lookup = λ b. get_or (map (λ x. x.lookup) bs) b 0;
    }

-- book b's entry lengths, 0 for an unused entry; none for a book that is not set up
unfoldable pub lengths_of : Setup → ℕ → List ℕ
lengths_of c b = get_or (map (λ x. x.lengths) c.books) b []

-- book b's dimensions; 0 for a book that is not set up
unfoldable pub dimensions_of : Setup → ℕ → ℕ
dimensions_of c b = get_or (map (λ x. x.dimensions) c.books) b 0

-- what a mapping is judged against
unfoldable pub known : ℕ → List Floor → List Residue → Known
known channels fs rs = record { channels = channels; floors = length fs; residues = length rs }
