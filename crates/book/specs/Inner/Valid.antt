-- Which books meet every rule: what a packet can carry (specs/Carried.antt), the rules of a book (specs/Rules.antt), and 14's totals so far, of the books
-- before and this one.
use Rattle.std.specs.Prelude.{◌+◌, ◌≤◌, List, [], ◌∷◌, length}
use Rattle.limits.specs.declared.Limits.{Limits}
use Rattle.book.specs.Content.{Book}
use Rattle.book.specs.HeadReading.{Before}
use Rattle.book.specs.Reading.{and_this}
use Rattle.book.specs.Carried.{CarriedBook}
use Rattle.book.specs.Rules.{Rule6, Rule7, Rule8, Book14}

pub record ValidBook (limits : Limits) (before : Before) (b : Book) : Type 0 where
  pub carried : CarriedBook b
  pub rule6 : Rule6 b
  pub rule7 : Rule7 b
  pub rule8 : Rule8 b
  pub rule14 : Book14 limits b
  pub entries_all : before.entries + length b.lengths ≤ limits.entries
  pub values_all : before.values + length b.multiplicands ≤ limits.multiplicands

unfoldable pub ValidBooks : Limits → Before → List Book → Type 0
ValidBooks limits before [] = Unit {0}
ValidBooks limits before (b ∷ bs) = ValidBook limits before b × ValidBooks limits (and_this before b) bs
