-- WHICH BOOKS MEET THE RULES, number by number (01, "When the packet is sent back"), each by the predicate by which a packet is judged,
-- crates/rules/specs/Rules.antt. What 14 says of all books together is a setup's, crates/setup/specs/Rules.antt.
use Rattle.std.specs.Prelude.{true, ◌≡◌, length}
use Rattle.limits.specs.declared.Limits.{Limits}
use Rattle.codeword_assignment.specs.Book.{used, first_refused, free_after, is_lone}
use Rattle.rules.specs.Rules as Rule
use Rattle.book.specs.Content.{Book}

-- 6, of a book
pub record Rule6 (b : Book) : Type 0 where
  pub dimensions : Rule.meets6 (Rule.dimensions b.dimensions) ≡ true
  pub entries : Rule.meets6 (Rule.entries (length b.lengths)) ≡ true
  pub lookup : Rule.meets6 (Rule.lookup_type b.lookup) ≡ true

-- 7 and 8, of a book, by the ledger
abbrev pub Rule7 : Book → Type 0
Rule7 b = Rule.meets7 (first_refused b.lengths) ≡ true

abbrev pub Rule8 : Book → Type 0
Rule8 b = Rule.meets8 (free_after b.lengths) (is_lone (used b.lengths)) ≡ true

-- 14, of a book alone
abbrev pub Book14 : Limits → Book → Type 0
Book14 limits b = Rule.meets14 (Rule.book_entries limits.book_entries (length b.lengths)) ≡ true
