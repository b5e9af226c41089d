-- WHICH CONTENTS MEET THE RULES, number by number, for an identity's channels (01, "When the packet is sent back"). Each claim is by the predicate by
-- which a packet is judged, crates/rules/specs/Rules.antt. A content has no form, so what judges form alone stands in reading: 6 of a pattern, a run and
-- an ordered length; 9; 10 and 14 of a floor's type. Channels (14) are the identity's.
use Rattle.std.specs.Prelude.{ℕ, true, List, map, ◌≡◌, length}
use Rattle.reading.specs.Lists.{sum}
use Rattle.reading.specs.Encoding.{Each}
use Rattle.limits.specs.declared.Limits.{Limits}
use Rattle.rules.specs.Rules as Rule
use Rattle.book.specs.Content.{Book}
use Rattle.book.specs.Rules.{Rule6, Rule7, Rule8, Book14}
use Rattle.floor.specs.Rules.{Class11, Rule12}
use Rattle.residue.specs.Rules.{Rule10, Residue11, Rule13}
use Rattle.mapping.specs.Rules.{Mapping11}
use Rattle.mode.specs.Rules.{Mode11}
use Rattle.setup.specs.Content.{Setup, books_known}

-- 6, 7 and 8, of a book, and 14 of a book alone: crates/book/specs/Rules.antt

-- 11, of a floor's class, a residue, a mapping and a mode, where so many of each are set up
pub record Rule11 (channels : ℕ) (c : Setup) : Type 0 where
  pub floors : Each (λ f. Each (Class11 (length c.books)) f.classes) c.floors
  pub residues : Each (Residue11 (length c.books)) c.residues
  pub mappings : Each (Mapping11 channels (length c.floors) (length c.residues)) c.mappings
  pub modes : Each (Mode11 (length c.mappings)) c.modes

-- 14, of each book and of the books together
unfoldable pub entries_in_all : List Book → ℕ
entries_in_all bs = sum (map (λ b. length b.lengths) bs)

unfoldable pub multiplicands_in_all : List Book → ℕ
multiplicands_in_all bs = sum (map (λ b. length b.multiplicands) bs)

pub record Rule14 (limits : Limits) (bs : List Book) : Type 0 where
  pub book : Each (Book14 limits) bs
  pub entries : Rule.meets14 (Rule.all_entries limits.entries 0 (entries_in_all bs)) ≡ true
  pub multiplicands : Rule.meets14 (Rule.multiplicands limits.multiplicands 0 (multiplicands_in_all bs)) ≡ true

pub record MeetsRules (limits : Limits) (channels : ℕ) (c : Setup) : Type 0 where
  pub rule6 : Each Rule6 c.books
  pub rule7 : Each Rule7 c.books
  pub rule8 : Each Rule8 c.books
  pub rule10 : Each Rule10 c.residues
  pub rule11 : Rule11 channels c
  pub rule12 : Each Rule12 c.floors
  pub rule13 : Each (Rule13 (books_known c.books)) c.residues
  pub rule14 : Rule14 limits c.books
