-- THE RULES OF A BOOK AS BOUNDS: 6 is three comparisons, 7 and 8 together are the ledger's verdict, 14 is a comparison. Assumes nothing.
use Prim.Native.Nat.{ℕ, ◌≤◌}
use native.Mathlib.Omega.{arith}
use borrow.Author.Tests.{leb-true, le-leb, ne_eqb}
use mathlib.Core.Bool.{true, not}
use mathlib.Core.Path.{◌≡◌}
use lib.Dec.{eqb}
use lib.ListN.{length}
use Rattle.reading.proofs.Basics.{tested_above_zero}
use Rattle.limits.specs.declared.Limits.{Limits}
use Rattle.codeword_assignment.specs.Book.{Accepted, verdict}
use Rattle.book.specs.Content.{Book}
use Rattle.book.proofs.Verdict.{accepted_meets, meets_accepted}
use Rattle.book.specs.Rules.{Rule6, Rule7, Rule8, Book14}

positive : (v : ℕ) → 1 ≤ v → not (eqb v 0) ≡ true
positive v h = rw (ne_eqb v 0 (λ z. omega arith))

module _ (b : Book) where
  pub rule6_met : 1 ≤ b.dimensions → 1 ≤ length b.lengths → b.lookup ≤ 2 → Rule6 b
  rule6_met d e l = record { dimensions = positive _ d; entries = positive _ e; lookup = le-leb _ _ l }

  pub some_dimensions : Rule6 b → 1 ≤ b.dimensions
  some_dimensions r = tested_above_zero _ r.dimensions

  pub some_entries : Rule6 b → 1 ≤ length b.lengths
  some_entries r = tested_above_zero _ r.entries

  pub known_lookup : Rule6 b → b.lookup ≤ 2
  known_lookup r = leb-true _ _ r.lookup

  pub rule7_met : verdict b.lengths ≡ Accepted → Rule7 b
  rule7_met a = (accepted_meets b.lengths a).0

  pub rule8_met : verdict b.lengths ≡ Accepted → Rule8 b
  rule8_met a = (accepted_meets b.lengths a).1

  pub lengths_accepted : Rule7 b → Rule8 b → verdict b.lengths ≡ Accepted
  lengths_accepted r s = meets_accepted b.lengths r s

  module _ (limits : Limits) where
    pub rule14_met : length b.lengths ≤ limits.book_entries → Book14 limits b
    rule14_met h = le-leb _ _ h

    pub few_entries : Book14 limits b → length b.lengths ≤ limits.book_entries
    few_entries r = leb-true _ _ r
