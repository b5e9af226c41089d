-- Which residues meet the rules, number by number (01, "When the packet is sent back"). Each claim is by the predicate by which a packet is judged,
-- crates/rules/specs/Rules.antt.
use Rattle.std.specs.Prelude.{ℕ, true, ◌≡◌}
use Rattle.reading.specs.Lists.{all, rows}
use Rattle.rules.specs.Rules as Rule
use Rattle.residue.specs.Content.{Residue}
use Rattle.residue.specs.Reading.{Books, residue_fits}

-- 10
abbrev pub Rule10 : Residue → Type 0
Rule10 r = Rule.meets10 (Rule.residue_type r.type) ≡ true

-- 11, where so many books are set up
pub record Residue11 (books : ℕ) (r : Residue) : Type 0 where
  pub classbook : Rule.meets11 (Rule.book books r.classbook) ≡ true
  pub plan : all (λ v. Rule.meets11 (Rule.book_or_none books v)) (rows (λ row. row) r.plan) ≡ true

-- 13: `residue_fits` has its four parts
abbrev pub Rule13 : Books → Residue → Type 0
Rule13 books r = residue_fits books r ≡ true
