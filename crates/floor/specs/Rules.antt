-- Which floors meet the rules (01, "When the packet is sent back"). Each claim is by the predicate by which a packet is judged, crates/rules/specs/Rules.antt.
use Rattle.std.specs.Prelude.{ℕ, true, ◌≡◌, length}
use Rattle.reading.specs.Lists.{all}
use Rattle.rules.specs.Rules as Rule
use Rattle.floor.specs.Content.{x_list, Floor, Class}

-- 11, of a class of a floor, where so many books are set up
pub record Class11 (books : ℕ) (c : Class) : Type 0 where
  pub master : Rule.meets11 (Rule.book_or_none books c.master) ≡ true
  pub subclasses : all (λ v. Rule.meets11 (Rule.book_or_none books v)) c.books ≡ true

-- 12, of a floor
pub record Rule12 (f : Floor) : Type 0 where
  pub count : Rule.meets12 (Rule.explicit (length f.xs)) ≡ true
  pub different : Rule.meets12 (Rule.values (x_list f.rangebits f.xs)) ≡ true
