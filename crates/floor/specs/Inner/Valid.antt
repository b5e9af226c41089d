-- Which classes and which floors meet every rule, where `books` codebooks are set up: those that a packet can carry and that meet the rules by number, 11 of each class
-- and 12. Refusals 10 and 14 judge a floor's type, which a content has not.
use Rattle.std.specs.Prelude.{ℕ}
use Rattle.reading.specs.Encoding.{Each}
use Rattle.floor.specs.Rules.{Class11, Rule12}
use Rattle.floor.specs.Content.{Floor, Class}
use Rattle.floor.specs.Carried.{CarriedFloor, CarriedClass}

pub record ValidClass (books : ℕ) (c : Class) : Type 0 where
  pub carried : CarriedClass c
  pub rules : Class11 books c

pub record ValidFloor (books : ℕ) (f : Floor) : Type 0 where
  pub carried : CarriedFloor f
  pub classes : Each (Class11 books) f.classes
  pub rules : Rule12 f
