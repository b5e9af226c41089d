-- Which classes and floors a packet can carry, whatever the rules say of them: numbers that fit their fields, and as many as the numbers before say (004).
use Rattle.std.specs.Prelude.{ℕ, ◌^◌, ◌≤◌, Bool, true, map, ◌≡◌, ltb, leb, length}
use Rattle.reading.specs.Lists.{all}
use Rattle.reading.specs.Encoding.{Each}
use Rattle.reading.specs.Counted.{Counted}
use Rattle.floor.specs.Content.{Floor, class_count, value_count, Class}

-- a floor's class (004): a master book exactly where there are subclass bits; a place for a book, its number plus one, has 8 bits
pub record CarriedClass (c : Class) : Type 0 where
  pub dimensions : Counted 8 c.dimensions
  pub subclasses : c.subclasses ≤ 3
  pub no_master : c.subclasses ≡ 0 → c.master ≡ 0
  pub some_master : (c.subclasses ≡ 0 → ⊥) → 1 ≤ c.master
  pub count : length c.books ≡ 2 ^ c.subclasses
  pub books : all (λ b. leb b 255) c.books ≡ true

-- how many partitions a floor can have, and the numbers of classes (004, steps 2 to 4): fields of 5 and of 4 bits
abbrev pub most_partitions : ℕ
most_partitions = 31

abbrev pub is_class_number : ℕ → Bool
is_class_number c = ltb c 16

-- a floor (004): classes up to the greatest that a partition names, and an X value for each dimension of each partition's class
pub record CarriedFloor (f : Floor) : Type 0 where
  pub partitions : length f.partitions ≤ most_partitions
  pub classes_named : all is_class_number f.partitions ≡ true
  pub class_count_is : length f.classes ≡ class_count f.partitions
  pub classes : Each CarriedClass f.classes
  pub multiplier : Counted 4 f.multiplier
  pub rangebits : f.rangebits ≤ 15
  pub value_count_is : length f.xs ≡ value_count (map (λ c. c.dimensions) f.classes) f.partitions
  pub in_range : all (λ x. ltb x (2 ^ f.rangebits)) f.xs ≡ true
