-- WHICH BOOKS A PACKET CAN CARRY, whatever the rules say of them: numbers that fit their fields, and as many as the numbers before say (002).
use Rattle.std.specs.Prelude.{◌^◌, ◌≤◌, ◌<◌, true, [], ◌≡◌, ltb, leb, length}
use Rattle.reading.specs.Lists.{all}
use Rattle.book.specs.Content.{Book}
use Rattle.book.specs.LookupReading.{value_count}

-- what stands where there is no lookup
pub record NoLookup (b : Book) : Type 0 where
  pub minimum : b.minimum ≡ 0
  pub delta : b.delta ≡ 0
  pub width : b.width ≡ 0
  pub sequence : b.sequence ≡ 0
  pub multiplicands : b.multiplicands ≡ []

pub record SomeLookup (b : Book) : Type 0 where
  pub minimum : b.minimum < 2 ^ 32
  pub delta : b.delta < 2 ^ 32
  pub width_low : 1 ≤ b.width
  pub width_high : b.width ≤ 16
  pub sequence : b.sequence ≤ 1
  pub count : length b.multiplicands ≡ value_count b.lookup (length b.lengths) b.dimensions
  pub fit : all (λ v. ltb v (2 ^ b.width)) b.multiplicands ≡ true

-- a book (002): a lookup's numbers where its type is not 0, and else none
pub record CarriedBook (b : Book) : Type 0 where
  pub dimensions : b.dimensions < 2 ^ 16
  pub entries : length b.lengths < 2 ^ 24
  pub lengths : all (λ l. leb l 32) b.lengths ≡ true
  pub no_lookup_is : b.lookup ≡ 0 → NoLookup b
  pub some_lookup_is : (b.lookup ≡ 0 → ⊥) → SomeLookup b
