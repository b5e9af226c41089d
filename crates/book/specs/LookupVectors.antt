-- Worked examples of 01, "Bits and books": how many multiplicands a lookup of type 1 has.
use Rattle.std.specs.Prelude.{◌≡◌, refl}
use Rattle.book.specs.LookupReading.{greatest, lookup1_values}

pub record RootVectors : Type 0 where
  pub of_81 : lookup1_values 81 4 ≡ 3
  pub of_80 : lookup1_values 80 4 ≡ 2
  pub of_5 : lookup1_values 5 65535 ≡ 1

pub roots : RootVectors
unfolding lookup1_values greatest
roots = record { of_81 = refl; of_80 = refl; of_5 = refl }
