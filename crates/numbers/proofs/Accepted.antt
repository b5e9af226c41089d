-- What is known of a field that was read, as a test. Assumes nothing.
use Prim.Native.Nat.{ℕ, ◌^◌}
use borrow.Author.Tests.{lt-ltb}
use mathlib.Core.Bool.{true}
use mathlib.Core.List.{List}
use mathlib.Core.Path.{◌≡◌}
use lib.Dec.{ltb}
use Rattle.reading.specs.Outcome.{ok}
use Rattle.bits.specs.Field.{field}
use Rattle.bits.proofs.Fields.{field-ok}

pub field_below : (w : ℕ) (s : List ℕ) (k : ℕ) (x : ℕ × ℕ) → field w s k ≡ ok x → ltb x.0 (2 ^ w) ≡ true
field_below w s k x e = lt-ltb _ _ (field-ok s k w e).below
