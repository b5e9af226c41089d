-- Laws of the first two values: how many bits each has, and reading them, as the code asks it. Assumes nothing.
use Rattle.bits.specs.declared.refusal.Refusal.{Refusal}
use Rattle.std.specs.Prelude.{Result}
use Prim.Native.Nat.{ℕ, zero, suc, ◌+◌, ◌-◌, ◌*◌, ◌≤◌, ◌<◌}
use native.Mathlib.Omega.{arith}
use mathlib.Core.List.{List}
use mathlib.Core.Path.{◌≡◌, ap, ◌∙◌}
use lib.ListN.{get_or}
use Rattle.reading.specs.Counted.{Counted}
use Rattle.reading.specs.Reader.{many, into}
use Rattle.reading.specs.Inner.Table.{Table, table, put_row}
use Rattle.bits.specs.declared.Cursor.{Cursor}
use Rattle.bits.specs.Inner.Cursors.{position, Wrote}
use Rattle.bits.specs.Field.{field}
use Rattle.bits.specs.Ilog.{highest_set, ilog}
use Rattle.numbers.specs.Inner.Cell.{cell}
use Rattle.floor.specs.Inner.Decode.{floor_at}
use Rattle.floor_points.specs.FinalY.{range_of}
use Rattle.floor_values.specs.Values.{first_bits}
use Rattle.floor_values.specs.Inner.Stored.{floor_in}
use Rattle.floor.specs.Layout.{floor_width}

-- the four multipliers: 8, 7, 7 and 6 bits
pub record Bits (m : ℕ) : Type 0 where
  pub some : 64 ≤ range_of m
  pub few : first_bits m ≤ 8

pub bits_known : (m : ℕ) → 1 ≤ m → m ≤ 4 → Bits m
unfolding range_of first_bits ilog highest_set
bits_known zero h k = absurd (omega arith)
bits_known (suc zero) h k = record { some = omega arith; few = omega arith }
bits_known (suc (suc zero)) h k = record { some = omega arith; few = omega arith }
bits_known (suc (suc (suc zero))) h k = record { some = omega arith; few = omega arith }
bits_known (suc (suc (suc (suc zero)))) h k = record { some = omega arith; few = omega arith }
bits_known (suc (suc (suc (suc (suc m))))) h k = absurd (omega arith)

module _ (floors : List ℕ) (n : ℕ) (l : Counted 4 (floor_in floors n).multiplier) {m : ℕ} (e : m ≡ get_or floors (floor_width * n + 2) 0) where
  multiplier_is : m ≡ (floor_in floors n).multiplier
  unfolding floor_in floor_at
  multiplier_is = e

  pub multiplier_byte : m < 256
  multiplier_byte = let h = l.high in let f = multiplier_is in omega arith

  known : Bits (floor_in floors n).multiplier
  known = bits_known (floor_in floors n).multiplier l.low l.high

  module _ {range : ℕ} (e₃ : range ≡ range_of m) where
    range_is : range ≡ range_of (floor_in floors n).multiplier
    range_is = e₃ ∙ ap range_of multiplier_is

    pub range_some : 64 ≤ range
    range_some = rw range_is known.some

    module _ {width : ℕ} (e₄ : width ≡ ilog (range - 1)) where
      width_is : width ≡ first_bits (floor_in floors n).multiplier
      unfolding first_bits
      width_is = e₄ ∙ ap (λ (x : ℕ). ilog (x - 1)) range_is

      pub width_few : width ≤ 16
      width_few = let h = known.few in let f = width_is in omega arith

      pub two_read : (s : List ℕ) (k : Cursor) (list : List ℕ) {st : Result Cursor Refusal} {u : Table} → Wrote (into (put_row cell) (many (field width) 2 s (position k)) (table list 0)) st u
          → Wrote (into (put_row cell) (many (field (first_bits (floor_in floors n).multiplier)) 2 s (position k)) (table list 0)) st u
      two_read s k list w = rw width_is at w
