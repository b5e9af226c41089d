-- `bits::low_bits` meets its contract: a mask of ones keeps the remainder. Assumes nothing.
use native.Mathlib.Nat.{lt_of_lt_of_le, mod-lt}
use lib.Pow.{pow_pos, pow_mono}
use Rattle.bits.proofs.Bytes.{one_shl, masked}
use Rattle.bits.proofs.low_bits.Goals as goal

pub overflow_sub-result : goal.overflow_sub-result
overflow_sub-result c = rw (one_shl _ c.requires) (pow_pos _)

pub overflow_cast-result : goal.overflow_cast-result
overflow_cast-result c = record { fits = rw (masked _ _ c.requires) (lt_of_lt_of_le (mod-lt _ (pow_pos _)) (pow_mono {j = 32} c.requires)) }

pub returns : goal.returns
returns c = masked _ _ c.requires
