-- `bits::Cursor::field` meets its contract: two tests of the end are the cut, and what is left is a window of whole bytes. Assumes nothing.
use mathlib.Core.Path.{refl, ◌∙◌}
use native.Mathlib.Omega.{arith}
use Rattle.bits.proofs.Answers.{cut_here, value_here}
use Rattle.bits.proofs.Bytes.{bits_of_bytes}
use Rattle.bits.proofs.Cursor.field.Goals as goal

pub returns-then-packet-byte : goal.returns-then-packet-byte
returns-then-packet-byte c = cut_here _ _ _ _ refl refl (omega arith)

pub returns-then-packet-byte-2 : goal.returns-then-packet-byte-2
returns-then-packet-byte-2 c = cut_here _ _ _ _ refl refl (omega arith)

pub returns : goal.returns
returns c = value_here _ _ _ _ _ (omega arith) (c.low_bits.ensures ∙ bits_of_bytes _ _ _ _ _ _ _ (omega arith) (omega arith) c.whole_bytes-bytes.ensures) (omega arith)
