-- `bits::ilog::ilog` meets its contract, by the law of leading zeros. Assumes nothing.
use lib.Count.{leading_le}
use Rattle.bits.proofs.Ilogs.{ilog_zeros}
use Rattle.bits.proofs.ilog.ilog.Goals as goal

pub overflow_sub-result : goal.overflow_sub-result
overflow_sub-result c = leading_le 32 _

pub returns : goal.returns
returns c = ilog_zeros _ c.ranges.v.fits
