-- `audio_settle::size::curve_bytes` meets its contract, by SettleLaws. Assumes nothing.
use Rattle.audio_settle.proofs.SettleLaws.{bytes_fit}
use borrow.Author.Rules.{rules}
use Rattle.audio_settle.proofs.size.curve_bytes.Goals as goal

pub overflow_mul-result : goal.overflow_mul-result
overflow_mul-result c = search (rules, bytes_fit)
