-- `floor_partition::partition::read_value` meets its contract: a law for each way out (proofs/ClassLaws). Assumes nothing.
use Rattle.bits.proofs.Answers.{wrote_back}
use Rattle.floor_partition.proofs.ClassLaws.{value_none, value_stored, value_cut, value_fits, value_read}
use borrow.Author.Rules.{rules}
use Rattle.floor_partition.proofs.partition.read_value.Goals as goal

pub returns-then-place-eq0 : goal.returns-then-place-eq0
returns-then-place-eq0 c = search (rules, value_none)

pub read_entry-requires : goal.read_entry-requires
read_entry-requires c = search (rules, value_stored)

pub returns-in_err-entry : goal.returns-in_err-entry
returns-in_err-entry c =
    wrote_back c.from_residual.result _ c.from_residual.ensures.1
    (value_cut c.requires _ _ c.if-place-eq0.false _ c.read_entry.ensures.result_value c.in_err-entry.was _ _ _)

pub overflow_cast-entry : goal.overflow_cast-entry
overflow_cast-entry c = search (rules, value_fits c.requires _ _ c.if-place-eq0.false _ c.read_entry.ensures.result_value c.in_ok-entry.was)

pub returns : goal.returns
returns c = value_read c.requires _ _ c.if-place-eq0.false _ c.read_entry.ensures.result_value c.in_ok-entry.was _ _ _ c.put-2.ensures
