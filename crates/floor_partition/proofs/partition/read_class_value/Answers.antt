-- `floor_partition::partition::read_class_value` meets its contract: a law for each way out (proofs/ClassLaws). Assumes nothing.
use Rattle.floor_partition.proofs.ClassLaws.{class_none, master_low, master_stored, class_read}
use borrow.Author.Rules.{rules}
use Rattle.floor_partition.proofs.partition.read_class_value.Goals as goal

pub class_subclasses-requires : goal.class_subclasses-requires
class_subclasses-requires c = c.requires.class_few

pub returns-then-class_subclasses-eq0 : goal.returns-then-class_subclasses-eq0
returns-then-class_subclasses-eq0 c = search (rules, class_none)

pub class_master-master-requires : goal.class_master-master-requires
class_master-master-requires c = c.requires.class_few

pub overflow_sub-master : goal.overflow_sub-master
overflow_sub-master c = search (rules, master_low)

pub read_entry-requires : goal.read_entry-requires
read_entry-requires c = search (rules, master_stored)

pub returns : goal.returns
returns c = class_read c.requires c.class_subclasses.ensures c.if-class_subclasses-eq0.false c.class_master-master.ensures _ _ _ c.read_entry.ensures.result_value
