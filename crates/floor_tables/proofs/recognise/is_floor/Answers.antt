-- `floor_tables::recognise::is_floor` meets its contract. Assumes nothing.
use mathlib.Core.Bool.{not}
use mathlib.Core.Path.{ap}
use Rattle.floor_tables.proofs.FloorLaws.{floor_few, floor_partitions, floor_classes, floor_head, floor_end}
use borrow.Author.Rules.{rules}
use Rattle.reading.proofs.Encodes.{shown}
use Rattle.floor_tables.proofs.recognise.is_floor.Goals as goal

pub returns-then-not-are_partitions : goal.returns-then-not-are_partitions
returns-then-not-are_partitions c = search floor_partitions

pub returns-then-not-are_named : goal.returns-then-not-are_named
returns-then-not-are_named c = search floor_classes

pub is_head-requires : goal.is_head-requires
is_head-requires c = search (rules, floor_few)

pub returns-then-not-is_head : goal.returns-then-not-is_head
returns-then-not-is_head c = search floor_head

pub is_list-requires : goal.is_list-requires
is_list-requires c = (search rules, search rules, shown c.is_head.ensures (ap not c.if-not-is_head.false))

pub returns : goal.returns
returns c = search floor_end
