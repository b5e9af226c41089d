-- `mapping_tables::recognise::are_mappings` meets its contract, by RecogniseLaws. Assumes nothing.
use mathlib.Core.Bool.{not}
use mathlib.Core.Path.{ap}
use Prim.Native.Nat.{◌*◌}
use Rattle.mapping_tables.proofs.RecogniseLaws.{recognise_laws, part_width, find_stop, find_next}
use borrow.Author.Rules.{rules}
use Rattle.mapping.specs.Layout.{mapping_width}
use Rattle.mapping_tables.proofs.recognise.are_mappings.Goals as goal

pub returns-then-mappings-count : goal.returns-then-mappings-count
returns-then-mappings-count c = search recognise_laws

pub loop-i-init : goal.loop-i-init
loop-i-init c = search recognise_laws

pub is_mapping-requires : goal.is_mapping-requires
is_mapping-requires c = search recognise_laws

pub returns-then-not-is_mapping : goal.returns-then-not-is_mapping
returns-then-not-is_mapping c = find_stop _ _ _ _ c.loop-i.invariant.2 c.loop-i-test.true c.is_mapping.ensures (part_width (mapping_width * c.loop-i.i) mapping_width) (ap not c.if-not-is_mapping.true)

pub loop-i-preserved : goal.loop-i-preserved
loop-i-preserved c = (search rules, search rules, find_next _ _ _ _ c.loop-i.invariant.2 c.loop-i-test.true c.is_mapping.ensures (part_width (mapping_width * c.loop-i.i) mapping_width) (ap not c.if-not-is_mapping.false))

pub returns : goal.returns
returns c = search recognise_laws
