-- `mode_reading::read_mode` meets its contract, by ReadLaws. Assumes nothing.
use Rattle.bits.proofs.Answers.{wrote_back, byte_below}
use borrow.Author.Rules.{rules}
use Rattle.mode_reading.proofs.ReadLaws.{flag_fits, flag_cut, types_refused, mapping_cut, mapping_unknown, mode_whole}
use Rattle.mode_reading.proofs.read_mode.Goals as goal

pub returns-in_err-blockflag : goal.returns-in_err-blockflag
returns-in_err-blockflag c = wrote_back _ _ c.from_residual.ensures.1 (flag_cut _ _ _ c.bit.ensures _ _ c.in_err-blockflag.was)

pub returns-in_err-at_mapping : goal.returns-in_err-at_mapping
returns-in_err-at_mapping c = wrote_back _ _ c.from_residual-in_err-at_mapping.ensures.1 (types_refused _ _ _ c.bit.ensures c.in_ok-blockflag.was c.read_types.ensures _ _ c.in_err-at_mapping.was)

pub returns-in_err-mapping : goal.returns-in_err-mapping
returns-in_err-mapping c = wrote_back _ _ c.from_residual-in_err-mapping.ensures.1 (mapping_cut _ _ _ c.bit.ensures c.in_ok-blockflag.was c.read_types.ensures c.in_ok-at_mapping.was c.field.ensures _ _ c.in_err-mapping.was)

pub returns-then-mapping-mapping_count : goal.returns-then-mapping-mapping_count
returns-then-mapping-mapping_count c = mapping_unknown _ _ _ c.bit.ensures c.in_ok-blockflag.was c.read_types.ensures c.in_ok-at_mapping.was c.field.ensures c.in_ok-mapping.was _ _ c.if-mapping-mapping_count.true

pub overflow_cast-row : goal.overflow_cast-row
overflow_cast-row c = let b = flag_fits _ _ c.bit.ensures c.in_ok-blockflag.was in search rules

pub overflow_cast-row-2 : goal.overflow_cast-row-2
overflow_cast-row-2 c = let b = byte_below _ _ c.field.ensures c.in_ok-mapping.was in search rules

pub returns : goal.returns
returns c = mode_whole _ _ _ c.bit.ensures c.in_ok-blockflag.was c.read_types.ensures c.in_ok-at_mapping.was c.field.ensures c.in_ok-mapping.was _ _ c.if-mapping-mapping_count.false c.write.ensures
