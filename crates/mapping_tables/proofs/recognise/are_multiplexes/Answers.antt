-- `mapping_tables::recognise::are_multiplexes` meets its contract, by RecogniseLaws. Assumes nothing.
use native.Mathlib.Omega.{arith}
use lib.Seq.{length-take-le}
use Rattle.mapping_tables.proofs.RecogniseLaws.{numbers_short, numbers_start, numbers_stop, numbers_next, numbers_end}
use Rattle.mapping_tables.proofs.recognise.are_multiplexes.Goals as goal

pub returns-then-part-count : goal.returns-then-part-count
returns-then-part-count c = numbers_short _ _ _ c.if-part-count.true

pub loop-number-init : goal.loop-number-init
loop-number-init c = numbers_start _ _ _ (omega arith)

pub returns-then-not-is_multiplex : goal.returns-then-not-is_multiplex
returns-then-not-is_multiplex c = numbers_stop _ _ _ _ c.loop-number.invariant (omega (arith, length-take-le c.args.count c.args.part.now c.if-part-count.false)) c.is_multiplex.ensures c.if-not-is_multiplex.true

pub loop-number-preserved : goal.loop-number-preserved
loop-number-preserved c = numbers_next _ _ _ _ c.loop-number.invariant (omega (arith, length-take-le c.args.count c.args.part.now c.if-part-count.false)) c.is_multiplex.ensures c.if-not-is_multiplex.false

pub returns : goal.returns
returns c = numbers_end _ _ _ _ c.loop-number.invariant (omega (arith, length-take-le c.args.count c.args.part.now c.if-part-count.false)) c.zeros.ensures
