-- `mapping_tables::recognise::is_multiplex` meets its contract, by RecogniseLaws. Assumes nothing.
use borrow.Author.Tests.{eq-eqb}
use Rattle.mapping_tables.proofs.RecogniseLaws.{multiplex_zero, multiplex_some}
use Rattle.mapping_tables.proofs.recognise.is_multiplex.Goals as goal

pub returns-then-number-ne0 : goal.returns-then-number-ne0
returns-then-number-ne0 c = multiplex_some _ _ c.if-number-ne0.true

pub returns-else-number-ne0 : goal.returns-else-number-ne0
returns-else-number-ne0 c = rw (eq-eqb _ _ c.if-number-ne0.false) (multiplex_zero _ _ c.if-number-ne0.false)
