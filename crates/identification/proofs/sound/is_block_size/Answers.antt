-- `identification::sound::is_block_size` meets its contract: `contains` asks whether an item equals n, the definition whether n equals an item. Assumes nothing.
use Rattle.reading.specs.Lists.{listed}
use Rattle.std.proofs.Common.{rules}
use Rattle.std.proofs.lemmas.Bool.{eq-eqb, eqb-true}
use Rattle.identification.proofs.sound.is_block_size.Goals as goal

pub returns : goal.returns
unfolding listed
returns c = grind (rules, eq-eqb, eqb-true)
