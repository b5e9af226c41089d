-- `first::chunk` meets its contract (proofs/FirstLaws). Assumes nothing.
use borrow.Author.Rules.{rules}
use Rattle.residue_decode.proofs.FirstLaws.{chunk_all, chunk_part}
use Rattle.residue_decode.proofs.first.chunk.Goals as goal

pub returns-then-left-digits : goal.returns-then-left-digits
returns-then-left-digits c = search (rules, chunk_all)

pub returns : goal.returns
returns c = search (rules, chunk_part)
