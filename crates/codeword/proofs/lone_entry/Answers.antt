-- `codeword::lone_entry` meets its contract, by Lone. Assumes nothing.
use Rattle.codeword.proofs.Lone.{lone_cut, lone_there, lone_laws}
use borrow.Author.Rules.{rules}
use Rattle.codeword.proofs.lone_entry.Goals as goal

pub returns-then-next-eq0 : goal.returns-then-next-eq0
returns-then-next-eq0 c = lone_cut _ _ _ c.requires _ c.if-next-eq0.true _ c.cut.ensures

pub after-requires : goal.after-requires
after-requires c = let t = lone_there _ _ _ c.requires c.if-next-eq0.false in search rules

pub returns : goal.returns
returns c = search lone_laws
