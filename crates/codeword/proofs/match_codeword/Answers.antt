-- `codeword::match_codeword` meets its contract, by LoopLaws. Assumes nothing.
use native.Mathlib.Omega.{arith}
use mathlib.Core.Path.{refl}
use Rattle.codeword.proofs.LoopLaws.{taken_one, length_within, loop_laws}
use Rattle.codeword.proofs.match_codeword.Goals as goal

pub word-init : goal.word-init
word-init c = search loop_laws

pub overflow_mul-word : goal.overflow_mul-word
overflow_mul-word c = search loop_laws

pub bit-requires : goal.bit-requires
bit-requires c = search loop_laws

pub overflow_add-word : goal.overflow_add-word
overflow_add-word c = search loop_laws

pub entry-init : goal.entry-init
entry-init c =
    taken_one _ _ _ _ _ c.requires.1 _ _ _ c.word.invariant c.if-taken-next.false _ c.bit.ensures

pub bounds-codewords-entry : goal.bounds-codewords-entry
bounds-codewords-entry c = search loop_laws

pub overflow_shr-codewords : goal.overflow_shr-codewords
overflow_shr-codewords c =
    let book = c.requires.0 in
    let h = length_within _ _ book _ _ _ _ _ _ c.entry.invariant c.if-entry-lengths.false _ refl c.if-taken-length.true in
    omega arith

pub after-requires : goal.after-requires
after-requires c = search loop_laws

pub word-preserved : goal.word-preserved
word-preserved c = search loop_laws

pub entry-preserved-then-taken-length : goal.entry-preserved-then-taken-length
entry-preserved-then-taken-length c = search loop_laws

pub entry-preserved : goal.entry-preserved
entry-preserved c = search loop_laws

pub returns-then-taken-next : goal.returns-then-taken-next
returns-then-taken-next c = search loop_laws

pub returns-then-entry-lengths : goal.returns-then-entry-lengths
returns-then-entry-lengths c = search loop_laws

pub returns-then-taken-length-2 : goal.returns-then-taken-length-2
returns-then-taken-length-2 c = search loop_laws
