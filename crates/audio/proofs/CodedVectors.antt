-- PACKETS WITH CODEWORDS THAT TAKE BITS (specs/CodedVectors.antt): the codewords are the model's answers, and the rest is computed. Assumes nothing.
use Prim.Native.Nat.{ℕ, ◌<◌}
use native.Mathlib.Omega.{arith}
use mathlib.Core.List.{List, map}
use mathlib.Core.Path.{◌≡◌, sym, ap, ◌∙◌}
use lib.ListN.{get_or}
use Rattle.codeword_assignment.specs.Book.{or_zero, codeword_of}
use Rattle.codespace.specs.Ledger.{is_length}
use Rattle.codespace.specs.Inner.Blocks.{smallest, block_above, block_for, enter_answer, enter_blocks, run_answers, empty_blocks}
use Rattle.codespace.proofs.Whole.{answers_are}
use Rattle.codeword_assignment.proofs.Laws.{codewords_at}
use Rattle.codeword_assignment.proofs.Computed.{codewords_are}
use Rattle.audio.specs.Computation.{computation}
use Rattle.audio.specs.ExampleSetup.{lengths_coded}
use Rattle.audio.specs.CodedVectors.{CodedVectors}

-- an entry's codeword, by the model
by_model : (e : ℕ) → e < 4 → codeword_of lengths_coded e ≡ get_or (map or_zero (run_answers empty_blocks lengths_coded)) e 0
by_model e h =
    sym (codewords_at lengths_coded e h) ∙ ap (λ (l : List ℕ). get_or l e 0) (codewords_are lengths_coded)
    ∙ ap (λ l. get_or (map or_zero l) e 0) (sym (answers_are lengths_coded))

-- 000, 1, 001 and 01
record Codewords : Type 0 where
  first : codeword_of lengths_coded 0 ≡ 0b000
  second : codeword_of lengths_coded 1 ≡ 0b1
  third : codeword_of lengths_coded 2 ≡ 0b001
  fourth : codeword_of lengths_coded 3 ≡ 0b01

codewords : Codewords
unfolding run_answers enter_answer enter_blocks block_for is_length block_above smallest empty_blocks
codewords = record { first = by_model 0 (omega arith); second = by_model 1 (omega arith); third = by_model 2 (omega arith); fourth = by_model 3 (omega arith) }

-- a bit at a time: after one bit the codeword of one bit is compared, after two that of two, after three both of three
pub coded_vectors : CodedVectors
unfolding computation
coded_vectors =
    let w = codewords in
    record {
      vectors = rw (w.second, w.fourth, w.second, w.fourth, w.first, w.third);
      class_words_is = rw (w.second, w.second, w.fourth);
    }
