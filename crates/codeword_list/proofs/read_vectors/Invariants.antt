-- `read_vectors` meets its contract: the rest of the run is read into the list as it is (proofs/Words). Assumes nothing.
use mathlib.Core.Path.{◌≡◌}
use lib.ListN.{length}
use Rattle.codeword_assignment.specs.Book.{lone_mark}
use Rattle.codeword_list.proofs.Words.{VectorsLeft}
use Rattle.codeword_list.proofs.read_vectors.Given as goal

abbrev pub invariant-loop-left : goal.invariant-loop-left
invariant-loop-left l =
    (l.lone ≡ lone_mark l.lengths) × (length l.out ≡ length l.initial.out) × VectorsLeft l.lengths l.codewords l.packet l.size l.dimensions l.initial.out l.fn.from l.out l.done l.left

abbrev pub decreases-loop-left : goal.decreases-loop-left
decreases-loop-left l = l.left
