-- The cycle of `cycle::class_word` and `cycle::group` ends: the number of partitions left falls from one class word to the next.
use Prim.Native.Nat.{◌+◌}
use Rattle.residue_pass.proofs.cycle.+class_word_group.Given as goal

abbrev pub decreases-class_word : goal.decreases-class_word
decreases-class_word l = l.left + l.left + 1

abbrev pub decreases-group : goal.decreases-group
decreases-group l = l.left + l.left
