-- The program's space, as a model: the free strings are at most one block of each size. A block of height h is 2 ^ h strings in a row, the
-- first a multiple of 2 ^ h: those that begin with one codeword of length 32 - h. The list has a place for each height from 0 up, which
-- holds the block's first string, or `vacant`. (Any number that is no string counts as vacant.)
use Rattle.std.specs.Prelude.{cond, List, [], ◌∷◌, ◌++◌, ◌≡◌, ℕ, zero, suc, ◌+◌, ◌-◌, ◌/◌, ◌^◌, ltb, replicate}
use Rattle.std.proofs.Math.Option.{Option, none, some}
use Rattle.codespace.specs.Ledger.{is_length}

-- no string: one past the last
abbrev pub vacant : ℕ
vacant = 4294967296

-- a block taken out of a space: its first string, and the blocks that are left
pub record Block : Type 0 where
  pub first : ℕ
  pub rest : List ℕ

-- the lower half of a block from the place above; its upper half is put here
abbrev pub halve : ℕ → Option Block → Option Block
halve h (some b) = some (record { first = b.first; rest = (b.first + 2 ^ h) ∷ b.rest })
halve h none = none

-- a block of height h, from places that start at that height: the one that is there, or half of one from above
unfoldable pub smallest : ℕ → List ℕ → Option Block
smallest h [] = none
smallest h (b ∷ bs) = cond (ltb b vacant) (some (record { first = b; rest = vacant ∷ bs })) (halve h (smallest (suc h) bs))

abbrev pub keep : ℕ → Option Block → Option Block
keep p (some b) = some (record { first = b.first; rest = p ∷ b.rest })
keep p none = none

-- a block of height h + k, from places that start at height h
unfoldable pub block_above : ℕ → ℕ → List ℕ → Option Block
block_above zero h bs = smallest h bs
block_above (suc k) h [] = none
block_above (suc k) h (b ∷ bs) = keep b (block_above k (suc h) bs)

-- the block that a length takes
unfoldable pub block_for : List ℕ → ℕ → Option Block
block_for bs len = cond (is_length len) (block_above (32 - len) 0 bs) none

abbrev pub value_of : ℕ → Option Block → Option ℕ
value_of h (some b) = some (b.first / 2 ^ h)
value_of h none = none

abbrev pub rest_of : List ℕ → Option Block → List ℕ
rest_of bs (some b) = b.rest
rest_of bs none = bs

-- entering a length: the answer, and the space after it
unfoldable pub enter_answer : List ℕ → ℕ → Option ℕ
enter_answer bs len = value_of (32 - len) (block_for bs len)

unfoldable pub enter_blocks : List ℕ → ℕ → List ℕ
enter_blocks bs len = rest_of bs (block_for bs len)

-- everything is free: one block of height 32
unfoldable pub empty_blocks : List ℕ
empty_blocks = replicate 32 vacant ++ (0 ∷ [])

-- lengths entered one by one: the answers, and the space after them
unfoldable pub run_answers : List ℕ → List ℕ → List (Option ℕ)
run_answers bs [] = []
run_answers bs (l ∷ ls) = enter_answer bs l ∷ run_answers (enter_blocks bs l) ls

unfoldable pub run_blocks : List ℕ → List ℕ → List ℕ
run_blocks bs [] = bs
run_blocks bs (l ∷ ls) = run_blocks (enter_blocks bs l) ls

-- the space that these lengths, entered one by one from an empty one, have come to. What counts is that `empty_space` gives that of no lengths,
-- and `enter` that of one length more
pub record Reached (ls bs : List ℕ) : Type 0 where
  pub blocks : bs ≡ run_blocks empty_blocks ls
