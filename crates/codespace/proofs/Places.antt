-- Entering keeps the number of places, answers a number of 32 bits, and changes no place where it refuses, whatever stands in the places. Assumes nothing.
use mathlib.Core.Bool.{true, false}
use mathlib.Core.List.{List, [], ◌∷◌}
use mathlib.Core.Option.{Option, none, some}
use mathlib.Core.Path.{◌≡◌, refl, ap, ◌∙◌}
use mathlib.Core.Logic.{⊎_elim}
use Prim.Native.Nat.{ℕ, zero, suc, ◌-◌, ◌^◌, ◌<◌}
use native.Mathlib.Nat.{div-le_self, lt_of_le_of_lt}
use native.Mathlib.Omega.{arith}
use lib.ListN.{length}
use borrow.Author.Tests.{ltb-true}
use lib.Dec.{ltb}
use Rattle.reading.proofs.Least.{true_or_false}
use Rattle.codespace.specs.Ledger.{is_length}
use Rattle.codespace.specs.Answers.{number}
use Rattle.codespace.specs.Inner.Blocks.{vacant, Block, halve, smallest, keep, block_above, block_for, value_of, rest_of, enter_answer, enter_blocks, run_blocks, empty_blocks, Reached}

-- a block out of n places
abbrev Fits : ℕ → Option Block → Type 0
Fits n none = Unit {0}
Fits n (some b) = (b.first < vacant) × (length b.rest ≡ n)

halve_fits : (h n : ℕ) (r : Option Block) → Fits n r → Fits (suc n) (halve h r)
halve_fits h n none p = tt
halve_fits h n (some b) p = (p.0, ap suc p.1)

keep_fits : (x n : ℕ) (r : Option Block) → Fits n r → Fits (suc n) (keep x r)
keep_fits x n none p = tt
keep_fits x n (some b) p = (p.0, ap suc p.1)

smallest_fits : (bs : List ℕ) (h : ℕ) → Fits (length bs) (smallest h bs)
unfolding smallest
smallest_fits [] h = tt
smallest_fits (b ∷ bs) h =
    ⊎_elim
    (λ (t : ltb b vacant ≡ true). rw t (ltb-true b vacant t, refl))
    (λ (t : ltb b vacant ≡ false). rw t (halve_fits h (length bs) (smallest (suc h) bs) (smallest_fits bs (suc h))))
    (true_or_false (ltb b vacant))

above_fits : (k : ℕ) (bs : List ℕ) (h : ℕ) → Fits (length bs) (block_above k h bs)
unfolding block_above
above_fits zero bs h = smallest_fits bs h
above_fits (suc k) [] h = tt
above_fits (suc k) (b ∷ bs) h = keep_fits b (length bs) (block_above k (suc h) bs) (above_fits k bs (suc h))

for_fits : (bs : List ℕ) (len : ℕ) → Fits (length bs) (block_for bs len)
unfolding block_for
for_fits bs len =
    ⊎_elim
    (λ (t : is_length len ≡ true). rw t (above_fits (32 - len) bs 0))
    (λ (t : is_length len ≡ false). rw t tt)
    (true_or_false (is_length len))

-- an answer that is none, or a string's number
abbrev pub Small : Option ℕ → Type 0
Small none = Unit {0}
Small (some v) = v < vacant

pub enter_small : (bs : List ℕ) (len : ℕ) → Small (enter_answer bs len)
unfolding enter_answer
enter_small bs len = go (block_for bs len) (for_fits bs len)
  where
    go : (r : Option Block) → Fits (length bs) r → Small (value_of (32 - len) r)
    go none p = tt
    go (some b) p = lt_of_le_of_lt (div-le_self b.first (2 ^ (32 - len))) p.0

pub enter_length : (bs : List ℕ) (len : ℕ) → length (enter_blocks bs len) ≡ length bs
unfolding enter_blocks
enter_length bs len = go (block_for bs len) (for_fits bs len)
  where
    go : (r : Option Block) → Fits (length bs) r → length (rest_of bs r) ≡ length bs
    go none p = refl
    go (some b) p = p.1

-- a refusal leaves the places as they were
pub refused_same : (bs : List ℕ) (len : ℕ) → number (enter_answer bs len) ≡ vacant → enter_blocks bs len ≡ bs
unfolding enter_answer enter_blocks
refused_same bs len = go (block_for bs len) (for_fits bs len)
  where
    go : (r : Option Block) → Fits (length bs) r → number (value_of (32 - len) r) ≡ vacant → rest_of bs r ≡ bs
    go none p e = refl
    go (some b) p e = let l = lt_of_le_of_lt (div-le_self b.first (2 ^ (32 - len))) p.0 in absurd (omega arith)

run_length : (ls bs : List ℕ) → length (run_blocks bs ls) ≡ length bs
unfolding run_blocks
run_length [] bs = refl
run_length (l ∷ ls) bs = run_length ls (enter_blocks bs l) ∙ enter_length bs l

empty_length : length empty_blocks ≡ 33
unfolding empty_blocks
empty_length = refl

pub reached_length : (ls bs : List ℕ) → Reached ls bs → length bs ≡ 33
reached_length ls bs r = ap length r.blocks ∙ run_length ls empty_blocks ∙ empty_length
