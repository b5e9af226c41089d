-- The loops' steps, by the places of the array; and that they find what the model finds.
-- Assumes nothing.
use mathlib.Core.Bool.{Bool, true, false}
use mathlib.Core.List.{List, [], ◌∷◌, ◌++◌}
use mathlib.Core.Option.{Option, none, some}
use mathlib.Core.Path.{◌≡◌, refl, sym, ap, ◌∙◌}
use mathlib.Core.Logic.{⊎_elim}
use Prim.Native.Nat.{ℕ, zero, suc, ◌+◌, ◌-◌, ◌*◌, ◌/◌, ◌%◌, ◌^◌, ◌≤◌, ◌<◌}
use native.Mathlib.Nat.{add-zero, one-mul, mod-eq_of_lt, sub_self, zero-add, sub-zero}
use native.Mathlib.Omega.{arith}
use lib.Pow.{pow-lt}
use lib.Dec.{ltb}
use lib.ListN.{length, get_or, set, length-append}
use lib.Seq.{get_or_at, set_at, append_snoc}
use borrow.Author.Tests.{lt-ltb, le-ltb}
use mathlib.Core.Bool.{cond}
use Rattle.reading.proofs.Least.{lt_or_le}
use Rattle.codespace.specs.Ledger.{IsLength}
use Rattle.codespace.specs.Inner.Blocks.{vacant, Block, smallest, halve, block_above, keep, block_for, enter_answer, enter_blocks}
use Rattle.codespace.specs.Answers.{number}
use Rattle.codespace.specs.Inner.Steps.{first_occupied, upper_halves}
use Rattle.codespace.proofs.Lengths.{is_length_lem, no_length}

-- a bit, as the machine shifts it
pub bit : (k : ℕ) → k < 64 → (1 * 2 ^ k) % 18446744073709551616 ≡ 2 ^ k
bit k h = rw one-mul (mod-eq_of_lt (pow-lt h))

module _ (bs : List ℕ) (g : ℕ) where
  pub occupied_end : 33 ≤ g → first_occupied (33 - g) g bs ≡ g
  unfolding first_occupied
  occupied_end h = let z : 33 - g ≡ 0 = omega arith in rw z

  next : g < 33 → first_occupied (33 - g) g bs ≡ cond (ltb (get_or bs g 0) vacant) g (first_occupied (33 - (g + 1)) (g + 1) bs)
  unfolding first_occupied
  next h =
      let z : 33 - g ≡ suc (33 - (g + 1)) = omega arith in
      let s : g + 1 ≡ suc g = omega arith in
      rw (z, s)

  pub occupied_here : g < 33 → get_or bs g 0 < vacant → first_occupied (33 - g) g bs ≡ g
  occupied_here h l = next h ∙ rw (lt-ltb (get_or bs g 0) vacant l)

  pub occupied_on : g < 33 → vacant ≤ get_or bs g 0 → first_occupied (33 - g) g bs ≡ first_occupied (33 - (g + 1)) (g + 1) bs
  occupied_on h l = next h ∙ rw (le-ltb (get_or bs g 0) vacant l)

module _ (g a : ℕ) (bs : List ℕ) where
  pub halves_none : upper_halves g (g - g) a bs ≡ bs
  unfolding upper_halves
  halves_none = rw sub_self

  pub halves_more : (y : ℕ) → 0 < y → y ≤ g → upper_halves (y - 1) (g - (y - 1)) a bs ≡ set (upper_halves y (g - y) a bs) (y - 1) (a + 2 ^ (y - 1))
  unfolding upper_halves
  halves_more y l u =
      let z : g - (y - 1) ≡ suc (g - y) = omega arith in
      let s : suc (y - 1) ≡ y = omega arith in
      rw z (rw s)

-- the list starts with p
prefix : List ℕ → Option Block → Option Block
prefix p none = none
prefix p (some g) = some (record { first = g.first; rest = p ++ g.rest })

-- what is made of the place g that holds the smallest block, e the end of the array
abbrev pub result_at : Bool → ℕ → ℕ → List ℕ → Option Block
result_at true h g bs = some (record { first = get_or bs g 0; rest = upper_halves h (g - h) (get_or bs g 0) (set bs g vacant) })
result_at false h g bs = none

abbrev pub result : ℕ → ℕ → ℕ → List ℕ → Option Block
result h e g bs = result_at (ltb g e) h g bs

-- one place further down
lift : ℕ → Option Block → Option Block
lift h none = none
lift h (some g) = some (record { first = g.first; rest = set g.rest h (g.first + 2 ^ h) })

lifts : (t : Bool) (h g : ℕ) (bs : List ℕ) → h < g → lift h (result_at t (suc h) g bs) ≡ result_at t h g bs
unfolding lift upper_halves
lifts true h g bs l = let z : g - h ≡ suc (g - suc h) = omega arith in rw z
lifts false h g bs l = refl

halved : (h b : ℕ) (p : List ℕ) (r : Option Block) → length p ≡ h → prefix p (halve h r) ≡ lift h (prefix (p ++ (b ∷ [])) r)
unfolding prefix lift
halved h b p none e = refl
halved h b p (some g) e = rw (append_snoc p b g.rest, set_at p b g.rest (g.first + 2 ^ h) h e)

pub occupied_ge : (n g : ℕ) (bs : List ℕ) → g ≤ first_occupied n g bs
unfolding first_occupied
occupied_ge zero g bs = omega arith
occupied_ge (suc n) g bs = go (ltb (get_or bs g 0) vacant) (occupied_ge n (suc g) bs)
  where
    go : (t : Bool) → suc g ≤ first_occupied n (suc g) bs → g ≤ cond t g (first_occupied n (suc g) bs)
    go true l = omega arith
    go false l = omega arith

pub occupied_at : (n g : ℕ) (bs : List ℕ) → first_occupied n g bs < g + n → get_or bs (first_occupied n g bs) 0 < vacant
unfolding first_occupied
occupied_at zero g bs l = absurd (omega arith)
occupied_at (suc n) g bs l =
    ⊎_elim
    (λ (k : get_or bs g 0 < vacant). rw (lt-ltb (get_or bs g 0) vacant k) k)
    (λ (k : vacant ≤ get_or bs g 0).
    let e = le-ltb (get_or bs g 0) vacant k in
    let m : first_occupied n (suc g) bs < g + suc n = rw e at l in
    rw e (occupied_at n (suc g) bs (omega arith)))
    (lt_or_le (get_or bs g 0) vacant)

smallest_is : (q p : List ℕ) (h : ℕ) → length p ≡ h → prefix p (smallest h q) ≡ result h (h + length q) (first_occupied (length q) h (p ++ q)) (p ++ q)
unfolding smallest first_occupied prefix upper_halves
smallest_is [] p h e = rw (le-ltb h (h + 0) (omega arith))
smallest_is (b ∷ q) p h e =
    let g = get_or_at p b q 0 h e in
    let n = length q in
    let bs = p ++ b ∷ q in
    ⊎_elim
    (λ (k : b < vacant).
    rw (g, lt-ltb b vacant k)
    (rw (lt-ltb h (h + suc (length q)) (omega arith)) (rw (g, sub_self, set_at p b q vacant h e))))
    (λ (k : vacant ≤ b).
    let l : length (p ++ (b ∷ [])) ≡ suc h = omega (arith, length-append p (b ∷ [])) in
    let ih = smallest_is q (p ++ (b ∷ [])) (suc h) l in
    let s : suc h + length q ≡ h + suc (length q) = omega arith in
    let w = occupied_ge (length q) (suc h) bs in
    rw (g, le-ltb b vacant k)
    (halved h b p (smallest (suc h) q) e
    ∙ ap (lift h) (rw (append_snoc p b q, s) at ih)
    ∙ lifts (ltb (first_occupied (length q) (suc h) bs) (h + suc (length q))) h (first_occupied (length q) (suc h) bs) bs w))
    (lt_or_le b vacant)

kept : (b : ℕ) (p : List ℕ) (r : Option Block) → prefix p (keep b r) ≡ prefix (p ++ (b ∷ [])) r
unfolding prefix
kept b p none = refl
kept b p (some g) = rw (append_snoc p b g.rest)

above : (k : ℕ) (q p : List ℕ) (h : ℕ) → length p ≡ h → k ≤ length q
    → prefix p (block_above k h q) ≡ result (h + k) (h + length q) (first_occupied (length q - k) (h + k) (p ++ q)) (p ++ q)
unfolding block_above
above zero q p h e l = rw (add-zero, sub-zero) (smallest_is q p h e)
above (suc k) [] p h e l = absurd (omega arith)
above (suc k) (b ∷ q) p h e l =
    let w : length (p ++ (b ∷ [])) ≡ suc h = omega (arith, length-append p (b ∷ [])) in
    let ih = above k q (p ++ (b ∷ [])) (suc h) w (omega arith) in
    let s : suc h + length q ≡ h + suc (length q) = omega arith in
    let t : suc h + k ≡ h + suc k = omega arith in
    let u : length q - k ≡ suc (length q) - suc k = omega arith in
    kept b p (block_above k (suc h) q) ∙ (rw (append_snoc p b q, s, t, u) at ih)

plain : (r : Option Block) → prefix [] r ≡ r
unfolding prefix
plain none = refl
plain (some g) = refl

-- WHAT THE LOOPS FIND IS WHAT THE MODEL FINDS
pub block_above_is : (k : ℕ) (bs : List ℕ) → length bs ≡ 33 → k ≤ 32 → block_above k 0 bs ≡ result k 33 (first_occupied (33 - k) k bs) bs
block_above_is k bs e l =
    let z = above k bs [] 0 refl (omega arith) in
    sym (plain (block_above k 0 bs)) ∙ rw (zero-add, e, zero-add) at z

-- `enter`: what is no length takes nothing
module _ (bs : List ℕ) (len : ℕ) (n : IsLength len → ⊥) where
  pub outside_answer : vacant ≡ number (enter_answer bs len)
  unfolding enter_answer block_for
  outside_answer = rw (no_length len n)

  pub outside_blocks : bs ≡ enter_blocks bs len
  unfolding enter_blocks block_for
  outside_blocks = rw (no_length len n)

-- a length, by the height g that `smallest_block` found for it
module _ (bs : List ℕ) (len g : ℕ) (k : IsLength len) (size : length bs ≡ 33) (e : g ≡ first_occupied (33 - (32 - len)) (32 - len) bs) where
  what : block_for bs len ≡ result (32 - len) 33 g bs
  unfolding block_for
  what = rw (is_length_lem len k) (rw e (block_above_is (32 - len) bs size (omega arith)))

  refused : 33 ≤ g → block_for bs len ≡ none
  refused l = what ∙ rw (le-ltb g 33 l)

  found_in : g < 33
      → block_for bs len ≡ some (record { first = get_or bs g 0; rest = upper_halves (32 - len) (g - (32 - len)) (get_or bs g 0) (set bs g vacant) })
  found_in l = what ∙ rw (lt-ltb g 33 l)

  pub refused_answer : 33 ≤ g → enter_answer bs len ≡ none
  unfolding enter_answer
  refused_answer l = rw (refused l)

  pub refused_blocks : 33 ≤ g → bs ≡ enter_blocks bs len
  unfolding enter_blocks
  refused_blocks l = rw (refused l)

  pub taken_answer : g < 33 → enter_answer bs len ≡ some (get_or bs g 0 / 2 ^ (32 - len))
  unfolding enter_answer
  taken_answer l = rw (found_in l)

  pub taken_blocks : g < 33 → upper_halves (32 - len) (g - (32 - len)) (get_or bs g 0) (set bs g vacant) ≡ enter_blocks bs len
  unfolding enter_blocks
  taken_blocks l = rw (found_in l)

  pub found_low : 32 - len ≤ g
  found_low = rw e (occupied_ge (33 - (32 - len)) (32 - len) bs)

  pub found_block : g < 33 → get_or bs g 0 < vacant
  found_block l =
      let m : first_occupied (33 - (32 - len)) (32 - len) bs < 32 - len + (33 - (32 - len)) = omega arith in
      rw e (occupied_at (33 - (32 - len)) (32 - len) bs m)
