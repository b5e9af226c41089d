-- Every list of numbers, entered one by one from the empty space: the model's answers are the ledger's, the shares balance, a length is refused exactly
-- where its share exceeds what is free, and no string begins with two codewords. Assumes nothing.
use mathlib.Core.Bool.{Bool, true, false, not, ◌||◌}
use mathlib.Core.List.{List, [], ◌∷◌, ◌++◌}
use mathlib.Core.Option.{Option, none, some}
use mathlib.Core.Path.{◌≡◌, refl, sym, ◌∙◌}
use mathlib.Core.Logic.{⊎_elim, ◌↔◌}
use Prim.Native.Nat.{ℕ, zero, suc, ◌+◌, ◌-◌, ◌*◌, ◌^◌, ◌≤◌, ◌<◌}
use native.Mathlib.Nat.{add-zero, zero-add}
use native.Mathlib.Omega.{arith}
use lib.ListN.{replicate}
use Rattle.reading.specs.Least.{one, count, lowest, Least}
use Rattle.reading.proofs.Least.{true_or_false, lowest_ok, IsLowest}
use Rattle.reading.proofs.Count.{Full, count_gap, count_full, count_agree, count_zero, count_none, no_gap}
use Rattle.codespace.specs.Ledger.{Codeword, codeword, share, begins, taken, free, free_strings, free_codeword, is_length, IsLength, answer, enlist, after, answers}
use Rattle.codespace.specs.Claims.{accepted, accepted_share, starts, starts_with}
use Rattle.codespace.specs.Inner.Blocks.{vacant, Block, block_above, block_for, value_of, enter_answer, run_answers, run_blocks, empty_blocks}
use Rattle.codespace.proofs.Lengths.{is_length_lem, length_is}
use Rattle.codespace.proofs.Chain.{Chain, end, gone, occupied, Next, Provided, block_above_ok}
use Rattle.codespace.proofs.Refine.{less, begins_then, codeword_full, codeword_count, whole, ends, enter_ok, run_ok}

-- the empty space has every string free
vacants : (f : ℕ → Bool) (n h : ℕ) (bs : List ℕ) → Chain f (h + n) 0 bs → Chain f h 0 (replicate n vacant ++ bs)
vacants f zero h bs c = rw add-zero at c
vacants f (suc n) h bs c = let e : h + suc n ≡ suc h + n = omega arith in gone refl (vacants f n (suc h) bs (rw e at c))

all_free : Full (free []) 0 vacant
unfolding taken
all_free s l u = refl

pub start : Chain (free []) 0 0 empty_blocks
unfolding empty_blocks
start =
    let n : Next (free []) 0 0 vacant
    = record { low = omega arith; top = omega arith; gap = no_gap (free []); full = all_free; mult = (0, omega arith) } in
    vacants (free []) 32 0 (0 ∷ []) (occupied n (end (omega arith) (no_gap (free []))))

-- THE MODEL'S ANSWERS ARE THE LEDGER'S, answer by answer, refusals included
pub answers_are : (ls : List ℕ) → run_answers empty_blocks ls ≡ answers [] ls
answers_are ls = (run_ok ls [] empty_blocks start).same

pub answer_are : (ls : List ℕ) (len : ℕ) → enter_answer (run_blocks empty_blocks ls) len ≡ answer (after [] ls) len
answer_are ls len = sym (enter_ok (after [] ls) len (run_blocks empty_blocks ls) (run_ok ls [] empty_blocks start).next).same

-- What an answer says: a codeword has one of the lengths, is free and below 2 ^ len, and no lower one is free
abbrev pub AnswerMeans : List Codeword → ℕ → Option ℕ → Type 0
AnswerMeans ws len (some v) = IsLength len × Least (free_codeword ws len) (2 ^ len) v
AnswerMeans ws len none = Unit {0}

found_says : (ws : List Codeword) (len : ℕ) (o : Option ℕ) → IsLength len → IsLowest (free_codeword ws len) (2 ^ len) o → AnswerMeans ws len o
found_says ws len (some v) k p = (k, p)
found_says ws len none k p = tt

pub answer_says : (ws : List Codeword) (len : ℕ) → AnswerMeans ws len (answer ws len)
unfolding answer
answer_says ws len =
    ⊎_elim
    (λ (t : is_length len ≡ true). rw t (found_says ws len (lowest (free_codeword ws len) (2 ^ len)) (length_is len t) (lowest_ok (free_codeword ws len) (2 ^ len))))
    (λ (t : is_length len ≡ false). rw t tt)
    (true_or_false (is_length len))

pub some_says : (ws : List Codeword) (len v : ℕ) → answer ws len ≡ some v → IsLength len × Least (free_codeword ws len) (2 ^ len) v
some_says ws len v e = rw e at (answer_says ws len)

-- the strings of a codeword of the length end by the last string
module _ (ws : List Codeword) (len v : ℕ) (ok : len ≤ 32) (b : v < 2 ^ len) (t : free_codeword ws len v ≡ true) where
  in_reach : v * share len + share len ≤ vacant
  in_reach = let e = whole len ok in let m = ends ws len ok b in omega arith

  enough : share len ≤ free_strings ws
  unfolding free_strings
  enough = codeword_count ws len v vacant in_reach (omega arith) t

  -- a codeword handed out takes its share
  takes : share len + free_strings (codeword len v ∷ ws) ≡ free_strings ws
  unfolding free_strings
  takes =
      let f = free ws in
      let g = free (codeword len v ∷ ws) in
      let d = less ws len v in
      let l : 0 ≤ v * share len = omega arith in
      let m : v * share len ≤ v * share len + share len = omega arith in
      let c₁ = count_agree f g l (λ s x y. d.before s y) in
      let c₂ = count_gap g m d.inside in
      let c₃ = count_full f m (codeword_full ws len v in_reach t) in
      let c₄ = count_agree f g in_reach (λ s x y. d.after s x) in
      let z₁ = count_zero f in
      let z₂ = count_zero g in
      omega arith

  -- none of its strings began with a codeword before
  pub was_free : (s : ℕ) → begins s (codeword len v) ≡ true → taken ws s ≡ false
  was_free s e =
      let r = begins_then len v s e in
      not_free (taken ws s) (codeword_full ws len v in_reach t s r.0 r.1)
    where
      not_free : (x : Bool) → not x ≡ true → x ≡ false
      not_free true q = sym q
      not_free false q = refl

-- THE BALANCE: shares of the accepted lengths and free strings are those at the start
balance_step : (ws : List Codeword) (len : ℕ) (o : Option ℕ) → AnswerMeans ws len o → accepted_share len o + free_strings (enlist ws len o) ≡ free_strings ws
balance_step ws len none p = zero-add (free_strings ws)
balance_step ws len (some v) p = takes ws len v p.0.high p.1.below p.1.passes

balance_from : (ls : List ℕ) (ws : List Codeword) → accepted ls (answers ws ls) + free_strings (after ws ls) ≡ free_strings ws
unfolding after accepted answers
balance_from [] ws = zero-add (free_strings ws)
balance_from (l ∷ ls) ws =
    let e = balance_step ws l (answer ws l) (answer_says ws l) in
    let r = balance_from ls (enlist ws l (answer ws l)) in
    omega arith

pub balance : (ls : List ℕ) → accepted ls (answers [] ls) + free_strings (after [] ls) ≡ 4294967296
balance ls =
    let r = balance_from ls [] in
    let e : free_strings [] ≡ 4294967296
    = unfold free_strings in
    let c = count_full (free []) (omega arith) all_free in
    let z = count_zero (free []) in
    omega arith in
    omega arith

-- REFUSED exactly where the share is more than what is free
module _ (ws : List Codeword) (len : ℕ) where
  refused_if : (o : Option ℕ) → AnswerMeans ws len o → free_strings ws < share len → o ≡ none
  refused_if none p h = refl
  refused_if (some v) p h = let k = enough ws len v p.0.high p.1.below p.1.passes in absurd (omega arith)

  refused_then : (r : Option Block) → Provided (free ws) (share len) 0 0 r → value_of (32 - len) r ≡ none → free_strings ws < share len
  unfolding free_strings
  refused_then none g e = let z = count_zero (free ws) in let c = g.1 in omega arith
  refused_then (some g) t e = let z : ◌≡◌ {A = ℕ} 0 1 = cc in absurd (omega arith)

pub refused_is : (ls : List ℕ) (len : ℕ) → IsLength len → (answer (after [] ls) len ≡ none) ↔ (free_strings (after [] ls) < share len)
unfolding enter_answer block_for
refused_is ls len k =
    let ws = after [] ls in
    let c = (run_ok ls [] empty_blocks start).next in
    let bs = run_blocks empty_blocks ls in
    let a : value_of (32 - len) (block_above (32 - len) 0 bs) ≡ answer ws len = rw (is_length_lem len k) at (answer_are ls len) in (
      λ e. refused_then ws len (block_above (32 - len) 0 bs) (rw zero-add at (block_above_ok (free ws) (32 - len) c)) (a ∙ e),
      λ h. refused_if ws len (answer ws len) (answer_says ws len) h,
    )

-- AT MOST ONE: a string that begins with a codeword of the list begins with exactly one, counted along the lengths and their answers
single_step : (ws : List Codeword) (len s : ℕ) (o : Option ℕ) → AnswerMeans ws len o → one (taken (enlist ws len o) s) ≡ starts_with s len o + one (taken ws s)
unfolding taken
single_step ws len s none p = sym (zero-add (one (taken ws s)))
single_step ws len s (some v) p = go (begins s (codeword len v)) (was_free ws len v p.0.high p.1.below p.1.passes s)
  where
    go : (b : Bool) → (b ≡ true → taken ws s ≡ false) → one (b || taken ws s) ≡ one b + one (taken ws s)
    go true h = rw (h refl)
    go false h = sym (zero-add (one (taken ws s)))

single_from : (ls : List ℕ) (ws : List Codeword) (s : ℕ) → one (taken (after ws ls) s) ≡ starts s ls (answers ws ls) + one (taken ws s)
unfolding after starts answers
single_from [] ws s = sym (zero-add (one (taken ws s)))
single_from (l ∷ ls) ws s =
    let e = single_step ws l s (answer ws l) (answer_says ws l) in
    let r = single_from ls (enlist ws l (answer ws l)) s in
    omega arith

-- where nothing is free, every string is taken
pub all_taken : (ws : List Codeword) → free_strings ws ≡ 0 → (s : ℕ) → s < 4294967296 → taken ws s ≡ true
all_taken ws e s h =
    let z : count (free ws) 4294967296 ≡ 0 = unfold free_strings in e in
    go (taken ws s) (count_none (free ws) z s h)
  where
    go : (t : Bool) → not t ≡ false → t ≡ true
    go true q = refl
    go false q = sym q

-- EXACTLY ONE, where nothing is left
pub exactly_one : (ls : List ℕ) → free_strings (after [] ls) ≡ 0 → (s : ℕ) → s < 4294967296 → starts s ls (answers [] ls) ≡ 1
exactly_one ls e s h =
    let k = single_from ls [] s in
    let z : one (taken [] s) ≡ 0 = unfold taken in refl in
    let t : one (taken (after [] ls) s) ≡ 1 = rw (all_taken (after [] ls) e s h) in
    omega arith
