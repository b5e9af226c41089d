-- The model answers what the ledger answers, and keeps its blocks the free strings.
-- Assumes nothing.
use mathlib.Core.Bool.{Bool, true, false, not, ◌||◌}
use mathlib.Core.List.{List, [], ◌∷◌}
use mathlib.Core.Option.{Option, none, some}
use mathlib.Core.Path.{◌≡◌, refl, sym, ap, ◌∙◌}
use mathlib.Core.Logic.{⊎_elim}
use Prim.Native.Nat.{ℕ, suc, ◌+◌, ◌-◌, ◌*◌, ◌/◌, ◌^◌, ◌≤◌, ◌<◌}
use native.Mathlib.Nat.{zero-add, div-eq_of_lt-le, div-mul-le_self, lt-div-mul-add, mul-div_cancel, le_of_mul-le-mul_right, mul-le-mul_right, add-sub_of_le}
use native.Mathlib.Omega.{arith}
use lib.Pow.{pow_pos, pow-add}
use borrow.Author.Tests.{eq-eqb, ne_eqb, eqb-true}
use Rattle.reading.specs.Least.{count, lowest}
use Rattle.reading.proofs.Least.{no_true, every_at, every_all, lowest_is, lowest-none, true_or_false}
use Rattle.reading.proofs.Count.{Full, count_full, count_mono, count_zero}
use Rattle.codespace.specs.Ledger.{Codeword, codeword, share, begins, taken, free, free_codeword, is_length, answer, enlist, after, answers}
use Rattle.codespace.specs.Inner.Blocks.{vacant, Block, block_above, block_for, value_of, rest_of, enter_answer, enter_blocks, run_answers, run_blocks}
use Rattle.codespace.proofs.Lengths.{length_is}
use Rattle.codespace.proofs.Chain.{Chain, Less, Taken, Provided, block_above_ok}

-- a string begins with the codeword of value v exactly if it is one of the p strings from v * p on
div_in : (s v p : ℕ) → v * p ≤ s → s < v * p + p → s / p ≡ v
div_in s v p l u = div-eq_of_lt-le p l (omega arith)

div_out : (s v p : ℕ) → 0 < p → s / p ≡ v → (v * p ≤ s) × (s < v * p + p)
div_out s v p z e =
    let l : s / p * p ≤ s = div-mul-le_self s p in
    let u : s < s / p * p + p = lt-div-mul-add z in
    (rw e at l, rw e at u)

module _ (len v : ℕ) where
  pub begins_in : (s : ℕ) → v * share len ≤ s → s < v * share len + share len → begins s (codeword len v) ≡ true
  unfolding begins
  begins_in s l u = eq-eqb (s / share len) v (div_in s v (share len) l u)

  pub begins_out : (s : ℕ) → ((v * share len ≤ s) × (s < v * share len + share len) → ⊥) → begins s (codeword len v) ≡ false
  unfolding begins
  begins_out s h = ne_eqb (s / share len) v (λ e. h (div_out s v (share len) (pow_pos (32 - len)) e))

  pub begins_then : (s : ℕ) → begins s (codeword len v) ≡ true → (v * share len ≤ s) × (s < v * share len + share len)
  unfolding begins
  begins_then s e = div_out s v (share len) (pow_pos (32 - len)) (eqb-true (s / share len) v e)

implies : (b t : Bool) → (b ≡ true → t ≡ true) → (not b || t) ≡ true
implies true t h = h refl
implies false t h = refl

module _ (ws : List Codeword) (len v : ℕ) where
  pub less : Less (free ws) (free (codeword len v ∷ ws)) (v * share len) (share len)
  unfolding taken
  less =
      record {
        inside = λ s l u. rw (begins_in len v s l u);
        before = λ s l. rw (begins_out len v s (λ p. let a = p.0 in omega arith));
        after = λ s l. rw (begins_out len v s (λ p. let a = p.1 in omega arith));
      }

  pub codeword_full : v * share len + share len ≤ vacant → free_codeword ws len v ≡ true → Full (free ws) (v * share len) (v * share len + share len)
  unfolding free_codeword
  codeword_full w e s l u =
      let b = begins_in len v s l u in
      rw b at (every_at (λ s. not (begins s (codeword len v)) || free ws s) vacant e s (omega arith))

  pub full_codeword : Full (free ws) (v * share len) (v * share len + share len) → free_codeword ws len v ≡ true
  unfolding free_codeword
  full_codeword g =
      every_all (λ s. not (begins s (codeword len v)) || free ws s) vacant
      (λ s l. implies (begins s (codeword len v)) (free ws s) (λ t. let r = begins_then len v s t in g s r.0 r.1))

  -- a free codeword that ends by e has its share of the free strings below e
  pub codeword_count : (e : ℕ) → v * share len + share len ≤ e → e ≤ vacant → free_codeword ws len v ≡ true → share len ≤ count (free ws) e
  codeword_count e l n t =
      let u : v * share len ≤ v * share len + share len = omega arith in
      let w : v * share len + share len ≤ vacant = omega arith in
      let c = count_full (free ws) u (codeword_full w t) in
      let m = count_mono (free ws) l in
      omega arith

-- the codewords of a length fill the strings
pub whole : (len : ℕ) → len ≤ 32 → 2 ^ len * share len ≡ vacant
whole len h =
    let e : len + (32 - len) ≡ 32 = add-sub_of_le h in
    sym (pow-add 2 len (32 - len)) ∙ ap (λ (n : ℕ). 2 ^ n) e

-- what the ledger's search finds, and the blocks after it
record Searches (ws : List Codeword) (len : ℕ) (o : Option ℕ) (bs : List ℕ) : Type 0 where
  same : lowest (free_codeword ws len) (2 ^ len) ≡ o
  next : Chain (free (enlist ws len o)) 0 0 bs

-- what one length does: the ledger's answer, and the blocks after it
pub record Agrees (ws : List Codeword) (len : ℕ) (o : Option ℕ) (bs : List ℕ) : Type 0 where
  pub same : answer ws len ≡ o
  pub next : Chain (free (enlist ws len o)) 0 0 bs

module _ (ws : List Codeword) (len : ℕ) (ok : len ≤ 32) where
  -- no codeword that ends by e is free, where fewer strings than its share are free below e
  pub none_free : (e u : ℕ) → e ≤ vacant → count (free ws) e + 1 ≤ count (free ws) 0 + share len → u * share len + share len ≤ e → free_codeword ws len u ≡ false
  none_free e u n c l =
      no_true (free_codeword ws len u)
      (λ t.
      let m = codeword_count ws len u e l n t in
      let z = count_zero (free ws) in
      omega arith)

  -- u below q: the codeword u ends by the start of q
  pub ends : {u q : ℕ} → u < q → u * share len + share len ≤ q * share len
  ends {u} {q} h = let m = mul-le-mul_right (share len) h in omega arith

  refuse : Provided (free ws) (share len) 0 0 none → lowest (free_codeword ws len) (2 ^ len) ≡ none
  refuse g =
      lowest-none (free_codeword ws len) (2 ^ len)
      (λ u h. none_free vacant u (omega arith) g.1 (let e = whole len ok in let m = ends h in omega arith))

  module _ (g : Block) (t : Taken (free ws) (share len) 0 0 g) (q : ℕ) (first_is : g.first ≡ q * share len) where
    val_is : g.first / share len ≡ q
    val_is = rw first_is (mul-div_cancel q (pow_pos (32 - len)))

    q_below : q < 2 ^ len
    q_below =
        let e = whole len ok in
        let m = t.top in
        let n : suc q * share len ≤ 2 ^ len * share len = omega arith in
        le_of_mul-le-mul_right n (pow_pos (32 - len))

    accept : lowest (free_codeword ws len) (2 ^ len) ≡ some q
    accept =
        lowest_is (free_codeword ws len) (2 ^ len) q q_below
        (full_codeword ws len q (rw first_is at t.full))
        (λ u h. none_free g.first u (let m = t.top in omega arith) t.few (let m = ends h in omega arith))

    accepted : Searches ws len (some (g.first / share len)) g.rest
    accepted =
        rw val_is
        (record {
          same = accept;
          next = t.rest (free (codeword len q ∷ ws)) (rw first_is (less ws len q));
        })

  searches : (bs : List ℕ) (r : Option Block) → Provided (free ws) (share len) 0 0 r → Chain (free ws) 0 0 bs
      → Searches ws len (value_of (32 - len) r) (rest_of bs r)
  searches bs none g c = record { same = refuse g; next = c }
  searches bs (some g) t c = accepted g t t.mult.0 t.mult.1

-- ONE ENTRY, of any length
pub enter_ok : (ws : List Codeword) (len : ℕ) (bs : List ℕ) → Chain (free ws) 0 0 bs → Agrees ws len (enter_answer bs len) (enter_blocks bs len)
unfolding enter_answer enter_blocks block_for answer
enter_ok ws len bs c =
    ⊎_elim
    (λ (t : is_length len ≡ true).
    let k = length_is len t in
    let r = searches ws len k.high bs (block_above (32 - len) 0 bs) (rw zero-add at (block_above_ok (free ws) (32 - len) c)) c in
    rw t (record { same = rw t r.same; next = r.next }))
    (λ (t : is_length len ≡ false). rw t (record { same = rw t; next = c }))
    (true_or_false (is_length len))

-- EVERY LIST of numbers
pub record Runs (ws : List Codeword) (bs ls : List ℕ) : Type 0 where
  pub same : run_answers bs ls ≡ answers ws ls
  pub next : Chain (free (after ws ls)) 0 0 (run_blocks bs ls)

pub run_ok : (ls : List ℕ) (ws : List Codeword) (bs : List ℕ) → Chain (free ws) 0 0 bs → Runs ws bs ls
unfolding run_answers answers after run_blocks
run_ok [] ws bs c = record { same = refl; next = c }
run_ok (l ∷ ls) ws bs c =
    let a = enter_ok ws l bs c in
    let r = run_ok ls (enlist ws l (enter_answer bs l)) (enter_blocks bs l) a.next in
    record { same = rw (a.same, r.same); next = rw a.same r.next }
