-- The blocks and the free strings: walking up from the smallest block, the free strings are the blocks' and no others.
-- Assumes nothing.
use mathlib.Core.Bool.{Bool}
use mathlib.Core.List.{List, [], ◌∷◌}
use mathlib.Core.Option.{Option, none, some}
use mathlib.Core.Path.{◌≡◌, refl, ◌∙◌}
use Prim.Native.Nat.{ℕ, zero, suc, ◌+◌, ◌*◌, ◌^◌, ◌≤◌, ◌<◌}
use native.Mathlib.Nat.{add-zero, pow-succ'}
use lib.Pow.{pow_pos, pow_mono}
use native.Mathlib.Omega.{arith}
use borrow.Author.Tests.{lt-ltb, le-ltb}
use Rattle.reading.specs.Least.{count}
use Rattle.codespace.specs.Inner.Blocks.{vacant, Block, smallest, halve, block_above, keep}
use Rattle.reading.proofs.Count.{Gap, Full, count_gap, count_full, gap_cat, no_gap}

-- a is a multiple of p
abbrev pub Mult : ℕ → ℕ → Type 0
Mult a p = (q : ℕ) × (a ≡ q * p)

-- from x on: nothing free up to a, and then p free strings from a, a multiple of p
pub record Next (f : ℕ → Bool) (x a p : ℕ) : Type 0 where
  pub low : x ≤ a
  pub top : a + p ≤ vacant
  pub gap : Gap f x a
  pub full : Full f a (a + p)
  pub mult : Mult a p

-- the list bs starts at height h; from x on, the free strings are those of its blocks, the smaller block first
pub data Chain (f : ℕ → Bool) : ℕ → ℕ → List ℕ → Type 0 where
  end : {h x : ℕ} → x ≤ vacant → Gap f x vacant → Chain f h x []
  gone : {h x b : ℕ} {bs : List ℕ} → b ≡ vacant → Chain f (suc h) x bs → Chain f h x (b ∷ bs)
  occupied : {h x b : ℕ} {bs : List ℕ} → Next f x b (2 ^ h) → Chain f (suc h) (b + 2 ^ h) bs → Chain f h x (b ∷ bs)

-- f' has nothing from x to y, and is f from y on
pub move : (f f' : ℕ → Bool) {h x y : ℕ} {bs : List ℕ} → x ≤ y → Gap f' x y → ((s : ℕ) → y ≤ s → f' s ≡ f s) → Chain f h y bs → Chain f' h x bs
move f f' {h} {x} {y} l g e (end t k) = end {x = x} (omega arith) (gap_cat f' g (λ s a b. e s a ∙ k s a b))
move f f' {h} {x} {y} l g e (gone q c) = gone q (move f f' l g e c)
move f f' {h} {x} {y} l g e (occupied {b = b} n c) =
    let m : y ≤ b = n.low in
    occupied
    {h = h}
    {x = x}
    {b = b}
    (record {
      low = omega arith;
      top = n.top;
      gap = gap_cat f' g (λ s a b. e s a ∙ n.gap s a b);
      full = λ s a b. e s (omega arith) ∙ n.full s a b;
      mult = n.mult;
    })
    (move f f' (omega arith) (no_gap f') (λ s a. e s (omega arith)) c)

-- what `smallest` answers
abbrev pub Smallest : (ℕ → Bool) → ℕ → ℕ → Option Block → Type 0
Smallest f h x none = Gap f x vacant
Smallest f h x (some g) = Next f x g.first (2 ^ h) × Chain f h (g.first + 2 ^ h) g.rest

half : (f : ℕ → Bool) (h x : ℕ) (r : Option Block) → Smallest f (suc h) x r → Smallest f h x (halve h r)
half f h x none p = p
half f h x (some g) p =
    let a = g.first in
    let n = p.0 in
    let two : 2 ^ suc h ≡ 2 * 2 ^ h = pow-succ' 2 h in
    let q = n.mult.0 in
    let m : a ≡ q * (2 * 2 ^ h) = rw two at n.mult.1 in
    let t = n.top in
    let same : a + 2 ^ suc h ≡ a + 2 ^ h + 2 ^ h = omega arith in (
      record {
        low = n.low;
        top = omega arith;
        gap = n.gap;
        full = λ s l u. n.full s l (omega arith);
        mult = (q * 2, omega arith);
      },
      occupied
          {h = h}
          {x = a + 2 ^ h}
          {b = a + 2 ^ h}
          (record {
            low = omega arith;
            top = omega arith;
            gap = no_gap f;
            full = λ s l u. n.full s (omega arith) (omega arith);
            mult = (q * 2 + 1, omega arith);
          })
          (rw same at p.1),
    )

pub smallest_ok : (f : ℕ → Bool) {h x : ℕ} {bs : List ℕ} → Chain f h x bs → Smallest f h x (smallest h bs)
unfolding smallest
smallest_ok f (end t k) = k
smallest_ok f {h} {x} (gone {b = b} {bs = bs} q c) = rw (le-ltb b vacant (omega arith)) (half f h x (smallest (suc h) bs) (smallest_ok f c))
smallest_ok f {h} {x} (occupied {b = b} {bs = bs} n c) =
    let t = n.top in
    let p = pow_pos h in
    rw (lt-ltb b vacant (omega arith)) (n, gone refl c)

-- f' is f without the p strings from a on
pub record Less (f f' : ℕ → Bool) (a p : ℕ) : Type 0 where
  pub inside : Gap f' a (a + p)
  pub before : (s : ℕ) → s < a → f' s ≡ f s
  pub after : (s : ℕ) → a + p ≤ s → f' s ≡ f s

-- a block of p strings was taken at g: nothing was free below it but less than p strings; and what is left
pub record Taken (f : ℕ → Bool) (p h x : ℕ) (g : Block) : Type 0 where
  pub low : x ≤ g.first
  pub top : g.first + p ≤ vacant
  pub few : count f g.first + 2 ^ h ≤ count f x + p
  pub full : Full f g.first (g.first + p)
  pub mult : Mult g.first p
  pub rest : (f' : ℕ → Bool) → Less f f' g.first p → Chain f' h x g.rest

abbrev pub Provided : (ℕ → Bool) → ℕ → ℕ → ℕ → Option Block → Type 0
Provided f p h x none = (x ≤ vacant) × (count f vacant + 2 ^ h ≤ count f x + p)
Provided f p h x (some g) = Taken f p h x g

smallest_provided : (f : ℕ → Bool) (h x : ℕ) (r : Option Block) → x ≤ vacant → Smallest f h x r → Provided f (2 ^ h) h x r
smallest_provided f h x none l g = (l, let e = count_gap f l g in omega arith)
smallest_provided f h x (some g) l p =
    let n = p.0 in
    let e = count_gap f n.low n.gap in
    record {
      low = n.low;
      top = n.top;
      few = omega arith;
      full = n.full;
      mult = n.mult;
      rest = λ f' d.
          let l = n.low in
          move f f' (omega arith) (gap_cat f' (λ s u v. d.before s v ∙ n.gap s u v) d.inside) d.after p.1;
    }

chain_low : (f : ℕ → Bool) {h x : ℕ} {bs : List ℕ} → Chain f h x bs → x ≤ vacant
chain_low f (end t k) = t
chain_low f (gone q c) = chain_low f c
chain_low f (occupied n c) = let t = n.top in let l = n.low in omega arith

kept_gone : (f : ℕ → Bool) (p h x b : ℕ) (r : Option Block) → b ≡ vacant → Provided f p (suc h) x r → Provided f p h x (keep b r)
kept_gone f p h x b none q w = (w.0, let m = w.1 in omega arith)
kept_gone f p h x b (some g) q w =
    let m = w.few in
    record {
      low = w.low;
      top = w.top;
      few = omega arith;
      full = w.full;
      mult = w.mult;
      rest = λ f' d. gone q (w.rest f' d);
    }

module _ (f : ℕ → Bool) (h x b : ℕ) (n : Next f x b (2 ^ h)) where
  passed : count f (b + 2 ^ h) ≡ count f x + 2 ^ h
  passed =
      let e = count_gap f n.low n.gap in
      let u : b ≤ b + 2 ^ h = omega arith in
      let v = count_full f u n.full in
      omega arith

  kept_occupied : (p : ℕ) (r : Option Block) → Provided f p (suc h) (b + 2 ^ h) r → Provided f p h x (keep b r)
  kept_occupied p none w =
      let m = w.1 in
      let e = passed in
      let l = n.low in
      let t = w.0 in
      (omega arith, omega arith)
  kept_occupied p (some g) w =
      let m = w.few in
      let e = passed in
      let l = n.low in
      let t = w.low in
      record {
        low = omega arith;
        top = w.top;
        few = omega arith;
        full = w.full;
        mult = w.mult;
        rest = λ f' d.
            let n' : Next f' x b (2 ^ h)
            = record {
              low = n.low;
              top = n.top;
              gap = λ s u v. d.before s (omega arith) ∙ n.gap s u v;
              full = λ s u v. d.before s (omega arith) ∙ n.full s u v;
              mult = n.mult;
            } in
            occupied n' (w.rest f' d);
      }

pub block_above_ok : (f : ℕ → Bool) (k : ℕ) {h x : ℕ} {bs : List ℕ} → Chain f h x bs → Provided f (2 ^ (h + k)) h x (block_above k h bs)
unfolding block_above
block_above_ok f zero {h} {x} {bs} c = rw add-zero (smallest_provided f h x (smallest h bs) (chain_low f c) (smallest_ok f c))
block_above_ok f (suc k) {h} {x} (end t g) =
    let e = count_gap f t g in
    let m : 2 ^ h ≤ 2 ^ (h + suc k) = pow_mono (omega arith) in
    (t, omega arith)
block_above_ok f (suc k) {h} {x} (gone {b = b} {bs = bs} q c) =
    let p : suc h + k ≡ h + suc k = omega arith in
    kept_gone f (2 ^ (h + suc k)) h x b (block_above k (suc h) bs) q (rw p at (block_above_ok f k c))
block_above_ok f (suc k) {h} {x} (occupied {b = b} {bs = bs} n c) =
    let p : suc h + k ≡ h + suc k = omega arith in
    kept_occupied f h x b n (2 ^ (h + suc k)) (block_above k (suc h) bs) (rw p at (block_above_ok f k c))
