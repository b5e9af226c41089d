-- THE CUT THEOREM of runs (specs/Claims.antt), by one induction for every tree of requests. Assumes nothing.
use Prim.Native.Nat.{ℕ, ◌+◌, ◌*◌, ◌≤◌}
use native.Mathlib.Omega.{arith}
use mathlib.Core.List.{List, [], ◌∷◌}
use mathlib.Core.Logic.{◌⊎◌, inl, inr}
use mathlib.Core.Option.{none, some}
use mathlib.Core.Path.{◌≡◌, refl, ap}
use lib.ListN.{length, take}
use Rattle.reading.specs.Outcome.{refusal, Outcome, ok, bad}
use Rattle.reading.specs.Lists.{sum}
use Rattle.requests.specs.Requests.{Request, Requests, done, ask}
use Rattle.requests.specs.Run.{read, Item, item, Run, ended, before, continued, run}
use Rattle.requests.specs.Claims.{SameOrPrefix, CutTheorem, bit_count, Positions}
use Rattle.requests.proofs.Single.{read_counted, read_within, read_cut}

module _ {A : Type 0} where
  same : (r : Run A) → SameOrPrefix r r
  unfolding SameOrPrefix
  same r = inl refl

  -- an item more before both
  before_prefix : (i : Item) (r' r : Run A) → SameOrPrefix r' r → SameOrPrefix (before i r') (before i r)
  unfolding SameOrPrefix
  before_prefix i r' r (inl e) = inl (ap (before i) e)
  before_prefix i r' r (inr p) = inr (record { cut = p.cut; rest = p.rest; items = ap (λ (l : List Item). i ∷ l) p.items; position = p.position })

  -- a request whose answer in the cut packet is the same, or the cut
  continued_prefix : (q : Request) (k : ℕ) (o' o : Outcome (ℕ × ℕ)) (f' f : ℕ → ℕ → Run A) → (o' ≡ o) ⊎ (o' ≡ bad (refusal 1 k))
      → k ≤ (continued q k o f).position → ((v n : ℕ) → SameOrPrefix (f' v n) (f v n)) → SameOrPrefix (continued q k o' f') (continued q k o f)
  unfolding SameOrPrefix
  continued_prefix q k (ok x) o f' f (inl e) h g = rw (← e) (before_prefix (item q x.0) (f' x.0 x.1) (f x.0 x.1) (g x.0 x.1))
  continued_prefix q k (bad z) o f' f (inl e) h g = rw (← e) (same (ended [] k none))
  continued_prefix q k o' o f' f (inr e) h g = rw e (inr (record { cut = refl; rest = (continued q k o f).items; items = refl; position = h }))

  module _ (lengths_of : ℕ → List ℕ) where
    -- the position is just behind the items' bits
    run_counted : (x : Requests A) (s : List ℕ) (k : ℕ) → (run (read lengths_of) x s k).position ≡ k + bit_count lengths_of (run (read lengths_of) x s k).items
    unfolding run bit_count sum
    run_counted (done a) s k = omega arith
    run_counted (ask q f) s k = go (λ v n. run_counted (f v) s n) (read lengths_of q s k) refl
      where
        go : ((v n : ℕ) → (run (read lengths_of) (f v) s n).position ≡ n + bit_count lengths_of (run (read lengths_of) (f v) s n).items) → (o : Outcome (ℕ × ℕ)) → read lengths_of q s k ≡ o
            → (continued q k o (λ v n. run (read lengths_of) (f v) s n)).position ≡ k + bit_count lengths_of (continued q k o (λ v n. run (read lengths_of) (f v) s n)).items
        go h (ok x) e =
            let a = read_counted lengths_of q s k x.0 x.1 e in
            let b = h x.0 x.1 in
            omega arith
        go h (bad z) e = omega arith

    run_advances : (x : Requests A) (s : List ℕ) (k : ℕ) → k ≤ (run (read lengths_of) x s k).position
    run_advances x s k = let h = run_counted x s k in omega arith

    -- and never passes the packet's end
    run_within : (x : Requests A) (s : List ℕ) (k : ℕ) → k ≤ 8 * length s → (run (read lengths_of) x s k).position ≤ 8 * length s
    unfolding run
    run_within (done a) s k l = l
    run_within (ask q f) s k l = go (λ v n. run_within (f v) s n) (read lengths_of q s k) refl
      where
        go : ((v n : ℕ) → n ≤ 8 * length s → (run (read lengths_of) (f v) s n).position ≤ 8 * length s) → (o : Outcome (ℕ × ℕ)) → read lengths_of q s k ≡ o
            → (continued q k o (λ v n. run (read lengths_of) (f v) s n)).position ≤ 8 * length s
        go h (ok x) e = h x.0 x.1 (read_within lengths_of q s k x.0 x.1 e)
        go h (bad z) e = l

    -- the run on the packet's first m bytes is the same, or begins the whole packet's
    run_prefix : (x : Requests A) (s : List ℕ) (m k : ℕ) → SameOrPrefix (run (read lengths_of) x (take m s) k) (run (read lengths_of) x s k)
    unfolding run
    run_prefix (done a) s m k = same (ended [] k (some a))
    run_prefix (ask q f) s m k =
        continued_prefix q k (read lengths_of q (take m s) k) (read lengths_of q s k) (λ v n. run (read lengths_of) (f v) (take m s) n)
        (λ v n. run (read lengths_of) (f v) s n) (read_cut lengths_of q s m k) (run_advances (ask q f) s k) (λ v n. run_prefix (f v) s m n)

-- ALL OF IT, for every tree
module _ {A : Type 0} (lengths_of : ℕ → List ℕ) (x : Requests A) where
  pub cut_theorem : CutTheorem lengths_of x
  cut_theorem = record { prefix = λ s m k. run_prefix lengths_of x s m k }

  pub positions : Positions lengths_of x
  positions = record { counted = λ s k. run_counted lengths_of x s k; within = λ s k l. run_within lengths_of x s k l }
