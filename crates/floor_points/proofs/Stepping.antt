-- Laws of the steps of final Y, for heights. Assumes nothing.
use Prim.Native.Nat.{ℕ, zero, suc, ◌+◌, ◌-◌, ◌≤◌, ◌<◌}
use native.Mathlib.Numerals.{add-one}
use native.Mathlib.Omega.{arith}
use mathlib.Core.List.{List, [], ◌∷◌, map}
use mathlib.Core.Path.{◌≡◌, refl, sym, ap, ◌∙◌}
use lib.IntN.{ℤ, pos}
use lib.ListN.{length, get_or, set, replicate}
use Rattle.floor_points.specs.FinalY.{Points, predicted, unwrapped, flagged, step, steps, begun, points, clamped}
use Rattle.floor_line.specs.Inner.LineHeight.{line_height}
use Rattle.floor_line.specs.Neighbours.{low_neighbour, high_neighbour}
use Rattle.floor_points.specs.Inner.Heights.{y_of, height_of, clamped_height, points_of, Bounded, Ready}
use Rattle.floor_line.proofs.Integers.{same_difference, pos-difference}
use Rattle.floor_line.proofs.LineLaws.{line_height_lem, height_le}
use Rattle.floor_points.proofs.Filling.{Filling, fill_end, get_d_map, map_set}

-- ---- heights stay bounded
pub point_bounded : (hs : List ℕ) (x0 low x1 high x p : ℕ) → Bounded hs → p ≡ line_height x0 (get_or hs low 0) x1 (get_or hs high 0) x → p < 131072
point_bounded hs x0 low x1 high x p b e =
    rw e (omega (arith, height_le x0 (get_or hs low 0) x1 (get_or hs high 0) x 131071 (omega (arith, b.bound low)) (omega (arith, b.bound high))))

pub set_bounded : (hs : List ℕ) (i r : ℕ) → Bounded hs → r < 131072 → Bounded (set hs i r)
set_bounded hs i r b h = record { bound = λ k. at k hs (b.bound k) i }
  where
    at : (k : ℕ) (l : List ℕ) → get_or l k 0 < 131072 → (n : ℕ) → get_or (set l n r) k 0 < 131072
    at k [] q n = q
    at zero (x ∷ l) q zero = h
    at zero (x ∷ l) q (suc n) = q
    at (suc k) (x ∷ l) q zero = q
    at (suc k) (x ∷ l) q (suc n) = at k l q n

pub begun_bounded : (vals : List ℕ) → ((k : ℕ) → get_or vals k 0 < 65536) → Bounded (map height_of vals)
begun_bounded vals f = record { bound = λ k. at vals f k }
  where
    at : (l : List ℕ) → ((k : ℕ) → get_or l k 0 < 65536) → (k : ℕ) → get_or (map height_of l) k 0 < 131072
    at [] g k = omega arith
    at (v ∷ l) g zero = omega (arith, g 0)
    at (v ∷ l) g (suc k) = at l (λ j. g (suc j)) k

pub filled_bounded : (vals out : List ℕ) (i : ℕ) → Filling height_of vals out i → length vals ≤ i → ((k : ℕ) → get_or vals k 0 < 65536) → Bounded out
filled_bounded vals out i w h f = rw (fill_end height_of vals out i w h) (begun_bounded vals f)

-- ---- one step
module _ (range : ℕ) (xs vals hs fs fs' : List ℕ) (i low high p r : ℕ) where
  pub step_made : low ≡ low_neighbour xs i → high ≡ high_neighbour xs i → low < length hs → high < length hs
      → p ≡ line_height (get_or xs low 0) (get_or hs low 0) (get_or xs high 0) (get_or hs high 0) (get_or xs i 0)
      → y_of r ≡ unwrapped range (y_of p) (get_or vals i 0) → fs' ≡ flagged (get_or vals i 0) low high i fs
      → points_of (set hs i r) fs' ≡ step range xs vals i (points_of hs fs)
  unfolding step predicted
  step_made el eh bl bh ep er ef =
      rw (← el, ← eh, get_d_map y_of hs low 0 (pos 0) bl, get_d_map y_of hs high 0 (pos 0) bh, line_height_lem (get_or xs low 0) (get_or hs low 0) (get_or xs high 0) (get_or hs high 0) (get_or xs i 0) 65536, ← ep, ← er, ← ef)
      (ap (λ (l : List ℤ). the l) (map_set y_of hs i r))
    where
      the : List ℤ → Points
      the l = record { ys = l; flags = fs' }

-- ---- the steps
-- lists that are ready stay so where heights and flags keep their places
pub ready_kept : {xs vals hs fs hs' fs' : List ℕ} {range : ℕ} → Ready xs vals range hs fs → length hs' ≡ length hs → length fs' ≡ length fs → Ready xs vals range hs' fs'
ready_kept r lh lf =
    record { places = r.places; values = r.values; tall = lh ∙ r.tall; flagged = lf ∙ r.flagged; some = r.some; small = r.small }

module _ (range : ℕ) (xs vals : List ℕ) where
  pub steps_end : (i n : ℕ) (s : Points) → n ≤ i → steps range xs vals i (n - i) s ≡ s
  unfolding steps
  steps_end i n s h = let e : n - i ≡ 0 = omega arith in rw e

  pub steps_turn : (i n : ℕ) (s : Points) → i < n → steps range xs vals (i + 1) (n - (i + 1)) (step range xs vals i s) ≡ steps range xs vals i (n - i) s
  unfolding steps
  steps_turn i n s h = let e : n - i ≡ suc (n - (i + 1)) = omega arith in rw (e, add-one i)

-- where a turn begins: the places before i are done, and what is left is the whole
pub record Progress (xs vals : List ℕ) (range : ℕ) (hs₀ fs₀ hs fs : List ℕ) (i : ℕ) : Type 0 where
  pub ready : Ready xs vals range hs fs
  pub bounded : Bounded hs
  pub from : 2 ≤ i
  pub within : i ≤ length xs
  pub rest : steps range xs vals i (length xs - i) (points_of hs fs) ≡ steps range xs vals 2 (length xs - 2) (points_of hs₀ fs₀)

module _ (xs vals : List ℕ) (range : ℕ) (hs₀ fs₀ : List ℕ) where
  pub progress_begin : Ready xs vals range hs₀ fs₀ → Bounded hs₀ → Progress xs vals range hs₀ fs₀ hs₀ fs₀ 2
  progress_begin r b = record { ready = r; bounded = b; from = omega arith; within = omega (arith, r.places); rest = refl }

  module _ (hs fs : List ℕ) where
    pub progress_turn : (hs' fs' : List ℕ) (i : ℕ) → Progress xs vals range hs₀ fs₀ hs fs i → i < length xs → points_of hs' fs' ≡ step range xs vals i (points_of hs fs)
        → Bounded hs' → length hs' ≡ length hs → length fs' ≡ length fs → Progress xs vals range hs₀ fs₀ hs' fs' (i + 1)
    progress_turn hs' fs' i g h e b lh lf =
        record {
          ready = ready_kept g.ready lh lf;
          bounded = b;
          from = omega (arith, g.from);
          within = omega arith;
          rest = rw e (steps_turn range xs vals i (length xs) (points_of hs fs) h ∙ g.rest);
        }

    pub progress_end : (i : ℕ) → Progress xs vals range hs₀ fs₀ hs fs i → length xs ≤ i → points_of hs fs ≡ steps range xs vals 2 (length xs - 2) (points_of hs₀ fs₀)
    progress_end i g h = sym (steps_end range xs vals i (length xs) (points_of hs fs) h) ∙ g.rest

-- ---- all of it
pub begun_points : (vals fs : List ℕ) → fs ≡ set (set (replicate (length vals) 0) 0 1) 1 1 → points_of (map height_of vals) fs ≡ begun vals
unfolding begun
begun_points vals fs e = rw e (ap (λ (l : List ℤ). the l) (each vals))
  where
    the : List ℤ → Points
    the l = record { ys = l; flags = set (set (replicate (length vals) 0) 0 1) 1 1 }

    each : (l : List ℕ) → map y_of (map height_of l) ≡ map pos l
    each [] = refl
    each (v ∷ l) = rw (same_difference (height_of v) 65536 v 0 (omega arith), ← pos-difference v, each l)

module _ (range : ℕ) (xs vals hs₀ fs₀ hs₁ fs₁ hs₂ fs₂ : List ℕ) where
  pub made_points : Ready xs vals range hs₀ fs₀ → hs₁ ≡ map height_of vals → fs₁ ≡ set (set (replicate (length fs₀) 0) 0 1) 1 1
      → points_of hs₂ fs₂ ≡ steps range xs vals 2 (length xs - 2) (points_of hs₁ fs₁) → points_of hs₂ fs₂ ≡ points range xs vals
  unfolding points
  made_points r eh ef es =
      let l : length fs₀ ≡ length vals = r.flagged ∙ sym r.values in
      es ∙ ap (λ (s : Points). steps range xs vals 2 (length xs - 2) s) (rw eh (begun_points vals fs₁ (rw l at ef)))

module _ (range : ℕ) (xs vals hs fs : List ℕ) where
  pub made_y : (y : List ℕ) → points_of hs fs ≡ points range xs vals → y ≡ map (clamped_height range) hs → y ≡ map (clamped range) (points range xs vals).ys
  made_y y e q = q ∙ each hs ∙ ap (λ (s : Points). map (clamped range) s.ys) e
    where
      each : (l : List ℕ) → map (clamped_height range) l ≡ map (clamped range) (map y_of l)
      each [] = refl
      each (h ∷ l) = ap (λ (t : List ℕ). clamped_height range h ∷ t) (each l)

  pub made_flags : points_of hs fs ≡ points range xs vals → fs ≡ (points range xs vals).flags
  made_flags e = ap (λ (s : Points). s.flags) e
