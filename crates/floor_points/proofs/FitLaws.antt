-- Laws of lists that fit each other, and of what final Y leaves. Assumes nothing.
use Prim.Native.Nat.{ℕ, zero, suc, ◌-◌, ◌*◌, ◌≤◌, ◌<◌}
use native.Mathlib.Nat.{mul-zero, zero-mul}
use native.Mathlib.Omega.{arith}
use mathlib.Core.Bool.{Bool, true, false}
use mathlib.Core.List.{List, [], ◌∷◌, map}
use mathlib.Core.Path.{◌≡◌, refl, sym, ap, ◌∙◌}
use lib.Dec.{ltb, eqb}
use lib.IntN.{ℤ, pos, negsuc}
use lib.ListN.{length, get_or, replicate, take}
use lib.Seq.{length-take-le}
use borrow.Author.Tests.{ne_eqb, ltb-true, eqb-true}
use Rattle.reading.proofs.Least.{and_split}
use Rattle.floor_points.specs.FinalY.{range_of, fitting, Left, left, final_ys, clamped, points, Multiplies}
use Rattle.floor_points.specs.Inner.Heights.{Ready}

-- ---- ranges
pub range_1 : (m : ℕ) → m ≡ 1 → 256 ≡ range_of m
unfolding range_of
range_1 m e = rw e

pub range_2 : (m : ℕ) → m ≡ 2 → 128 ≡ range_of m
unfolding range_of
range_2 m e = rw e

pub range_3 : (m : ℕ) → m ≡ 3 → 86 ≡ range_of m
unfolding range_of
range_3 m e = rw e

pub range_4 : (m : ℕ) → m ≡ 4 → 64 ≡ range_of m
unfolding range_of
range_4 m e = rw e

pub range_none : (m : ℕ) → (m ≡ 1 → ⊥) → (m ≡ 2 → ⊥) → (m ≡ 3 → ⊥) → (m ≡ 4 → ⊥) → 0 ≡ range_of m
unfolding range_of
range_none m a b c d = rw (ne_eqb m 1 a, ne_eqb m 2 b, ne_eqb m 3 c, ne_eqb m 4 d)

-- what holds where the test does
pub record Fit (x m v y f : ℕ) : Type 0 where
  pub some : 1 < x
  pub few : x < 66
  pub range : 0 < range_of m
  pub values : v ≡ x
  pub ys : y ≡ x
  pub flags : f ≡ x

pub fit : (x m v y f : ℕ) → fitting x m v y f ≡ true → Fit x m v y f
unfolding fitting
fit x m v y f e =
    let p1 = and_split (ltb 1 x) _ e in
    let p2 = and_split (ltb x 66) _ p1.1 in
    let p3 = and_split (ltb 0 (range_of m)) _ p2.1 in
    let p4 = and_split (eqb v x) _ p3.1 in
    let p5 = and_split (eqb y x) _ p4.1 in
    record { some = ltb-true 1 x p1.0; few = ltb-true x 66 p2.0; range = ltb-true 0 (range_of m) p3.0; values = eqb-true v x p4.0; ys = eqb-true y x p5.0; flags = eqb-true f x p5.1 }

-- ---- what final Y leaves
module _ (xs vals : List ℕ) (m y f : ℕ) where
  pub left-fitting : fitting (length xs) m (length vals) y f ≡ true
      → final_ys xs vals m y f ≡ left true (map (clamped (range_of m)) (points (range_of m) xs vals).ys) (points (range_of m) xs vals).flags
  unfolding final_ys
  left-fitting e = rw e

  pub left_refused : fitting (length xs) m (length vals) y f ≡ false → final_ys xs vals m y f ≡ left false (replicate y 0) (replicate f 0)
  unfolding final_ys
  left_refused e = rw e

pub refused : {y f y' f' : List ℕ} → y ≡ y' → f ≡ f' → left false y f ≡ left false y' f'
refused {y} {f} {y'} {f'} p q = ap (λ (l : List ℕ). left false l f) p ∙ ap (λ (l : List ℕ). left false y' l) q

-- ---- as the program asks them
-- the heights lent: the first places of 65 zeros
pub prefix_length : (n : ℕ) → n ≤ 65 → n ≡ length {A = ℕ} (take n (replicate 65 0))
prefix_length n h = sym (length-take-le n (replicate 65 0) h)

module _ (xs vals ys fs : List ℕ) (m range : ℕ) where
  pub ready : Fit (length xs) m (length vals) (length ys) (length fs) → range ≡ range_of m → range ≤ 256 → Ready xs vals range (take (length xs) (replicate 65 0)) fs
  ready w e h =
      record { places = w.some; values = w.values; tall = sym (prefix_length (length xs) (omega (arith, w.few))); flagged = w.flags; some = rw e w.range; small = h }

  pub all_left : (t : Bool) (y' f' : List ℕ) → t ≡ fitting (length xs) m (length vals) (length ys) (length fs) → t ≡ true → range ≡ range_of m
      → y' ≡ map (clamped range) (points range xs vals).ys → f' ≡ (points range xs vals).flags → left true y' f' ≡ final_ys xs vals m (length ys) (length fs)
  all_left t y' f' e h r p q = rw (p, q, r) (sym (left-fitting xs vals m (length ys) (length fs) (sym e ∙ h)))

  pub none_left : (t r : Bool) (y' f' : List ℕ) → t ≡ fitting (length xs) m (length vals) (length ys) (length fs) → t ≡ false
      → left r y' f' ≡ left false (replicate (length ys) 0) (replicate (length fs) 0) → left r y' f' ≡ final_ys xs vals m (length ys) (length fs)
  none_left t r y' f' e h q = q ∙ sym (left_refused xs vals m (length ys) (length fs) (sym e ∙ h))

-- ---- a clamped Y value times its multiplier is a byte
clamped_le : (range : ℕ) (y : ℤ) → clamped range y ≤ range - 1
unfolding clamped
clamped_le range (pos n) = omega arith
clamped_le range (negsuc n) = omega arith

times : (m n : ℕ) → 0 < range_of m → n ≤ range_of m - 1 → n * m ≤ 255
times zero n r h = rw mul-zero (omega arith)
times (suc zero) n r h = omega (arith, range_1 1 refl)
times (suc (suc zero)) n r h = omega (arith, range_2 2 refl)
times (suc (suc (suc zero))) n r h = omega (arith, range_3 3 refl)
times (suc (suc (suc (suc zero)))) n r h = omega (arith, range_4 4 refl)
times (suc (suc (suc (suc (suc m))))) n r h =
    absurd (omega (arith, range_none (suc (suc (suc (suc (suc m))))) (omega arith) (omega arith) (omega arith) (omega arith)))

each_times : (m : ℕ) → 0 < range_of m → (ys : List ℤ) (k : ℕ) → get_or (map (clamped (range_of m)) ys) k 0 * m ≤ 255
each_times m r [] k = rw zero-mul (omega arith)
each_times m r (y ∷ ys) zero = times m (clamped (range_of m) y) r (clamped_le (range_of m) y)
each_times m r (y ∷ ys) (suc k) = each_times m r ys k

none_times : (m n k : ℕ) → get_or {A = ℕ} (replicate n 0) k 0 * m ≤ 255
none_times m zero k = rw zero-mul (omega arith)
none_times m (suc n) zero = rw zero-mul (omega arith)
none_times m (suc n) (suc k) = none_times m n k

final_times : (xs vals : List ℕ) (m y f : ℕ) → Multiplies m (final_ys xs vals m y f).final_y
final_times xs vals m y f = go (fitting (length xs) m (length vals) y f) refl
  where
    go : (t : Bool) → fitting (length xs) m (length vals) y f ≡ t → Multiplies m (final_ys xs vals m y f).final_y
    go true e =
        rw (left-fitting xs vals m y f e) (record { byte = each_times m (fit (length xs) m (length vals) y f e).range (points (range_of m) xs vals).ys })
    go false e = rw (left_refused xs vals m y f e) (record { byte = none_times m y })

pub left_times : (xs vals : List ℕ) (m y f : ℕ) (t : Bool) (y' f' : List ℕ) → left t y' f' ≡ final_ys xs vals m y f → Multiplies m y'
left_times xs vals m y f t y' f' e = let q : y' ≡ (final_ys xs vals m y f).final_y = ap (λ (l : Left). l.final_y) e in rw q (final_times xs vals m y f)
