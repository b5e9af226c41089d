-- Laws of drawing: a loop that draws places from the left, and what a line or the flat part is then. Assumes nothing.
use Prim.Native.Nat.{ℕ, zero, suc, ◌+◌, ◌*◌, ◌≤◌, ◌<◌, min, max}
use native.Mathlib.Nat.{eq-or-lt_of_le}
use native.Mathlib.Omega.{arith}
use mathlib.Core.List.{List}
use mathlib.Core.Logic.{◌⊎◌, ⊎_elim}
use mathlib.Core.Path.{◌≡◌, refl, sym, ap, ◌∙◌}
use lib.IntN.{pos}
use lib.ListN.{length, get_or, set, length-set}
use lib.Seq.{get_or-set_same, get_or-set_other, ext_get_or}
use Rattle.reading.proofs.Least.{lt_or_le}
use Rattle.floor_line.specs.Inner.LineHeight.{line_height}
use Rattle.floor_line.proofs.LineLaws.{line-pos, height_le}
use Rattle.floor_line.specs.Inner.RenderLine.{render_line}
use Rattle.floor_line.proofs.RenderLaws.{render_is_line}
use Rattle.floor_curve.specs.Curve.{natural, line_at, height_at, places}
use Rattle.floor_curve.specs.Inner.Drawing.{Drawn, Flat}

-- ---- heights are bytes
pub line_height_at : (x0 y0 x1 y1 x : ℕ) → line_at x0 y0 x1 y1 x ≡ line_height x0 y0 x1 y1 x
unfolding line_at natural
line_height_at x0 y0 x1 y1 x = ap natural (line-pos x0 y0 x1 y1 x)

pub line_made : (x0 y0 x1 y1 x r : ℕ) → r ≡ line_height x0 y0 x1 y1 x → r ≡ line_at x0 y0 x1 y1 x
line_made x0 y0 x1 y1 x r e = e ∙ sym (line_height_at x0 y0 x1 y1 x)

pub line_byte : (x0 y0 x1 y1 x r : ℕ) → r ≡ line_height x0 y0 x1 y1 x → y0 < 256 → y1 < 256 → r < 256
line_byte x0 y0 x1 y1 x r e p q = rw e (omega (arith, height_le x0 y0 x1 y1 x 255 (omega arith) (omega arith)))

pub height_made : (ys : List ℕ) (m j r : ℕ) → r ≡ min (get_or ys j 0 * m) 255 → r ≡ height_at ys m j
unfolding height_at
height_made ys m j r e = e

-- ---- a loop that draws
-- the places from `from` up to k hold f, and the others are as before
pub record DrawnSoFar (f : ℕ → ℕ) (from : ℕ) (before now : List ℕ) (k : ℕ) : Type 0 where
  pub long : length now ≡ length before
  pub since : from ≤ k
  pub on : (i : ℕ) → from ≤ i → i < k → i < length before → get_or now i 0 ≡ f i
  pub left : (i : ℕ) → i < from → get_or now i 0 ≡ get_or before i 0
  pub right : (i : ℕ) → k ≤ i → get_or now i 0 ≡ get_or before i 0

pub draw_begin : (f : ℕ → ℕ) (from : ℕ) (before : List ℕ) → DrawnSoFar f from before before from
draw_begin f from before = record { long = refl; since = omega arith; on = λ i a b c. absurd (omega arith); left = λ i a. refl; right = λ i a. refl }

module _ (f : ℕ → ℕ) (from : ℕ) (before now : List ℕ) where
  pub draw_turn : (k v : ℕ) → DrawnSoFar f from before now k → k < length before → v ≡ f k → DrawnSoFar f from before (set now k v) (k + 1)
  draw_turn k v w h e =
      record {
        long = length-set now k v ∙ w.long;
        since = omega (arith, w.since);
        on = λ i a b c. at i a c (eq-or-lt_of_le {n = i} {m = k} (omega arith));
        left = λ i a. get_or-set_other now k i v 0 (omega (arith, w.since)) ∙ w.left i a;
        right = λ i a. get_or-set_other now k i v 0 (omega arith) ∙ w.right i (omega arith);
      }
    where
      at : (i : ℕ) → from ≤ i → i < length before → (i ≡ k) ⊎ (i < k) → get_or (set now k v) i 0 ≡ f i
      at i a c q =
          ⊎_elim (λ (p : i ≡ k). rw p (get_or-set_same now k v 0 (omega (arith, w.long)) ∙ e)) (λ (p : i < k). get_or-set_other now k i v 0 (omega arith) ∙ w.on i a p c) q

drawn_rendered : (x0 y0 x1 y1 x : ℕ) → x0 ≤ x → x < x1 → pos (line_at x0 y0 x1 y1 x) ≡ render_line x0 (pos y0) x1 (pos y1) x
drawn_rendered x0 y0 x1 y1 x h l =
    ap pos (line_height_at x0 y0 x1 y1 x) ∙ sym (line-pos x0 y0 x1 y1 x) ∙ sym (render_is_line x0 x1 x (pos y0) (pos y1) h l)

pub drawn : (x0 y0 x1 y1 e k : ℕ) (before now : List ℕ) → DrawnSoFar (λ i. line_at x0 y0 x1 y1 i) x0 before now k → e ≡ min x1 (length before) → k ≤ max x0 e → e ≤ k → Drawn x0 y0 x1 y1 before now
drawn x0 y0 x1 y1 e k before now w q u h =
    record {
      long = w.long;
      on = λ i a b c. w.on i a (omega arith) c;
      rendered = λ i a b c. ap pos (w.on i a (omega arith) c) ∙ drawn_rendered x0 y0 x1 y1 i a b;
      left = w.left;
      right = λ i a. ⊎_elim (λ (p : i < x0). w.left i p) (λ (p : x0 ≤ i). w.right i (omega arith)) (lt_or_le i x0);
    }

pub flat : (x y k : ℕ) (before now : List ℕ) → DrawnSoFar (λ _. y) x before now k → length before ≤ k → Flat x y before now
flat x y k before now w h = record { long = w.long; on = λ i a b. w.on i a (omega arith) b; left = w.left }

-- ---- the places of a list
pub length-places : (f : ℕ → ℕ) (n i : ℕ) → length (places f i n) ≡ n
unfolding places
length-places f zero i = refl
length-places f (suc n) i = ap suc (length-places f n (suc i))

get_or_places : (f : ℕ → ℕ) (n i k : ℕ) → k < n → get_or (places f i n) k 0 ≡ f (i + k)
unfolding places
get_or_places f zero i k h = absurd (omega arith)
get_or_places f (suc n) i zero h = ap f (omega arith)
get_or_places f (suc n) i (suc k) h = get_or_places f n (suc i) k (omega arith) ∙ ap f (omega arith)

pub are_places : (f : ℕ → ℕ) (n : ℕ) (l : List ℕ) → length l ≡ n → ((k : ℕ) → k < n → get_or l k 0 ≡ f k) → l ≡ places f 0 n
are_places f n l e g =
    ext_get_or 0 l (places f 0 n) (e ∙ sym (length-places f n 0)) (λ k h. g k (omega arith) ∙ sym (get_or_places f n 0 k (omega arith) ∙ ap f (omega arith)))
