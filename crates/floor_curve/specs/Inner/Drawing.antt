-- What a call that draws a part of the curve leaves. Assumes nothing.
use Rattle.std.specs.Prelude.{ℕ, ◌≤◌, ◌<◌, List, ◌≡◌, pos, length, get_or}
use Rattle.floor_line.specs.Inner.RenderLine.{render_line}
use Rattle.floor_curve.specs.Curve.{line_at}

-- the line from (x0, y0) up to, and without, (x1, y1) is drawn, as far as there are places; the other places are as before
pub record Drawn (x0 y0 x1 y1 : ℕ) (before after : List ℕ) : Type 0 where
  pub long : length after ≡ length before
  pub on : (k : ℕ) → x0 ≤ k → k < x1 → k < length before → get_or after k 0 ≡ line_at x0 y0 x1 y1 k
  -- the running error of 000 section 9.2.7 draws the same
  pub rendered : (k : ℕ) → x0 ≤ k → k < x1 → k < length before → pos (get_or after k 0) ≡ render_line x0 (pos y0) x1 (pos y1) k
  pub left : (k : ℕ) → k < x0 → get_or after k 0 ≡ get_or before k 0
  pub right : (k : ℕ) → x1 ≤ k → get_or after k 0 ≡ get_or before k 0

-- every place from x on holds y
pub record Flat (x y : ℕ) (before after : List ℕ) : Type 0 where
  pub long : length after ≡ length before
  pub on : (k : ℕ) → x ≤ k → k < length before → get_or after k 0 ≡ y
  pub left : (k : ℕ) → k < x → get_or after k 0 ≡ get_or before k 0

-- the points of a floor: as many X, Y and flags, of which the first X is 0
pub record Points (xs ys flags : List ℕ) : Type 0 where
  pub some : 0 < length xs
  pub begins : get_or xs 0 0 ≡ 0
  pub heights : length ys ≡ length xs
  pub flagged : length flags ≡ length xs
