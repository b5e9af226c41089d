-- The floor curve (01, "Audio order" 3; 004, "curve computation", step 2): it joins the flagged points in order of X, Y times the multiplier, by
-- the line rule; past the last point it is flat. It is given place by place: the curve at x is the line from the last flagged point at or left of x to
-- the next one right of x. Assumes nothing: these are definitions.
use Rattle.std.specs.Prelude.{ℕ, zero, suc, ◌*◌, ◌≤◌, ◌<◌, min, Bool, true, false, not, ◌&&◌, cond, List, [], ◌∷◌, ◌≡◌, eqb, leb, ltb, ℤ, pos, negsuc, length, get_or, replicate}
use Rattle.floor_line.specs.Line.{line}
use Rattle.floor_line.specs.Search.{searched}

-- a flag is set where it is not 0
abbrev pub is_set : List ℕ → ℕ → Bool
is_set flags j = not (eqb (get_or flags j 0) 0)

-- the X of a place; past the list 65,536, which is above every X
abbrev pub x_or : List ℕ → ℕ → ℕ
x_or xs j = get_or xs j 65536

-- place j is flagged, lies at or left of x, and right of the place held
unfoldable pub takes_left : List ℕ → List ℕ → ℕ → ℕ → ℕ → Bool
takes_left xs flags x j best = is_set flags j && (leb (get_or xs j 0) x && ltb (get_or xs best 0) (get_or xs j 0))

-- place j is flagged, lies right of x, and left of the place held
unfoldable pub takes_right : List ℕ → List ℕ → ℕ → ℕ → ℕ → Bool
takes_right xs flags x j best = is_set flags j && (ltb x (x_or xs j) && ltb (x_or xs j) (x_or xs best))

-- the last flagged point at or left of x. Place 0 lies at X 0, where the curve begins, whether flagged or not (004, step 3)
unfoldable pub last_at : List ℕ → List ℕ → ℕ → ℕ
last_at xs flags x = searched (takes_left xs flags x) 0 0 (length xs)

-- the next flagged point right of x; the list's length where there is none
unfoldable pub next_after : List ℕ → List ℕ → ℕ → ℕ
next_after xs flags x = searched (takes_right xs flags x) (length xs) 0 (length xs)

-- the two points in words: at or left of x, with no flagged one between; flagged and right of x, with no flagged one between, or none right of x
pub record IsLast (xs flags : List ℕ) (x r : ℕ) : Type 0 where
  pub left : get_or xs r 0 ≤ x
  pub last : (j : ℕ) → j < length xs → (get_or flags j 0 ≡ 0 → ⊥) → get_or xs j 0 ≤ x → get_or xs j 0 ≤ get_or xs r 0

pub record IsNext (xs flags : List ℕ) (x r : ℕ) : Type 0 where
  pub flag : r < length xs → get_or flags r 0 ≡ 0 → ⊥
  pub right : r < length xs → x < x_or xs r
  pub next : (j : ℕ) → j < length xs → (get_or flags j 0 ≡ 0 → ⊥) → x < get_or xs j 0 → x_or xs r ≤ get_or xs j 0

-- the height of a point: Y times the multiplier. A clamped Y times its multiplier is below 256; other numbers end at 255
unfoldable pub height_at : List ℕ → ℕ → ℕ → ℕ
height_at ys m j = min (get_or ys j 0 * m) 255

-- an integer that is not negative, as a number
unfoldable pub natural : ℤ → ℕ
natural (pos n) = n
natural (negsuc n) = 0

-- the line rule between two heights
unfoldable pub line_at : ℕ → ℕ → ℕ → ℕ → ℕ → ℕ
line_at x0 y0 x1 y1 x = natural (line x0 (pos y0) x1 (pos y1) x)

-- the curve between place l and place r of the list, flat where r is past the list
unfoldable pub between : List ℕ → List ℕ → ℕ → ℕ → ℕ → ℕ → ℕ
between xs ys m x l r = cond (ltb r (length xs)) (line_at (get_or xs l 0) (height_at ys m l) (get_or xs r 0) (height_at ys m r) x) (height_at ys m l)

-- the curve at x
unfoldable pub curve_at : List ℕ → List ℕ → List ℕ → ℕ → ℕ → ℕ
curve_at xs ys flags m x = between xs ys m x (last_at xs flags x) (next_after xs flags x)

-- every value of the curve lies between 0 and 255 (01)
pub record Bytes (f : ℕ → ℕ) : Type 0 where
  pub byte : (x : ℕ) → f x ≤ 255

-- f i, f (i + 1), .. : n of them
unfoldable pub places : (ℕ → ℕ) → ℕ → ℕ → List ℕ
places f i zero = []
places f i (suc n) = f i ∷ places f (suc i) n

-- lists of as many X, Y and flags, of which the first X is 0
unfoldable pub fitting : List ℕ → ℕ → ℕ → Bool
fitting xs places_y places_flags = ltb 0 (length xs) && (eqb (get_or xs 0 0) 0 && (eqb places_y (length xs) && eqb places_flags (length xs)))

-- what drawing leaves: whether the lists fit each other, and the curve, or zeros
pub record Left : Type 0 where
  pub fit : Bool
  pub out : List ℕ

abbrev pub left : Bool → List ℕ → Left
left fit out = record { fit = fit; out = out }

-- the curve's first n places, where the lists fit each other; else zeros
unfoldable pub curve : List ℕ → List ℕ → List ℕ → ℕ → ℕ → Left
curve xs ys flags m n =
    cond (fitting xs (length ys) (length flags)) (left true (places (curve_at xs ys flags m) 0 n)) (left false (replicate n 0))
