-- How the program holds Y values, which may be negative: as heights, numbers counted from -65,536. Assumes nothing: these are definitions.
use Rattle.std.specs.Prelude.{ℕ, ◌+◌, ◌-◌, ◌/◌, ◌%◌, ◌≤◌, ◌<◌, cond, List, map, ◌≡◌, eqb, ℤ, length, get_or}
use Rattle.floor_line.specs.Inner.LineHeight.{difference}
use Rattle.floor_points.specs.FinalY.{Points, clamped}

-- the Y value of a height counted from -65,536. Every Y value on the way is greater, since a value read is below 65,536
abbrev pub y_of : ℕ → ℤ
y_of h = difference h 65536

-- a height moved by half a value: down where the value is odd, up where it is even (004, steps 24 to 26)
unfoldable pub moved_height : ℕ → ℕ → ℕ
moved_height h val = cond (eqb (val % 2) 1) (h - (val + 1) / 2) (h + val / 2)

-- the points that heights and flags stand for
abbrev pub points_of : List ℕ → List ℕ → Points
points_of heights flags = record { ys = map y_of heights; flags = flags }

-- every height is below 131,072: a Y value before clamping is more than -65,536 and less than 65,536, which is why no sum in the program wraps
pub record Bounded (heights : List ℕ) : Type 0 where
  pub bound : (k : ℕ) → get_or heights k 0 < 131072

-- lists that final Y is worked out in: as many places in each, and a range that a byte holds
pub record Ready (xs vals : List ℕ) (range : ℕ) (heights flags : List ℕ) : Type 0 where
  pub places : 2 ≤ length xs
  pub values : length vals ≡ length xs
  pub tall : length heights ≡ length xs
  pub flagged : length flags ≡ length xs
  pub some : 0 < range
  pub small : range ≤ 256

-- the height of a value as it was read
abbrev pub height_of : ℕ → ℕ
height_of v = 65536 + v

-- the final Y value of a height
abbrev pub clamped_height : ℕ → ℕ → ℕ
clamped_height range h = clamped range (y_of h)
