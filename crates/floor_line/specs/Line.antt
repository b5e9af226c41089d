-- The line rule (01, "Audio order" 3; 000 section 9.2.6, render_point): y0 plus or minus floor(|dy| * (x - x0) / (x1 - x0)).
-- Y values are integers, since they may be negative on the way. Assumes nothing: these are definitions.
use Rattle.std.specs.Prelude.{ℕ, ◌-◌, ◌*◌, ◌/◌, min, cond, ℤ, pos, nat_abs, ◌+ℤ◌, ◌-ℤ◌}
use Rattle.std.specs.Int.Signed.{lt_z}

-- floor(|dy| * (x - x0) / (x1 - x0)), for a rise or fall of |dy| from x0 to x1. Left of x0 it is 0, right of x1 it is |dy|: a line does not
-- go on past its ends. (A difference of numbers is never below 0 here, and a quotient by 0 is 0.)
unfoldable pub offset : ℕ → ℕ → ℕ → ℕ → ℕ
offset x0 x1 ady x = ady * (min x x1 - x0) / (x1 - x0)

-- the Y value at x on the line from (x0, y0) to (x1, y1)
unfoldable pub line : ℕ → ℤ → ℕ → ℤ → ℕ → ℤ
line x0 y0 x1 y1 x =
    cond (lt_z y1 y0) (y0 -ℤ pos (offset x0 x1 (nat_abs (y1 -ℤ y0)) x)) (y0 +ℤ pos (offset x0 x1 (nat_abs (y1 -ℤ y0)) x))
