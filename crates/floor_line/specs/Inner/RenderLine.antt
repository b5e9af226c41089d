-- The line as 000 section 9.2.7 draws it, by a running error. The numbers in comments are that section's steps. Assumes nothing: these are
-- definitions.
use Rattle.std.specs.Prelude.{ℕ, zero, suc, ◌+◌, ◌-◌, ◌*◌, cond, leb, ℤ, pos, nat_abs, ◌+ℤ◌, ◌-ℤ◌}
use Rattle.std.specs.Int.Signed.{lt_z, quot_z}

-- 5 to 7: where the drawing stands, a Y value and the error
pub record State : Type 0 where
  pub y : ℤ
  pub err : ℕ

-- 14 to 18: one place further right
unfoldable pub next_state : ℤ → ℤ → ℕ → ℕ → State → State
next_state base sy ady adx p =
    cond (leb adx (p.err + ady)) (record { y = p.y +ℤ sy; err = p.err + ady - adx }) (record { y = p.y +ℤ base; err = p.err + ady })

-- 13: n places further right
unfoldable pub state_after : ℤ → ℤ → ℤ → ℕ → ℕ → ℕ → State
state_after y0 base sy ady adx zero = record { y = y0; err = 0 }
state_after y0 base sy ady adx (suc n) = next_state base sy ady adx (state_after y0 base sy ady adx n)

-- 4, the quotient rounded toward zero; 8 to 10; 11
unfoldable pub base_of : ℤ → ℕ → ℤ
base_of dy adx = quot_z dy (pos adx)

unfoldable pub sy_of : ℤ → ℕ → ℤ
sy_of dy adx = cond (lt_z dy (pos 0)) (base_of dy adx -ℤ pos 1) (base_of dy adx +ℤ pos 1)

unfoldable pub ady_of : ℤ → ℕ → ℕ
ady_of dy adx = nat_abs dy - nat_abs (base_of dy adx) * adx

-- element x of the vector, for x0 ≤ x < x1
unfoldable pub render_line : ℕ → ℤ → ℕ → ℤ → ℕ → ℤ
render_line x0 y0 x1 y1 x = (state_after y0 (base_of (y1 -ℤ y0) (x1 - x0)) (sy_of (y1 -ℤ y0) (x1 - x0)) (ady_of (y1 -ℤ y0) (x1 - x0)) (x1 - x0) (x - x0)).y
