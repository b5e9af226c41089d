-- Laws of the window's points as the code asks them. Assumes nothing.
use Prim.Native.Nat.{ℕ, ◌+◌, ◌-◌, ◌*◌, ◌/◌}
use mathlib.Core.Bool.{Bool, true, false, cond}
use mathlib.Core.Path.{◌≡◌}
use Rattle.audio.specs.declared.Head.{Head}
use Rattle.audio.specs.Head.{laps_short, window}

-- a number chosen by a test
pub chosen_first : {t : Bool} {x r : ℕ} (y : ℕ) → t ≡ true → r ≡ x → r ≡ cond t x y
chosen_first y e p = rw e p

pub chosen_second : {t : Bool} {y r : ℕ} (x : ℕ) → t ≡ false → r ≡ y → r ≡ cond t x y
chosen_second x e p = rw e p

-- the four points, each chosen by its side's test
pub window_is : (short : ℕ) (h : Head) {left right : Bool} → left ≡ laps_short h h.previous → right ≡ laps_short h h.next
    → {a : ℕ} → a ≡ cond left (h.blocksize / 4 - short / 4) 0
    → {b : ℕ} → b ≡ cond left (h.blocksize / 4 + short / 4) (h.blocksize / 2)
    → {c : ℕ} → c ≡ cond right (h.blocksize * 3 / 4 - short / 4) (h.blocksize / 2)
    → {d : ℕ} → d ≡ cond right (h.blocksize * 3 / 4 + short / 4) h.blocksize
    → record { left_start = a; left_end = b; right_start = c; right_end = d } ≡ window short h
unfolding window
window_is short h l r a b c d = rw (a, b, c, d, l, r)
