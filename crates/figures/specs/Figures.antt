-- 01, "FIGURES TO CHECK AGAINST": the lines marked P, as one table with a single claim over it. Each is about the definitions that the public calls are
-- proved to equal.
use Rattle.std.specs.Prelude.{ℕ, zero, suc, ◌-◌, ◌^◌, List, [], ◌∷◌, ◌++◌, map, ◌≡◌, pos, length}
use Rattle.codeword_assignment.specs.Book.{verdict, refusal, ledger_codewords, free_after}
use Rattle.floor_line.specs.Line.{line}
use Rattle.floor_points.specs.FinalY.{unwrapped, final_ys}
use Rattle.floor_curve.specs.Curve.{curve_at}
use Rattle.audio.specs.Tally.{finished}

pub data Figure : Type 0 where
  -- a book's lengths have this number of a refusal, 0 where they are taken, these codewords, and so many strings are free
  lengths : (ls : List ℕ) (number : ℕ) (codewords : List ℕ) (free : ℕ) → Figure
  -- a range, a predicted Y value and the value read give a Y value
  room : (range predicted value y : ℕ) → Figure
  -- an X list, the values read and a multiplier give final Y values and flags
  final : (xs vals : List ℕ) (m : ℕ) (ys flags : List ℕ) → Figure
  -- the line from (x0, y0) to (x1, y1) is at y at x
  point : (x0 y0 x1 y1 x y : ℕ) → Figure
  -- the curve through these points is at y at x
  on_curve : (xs ys flags : List ℕ) (m x y : ℕ) → Figure
  -- after a block of one size, one of another finishes so many samples
  samples : (before n finishes : ℕ) → Figure

-- the definitions say what the figure says
abbrev pub Holds : Figure → Type 0
Holds (lengths ls number codewords free) = (refusal (verdict ls) ≡ number) × (ledger_codewords ls ≡ codewords) × (free_after ls ≡ free)
Holds (room range predicted value y) = unwrapped range (pos predicted) value ≡ pos y
Holds (final xs vals m ys flags) =
    ((final_ys xs vals m (length xs) (length xs)).final_y ≡ ys) × ((final_ys xs vals m (length xs) (length xs)).flags ≡ flags)
Holds (point x0 y0 x1 y1 x y) = line x0 (pos y0) x1 (pos y1) x ≡ pos y
Holds (on_curve xs ys flags m x y) = curve_at xs ys flags m x ≡ y
Holds (samples before n finishes) = finished (record { blocksize = before; samples = 0 }) n ≡ finishes

-- 1, 2, .., n, and then ls
abbrev pub up_to : ℕ → List ℕ → List ℕ
up_to zero ls = ls
up_to (suc n) ls = up_to n (suc n ∷ ls)

-- the eight lengths of 002, their first seven, and their codewords
abbrev pub seven : List ℕ
seven = 2 ∷ 4 ∷ 4 ∷ 4 ∷ 4 ∷ 2 ∷ 3 ∷ []

abbrev pub seven_codewords : List ℕ
seven_codewords = 0b00 ∷ 0b0100 ∷ 0b0101 ∷ 0b0110 ∷ 0b0111 ∷ 0b10 ∷ 0b110 ∷ []

abbrev pub eight : List ℕ
eight = seven ++ (3 ∷ [])

abbrev pub eight_codewords : List ℕ
eight_codewords = seven_codewords ++ (0b111 ∷ [])

-- those and one more of a length, which has no codeword
abbrev pub one_more : ℕ → Figure
one_more len = lengths (eight ++ (len ∷ [])) 7 (eight_codewords ++ (0 ∷ [])) 0

-- the floor of 004: X, the values read, final Y. The point at 96 was read as 0, and is flagged as a neighbour of those at 80 and 112
abbrev pub xs004 : List ℕ
xs004 = 0 ∷ 128 ∷ 64 ∷ 32 ∷ 96 ∷ 16 ∷ 48 ∷ 80 ∷ 112 ∷ []

abbrev pub read004 : List ℕ
read004 = 110 ∷ 20 ∷ 9 ∷ 89 ∷ 0 ∷ 49 ∷ 19 ∷ 60 ∷ 19 ∷ []

abbrev pub final004 : List ℕ
final004 = 110 ∷ 20 ∷ 60 ∷ 40 ∷ 40 ∷ 50 ∷ 40 ∷ 80 ∷ 20 ∷ []

abbrev pub flags004 : List ℕ
flags004 = 1 ∷ 1 ∷ 1 ∷ 1 ∷ 1 ∷ 1 ∷ 1 ∷ 1 ∷ 1 ∷ []

-- THE TABLE, line by line as 01 has them.
abbrev pub table : List Figure
table =
    lengths eight 0 eight_codewords 0
    ∷ lengths seven 8 seven_codewords 536_870_912
    ∷ map one_more (up_to 32 [])
    ++ (lengths (2 ∷ 1 ∷ 2 ∷ []) 0 (0b00 ∷ 0b1 ∷ 0b01 ∷ []) 0
    ∷ lengths (1 ∷ 2 ∷ []) 8 (0b0 ∷ 0b10 ∷ []) 1_073_741_824
    ∷ lengths (1 ∷ []) 0 (0b0 ∷ []) 2_147_483_648
    ∷ lengths (2 ∷ []) 8 (0b00 ∷ []) 3_221_225_472
    -- 1, 2, .., 31, 32, 32: 0, 10, 110, ..; each codeword is all ones but its last bit, and the last is all ones
    ∷ lengths (up_to 32 (32 ∷ [])) 0 (map (λ (len : ℕ). 2 ^ len - 2) (up_to 32 []) ++ (4_294_967_295 ∷ [])) 0
    ∷ room 256 100 3 98
    ∷ room 256 100 4 102
    ∷ room 256 100 199 0
    ∷ room 256 100 200 200
    ∷ room 256 200 111 144
    ∷ room 256 200 112 143
    ∷ final xs004 read004 1 final004 flags004
    ∷ point 0 110 16 50 1 107
    ∷ point 0 110 16 50 15 54
    -- the same two points on that floor's curve, and one past the last point
    ∷ on_curve xs004 final004 flags004 1 1 107
    ∷ on_curve xs004 final004 flags004 1 15 54
    ∷ on_curve xs004 final004 flags004 1 200 20
    ∷ samples 256 2048 576
    ∷ [])

abbrev pub Every : List Figure → Type 0
Every [] = Unit {0}
Every (f ∷ fs) = Holds f × Every fs

-- THE CLAIM
abbrev pub Figures : Type 0
Figures = Every table
