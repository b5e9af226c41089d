-- THE TABLE OF FIGURES, by one computed test over all lines. A line about lengths speaks of the ledger, which cannot be computed: its test is by the model,
-- whose answers are the ledger's. Assumes nothing.
use Prim.Native.Nat.{ℕ, ◌-◌}
use native.Mathlib.Omega.{arith}
use borrow.Author.Tests.{eqb-true}
use mathlib.Core.Bool.{Bool, true, false, ◌&&◌}
use mathlib.Core.List.{List, [], ◌∷◌, map}
use mathlib.Core.Option.{Option}
use mathlib.Core.Path.{◌≡◌, refl, ap, ◌∙◌}
use lib.Dec.{eqb}
use lib.IntN.{ℤ, pos, negsuc}
use lib.ListN.{length}
use Rattle.reading.specs.Least.{lowest}
use Rattle.reading.proofs.Least.{and_split}
use Rattle.codespace.specs.Ledger.{is_length, answers}
use Rattle.codespace.specs.Claims.{accepted}
use Rattle.codespace.specs.Inner.Blocks.{smallest, block_above, block_for, enter_answer, enter_blocks, run_answers, empty_blocks}
use Rattle.codeword_assignment.specs.Book.{used, is_used, is_lone, or_zero, refusal}
use Rattle.codespace.proofs.Whole.{answers_are}
use Rattle.codeword_assignment.proofs.Computed.{verdict_by, verdict_is, codewords_are, free_is}
use Rattle.floor_line.specs.Line.{offset, line}
use Rattle.floor_line.specs.Search.{searched}
use Rattle.floor_line.specs.Neighbours.{takes_low, takes_high, low_neighbour, high_neighbour}
use Rattle.floor_points.specs.FinalY as F
use Rattle.floor_curve.specs.Curve.{takes_left, takes_right, last_at, next_after, height_at, natural, line_at, between, curve_at}
use Rattle.audio.specs.Tally.{finished}
use Rattle.figures.specs.Figures.{Figure, lengths, room, final, point, on_curve, samples, Holds, Every, table, Figures}

-- equal lists, and an integer that is this number
same : List ℕ → List ℕ → Bool
same [] [] = true
same [] (y ∷ ys) = false
same (x ∷ xs) [] = false
same (x ∷ xs) (y ∷ ys) = eqb x y && same xs ys

same_is : (xs ys : List ℕ) → same xs ys ≡ true → xs ≡ ys
unfolding same
same_is [] [] t = refl
same_is [] (y ∷ ys) t = let z : ◌≡◌ {A = ℕ} 0 1 = cc in absurd (omega arith)
same_is (x ∷ xs) [] t = let z : ◌≡◌ {A = ℕ} 0 1 = cc in absurd (omega arith)
same_is (x ∷ xs) (y ∷ ys) t =
    let p = and_split (eqb x y) (same xs ys) t in
    rw (eqb-true x y p.0, same_is xs ys p.1)

is_number : ℤ → ℕ → Bool
is_number (pos n) y = eqb n y
is_number (negsuc n) y = false

number_is : (i : ℤ) (y : ℕ) → is_number i y ≡ true → i ≡ pos y
unfolding is_number
number_is (pos n) y t = ap pos (eqb-true n y t)
number_is (negsuc n) y t = let z : ◌≡◌ {A = ℕ} 0 1 = cc in absurd (omega arith)

-- lengths, by the answers to them
lengths_test : List ℕ → List (Option ℕ) → ℕ → List ℕ → ℕ → Bool
lengths_test ls os number codewords free =
    eqb (refusal (verdict_by ls os)) number && (same (map or_zero os) codewords && eqb (4294967296 - accepted ls os) free)

lengths_hold : (ls : List ℕ) (number : ℕ) (codewords : List ℕ) (free : ℕ) → lengths_test ls (answers [] ls) number codewords free ≡ true → Holds (lengths ls number codewords free)
unfolding lengths_test
lengths_hold ls number codewords free t =
    let os = answers [] ls in
    let a = eqb (refusal (verdict_by ls os)) number in
    let b = same (map or_zero os) codewords in
    let c = eqb (4294967296 - accepted ls os) free in
    let p = and_split a (b && c) t in
    let q = and_split b c p.1 in
    (ap refusal (verdict_is ls) ∙ eqb-true _ _ p.0, codewords_are ls ∙ same_is _ _ q.0, free_is ls ∙ eqb-true _ _ q.1)

-- a line's test
test : Figure → Bool
test (lengths ls number codewords free) = lengths_test ls (run_answers empty_blocks ls) number codewords free
test (room range predicted value y) = is_number (F.unwrapped range (pos predicted) value) y
test (final xs vals m ys flags) = same (F.final_ys xs vals m (length xs) (length xs)).final_y ys && same (F.final_ys xs vals m (length xs) (length xs)).flags flags
test (point x0 y0 x1 y1 x y) = is_number (line x0 (pos y0) x1 (pos y1) x) y
test (on_curve xs ys flags m x y) = eqb (curve_at xs ys flags m x) y
test (samples before n finishes) = eqb (finished (record { blocksize = before; samples = 0 }) n) finishes

test_holds : (f : Figure) → test f ≡ true → Holds f
unfolding test
test_holds (lengths ls number codewords free) t = lengths_hold ls number codewords free (rw (answers_are ls) at t)
test_holds (room range predicted value y) t = number_is _ y t
test_holds (final xs vals m ys flags) t =
    let e = F.final_ys xs vals m (length xs) (length xs) in
    let p = and_split (same e.final_y ys) (same e.flags flags) t in
    (same_is _ ys p.0, same_is _ flags p.1)
test_holds (point x0 y0 x1 y1 x y) t = number_is _ y t
test_holds (on_curve xs ys flags m x y) t = eqb-true _ y t
test_holds (samples before n finishes) t = eqb-true _ finishes t

tests : List Figure → Bool
tests [] = true
tests (f ∷ fs) = test f && tests fs

tests_hold : (fs : List Figure) → tests fs ≡ true → Every fs
unfolding tests
tests_hold [] t = tt
tests_hold (f ∷ fs) t = let p = and_split (test f) (tests fs) t in (test_holds f p.0, tests_hold fs p.1)

pub figures : Figures
figures =
    tests_hold table
    (unfold tests test same is_number lengths_test lowest is_used is_lone used accepted run_answers enter_answer enter_blocks block_for is_length block_above smallest empty_blocks
    offset line searched F.range_of takes_low takes_high low_neighbour high_neighbour F.predicted F.room F.unwrapped F.flagged F.step F.steps F.begun F.points
    F.clamped F.fitting F.final_ys takes_left takes_right last_at next_after height_at natural line_at between curve_at finished in refl)
