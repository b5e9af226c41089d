-- Laws of reading numbers of one width, of the numbers of a run, and of a power of two, as the code asks them. Assumes nothing.
use Rattle.std.specs.Prelude.{Result, Ok, Err}
use Rattle.std.specs.List.{list_any}
use Rattle.std.proofs.lemmas.Bool.Decides.{nat_tests}
use Prim.Native.Nat.{ℕ, ◌+◌, ◌-◌, ◌*◌, ◌^◌, ◌%◌, ◌≤◌, ◌<◌}
use native.Mathlib.Nat.{lt_of_lt_of_le, one-mul}
use native.Mathlib.Numerals.{add-one}
use native.Mathlib.Omega.{arith}
use borrow.Author.Rules.{rules}
use mathlib.Core.Bool.{Bool, true, false, not, ◌&&◌}
use mathlib.Core.List.{List, [], ◌∷◌}
use mathlib.Core.Path.{◌≡◌, refl, sym, ◌∙◌}
use lib.ListN.{length, get_or, set, take, drop, drop_of_length-le, length-drop}
use lib.Dec.{eqb}
use lib.Pow.{pow_mono, shl_exact}
use lib.Seq.{drop-cons, take_all}
use Rattle.reading.specs.Reader.{mapped, into1}
use Rattle.reading.specs.Inner.Table.{table, put_row}
use Rattle.reading.specs.Lists.{listed, distinct}
use Rattle.bits.specs.declared.Cursor.{Cursor}
use Rattle.bits.specs.declared.refusal.Refusal.{Refusal}
use Rattle.bits.specs.Inner.Cursors.{position, outcome, Wrote}
use Rattle.bits.specs.Field.{field}
use Rattle.bits.proofs.Answers.{value_is, refused_is, value_below}
use Rattle.bits.proofs.Steps.{wrote_refused, wrote_next}
use Rattle.numbers.specs.Inner.Cell.{cell}

module _ (w : ℕ) (s : List ℕ) (k : Cursor) {r : Result (ℕ × Cursor) Refusal} (p : outcome r ≡ field w s (position k)) where
  pub number_cut : (l : List ℕ) (at : ℕ) {z : Refusal} → r ≡ Err z → Wrote (into1 (put_row cell) (field w s (position k)) (table l at)) (Err z) (table l (at + 1))
  unfolding into1 mapped
  number_cut l at q = wrote_refused _ (rw (refused_is p q))

  module _ {v : ℕ} {k₁ : Cursor} (q : r ≡ Ok (v, k₁)) where
    pub number_fits : w ≤ 16 → v < 65536
    number_fits h = lt_of_lt_of_le (value_below w s (position k) p q) (pow_mono h)

    pub number_read : (l : List ℕ) (at : ℕ) (l' : List ℕ) → l' ≡ set l at v → Wrote (into1 (put_row cell) (field w s (position k)) (table l at)) (Ok k₁) (table l' (at + 1))
    unfolding into1 mapped put_row cell
    number_read l at l' f = wrote_next (rw (value_is p q, f))

pub ruleset number_laws = (rules, number_cut, number_fits, number_read)

-- a test of equality, turned
eqb_turned : (m n : ℕ) → eqb m n ≡ eqb n m
eqb_turned m n = grind (arith, nat_tests)

-- what the library's `contains` finds is listed
listed_found : (n : ℕ) (l : List ℕ) → list_any (λ x. eqb x n) l ≡ listed n l
unfolding listed
listed_found n [] = refl
listed_found n (x ∷ l) = rw (eqb_turned x n, listed_found n l)

-- a list, walked from place i on
module _ (l : List ℕ) (i : ℕ) where
  pub distinct_end : length l ≤ i → distinct (drop i l) ≡ true
  unfolding distinct
  distinct_end h = rw (drop_of_length-le l h)

  module _ (h : i < length l) {b : Bool} (q : b ≡ list_any (λ x. eqb x (get_or l i 0)) (take (length l - (i + 1)) (drop (i + 1) l))) where
    distinct_step : distinct (drop i l) ≡ (not b && distinct (drop (i + 1) l))
    unfolding distinct
    distinct_step =
        let n = length-drop (i + 1) l in
        let all : take (length l - (i + 1)) (drop (i + 1) l) ≡ drop (i + 1) l = take_all _ _ (omega arith) in
        rw (drop-cons l i 0 h, q, all, listed_found (get_or l i 0) (drop (i + 1) l), add-one)

    pub distinct_not : b ≡ true → distinct (drop i l) ≡ false
    distinct_not e = rw e at distinct_step

    pub distinct_later : b ≡ false → distinct (drop (i + 1) l) ≡ distinct (drop i l)
    distinct_later e = sym (rw e at distinct_step)

-- 1 << e in w bits, as the machine computes it
pub one_shifted : (w e : ℕ) → e < w → (1 * 2 ^ e) % 2 ^ w ≡ 2 ^ e
one_shifted w e h = shl_exact {a = 1} 1 e w (omega arith) (omega arith) ∙ one-mul (2 ^ e)
