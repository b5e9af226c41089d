-- The tests of one book's parts, as the code asks them: one law for each way out of a function. Assumes nothing.
use Prim.Native.Nat.{ℕ, ◌+◌, ◌-◌, ◌*◌, ◌%◌, ◌^◌, ◌≤◌, ◌<◌}
use native.Mathlib.Nat.{one-mul}
use native.Mathlib.Omega.{arith}
use borrow.Author.Tests.{lt-ltb, le-leb, leb-true, eq-eqb, eqb-true}
use mathlib.Core.Bool.{Bool, true, ◌&&◌}
use mathlib.Core.List.{List, [], ◌∷◌}
use mathlib.Core.Logic.{◌↔◌}
use mathlib.Core.Path.{◌≡◌, refl, sym, ap, ◌∙◌}
use lib.Dec.{eqb, ltb, leb}
use lib.ListN.{length, get_or, take, drop, replicate, length-replicate, get_or-replicate}
use lib.Pow.{shl_exact, pow_pos}
use lib.Seq.{get_or-drop}
use Rattle.std.specs.List.{list_all}
use Rattle.reading.specs.Lists.{all}
use Rattle.limits.specs.declared.Limits.{Limits}
use Rattle.codeword_assignment.specs.Book.{Coded}
use Rattle.book.specs.Layout.{book_width}
use Rattle.book.specs.LookupReading.{value_count}
use Rattle.book.specs.Carried.{SomeLookup}
use Rattle.book.proofs.RuleLaws.{rule6_met, rule14_met, some_dimensions, some_entries, few_entries}
use Rattle.book_tables.specs.declared.row.Row.{Row}
use Rattle.book_tables.specs.Inner.Rules.{row_of, row_book, head_book, HeadRules, PlaceRules}
use Rattle.book_tables.proofs.Small.{all_each}

-- a row's numbers
pub number_at : (t : List ℕ) (i j : ℕ) {v : ℕ} → v ≡ get_or t (book_width * i + j) 0 → v ≡ get_or (drop (book_width * i) t) j 0
number_at t i j f = f ∙ sym (get_or-drop (book_width * i) t j 0)

pub row_made : (t : List ℕ) {a b c d e f g h i j l : ℕ} → a ≡ get_or t 0 0 → b ≡ get_or t 1 0 → c ≡ get_or t 2 0 → d ≡ get_or t 3 0 → e ≡ get_or t 4 0 → f ≡ get_or t 5 0
    → g ≡ get_or t 6 0 → h ≡ get_or t 7 0 → i ≡ get_or t 8 0 → j ≡ get_or t 9 0 → l ≡ get_or t 10 0
    → ◌≡◌ {A = Row} (record { dimensions = a; entries = b; first_entry = c; lookup = d; minimum = e; delta = f; width = g; sequence = h; count = i; first_value = j; lone = l }) (row_of t)
row_made t p₀ p₁ p₂ p₃ p₄ p₅ p₆ p₇ p₈ p₉ p₁₀ = rw (p₀, p₁, p₂, p₃, p₄, p₅, p₆, p₇, p₈, p₉, p₁₀)

-- so many zeros, and that they are below every bound
pub zeros_long : (n : ℕ) → length {A = ℕ} (replicate n 0) ≡ n
zeros_long n = length-replicate n 0

zeros_all : (f : ℕ → Bool) (n : ℕ) → f 0 ≡ true → all f (replicate n 0) ≡ true
zeros_all f n h = all_each f (replicate n 0) (λ i k. let l = zeros_long n in rw (get_or-replicate {A = ℕ} n i 0 0 (omega arith)) h)

pub zeros_fit : (n w : ℕ) → all (λ v. ltb v (2 ^ w)) (replicate n 0) ≡ true
zeros_fit n w = zeros_all (λ v. ltb v (2 ^ w)) n (lt-ltb 0 (2 ^ w) (pow_pos w))

-- the dimensions and the number of entries, as bounds
pub head_bounds : (limits : Limits) (entries : ℕ) (row : Row)
    → HeadRules limits entries row
    ↔ ((1 ≤ row.dimensions) × (row.dimensions < 65536) × (1 ≤ row.entries) × (row.entries < 16777216) × (row.entries ≤ limits.book_entries)
    × (entries + row.entries ≤ limits.entries))
head_bounds limits entries row = let b = head_book row in let n = zeros_long row.entries in (
  (λ r.
      let low = some_entries b r.rule6 in
      let high : length b.lengths < 16777216 = r.carried.entries in
      let few = few_entries b limits r.rule14 in
      (some_dimensions b r.rule6, r.carried.dimensions, omega arith, omega arith, omega arith, leb-true _ _ r.entries_all)),
  (λ h.
      record {
        carried = record {
          dimensions = h.1;
          entries = rw n h.3;
          lengths = zeros_all (λ l. leb l 32) row.entries refl;
          no_lookup_is = λ z. record { minimum = refl; delta = refl; width = refl; sequence = refl; multiplicands = refl };
          some_lookup_is = λ z. absurd (z refl);
        };
        rule6 = rule6_met b h.0 (rw n h.2) (omega arith);
        rule14 = rule14_met b limits (rw n h.4);
        entries_all = le-leb _ _ h.5;
      }),
)

-- the last of the tests, where the others hold
pub head_end : (limits : Limits) (entries : ℕ) (row : Row) → entries ≤ limits.entries
    → (1 ≤ row.dimensions) × (row.dimensions < 65536) × (1 ≤ row.entries) × (row.entries < 16777216) × (row.entries ≤ limits.book_entries)
    → (leb row.entries (limits.entries - entries) ≡ true) ↔ HeadRules limits entries row
head_end limits entries row within t = (
  (λ e. let h = leb-true row.entries (limits.entries - entries) e in (head_bounds limits entries row).1 (t.0, t.1, t.2, t.3, t.4, omega arith)),
  (λ r. let h = (head_bounds limits entries row).0 r in le-leb row.entries (limits.entries - entries) (omega arith)),
)

-- where its entries and multiplicands begin
module _ (limits : Limits) (entries values : ℕ) (row : Row) where
  pub place_within : PlaceRules limits entries values row → values + row.count ≤ limits.multiplicands
  place_within r = leb-true _ _ r.values_all

-- the lookup: none, or one with multiplicands, by its type
module _ (row : Row) where
  counts : value_count row.lookup (length {A = ℕ} (replicate row.entries 0)) row.dimensions ≡ value_count row.lookup row.entries row.dimensions
  counts = ap (λ (n : ℕ). value_count row.lookup n row.dimensions) (zeros_long row.entries)

  pub valued_bounds : row.minimum < 4294967296 → row.delta < 4294967296
      → SomeLookup (row_book row) ↔ ((1 ≤ row.width) × (row.width ≤ 16) × (row.sequence ≤ 1) × (row.count ≡ value_count row.lookup row.entries row.dimensions))
  valued_bounds a b = (
    (λ r. (r.width_low, r.width_high, r.sequence, sym (zeros_long row.count) ∙ r.count ∙ counts)),
    (λ h.
        record {
          minimum = a;
          delta = b;
          width_low = h.0;
          width_high = h.1;
          sequence = h.2;
          count = zeros_long row.count ∙ h.3 ∙ sym counts;
          fit = zeros_fit row.count row.width;
        }),
  )

-- a part of a table, as the code takes it
part : (t : List ℕ) (first count : ℕ) → take (first + count - first) (drop first t) ≡ take count (drop first t)
part t first count = let n : first + count - first ≡ count = omega arith in ap (λ (x : ℕ). take x (drop first t)) n

pub coded_part : (ls ws : List ℕ) (first count : ℕ) {r : Bool} → (r ≡ true) ↔ Coded (take (first + count - first) (drop first ls)) (take (first + count - first) (drop first ws))
    → (r ≡ true) ↔ Coded (take count (drop first ls)) (take count (drop first ws))
coded_part ls ws first count p = rw (part ls first count, part ws first count) at p

pub fit_part : (g : ℕ → Bool) (ms : List ℕ) (first count : ℕ) {r : Bool} → r ≡ all g (take (first + count - first) (drop first ms)) → r ≡ all g (take count (drop first ms))
fit_part g ms first count p = p ∙ ap (all g) (part ms first count)

-- the mark that a row names
pub marked : {m n k : ℕ} → n ≡ k → (eqb m n ≡ true) ↔ (m ≡ k)
marked {m} {n} {k} e = ((λ t. eqb-true m n t ∙ e), (λ f. eq-eqb m n (f ∙ sym e)))

-- multiplicands of so many bits
pub one_shifted : (e : ℕ) → e < 32 → (1 * 2 ^ e) % 2 ^ 32 ≡ 2 ^ e
one_shifted e h = shl_exact {a = 1} 1 e 32 (omega arith) (omega arith) ∙ one-mul (2 ^ e)

-- the library's test of every number
pub list_all-all : (f : ℕ → Bool) (l : List ℕ) → list_all f l ≡ all f l
unfolding all
list_all-all f [] = refl
list_all-all f (x ∷ l) = ap (λ (b : Bool). f x && b) (list_all-all f l)
