-- The test of the table of counts, as the code asks it. Assumes nothing.
use Prim.Native.Nat.{ℕ, ◌≤◌, ◌<◌}
use native.Mathlib.Omega.{arith}
use mathlib.Core.Bool.{Bool, true, false, not}
use mathlib.Core.List.{List}
use mathlib.Core.Logic.{◌↔◌}
use mathlib.Core.Path.{◌≡◌}
use lib.ListN.{get_or, drop}
use Rattle.reading.specs.Encoding.{Zeros}
use Rattle.reading.specs.Counted.{Counted}
use Rattle.reading.proofs.Encodes.{iff_false, iff_true, refuted, shown}
use Rattle.setup_tables.specs.Inner.Recognised.{CountsRecognised}

-- one count
module _ (cs : List ℕ) (place most : ℕ) {n : ℕ} (e : n ≡ get_or cs place 0) where
  pub count_none : n < 1 → (false ≡ true) ↔ Counted most (get_or cs place 0)
  count_none h = iff_false (λ c. let l = c.low in omega arith)

  pub count_over : most < n → (false ≡ true) ↔ Counted most (get_or cs place 0)
  count_over h = iff_false (λ c. let l = c.high in omega arith)

  pub count_end : 1 ≤ n → n ≤ most → (true ≡ true) ↔ Counted most (get_or cs place 0)
  count_end g h = iff_true (record { low = omega arith; high = omega arith })

-- all five
module _ (cs : List ℕ) {b : Bool} where
  pub counts_books : (b ≡ true) ↔ Counted 256 (get_or cs 0 0) → not b ≡ true → (false ≡ true) ↔ CountsRecognised cs
  counts_books p n = iff_false (λ s. refuted p n s.books)

  pub counts_floors : (b ≡ true) ↔ Counted 64 (get_or cs 1 0) → not b ≡ true → (false ≡ true) ↔ CountsRecognised cs
  counts_floors p n = iff_false (λ s. refuted p n s.floors)

  pub counts_residues : (b ≡ true) ↔ Counted 64 (get_or cs 2 0) → not b ≡ true → (false ≡ true) ↔ CountsRecognised cs
  counts_residues p n = iff_false (λ s. refuted p n s.residues)

  pub counts_mappings : (b ≡ true) ↔ Counted 64 (get_or cs 3 0) → not b ≡ true → (false ≡ true) ↔ CountsRecognised cs
  counts_mappings p n = iff_false (λ s. refuted p n s.mappings)

  pub counts_modes : (b ≡ true) ↔ Counted 64 (get_or cs 4 0) → not b ≡ true → (false ≡ true) ↔ CountsRecognised cs
  counts_modes p n = iff_false (λ s. refuted p n s.modes)

pub counts_end : (cs : List ℕ) {b₀ b₁ b₂ b₃ b₄ b₅ : Bool} → (b₀ ≡ true) ↔ Counted 256 (get_or cs 0 0) → not b₀ ≡ false
    → (b₁ ≡ true) ↔ Counted 64 (get_or cs 1 0) → not b₁ ≡ false → (b₂ ≡ true) ↔ Counted 64 (get_or cs 2 0) → not b₂ ≡ false
    → (b₃ ≡ true) ↔ Counted 64 (get_or cs 3 0) → not b₃ ≡ false → (b₄ ≡ true) ↔ Counted 64 (get_or cs 4 0) → not b₄ ≡ false
    → (b₅ ≡ true) ↔ Zeros (drop 5 cs) → (b₅ ≡ true) ↔ CountsRecognised cs
counts_end cs p₀ y₀ p₁ y₁ p₂ y₂ p₃ y₃ p₄ y₄ p₅ = (
  (λ t. record { books = shown p₀ y₀; floors = shown p₁ y₁; residues = shown p₂ y₂; mappings = shown p₃ y₃; modes = shown p₄ y₄; zeros = p₅.0 t }),
  (λ s. p₅.1 s.zeros),
)
