-- The parts of the tables that the code lends are the book's entries. Assumes nothing.
use Prim.Native.Nat.{ℕ, ◌+◌, ◌-◌}
use native.Mathlib.Omega.{arith}
use mathlib.Core.List.{List}
use mathlib.Core.Path.{◌≡◌, ◌∙◌}
use lib.ListN.{take, drop}
use Rattle.codeword_assignment.specs.Book.{lone_mark}
use Rattle.book.specs.Layout.{entries_at, first_entry_at, lone_at}
use Rattle.codeword.specs.Inner.Book.{Codebook}
use Rattle.book_codeword.specs.Inner.Stored.{entries_of, BookStored}

-- first, count and mark as the code holds them
module _ {books lengths codewords : List ℕ} {b : ℕ} (l : BookStored books lengths codewords b) {f n m : ℕ} (e₁ : f ≡ first_entry_at books b)
    (e₂ : n ≡ entries_at books b) (e₃ : m ≡ lone_at books b) where
  pub part_is : (cells : List ℕ) → take (f + n - f) (drop f cells) ≡ entries_of books b cells
  part_is cells = let h : f + n - f ≡ n = omega arith in rw (h, e₁, e₂)

  pub asked : Codebook (take (f + n - f) (drop f lengths)) (take (f + n - f) (drop f codewords)) × (m ≡ lone_mark (take (f + n - f) (drop f lengths)))
  asked = rw (part_is lengths, part_is codewords) (l.book, e₃ ∙ l.lone)
