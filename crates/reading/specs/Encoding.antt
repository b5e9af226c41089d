-- Which buffers are the writing-out of some items: the items' rows from the front, and zeros behind them (01: "A later call accepts tables
-- exactly when they are the writing-out of some content that meets every rule").
use Rattle.std.specs.Prelude.{ℕ, ◌≤◌, List, [], ◌∷◌, ◌≡◌, length, replicate}
use Rattle.reading.specs.Lists.{rows}
use Rattle.reading.specs.Pad.{pad}

-- nothing but this value
abbrev pub AllAre : {A : Type 0} → A → List A → Type 0
AllAre value cells = cells ≡ replicate (length cells) value

-- nothing but zeros
abbrev pub Zeros : List ℕ → Type 0
Zeros = AllAre 0

module _ {A : Type 0} where
  -- each item is valid
  unfoldable pub Each : (A → Type 0) → List A → Type 0
  Each Valid [] = Unit {0}
  Each Valid (a ∷ l) = Valid a × Each Valid l

  -- the numbers are the row of a valid item
  pub record RowOf (row : A → List ℕ) (Valid : A → Type 0) (cells : List ℕ) : Type 0 where
    pub item : A
    pub valid : Valid item
    pub written : cells ≡ row item

  -- the buffer is the writing-out of so many valid items
  pub record Encodes (row : A → List ℕ) (Valid : A → Type 0) (count : ℕ) (cells : List ℕ) : Type 0 where
    pub items : List A
    pub number : length items ≡ count
    pub valid : Each Valid items
    pub fits : length (rows row items) ≤ length cells
    pub written : cells ≡ pad (length cells) (rows row items)
