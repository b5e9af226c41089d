-- A codebook as content: every number that the rules name, without how the lengths were coded (002; 01, "Bits and books").
use Rattle.std.specs.Prelude.{ℕ, List}

pub record Book : Type 0 where
  pub dimensions : ℕ
  -- the codeword length of each entry, 0 where it is unused
  pub lengths : List ℕ
  -- 0, 1 or 2; all that follows is 0 or empty where it is 0
  pub lookup : ℕ
  -- the least value and the step, each as its 32-bit word
  pub minimum : ℕ
  pub delta : ℕ
  -- the bits of a multiplicand, and whether values run on from the last
  pub width : ℕ
  pub sequence : ℕ
  pub multiplicands : List ℕ
