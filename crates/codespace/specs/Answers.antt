-- Answers to a length as numbers: the codeword, or 2 ^ 32, which is none, for a refusal; and back.
use Rattle.std.specs.Prelude.{Bool, true, false, cond, ℕ, ltb}
use Rattle.std.proofs.Math.Option.{Option, none, some}

abbrev pub number : Option ℕ → ℕ
number (some v) = v
number none = 4294967296

abbrev pub outcome : ℕ → Option ℕ
outcome n = cond (ltb n 4294967296) (some n) none

abbrev pub is_none : Option ℕ → Bool
is_none none = true
is_none (some v) = false
