-- THE PLAIN LEDGER OF CODEWORDS (01, "Bits and books", and demand 3): what entering a length has to answer.
-- It is fed the lengths alone and keeps the list of codewords handed out, at first none. A string is one of the 2 ^ 32 strings of
-- 32 bits, as a number: the leftmost bit, which is read first, is the most significant.
-- It counts and searches among all strings. That says what is meant, and is never computed.
use Rattle.std.specs.Prelude.{Bool, false, cond, not, ◌&&◌, ◌||◌, List, [], ◌∷◌, ℕ, ◌-◌, ◌/◌, ◌^◌, ◌≤◌, eqb, leb}
use Rattle.std.proofs.Math.Option.{Option, none, some}
use Rattle.reading.specs.Least.{count, every, lowest}

-- a codeword: how many bits it has, and the bits as a number, the first the most significant
pub record Codeword : Type 0 where
  pub size : ℕ
  pub value : ℕ

abbrev pub codeword : ℕ → ℕ → Codeword
codeword len v = record { size = len; value = v }

-- a length's share of the strings: how many begin with a codeword of that length
abbrev pub share : ℕ → ℕ
share len = 2 ^ (32 - len)

-- the string s begins with the codeword w
unfoldable pub begins : ℕ → Codeword → Bool
begins s w = eqb (s / share w.size) w.value

-- the string s begins with a codeword of the list
unfoldable pub taken : List Codeword → ℕ → Bool
taken [] s = false
taken (w ∷ ws) s = begins s w || taken ws s

abbrev pub free : List Codeword → ℕ → Bool
free ws s = not (taken ws s)

-- what is free: the number of strings that begin with no codeword of the list
unfoldable pub free_strings : List Codeword → ℕ
free_strings ws = count (free ws) (2 ^ 32)

-- a codeword is free when none of the strings that begin with it begins with one handed out
unfoldable pub free_codeword : List Codeword → ℕ → ℕ → Bool
free_codeword ws len v = every (λ s. not (begins s (codeword len v)) || free ws s) (2 ^ 32)

-- codewords have 1 to 32 bits
pub record IsLength (len : ℕ) : Type 0 where
  pub low : 1 ≤ len
  pub high : len ≤ 32

unfoldable pub is_length : ℕ → Bool
is_length len = leb 1 len && leb len 32

-- THE ANSWER to a length: the lowest free codeword of that length, or a refusal. No codeword has another length than 1 to 32
unfoldable pub answer : List Codeword → ℕ → Option ℕ
answer ws len = cond (is_length len) (lowest (free_codeword ws len) (2 ^ len)) none

-- THE LIST after an answer: a codeword handed out is added, and after a refusal the list stays
abbrev pub enlist : List Codeword → ℕ → Option ℕ → List Codeword
enlist ws len (some v) = codeword len v ∷ ws
enlist ws len none = ws

-- lengths entered one by one, with ws handed out before: the list after them
unfoldable pub after : List Codeword → List ℕ → List Codeword
after ws [] = ws
after ws (l ∷ ls) = after (enlist ws l (answer ws l)) ls

-- and the answers to them
unfoldable pub answers : List Codeword → List ℕ → List (Option ℕ)
answers ws [] = []
answers ws (l ∷ ls) = answer ws l ∷ answers (enlist ws l (answer ws l)) ls
