-- What every function that puts bytes into a lent buffer leaves behind. Assumes nothing.
use Rattle.std.specs.Prelude.{ℕ, ◌+◌, ◌≤◌, List, ◌++◌, ◌≡◌, length}
use Rattle.std.proofs.lemmas.List.Edits.{sets}
use Rattle.record_lines.specs.Text.{decimal}

-- the bytes stand in the buffer from `at` on, `after` is the place after them, and they are `most` at the most
pub record Put (entry exit : List ℕ) (at after most : ℕ) (bytes : List ℕ) : Type 0 where
  pub written : exit ≡ sets entry at bytes
  pub long : length exit ≡ length entry
  pub place : after ≡ at + length bytes
  pub within : after ≤ at + most

-- the same of two fields, each a text with a number of ten digits at the most behind it
abbrev pub ShortFields : List ℕ → List ℕ → ℕ → ℕ → List ℕ → ℕ → List ℕ → ℕ → Type 0
ShortFields entry exit at after text number then other =
    Put entry exit at after (length text + 10 + (length then + 10)) (text ++ decimal number ++ (then ++ decimal other))
