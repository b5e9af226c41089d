-- What entering one length promises, and what entering a list of lengths comes to (01, "Bits and books").
use Rattle.std.specs.Prelude.{Result, Ok, Err, cond, List, [], ◌∷◌, ◌++◌, map, ◌≡◌, ℕ, ltb, length}
use Rattle.reading.specs.Pad.{pad}
use Rattle.codespace.specs.Ledger.{answer, after, answers}
use Rattle.codespace.specs.Inner.Blocks.{enter_answer, enter_blocks, Reached}
use Rattle.codespace.specs.Answers.{number}
use Rattle.codespace.specs.declared.space.TooShort.{TooShort}

-- ENTERING ONE LENGTH: the space bs before it, the length, the number r that is given, the space bs' after it
pub record Entered (bs : List ℕ) (len r : ℕ) (bs' : List ℕ) : Type 0 where
  -- of any space, whatever its numbers: the model's answer, and the model's space
  pub value : r ≡ number (enter_answer bs len)
  pub left : bs' ≡ enter_blocks bs len
  -- of the space that any lengths have come to: the ledger's answer after them, and the space of one length more
  pub ledger : (ls : List ℕ) → Reached ls bs → r ≡ number (answer (after [] ls) len)
  pub reached : (ls : List ℕ) → Reached ls bs → Reached (ls ++ (len ∷ [])) bs'
  -- a refusal leaves the space as it was
  pub unchanged : r ≡ 4294967296 → bs' ≡ bs

-- what `enter_lengths` answers, as 01's number ("When the packet is sent back"), 0 where there is no refusal
abbrev pub entering : Result (Unit {0}) TooShort → ℕ
entering (Ok done) = 0
entering (Err short) = 17

-- ENTERING A LIST of lengths one by one from an empty space, with so many places lent for the answers: the number, and what all places hold.
-- 17 and zeros where there are fewer places than lengths (01); else 0 and each of the ledger's answers as a number, and zeros behind them
unfoldable pub entered_all : List ℕ → ℕ → ℕ × List ℕ
entered_all lengths places = cond (ltb places (length lengths)) (17, pad places []) (0, pad places (map number (answers [] lengths)))
