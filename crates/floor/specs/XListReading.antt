-- Multiplier, range bits and X list of a floor in a setup packet as 004's steps, each judged as soon as it is read (01, "Order").
-- Refusal 12 has its place at the floor's type.
use Rattle.std.specs.Prelude.{ℕ, ◌+◌, cond, List}
use Rattle.reading.specs.Outcome.{refusal, ok, bad, then, need}
use Rattle.reading.specs.Reader.{Reader, many}
use Rattle.bits.specs.Field.{field}
use Rattle.rules.specs.Rules as Rule
use Rattle.floor.specs.Content.{x_list}

-- the X values: the count is judged before each is read, so of more than 63 the 64th is refused with 12 (01)
unfoldable pub x_values : ℕ → ℕ → ℕ → Reader (List ℕ)
x_values place rangebits n s k =
    cond (Rule.meets12 (Rule.explicit n))
    (many (field rangebits) n s k)
    (then (many (field rangebits) 63 s k) (λ _. bad (refusal 12 place)))

-- what follows the classes: multiplier, range bits, the X values, judged when the list is complete (004, steps 13 to 22)
pub record Ends : Type 0 where
  pub multiplier : ℕ
  pub rangebits : ℕ
  pub xs : List ℕ

-- the X values, behind multiplier and range bits (004, steps 15 to 22)
unfoldable pub ends_from : ℕ → ℕ → ℕ → ℕ → Reader Ends
ends_from place n multiplier rangebits s k =
    then (x_values place rangebits n s k) (λ xs.
    need (Rule.meets12 (Rule.values (x_list rangebits xs.0))) (refusal 12 place)
    (ok (record { multiplier = multiplier; rangebits = rangebits; xs = xs.0 }, xs.1)))

unfoldable pub ends : ℕ → ℕ → Reader Ends
ends place n s k =
    then (field 2 s k) (λ multiplier.
    then (field 4 s multiplier.1) (λ rangebits.
    ends_from place n (multiplier.0 + 1) rangebits.0 s rangebits.1))
