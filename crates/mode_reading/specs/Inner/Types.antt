-- What stands between a mode's block flag and its mapping number: window type and transform type, each judged as soon as it is read (01, 9).
use Rattle.std.specs.Prelude.{ℕ, List}
use Rattle.reading.specs.Outcome.{Outcome, ok, then}
use Rattle.reading.specs.Reader.{judged}
use Rattle.bits.specs.Field.{field}
use Rattle.rules.specs.Rules as Rule

-- the position after them, or the refusal
unfoldable pub types : List ℕ → ℕ → Outcome ℕ
types s k =
    then (judged (λ v. Rule.meets9 (Rule.window_type v)) 9 (field 16) s k) (λ window.
    then (judged (λ v. Rule.meets9 (Rule.transform_type v)) 9 (field 16) s window.1) (λ transform. ok transform.1))
