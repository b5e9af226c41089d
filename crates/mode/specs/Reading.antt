-- A mode in a setup packet as 003's steps, each field judged as soon as it is read (01, "Order").
use Rattle.std.specs.Prelude.{ℕ, eqb, ltb}
use Rattle.reading.specs.Outcome.{ok, then}
use Rattle.reading.specs.Reader.{Reader, judged}
use Rattle.bits.specs.Field.{field}
use Rattle.rules.specs.Rules as Rule
use Rattle.mode.specs.Content.{Mode}

-- block flag, window type (9), transform type (9), mapping (11 where it is not set up; `mappings` is how many are)
unfoldable pub mode : ℕ → Reader Mode
mode mappings s k =
    then (field 1 s k) (λ flag.
    then (judged (λ v. Rule.meets9 (Rule.window_type v)) 9 (field 16) s flag.1) (λ window.
    then (judged (λ v. Rule.meets9 (Rule.transform_type v)) 9 (field 16) s window.1) (λ transform.
    then (judged (λ v. Rule.meets11 (Rule.mapping mappings v)) 11 (field 8) s transform.1) (λ mapping.
    ok (record { blockflag = flag.0; mapping = mapping.0 }, mapping.1)))))
