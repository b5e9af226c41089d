-- THE HEAD AS PLAIN READERS, each field judged as soon as it is read: what its requests come to when they are run (proofs/RunLaws.antt). The modes are given by
-- how many there are, and by the block flag of each.
use Rattle.std.specs.Prelude.{ℕ, ◌-◌, ◌*◌, cond, List, eqb, ltb, get_or}
use Rattle.reading.specs.Outcome.{Outcome, ok, then}
use Rattle.reading.specs.Reader.{Reader, judged}
use Rattle.bits.specs.Field.{field}
use Rattle.bits.specs.Ilog.{ilog}
use Rattle.identification.specs.declared.Identity.{Identity}
use Rattle.mode.specs.Content.{Mode}
use Rattle.mode.specs.Inner.Decode.{decode_mode}
use Rattle.setup.specs.Inner.Decode.{decode_rows}
use Rattle.audio.specs.declared.Head.{Head}
use Rattle.audio.specs.Head.{head_with}

-- the first n modes of a table
unfoldable pub modes_in : List ℕ → ℕ → List Mode
modes_in t n = decode_rows 2 decode_mode n t

-- the block flag of a mode, by its row
unfoldable pub blockflag_in : List ℕ → ℕ → ℕ
blockflag_in t mode = get_or t (2 * mode) 0

unfoldable pub flags_reader : Identity → ℕ → ℕ → Reader Head
flags_reader i mode blockflag s k =
    cond (eqb blockflag 0) (ok (head_with i mode 0 0 0, k))
    (then (field 1 s k) (λ previous.
    then (field 1 s previous.1) (λ next.
    ok (head_with i mode blockflag previous.0 next.0, next.1))))

unfoldable pub mode_reader : Identity → ℕ → (ℕ → ℕ) → Reader Head
mode_reader i count flag_of s k =
    then (judged (λ v. ltb v count) 16 (field (ilog (count - 1))) s k) (λ mode. flags_reader i mode.0 (flag_of mode.0) s mode.1)

unfoldable pub head_reader : Identity → ℕ → (ℕ → ℕ) → List ℕ → Outcome (Head × ℕ)
head_reader i count flag_of s = then (judged (λ v. eqb v 0) 15 (field 1) s 0) (λ type. mode_reader i count flag_of s type.1)
