-- A codebook's lengths as 002's steps, each field judged as soon as it is read, with 01's exceptions ("Order"): an ordered length before its run's
-- number; the lengths all read, then entered (7, then 8). Refusals 7 and 8 and of an ordered length have their place at the book's first bit.
use Rattle.std.specs.Prelude.{ℕ, zero, suc, ◌+◌, ◌-◌, cond, List, [], ◌++◌, eqb, replicate}
use Rattle.reading.specs.Outcome.{refusal, Outcome, ok, bad, then, need}
use Rattle.reading.specs.Reader.{Reader, judged, mapped, many}
use Rattle.bits.specs.Field.{field}
use Rattle.bits.specs.Ilog.{ilog}
use Rattle.codeword_assignment.specs.Book.{used, first_refused, free_after, is_lone}
use Rattle.rules.specs.Rules as Rule

-- the length of one entry: 5 bits plus one; in a sparse book behind a flag, and 0, unused, where that is not set
unfoldable pub entry_length : ℕ → Reader ℕ
entry_length sparse s k =
    cond (eqb sparse 0)
    (mapped suc (field 5 s k))
    (then (field 1 s k) (λ flag. cond (eqb flag.0 0) (ok (0, flag.1)) (mapped suc (field 5 s flag.1))))

-- runs of one length each, of the entries that are left. Each turn: where no entry is left, done; else the length is judged, the number of the run's entries
-- is read and judged, and the next run's length is one more. Turns are counted only because a definition has to end: the first length is 1 or more, and
-- one above 32 ends the runs, so 33 turns always do (crates/book_lengths/proofs/LengthLaws.antt, `runs_end`)
unfoldable pub runs : ℕ → ℕ → ℕ → ℕ → Reader (List ℕ)
runs place zero length left s k = bad (refusal 6 place)
runs place (suc turns) length left s k =
    cond (eqb left 0)
    (ok ([], k))
    (need (Rule.meets6 (Rule.ordered_length left length)) (refusal 6 place)
    (then (judged (λ n. Rule.meets6 (Rule.run left n)) 6 (field (ilog left)) s k) (λ n.
    then (runs place turns (length + 1) (left - n.0) s n.1) (λ rest.
    ok (replicate n.0 length ++ rest.0, rest.1)))))

-- the lengths of all entries: ordered, in runs from a first length on; or one by one behind the sparse flag
unfoldable pub lengths : ℕ → ℕ → Reader (List ℕ)
lengths place entries s k =
    then (field 1 s k) (λ ordered.
    cond (eqb ordered.0 0)
    (then (field 1 s ordered.1) (λ sparse. many (entry_length sparse.0) entries s sparse.1))
    (then (field 5 s ordered.1) (λ first. runs place 33 (first.0 + 1) entries s first.1)))

-- the lengths entered into an empty space of their own: 7, then 8
unfoldable pub entered : ℕ → List ℕ → Outcome (List ℕ × ℕ) → Outcome (List ℕ × ℕ)
entered place ls o =
    need (Rule.meets7 (first_refused ls)) (refusal 7 place)
    (need (Rule.meets8 (free_after ls) (is_lone (used ls))) (refusal 8 place) o)
