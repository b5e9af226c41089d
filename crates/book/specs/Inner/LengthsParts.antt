-- Pieces of specs/LengthsReading.antt under names of their own, one for each function that reads one. Nothing is added to what is read.
use Rattle.std.specs.Prelude.{ℕ, ◌+◌, List}
use Rattle.std.proofs.lemmas.List.Edits.{sets}
use Rattle.reading.specs.Outcome.{ok, then}
use Rattle.reading.specs.Reader.{Reader, judged, many}
use Rattle.bits.specs.Field.{field}
use Rattle.bits.specs.Ilog.{ilog}
use Rattle.rules.specs.Rules as Rule
use Rattle.codeword_assignment.specs.Book.{ledger_codewords}
use Rattle.book.specs.LengthsReading.{entry_length, runs, lengths, entered}

-- the number of a run's entries
unfoldable pub run_number : ℕ → Reader ℕ
run_number left = judged (λ n. Rule.meets6 (Rule.run left n)) 6 (field (ilog left))

-- the lengths behind an ordered flag of 0, and of 1
unfoldable pub unordered : ℕ → Reader (List ℕ)
unordered entries s k = then (field 1 s k) (λ sparse. many (entry_length sparse.0) entries s sparse.1)

unfoldable pub ordered : ℕ → ℕ → Reader (List ℕ)
ordered place entries s k = then (field 5 s k) (λ first. runs place 33 (first.0 + 1) entries s first.1)

-- the lengths, read and entered
unfoldable pub entries : ℕ → ℕ → Reader (List ℕ)
entries place count s k = then (lengths place count s k) (λ ls. entered place ls.0 (ok ls))

-- lengths with their codewords
abbrev pub coded : List ℕ → List ℕ × List ℕ
coded ls = (ls, ledger_codewords ls)

-- lengths laid out: in their table from a place on, and their codewords in theirs
abbrev pub stored : List ℕ → List ℕ → ℕ → List ℕ → List ℕ × List ℕ
stored lengths codewords first ls = (sets lengths first ls, sets codewords first (ledger_codewords ls))
