-- What the front door answers for one codeword (01, "Every refusal returns its number alone").
use Rattle.std.specs.Prelude.{ℕ, ◌*◌, ◌/◌, ◌%◌, ◌≤◌}
use Rattle.reading.specs.Outcome.{Outcome, ok, bad}
use Rattle.torchvalley.specs.declared.tables.CodewordAnswer.{CodewordAnswer}

-- 0, the entry and the place behind its codeword, as a byte and one of its 8 bits; or the number alone
unfoldable pub codeword_answer : Outcome (ℕ × ℕ) → CodewordAnswer
codeword_answer (ok x) = record { refusal = 0; entry = x.0; byte = x.1 / 8; bit = x.1 % 8 }
codeword_answer (bad z) = record { refusal = z.number; entry = 0; byte = 0; bit = 0 }

-- the place lies within as many bytes as a slice can have
unfoldable pub Addressable : Outcome (ℕ × ℕ) → Type 0
Addressable (ok x) = x.1 ≤ 8 * 18446744073709551615
Addressable (bad z) = Unit {0}
