-- The codebook that a codeword is read with: lengths that were accepted, and the ledger's codewords.
use Rattle.std.specs.Prelude.{List, ◌≡◌, ℕ, ◌^◌, ◌≤◌, length}
use Rattle.codeword_assignment.specs.Book.{ledger_codewords, verdict}
use Rattle.codeword_assignment.specs.Book.{Accepted}

pub record Codebook (lengths codewords : List ℕ) : Type 0 where
  -- the number of entries is a field of 24 bits (002)
  pub entries : length lengths ≤ 2 ^ 24
  pub accepted : verdict lengths ≡ Accepted
  pub coded : codewords ≡ ledger_codewords lengths
