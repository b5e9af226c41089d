-- What reading a codeword promises, stated without the program (demand 3's half about reading).
use Rattle.std.specs.Prelude.{ℕ, ◌+◌, ◌*◌, ◌≤◌, ◌<◌, true, false, List, ◌⊎◌, ◌≡◌, length, get_or, take}
use Rattle.reading.specs.Outcome.{refusal, ok, bad}
use Rattle.codeword_assignment.specs.Book.{used, is_lone, first_used, ledger_codewords, Begins}
use Rattle.codeword.specs.Codeword.{bits_at, codeword}

pub record Settled (lengths : List ℕ) : Type 0 where
  -- whatever 32 bits come next, reading gives the one entry whose codeword they start with, and takes just its codeword's bits
  pub whole : is_lone (used lengths) ≡ false → (s : List ℕ) (k : ℕ) → k + 32 ≤ 8 * length s
      → (e : ℕ) × Begins lengths (ledger_codewords lengths) (bits_at s k 32) e
      × ((f : ℕ) → Begins lengths (ledger_codewords lengths) (bits_at s k 32) f → f ≡ e)
      × (codeword lengths s k ≡ ok (e, k + get_or lengths e 0))
  -- every string's first bit, alone taken, leads to the lone entry; where no bit is left, it is the cut
  pub lone : is_lone (used lengths) ≡ true → (s : List ℕ) (k : ℕ) → k + 1 ≤ 8 * length s → codeword lengths s k ≡ ok (first_used lengths, k + 1)
  pub lone_cut : is_lone (used lengths) ≡ true → (s : List ℕ) (k : ℕ) → 8 * length s ≤ k → codeword lengths s k ≡ bad (refusal 1 k)
  -- the entry that is read is used
  pub used : (s : List ℕ) (k e n : ℕ) → codeword lengths s k ≡ ok (e, n) → (e < length lengths) × (0 < get_or lengths e 0)
  -- and its codeword lies in the packet whole: a cut codeword is no entry
  pub within : (s : List ℕ) (k e n : ℕ) → codeword lengths s k ≡ ok (e, n) → n ≤ 8 * length s
  -- a packet cut after any byte gives the same, or the cut
  pub cut : (s : List ℕ) (b k : ℕ) → (codeword lengths (take b s) k ≡ codeword lengths s k) ⊎ (codeword lengths (take b s) k ≡ bad (refusal 1 k))
