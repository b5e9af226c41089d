-- Reading one codeword: 01's rule over the ledger's codewords ("Bits and books"; 002, "Using a codebook"; 000, 3.2.1).
-- A book is its list of entry lengths, 0 for an unused entry; the ledger says each entry's codeword.
use Rattle.std.specs.Prelude.{ℕ, zero, suc, ◌+◌, ◌*◌, Bool, cond, ◌&&◌, List, eqb, ltb, length, get_or}
use Rattle.std.proofs.Math.Option.{Option, none, some}
use Rattle.reading.specs.Outcome.{refusal, Outcome, ok, bad, need}
use Rattle.reading.specs.Reader.{Reader, mapped}
use Rattle.reading.specs.Least.{lowest}
use Rattle.bits.specs.Field.{bit_at, field}
use Rattle.codeword_assignment.specs.Book.{used, is_lone, codeword_of, first_used}

-- the n bits from bit k on as a number, the first read the most significant (002: "read and used bit by bit from left to right")
unfoldable pub bits_at : List ℕ → ℕ → ℕ → ℕ
bits_at s k zero = 0
bits_at s k (suc n) = bits_at s k n * 2 + bit_at s (k + n)

-- entry e's codeword is the n bits w
unfoldable pub is_codeword : List ℕ → ℕ → ℕ → ℕ → Bool
is_codeword lengths n w e = eqb (get_or lengths e 0) n && eqb (codeword_of lengths e) w

-- the entry whose codeword is the n bits w
unfoldable pub entry_of : List ℕ → ℕ → ℕ → Option ℕ
entry_of lengths n w = lowest (is_codeword lengths n w) (length lengths)

-- the entry that was matched with the position behind its codeword, or what follows where none was
abbrev pub or_go_on : Option ℕ → ℕ → Outcome (ℕ × ℕ) → Outcome (ℕ × ℕ)
or_go_on (some e) k o = ok (e, k)
or_go_on none k o = o

-- bits are taken one at a time until they match a codeword: n were taken, and m more may be. A cut codeword is no entry (01, "Audio order", 5).
-- Its place is the codeword's first bit
unfoldable pub matching : List ℕ → ℕ → ℕ → Reader ℕ
matching lengths n zero s k = bad (refusal 1 k)
matching lengths n (suc m) s k =
    need (ltb (k + n) (8 * length s)) (refusal 1 k)
    (or_go_on (entry_of lengths (suc n) (bits_at s k (suc n))) (k + suc n) (matching lengths (suc n) m s k))

-- how many bits a sole used entry takes, whatever they are (02, wish 3, in place of 01's and 000's 0 bits: docs/DECISIONS.md)
abbrev pub lone_bits : ℕ
lone_bits = 1

-- ONE CODEWORD: its entry, with the position behind it, or the cut. 32 bits always settle it
unfoldable pub codeword : List ℕ → Reader ℕ
codeword lengths s k = cond (is_lone (used lengths)) (mapped (λ _. first_used lengths) (field lone_bits s k)) (matching lengths 0 32 s k)
