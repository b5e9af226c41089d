-- A RUN OF A TREE OF REQUESTS on a packet: all that is read before the tree's end or a cut. A cut ends the run, and nothing more is read; it does not refuse an
-- audio packet, whose items up to there stand (01, "Audio order" 2 and 5). Assumes nothing: these are definitions.
use Rattle.std.specs.Prelude.{ℕ, cond, List, [], ◌∷◌, get_or}
use Rattle.std.proofs.Math.Option.{Option, none, some}
use Rattle.reading.specs.Outcome.{refusal, Outcome, ok, bad}
use Rattle.reading.specs.Reader.{Reader}
use Rattle.bits.specs.Field.{field}
use Rattle.codeword_assignment.specs.Book.{used, is_lone}
use Rattle.codeword.specs.Codeword.{lone_bits, codeword}
use Rattle.requests.specs.Requests.{Request, number, word, Requests, done, ask}

-- what a request reads; `lengths_of` gives the entry lengths of a book by its number
unfoldable pub read : (ℕ → List ℕ) → Request → Reader ℕ
read lengths_of (number width) = field width
read lengths_of (word book role) = codeword (lengths_of book)

-- how many bits carry an answer: a field's width, a codeword's length; those of a sole used entry (02, wish 3)
unfoldable pub bits_of : (ℕ → List ℕ) → Request → ℕ → ℕ
bits_of lengths_of (number width) v = width
bits_of lengths_of (word book role) e = cond (is_lone (used (lengths_of book))) lone_bits (get_or (lengths_of book) e 0)

-- a request with its answer
pub record Item : Type 0 where
  pub request : Request
  pub answer : ℕ

-- the items in reading order, the position behind the last whole one, and the tree's value, none where a cut ended the run
pub record Run (A : Type 0) : Type 0 where
  pub items : List Item
  pub position : ℕ
  pub value : Option A

abbrev pub item : Request → ℕ → Item
item q v = record { request = q; answer = v }

module _ {A : Type 0} where
  abbrev pub ended : List Item → ℕ → Option A → Run A
  ended items position value = record { items = items; position = position; value = value }

  -- a run with an item before its items
  abbrev pub before : Item → Run A → Run A
  before i r = ended (i ∷ r.items) r.position r.value

  -- a request at bit k that came to an outcome, and the run f from behind it on
  abbrev pub continued : Request → ℕ → Outcome (ℕ × ℕ) → (ℕ → ℕ → Run A) → Run A
  continued q k (ok x) f = before (item q x.0) (f x.0 x.1)
  continued q k (bad z) f = ended [] k none

  -- THE RUN from bit k of packet s on, where `reads` says what each request reads
  unfoldable pub run : (Request → Reader ℕ) → Requests A → List ℕ → ℕ → Run A
  run reads (done a) s k = ended [] k (some a)
  run reads (ask q f) s k = continued q k (reads q s k) (λ v n. run reads (f v) s n)

  abbrev pub whole_or : Option A → ℕ → Outcome (A × ℕ)
  whole_or (some a) n = ok (a, n)
  whole_or none n = bad (refusal 1 n)

  -- a run that has to be whole: a cut is refusal 1 at the first bit of what is cut
  unfoldable pub outcome : Run A → Outcome (A × ℕ)
  outcome r = whole_or r.value r.position
