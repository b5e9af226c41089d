-- A BOOK'S LENGTHS (01, "Bits and books"; refusals 7 and 8). A book has a list of entry lengths, 0 for an unused entry (002). Those of
-- its used entries are entered, in entry order, into an empty space of their own. All of it is by the ledger.
use Rattle.std.specs.Prelude.{Result, Ok, Err, Bool, true, false, cond, not, ◌&&◌, ◌||◌, List, [], ◌∷◌, ◌≡◌, ℕ, ◌+◌, ◌-◌, ◌/◌, ◌^◌, ◌≤◌, ◌<◌, eqb, ltb, length, get_or, take, drop, replicate}
use Rattle.std.proofs.Math.Option.{Option, none, some}
use Rattle.reading.specs.Least.{lowest}
use Rattle.reading.specs.Pad.{pad}
use Rattle.reading.specs.Tabulate.{tabulate}
use Rattle.codespace.specs.Ledger.{Codeword, share, free_strings, answer, after}
use Rattle.codespace.specs.Answers.{is_none}
use Rattle.codeword_assignment.specs.declared.book.Unassigned.{Unassigned}
use Rattle.codeword_assignment.specs.declared.book.Unassigned.TheVariants.{Overspecified, Underspecified, TooShort}

-- the lengths of the used entries
unfoldable pub used : List ℕ → List ℕ
used [] = []
used (l ∷ ls) = cond (eqb l 0) (used ls) (l ∷ used ls)

-- entry e is used
unfoldable pub is_used : List ℕ → ℕ → Bool
is_used lengths e = not (eqb (get_or lengths e 0) 0)

-- the codewords handed out before entry e
unfoldable pub handed_out_before : List ℕ → ℕ → List Codeword
handed_out_before lengths e = after [] (used (take e lengths))

-- the ledger's answer for entry e
unfoldable pub entry_answer : List ℕ → ℕ → Option ℕ
entry_answer lengths e = answer (handed_out_before lengths e) (get_or lengths e 0)

abbrev pub or_zero : Option ℕ → ℕ
or_zero none = 0
or_zero (some v) = v

-- entry e is used and the ledger refuses it
unfoldable pub is_refused : List ℕ → ℕ → Bool
is_refused lengths e = is_used lengths e && is_none (entry_answer lengths e)

-- the first such entry
unfoldable pub first_refused : List ℕ → Option ℕ
first_refused lengths = lowest (is_refused lengths) (length lengths)

-- entry e's codeword, 0 for an unused one
unfoldable pub codeword_of : List ℕ → ℕ → ℕ
codeword_of lengths e = cond (is_used lengths e) (or_zero (entry_answer lengths e)) 0

-- THE CODEWORDS of all entries, in entry order
unfoldable pub ledger_codewords : List ℕ → List ℕ
ledger_codewords lengths = tabulate (codeword_of lengths) (length lengths)

-- what is free once all are entered
unfoldable pub free_after : List ℕ → ℕ
free_after lengths = free_strings (after [] (used lengths))

-- the only one has length 1
unfoldable pub is_lone : List ℕ → Bool
is_lone [] = false
is_lone (l ∷ []) = eqb l 1
is_lone (l ∷ k ∷ ls) = false

-- the sole used entry: the first that is used
unfoldable pub first_used : List ℕ → ℕ
first_used lengths = or_zero (lowest (is_used lengths) (length lengths))

-- a book's mark in the tables: the number of its sole used entry of length 1 plus one, or 0 where it has none
unfoldable pub lone_mark : List ℕ → ℕ
lone_mark lengths = cond (is_lone (used lengths)) (first_used lengths + 1) 0

-- what is said of lengths: they are accepted, or why not
abbrev pub Assigned : Type 0
Assigned = Result (Unit {0}) Unassigned

abbrev pub Accepted : Assigned
Accepted = Ok tt

abbrev pub refused_or : Option ℕ → Assigned → Assigned
refused_or (some e) a = Err (Overspecified e)
refused_or none a = a

-- THE VERDICT: refused at the first entry whose share exceeds the free space (7); or with space left over, but not for a sole used entry of
-- length 1 (8)
unfoldable pub verdict : List ℕ → Assigned
verdict lengths = refused_or (first_refused lengths) (cond (eqb (free_after lengths) 0 || is_lone (used lengths)) Accepted (Err Underspecified))

-- the same for a lent list of codewords, which has to have a place for each entry
unfoldable pub assigned : List ℕ → ℕ → Assigned
assigned lengths places = cond (ltb places (length lengths)) (Err TooShort) (verdict lengths)

-- what all places of the lent list hold: each entry's codeword, and zeros behind them; on any refusal all zeros
abbrev pub written : Assigned → List ℕ → ℕ → List ℕ
written (Ok done) lengths places = pad places (ledger_codewords lengths)
written (Err why) lengths places = replicate places 0

-- 01's number of each answer ("When the packet is sent back"), 0 where there is no refusal
abbrev pub refusal : Assigned → ℕ
refusal (Ok done) = 0
refusal (Err (Overspecified e)) = 7
refusal (Err Underspecified) = 8
refusal (Err TooShort) = 17

-- the string s begins with the codeword of the used entry e
pub record Begins (lengths codewords : List ℕ) (s e : ℕ) : Type 0 where
  pub entry : e < length lengths
  pub used : 0 < get_or lengths e 0
  pub starts : s / share (get_or lengths e 0) ≡ get_or codewords e 0

-- these words are a prefix code: none is the beginning of another, and so no string begins with two of them
pub record PrefixCode (lengths codewords : List ℕ) : Type 0 where
  pub places : length codewords ≡ length lengths
  pub below : (e : ℕ) → 0 < get_or lengths e 0 → get_or codewords e 0 < 2 ^ get_or lengths e 0
  pub not_prefix : (e f : ℕ) → 0 < get_or lengths e 0 → 0 < get_or lengths f 0 → get_or lengths e 0 ≤ get_or lengths f 0
      → get_or codewords f 0 / 2 ^ (get_or lengths f 0 - get_or lengths e 0) ≡ get_or codewords e 0 → e ≡ f
  pub at_most_one : (s e f : ℕ) → Begins lengths codewords s e → Begins lengths codewords s f → e ≡ f

-- and a complete one: every string begins with one of them
abbrev pub Complete : List ℕ → List ℕ → Type 0
Complete lengths codewords = (s : ℕ) → s < 4294967296 → (e : ℕ) × Begins lengths codewords s e

-- what an accepted book's codewords are: a prefix code, and a complete one but for a lone entry of length 1, whose codeword is 0
pub record Decodable (lengths codewords : List ℕ) : Type 0 where
  pub prefix_code : PrefixCode lengths codewords
  pub complete : is_lone (used lengths) ≡ false → Complete lengths codewords
  pub lone : is_lone (used lengths) ≡ true → (e : ℕ) → 0 < get_or lengths e 0 → (get_or lengths e 0 ≡ 1) × (get_or codewords e 0 ≡ 0)

-- what `next_used` finds: r is the first used entry from a place on, or the number of entries; the used entries from there on are the same
pub record NextUsed (lengths : List ℕ) (from r : ℕ) : Type 0 where
  pub within : r ≤ length lengths
  pub same : used (drop from lengths) ≡ used (drop r lengths)
  pub is_used : r < length lengths → 0 < get_or lengths r 0

-- lengths that are accepted, and their codewords
pub record Coded (lengths codewords : List ℕ) : Type 0 where
  pub accepted : verdict lengths ≡ Accepted
  pub assigned : codewords ≡ ledger_codewords lengths
