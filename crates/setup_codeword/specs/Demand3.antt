-- DEMAND 3, WHOLE: code space balances like a quota, and a book of an accepted setup is read by it (01, demand 3, as 02, wish 3, amends it; "Bits and books").
-- The ledger and its claim over a whole list of lengths, `Balanced`: crates/codespace/specs/Ledger.antt and Claims.antt. Entering, the program's
-- call for one length, answers as the ledger does: crates/codespace/src/space.rt.
use Rattle.std.specs.Prelude.{ℕ, ◌+◌, ◌*◌, ◌≤◌, ◌<◌, true, List, [], ◌≡◌, length, get_or}
use Rattle.reading.specs.Outcome.{refusal, ok, bad}
use Rattle.limits.specs.declared.Limits.{Limits}
use Rattle.identification.specs.declared.Identity.{Identity}
use Rattle.codespace.specs.Ledger.{answers}
use Rattle.codespace.specs.Claims.{Balanced}
use Rattle.codeword_assignment.specs.Book.{used, is_lone, first_used, free_after, ledger_codewords, verdict, Accepted, Begins}
use Rattle.codeword.specs.Codeword.{bits_at}
use Rattle.setup.specs.Content.{Setup, lengths_of}
use Rattle.setup.specs.Layout.{Tables}
use Rattle.setup.specs.Call.{setup_of, setup_call}
use Rattle.setup_judged.specs.Judged.{LedgerTakes, LengthsRead, JudgedByCall}
use Rattle.setup_judged.specs.Example.{AcceptsExample}
use Rattle.setup_codeword.specs.Call.{codeword_call}

-- BOOK b OF TABLES t, whose entry lengths are ls
pub record BookDecodes (limits : Limits) (i : Identity) (t : Tables) (b : ℕ) (ls : List ℕ) : Type 0 where
  -- the lengths of its used entries in entry order, entered into an empty space of their own: the ledger's claim about the whole list
  pub balanced : Balanced (used ls) (answers [] (used ls))
  -- they were accepted
  pub accepted : verdict ls ≡ Accepted
  pub taken : LedgerTakes ls
  -- with nothing left, every 32-bit string starts with exactly one entry's codeword; and put next in a packet, leftmost bit first, the program's
  -- call on these tables gives that entry and takes just its bits
  pub whole : free_after ls ≡ 0 → (string : ℕ) → string < 4294967296
      → (e : ℕ)
      × Begins ls (ledger_codewords ls) string e
      × ((f : ℕ) → Begins ls (ledger_codewords ls) string f → f ≡ e)
      × ((s : List ℕ) (k : ℕ) → k + 32 ≤ 8 * length s → bits_at s k 32 ≡ string → codeword_call limits i t b s k ≡ ok (e, k + get_or ls e 0))
  -- every string's first bit, alone taken, leads to a lone entry of length one; where no bit is left, the call gives the cut
  pub lone : is_lone (used ls) ≡ true → (s : List ℕ) (k : ℕ) → k + 1 ≤ 8 * length s → codeword_call limits i t b s k ≡ ok (first_used ls, k + 1)
  pub lone_cut : is_lone (used ls) ≡ true → (s : List ℕ) (k : ℕ) → 8 * length s ≤ k → codeword_call limits i t b s k ≡ bad (refusal 1 k)

pub record Demand3 (limits : Limits) : Type 0 where
  -- every list of lengths, entered one by one from an empty space, refused ones included; `torchvalley_enter_lengths` gives these answers
  pub lists : (ls : List ℕ) → Balanced ls (answers [] ls)
  -- each book of an accepted setup, by the tables as that setup left them, whatever was handed in
  pub setups : (i : Identity) (s : List ℕ) (t : Tables) (c : Setup) → setup_of limits i s t ≡ ok c
      → (b : ℕ) → b < length c.books → BookDecodes limits i (setup_call limits i s t).tables b (lengths_of c b)
  -- where a setup call has read all lengths of a book, it gives neither 7 nor 8 for it exactly when the ledger takes them
  pub judged : (i : Identity) (s : List ℕ) (t : Tables) (place : ℕ) (ls : List ℕ) → LengthsRead limits i s t place ls → JudgedByCall limits i s t place ls
  -- every book of an accepted setup is one whose lengths were so read
  pub reached : (i : Identity) (s : List ℕ) (t : Tables) (c : Setup) → setup_of limits i s t ≡ ok c
      → (b : ℕ) → b < length c.books → (place : ℕ) × LengthsRead limits i s t place (lengths_of c b)
  -- and accepted setups there are
  pub example : AcceptsExample
