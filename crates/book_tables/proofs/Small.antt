-- Lengths that are accepted are 0 to 32: the ledger refuses every other one. Assumes nothing.
use Prim.Native.Nat.{ℕ, suc, ◌≤◌, ◌<◌}
use native.Mathlib.Omega.{arith}
use borrow.Author.Tests.{le-leb}
use mathlib.Core.Bool.{Bool, true}
use mathlib.Core.List.{List, [], ◌∷◌}
use mathlib.Core.Logic.{⊎_elim}
use mathlib.Core.Path.{◌≡◌, refl}
use lib.Dec.{leb}
use lib.ListN.{length, get_or}
use Rattle.reading.specs.Lists.{all}
use Rattle.reading.proofs.Least.{lt_or_le}
use Rattle.codeword_assignment.specs.Book.{Accepted, verdict, ledger_codewords, entry_answer, handed_out_before}
use Rattle.codeword_assignment.proofs.Laws.{entry_answer_lem, accepted_none_refused}
use Rattle.codespace.proofs.Whole.{some_says}

used_small : (ls : List ℕ) (e : ℕ) → verdict ls ≡ Accepted → 0 < get_or ls e 0 → get_or ls e 0 ≤ 32
unfolding entry_answer
used_small ls e a h = (some_says (handed_out_before ls e) (get_or ls e 0) (get_or (ledger_codewords ls) e 0) (entry_answer_lem ls (accepted_none_refused ls a) e h)).0.high

pub all_each : (f : ℕ → Bool) (l : List ℕ) → ((i : ℕ) → i < length l → f (get_or l i 0) ≡ true) → all f l ≡ true
unfolding all
all_each f [] h = refl
all_each f (x ∷ l) h = rw (h 0 (omega arith)) (all_each f l (λ i k. h (suc i) (omega arith)))

pub accepted_small : (ls : List ℕ) → verdict ls ≡ Accepted → all (λ l. leb l 32) ls ≡ true
accepted_small ls a =
    all_each (λ l. leb l 32) ls (λ e k.
    le-leb (get_or ls e 0) 32 (⊎_elim (λ (h : 0 < get_or ls e 0). used_small ls e a h) (λ (h : get_or ls e 0 ≤ 0). omega arith) (lt_or_le 0 (get_or ls e 0))))
