-- A book's codewords, verdict and free strings from the answers to its lengths, each in its place. The ledger's answers cannot be computed; the model's, which
-- are the same, can: so worked figures are computed by these laws. Assumes nothing.
use Rattle.std.specs.Prelude.{Err}
use mathlib.Core.Bool.{true, false, cond, ◌&&◌, ◌||◌}
use mathlib.Core.List.{List, [], map}
use mathlib.Core.Option.{Option, none}
use mathlib.Core.Path.{◌≡◌, refl, sym, ap, ◌∙◌}
use mathlib.Core.Logic.{⊎_elim}
use Prim.Native.Nat.{ℕ, ◌-◌, ◌<◌}
use native.Mathlib.Omega.{arith}
use lib.Dec.{eqb}
use lib.ListN.{length, get_or, length-map, get_or-map}
use lib.Seq.{ext_get_or}
use borrow.Author.Tests.{eqb-true}
use Rattle.reading.specs.Least.{lowest}
use Rattle.reading.proofs.Least.{lowest_same, true_or_false}
use Rattle.codespace.specs.Ledger.{is_length, answer, answers}
use Rattle.codespace.specs.Claims.{accepted}
use Rattle.codespace.specs.Answers.{is_none}
use Rattle.codeword_assignment.specs.Book.{used, is_used, entry_answer, or_zero, is_refused, first_refused, codeword_of, ledger_codewords, free_after, is_lone, refused_or, verdict, Assigned, Accepted}
use Rattle.codeword_assignment.specs.declared.book.Unassigned.TheVariants.{Underspecified}
use Rattle.codespace.proofs.Whole.{balance}
use Rattle.codespace.proofs.Claimed.{answers_at, answers-length}
use Rattle.codeword_assignment.proofs.Laws.{after-used, handed_before, codewords_length, codewords_at}

-- a book's codewords, verdict and free strings, from the answers os to its lengths
abbrev pub verdict_by : List ℕ → List (Option ℕ) → Assigned
verdict_by ls os =
    refused_or (lowest (λ e. is_used ls e && is_none (get_or os e none)) (length ls))
    (cond (eqb (4294967296 - accepted ls os) 0 || is_lone (used ls)) Accepted (Err Underspecified))

module _ (ls : List ℕ) where
  entry_is : (e : ℕ) → e < length ls → entry_answer ls e ≡ get_or (answers [] ls) e none
  unfolding entry_answer
  entry_is e h = rw (handed_before ls e) (sym (answers_at e ls [] h))

  word_is : (e : ℕ) → codeword_of ls e ≡ or_zero (entry_answer ls e)
  unfolding codeword_of is_used entry_answer answer
  word_is e =
      ⊎_elim
      (λ (t : eqb (get_or ls e 0) 0 ≡ true). rw (t, eqb-true (get_or ls e 0) 0 t) (unfold is_length in refl))
      (λ (t : eqb (get_or ls e 0) 0 ≡ false). rw t)
      (true_or_false (eqb (get_or ls e 0) 0))

  -- THE CODEWORDS ARE THE ANSWERS, in their places
  pub codewords_are : ledger_codewords ls ≡ map or_zero (answers [] ls)
  codewords_are =
      ext_get_or 0 (ledger_codewords ls) (map or_zero (answers [] ls))
      (codewords_length ls ∙ sym (length-map (answers [] ls) or_zero ∙ answers-length ls []))
      (λ e h.
      let l : e < length ls = rw (codewords_length ls) at h in
      codewords_at ls e l ∙ word_is e ∙ ap or_zero (entry_is e l) ∙ sym (get_or-map or_zero (answers [] ls) e none))

  pub free_is : free_after ls ≡ 4294967296 - accepted ls (answers [] ls)
  unfolding free_after
  free_is = let b = balance ls in rw (after-used ls []) (omega arith)

  pub verdict_is : verdict ls ≡ verdict_by ls (answers [] ls)
  unfolding verdict first_refused
  verdict_is =
      rw (
        lowest_same (is_refused ls) (λ e. is_used ls e && is_none (get_or (answers [] ls) e none)) (length ls)
            (λ e h. unfold is_refused in rw (entry_is e h)),
        free_is,
      )
