-- The claim about a whole list (demand 3), proved of the ledger's answers; and that entering goes from one list to the next. Assumes nothing.
use mathlib.Core.List.{List, [], ◌∷◌, ◌++◌}
use mathlib.Core.Option.{Option, none}
use mathlib.Core.Path.{◌≡◌, refl, sym, ap, ◌∙◌}
use Prim.Native.Nat.{ℕ, zero, suc, ◌<◌}
use native.Mathlib.Nat.{le_of_suc-le-suc}
use native.Mathlib.Omega.{arith}
use lib.ListN.{length, get_or, take}
use Rattle.codespace.specs.Ledger.{Codeword, free_strings, answer, enlist, after, answers, IsLength}
use Rattle.codespace.specs.Claims.{handed_out, handed_out_by, without, Balanced}
use Rattle.codespace.specs.Inner.Blocks.{empty_blocks, enter_answer, enter_blocks, run_blocks, Reached}
use Rattle.codespace.proofs.Lengths.{no_length}
use Rattle.codespace.proofs.Whole.{answer_are, some_says, balance, refused_is, exactly_one}

-- one length more at the end
pub after_snoc : (ls : List ℕ) (ws : List Codeword) (l : ℕ) → after ws (ls ++ (l ∷ [])) ≡ enlist (after ws ls) l (answer (after ws ls) l)
unfolding after
after_snoc [] ws l = refl
after_snoc (k ∷ ls) ws l = after_snoc ls (enlist ws k (answer ws k)) l

pub answers_snoc : (ls : List ℕ) (ws : List Codeword) (l : ℕ) → answers ws (ls ++ (l ∷ [])) ≡ answers ws ls ++ (answer (after ws ls) l ∷ [])
unfolding after answers
answers_snoc [] ws l = refl
answers_snoc (k ∷ ls) ws l = ap (λ (os : List (Option ℕ)). answer ws k ∷ os) (answers_snoc ls (enlist ws k (answer ws k)) l)

blocks_snoc : (ls bs : List ℕ) (l : ℕ) → run_blocks bs (ls ++ (l ∷ [])) ≡ enter_blocks (run_blocks bs ls) l
unfolding run_blocks
blocks_snoc [] bs l = refl
blocks_snoc (k ∷ ls) bs l = blocks_snoc ls (enter_blocks bs k) l

pub answers-length : (ls : List ℕ) (ws : List Codeword) → length (answers ws ls) ≡ length ls
unfolding answers
answers-length [] ws = refl
answers-length (l ∷ ls) ws = ap suc (answers-length ls (enlist ws l (answer ws l)))

-- the first i answers are those to the first i lengths, and the next is that to the next
answers_take : (i : ℕ) (ls : List ℕ) (ws : List Codeword) → take i (answers ws ls) ≡ answers ws (take i ls)
unfolding answers
answers_take zero ls ws = refl
answers_take (suc i) [] ws = refl
answers_take (suc i) (l ∷ ls) ws = ap (λ (os : List (Option ℕ)). answer ws l ∷ os) (answers_take i ls (enlist ws l (answer ws l)))

pub answers_at : (i : ℕ) (ls : List ℕ) (ws : List Codeword) → i < length ls → get_or (answers ws ls) i none ≡ answer (after ws (take i ls)) (get_or ls i 0)
unfolding answers after
answers_at i [] ws h = absurd (omega arith)
answers_at zero (l ∷ ls) ws h = refl
answers_at (suc i) (l ∷ ls) ws h = answers_at i ls (enlist ws l (answer ws l)) (le_of_suc-le-suc h)

handed_after : (ls : List ℕ) (ws : List Codeword) → handed_out ws ls (answers ws ls) ≡ after ws ls
unfolding handed_out answers after
handed_after [] ws = refl
handed_after (l ∷ ls) ws = handed_after ls (enlist ws l (answer ws l))

answer_outside : (ws : List Codeword) (len : ℕ) → (IsLength len → ⊥) → answer ws len ≡ none
unfolding answer
answer_outside ws len n = rw (no_length len n)

-- a refused length leaves the other answers as they are without it
answers-without : (i : ℕ) (ls : List ℕ) (ws : List Codeword) → i < length ls → get_or (answers ws ls) i none ≡ none
    → without i (answers ws ls) ≡ answers ws (without i ls)
unfolding without answers
answers-without i [] ws h e = absurd (omega arith)
answers-without zero (l ∷ ls) ws h e = ap (λ (o : Option ℕ). answers (enlist ws l o) ls) e
answers-without (suc i) (l ∷ ls) ws h e =
    ap (λ (os : List (Option ℕ)). answer ws l ∷ os) (answers-without i ls (enlist ws l (answer ws l)) (le_of_suc-le-suc h) e)

module _ (ls : List ℕ) where
  by : (i : ℕ) → handed_out_by i ls (answers [] ls) ≡ after [] (take i ls)
  by i = rw (answers_take i ls []) (handed_after (take i ls) [])

  pub balanced : Balanced ls (answers [] ls)
  balanced =
      record {
        ledger = refl;
        balance = λ i h. rw (by i, answers_take i ls []) (balance (take i ls));
        lowest = λ i v h e.
            let o = sym (answers_at i ls [] h) ∙ e in
            rw (by i) (some_says (after [] (take i ls)) (get_or ls i 0) v o).1;
        refused = λ i h k. rw (by i, answers_at i ls [] h) (refused_is (take i ls) (get_or ls i 0) k);
        outside = λ i h n. answers_at i ls [] h ∙ answer_outside (after [] (take i ls)) (get_or ls i 0) n;
        unchanged = λ i h e. answers-without i ls [] h e;
        complete = λ i h e s u. rw (answers_take i ls []) (exactly_one (take i ls) (sym (ap free_strings (by i)) ∙ e) s u);
      }

-- a space that a list has come to, and one length more
pub reached_start : Reached [] empty_blocks
reached_start = record { blocks = unfold run_blocks in refl }

module _ (ls : List ℕ) (len : ℕ) (bs : List ℕ) (r : Reached ls bs) where
  pub next_answer : enter_answer bs len ≡ answer (after [] ls) len
  next_answer = rw r.blocks (answer_are ls len)

  pub next_reached : Reached (ls ++ (len ∷ [])) (enter_blocks bs len)
  next_reached = record { blocks = rw r.blocks (sym (blocks_snoc ls empty_blocks len)) }
