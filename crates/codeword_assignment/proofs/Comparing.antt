-- The turns and ends of `are_codewords`: those of `hand_out`, with the words compared instead of stored. Assumes nothing.
use mathlib.Core.Bool.{Bool, true, false, cond}
use mathlib.Core.List.{List, [], ◌∷◌}
use mathlib.Core.Logic.{◌↔◌, ⊎_elim}
use mathlib.Core.Path.{◌≡◌, refl, sym, ap, ◌∙◌}
use Prim.Native.Nat.{ℕ, zero, suc, ◌+◌, ◌≤◌, ◌<◌}
use native.Mathlib.Omega.{arith}
use lib.Dec.{eqb}
use lib.ListN.{length, get_or, set, take}
use Rattle.reading.proofs.Least.{lt_or_le, true_or_false}
use Rattle.reading.specs.Tabulate.{tabulate}
use Rattle.reading.proofs.Tabulate.{tabulate_at, tabulate-length, tabulate_store, tabulate_all}
use Rattle.codespace.specs.Inner.Blocks.{vacant, enter_answer, enter_blocks, Reached}
use Rattle.codespace.specs.Answers.{number, is_none}
use Rattle.codeword_assignment.specs.Book.{used, codeword_of, ledger_codewords, is_lone, Coded}
use Rattle.codeword_assignment.proofs.Assigning.{Assigning, assigning_start, assigning_turn, word_is, overspecified, full_accepted, lone_accepted, underspecified}

pub not_coded : (ls codewords : List ℕ) → (Coded ls codewords → ⊥) → (false ≡ true) ↔ Coded ls codewords
not_coded ls codewords n = (λ t. let z : ◌≡◌ {A = ℕ} 0 1 = cc in absurd (omega arith), λ k. absurd (n k))

-- as many words as lengths
pub other_length : (ls codewords : List ℕ) → (length ls ≡ length codewords → ⊥) → Coded ls codewords → ⊥
unfolding ledger_codewords
other_length ls codewords n k = n (sym (ap length k.assigned ∙ tabulate-length (codeword_of ls) (length ls)))

set_same : (l : List ℕ) (i : ℕ) → set l i (get_or l i 0) ≡ l
set_same [] i = refl
set_same (x ∷ l) zero = refl
set_same (x ∷ l) (suc i) = ap (λ (t : List ℕ). x ∷ t) (set_same l i)

word_at : (ls codewords : List ℕ) (i : ℕ) → i < length ls → codewords ≡ ledger_codewords ls → get_or codewords i 0 ≡ codeword_of ls i
unfolding ledger_codewords
word_at ls codewords i h e = ap (λ (t : List ℕ). get_or t i 0) e ∙ tabulate_at (codeword_of ls) (length ls) i h

-- where a turn begins: the entries before i are entered, and their words are the codewords
pub record Comparing (ls codewords bs : List ℕ) (i : ℕ) : Type 0 where
  pub long : length ls ≡ length codewords
  pub entered : Assigning ls bs i
  pub same : take i codewords ≡ tabulate (codeword_of ls) i

pub comparing_start : (ls codewords bs : List ℕ) → length ls ≡ length codewords → Reached [] bs → Comparing ls codewords bs 0
comparing_start ls codewords bs n r = record { long = n; entered = assigning_start ls bs r; same = unfold tabulate in refl }

module _ (ls codewords bs : List ℕ) (i v : ℕ) (h : i < length ls) (w : Comparing ls codewords bs i)
    (e : v ≡ cond (eqb (get_or ls i 0) 0) 0 (number (enter_answer bs (get_or ls i 0)))) where
  pub comparing_turn : get_or codewords i 0 < vacant → v ≡ get_or codewords i 0 → (bs' : List ℕ) → bs' ≡ enter_blocks bs (get_or ls i 0)
      → Comparing ls codewords bs' (i + 1)
  comparing_turn p q bs' f =
      let n = w.long in
      let k = word_is ls bs i v h w.entered e (omega arith) in
      let s : set codewords i v ≡ codewords = ap (set codewords i) q ∙ set_same codewords i in
      record {
        long = n;
        entered = assigning_turn ls bs i v h w.entered e bs' f (omega arith);
        same = rw s at (tabulate_store (codeword_of ls) codewords i v (omega arith) k w.same);
      }

  pub other_word : get_or codewords i 0 < vacant → (v ≡ get_or codewords i 0 → ⊥) → Coded ls codewords → ⊥
  other_word p q k =
      ⊎_elim
      (λ (l : v < vacant). q (word_is ls bs i v h w.entered e l ∙ sym (word_at ls codewords i h k.assigned)))
      (λ (l : vacant ≤ v). let p = overspecified ls bs i v h w.entered e l in let q = k.accepted in let z : ◌≡◌ {A = ℕ} 0 1 = cc in omega arith)
      (lt_or_le v vacant)

-- the end of the loop
module _ (ls codewords bs : List ℕ) (i : ℕ) (h : length ls ≤ i) (w : Comparing ls codewords bs i) where
  all_same : codewords ≡ ledger_codewords ls
  unfolding ledger_codewords
  all_same = tabulate_all (codeword_of ls) codewords i (length ls) (sym w.long) w.entered.within h w.same

  pub coded_full : (r : Bool) → r ≡ is_none (enter_answer bs 32) → r ≡ true → (r ≡ true) ↔ Coded ls codewords
  coded_full r e t = (λ s. record { accepted = sym (full_accepted ls bs i h w.entered r e t); assigned = all_same }, λ k. t)

  coded_lone : (r : Bool) → r ≡ is_lone (used ls) → r ≡ true → Coded ls codewords
  coded_lone r e t = record { accepted = sym (lone_accepted ls bs i h w.entered r e t); assigned = all_same }

  coded_under : (r q : Bool) → r ≡ is_none (enter_answer bs 32) → r ≡ false → q ≡ is_lone (used ls) → q ≡ false → Coded ls codewords → ⊥
  coded_under r q e t f s k = let p = underspecified ls bs i h w.entered r q e t f s in let q = k.accepted in let z : ◌≡◌ {A = ℕ} 0 1 = cc in omega arith

  pub coded_end : (r q : Bool) → r ≡ is_none (enter_answer bs 32) → r ≡ false → q ≡ is_lone (used ls) → (q ≡ true) ↔ Coded ls codewords
  coded_end r q e t f = (λ s. coded_lone q f s, λ k. ⊎_elim (λ s. s) (λ s. absurd (coded_under r q e t f s k)) (true_or_false q))
