-- Laws of a book's lengths, read and entered, as the code asks them. Assumes nothing.
use Rattle.std.specs.Prelude.{Result, Ok, Err}
use Prim.Native.Nat.{ℕ, ◌+◌, ◌-◌, ◌≤◌}
use native.Mathlib.Omega.{arith}
use borrow.Author.Tests.{le-ltb}
use mathlib.Core.List.{List, ◌++◌}
use mathlib.Core.Path.{◌≡◌, sym, ap, ◌∙◌}
use lib.ListN.{length, take, drop}
use lib.Seq.{sets}
use Rattle.reading.specs.Outcome.{Outcome, ok}
use Rattle.reading.specs.Reader.{mapped}
use Rattle.reading.proofs.Pads.{pad_whole}
use Rattle.bits.specs.declared.Cursor.{Cursor}
use Rattle.bits.specs.declared.refusal.Refusal.{Refusal}
use Rattle.bits.specs.declared.refusal.Reason.{Reason}
use Rattle.bits.specs.declared.refusal.Reason.TheVariants as R
use Rattle.bits.specs.Inner.Cursors.{position, Wrote}
use Rattle.bits.proofs.Steps.{wrote_bad, wrote_ok, wrote_refused, wrote_next}
use Rattle.codeword_assignment.specs.Book.{Assigned, Accepted, verdict, assigned, written, ledger_codewords}
use Rattle.codeword_assignment.specs.declared.book.Unassigned.TheVariants.{Overspecified, Underspecified, TooShort}
use Rattle.codeword_assignment.proofs.Laws.{codewords_length}
use Rattle.book.proofs.Verdict.{accepted_meets, overspecified_breaks7, underspecified_breaks8, verdict_not_short}
use Rattle.bits.proofs.Parts.{mapped-mapped, wrote_mapped, wrote_as, part_back}
use Rattle.book.specs.LengthsReading.{lengths, entered}
use Rattle.book.specs.Inner.LengthsParts.{entries, coded, stored}

abbrev at : Reason → Cursor → Refusal
at r c = record { reason = r; place = c }

verdict_is : (ls : List ℕ) (m : ℕ) (a : Assigned) → a ≡ assigned ls m → length ls ≡ m → verdict ls ≡ a
unfolding assigned
verdict_is ls m a e h = sym (e ∙ rw (le-ltb m (length ls) (omega arith)))

-- the lengths, all read, and entered
abbrev both : ℕ → List ℕ → ℕ → Outcome ((List ℕ × List ℕ) × ℕ)
both place ls next = mapped coded (entered place ls (ok (ls, next)))

module _ (place next : Cursor) (ls : List ℕ) (m : ℕ) {a : Assigned} (p : a ≡ assigned ls m) (long : length ls ≡ m) where
  pub entered_over : {e : ℕ} → a ≡ Err (Overspecified e) → (u : List ℕ × List ℕ) → Wrote (both (position place) ls (position next)) (Err (at R.Overspecified place)) u
  unfolding entered mapped
  entered_over f u = wrote_refused u (rw (overspecified_breaks7 ls (verdict_is ls m a p long ∙ f)))

  pub entered_under : a ≡ Err Underspecified → (u : List ℕ × List ℕ) → Wrote (both (position place) ls (position next)) (Err (at R.Underspecified place)) u
  unfolding entered mapped
  entered_under f u =
      let b = underspecified_breaks8 ls (verdict_is ls m a p long ∙ f) in
      wrote_refused u (rw (b.0, b.1))

  pub entered_short : a ≡ Err TooShort → (u : List ℕ × List ℕ) → Wrote (both (position place) ls (position next)) (Err (at R.Room place)) u
  entered_short f u = absurd (verdict_not_short ls (verdict_is ls m a p long ∙ f))

  codewords_are : {codewords : List ℕ} → a ≡ Accepted → codewords ≡ written a ls m → codewords ≡ ledger_codewords ls
  codewords_are f e = e ∙ ap (λ (x : Assigned). written x ls m) f ∙ pad_whole m (ledger_codewords ls) (codewords_length ls ∙ long)

  pub entered_accepted : {codewords : List ℕ} → a ≡ Accepted → codewords ≡ written a ls m → Wrote (both (position place) ls (position next)) (Ok next) (ls, codewords)
  unfolding entered mapped
  entered_accepted {codewords} f e =
      let v = accepted_meets ls (verdict_is ls m a p long ∙ f) in
      let g : codewords ≡ ledger_codewords ls = codewords_are f e in
      wrote_next (rw (v.0, v.1, g))

-- the lengths, read and entered
module _ (place : Cursor) (n : ℕ) (s : List ℕ) (k : ℕ) {r : Result Cursor Refusal} {ls : List ℕ} (w : Wrote (lengths (position place) n s k) r ls) where
  pub entries_refused : {z : Refusal} → r ≡ Err z → (u : List ℕ × List ℕ) → Wrote (mapped coded (entries (position place) n s k)) (Err z) u
  unfolding entries mapped
  entries_refused q u = wrote_refused u (rw (wrote_bad w q))

  pub entries_entered : {c : Cursor} → r ≡ Ok c → {st : Result Cursor Refusal} {u : List ℕ × List ℕ} → Wrote (both (position place) ls (position c)) st u
      → Wrote (mapped coded (entries (position place) n s k)) st u
  unfolding entries
  entries_entered q w₂ = rw (wrote_ok w q) w₂

-- both laid out in the tables that lent the parts
pub entries-stored : (place n : ℕ) (s : List ℕ) (k first count : ℕ) (lens wds : List ℕ) {r : Result Cursor Refusal} {ls ws : List ℕ} → Wrote (mapped coded (entries place n s k)) r (ls, ws)
    → n ≡ count → length ls ≡ count → length ws ≡ count → first + count ≤ length lens → first + count ≤ length wds
    → Wrote (mapped (stored lens wds first) (entries place count s k)) r
    (take first lens ++ (ls ++ drop (first + count - first) (drop first lens)), take first wds ++ (ws ++ drop (first + count - first) (drop first wds)))
entries-stored place n s k first count lens wds {r} {ls} {ws} w e el ew fl fw =
    let d : first + count - first ≡ count = omega arith in
    let b₁ : sets lens first ls ≡ take first lens ++ (ls ++ drop (first + count - first) (drop first lens))
    = part_back lens first ls (omega arith) ∙ ap (λ (x : ℕ). take first lens ++ (ls ++ drop x (drop first lens))) (el ∙ sym d) in
    let b₂ : sets wds first ws ≡ take first wds ++ (ws ++ drop (first + count - first) (drop first wds))
    = part_back wds first ws (omega arith) ∙ ap (λ (x : ℕ). take first wds ++ (ws ++ drop x (drop first wds))) (ew ∙ sym d) in
    wrote_as
    (mapped-mapped (λ (x : List ℕ × List ℕ). (sets lens first x.0, sets wds first x.1)) coded (entries place n s k)
    ∙ ap (λ (x : ℕ). mapped (stored lens wds first) (entries place x s k)) e)
    (λ j. (b₁ j, b₂ j))
    (wrote_mapped (λ (x : List ℕ × List ℕ). (sets lens first x.0, sets wds first x.1)) w)
