-- Laws of reading one book as the code asks them: the lookup and the row, what follows the head, the whole book. Each part's outcome is carried into the
-- tables by a function of it. Assumes nothing.
use Rattle.std.specs.Prelude.{Result, Ok, Err, IfOk}
use Rattle.std.proofs.lemmas.Result.{IfOk-weaker}
use Prim.Native.Nat.{ℕ, ◌+◌, ◌*◌, ◌≤◌}
use native.Mathlib.Omega.{arith}
use mathlib.Core.List.{List, [], ◌∷◌, ◌++◌, append_assoc}
use mathlib.Core.Path.{◌≡◌, refl, sym, ap, ◌∙◌}
use lib.ListN.{length, get_or, take, drop}
use lib.Seq.{sets, sets-eq, take_at, drop_at, length-take-le}
use Rattle.reading.specs.Outcome.{Outcome, ok, bad}
use Rattle.reading.specs.Outcome as O
use Rattle.reading.specs.Reader.{mapped, into1}
use Rattle.reading.proofs.Readers.{mapped_bad, mapped_ok}
use Rattle.bits.specs.declared.Cursor.{Cursor}
use Rattle.bits.specs.declared.refusal.Refusal.{Refusal}
use Rattle.bits.specs.Inner.Cursors.{position, refusal_of, outcome, Wrote}
use Rattle.bits.proofs.Answers.{value_is, refused_is}
use Rattle.bits.proofs.Steps.{wrote_bad, wrote_ok}
use Rattle.limits.specs.declared.Limits.{Limits}
use Rattle.codeword_assignment.specs.Book.{ledger_codewords, lone_mark}
use Rattle.book.specs.Layout.{book_width, book_row}
use Rattle.bits.proofs.Parts.{mapped-then, mapped-mapped}
use Rattle.book.specs.HeadReading.{head, totals}
use Rattle.book.specs.declared.Head.{Head}
use Rattle.book.specs.Inner.Answers.{answered}
use Rattle.book_reading.specs.declared.read.Totals.{Totals}
use Rattle.book.specs.Inner.LengthsParts.{entries}
use Rattle.book.specs.Inner.LengthsParts as L
use Rattle.book.proofs.LengthsAccepted.{entries_known}
use Rattle.book.specs.LookupReading.{Lookup, lookup}
use Rattle.book.specs.Inner.LookupParts.{stored}
use Rattle.book.specs.Reading.{book}
use Rattle.book.specs.Inner.Parts.{book_of, body}
use Rattle.book.specs.Inner.Layout.{Tables, tables, put_book, finished}

-- the lookup and the row
module _ (h : Head) (bk m : List ℕ) (index before values lone : ℕ) where
  -- over a lookup's numbers and the multiplicands
  abbrev rowed : List ℕ × List ℕ → List ℕ × List ℕ × ℕ
  rowed x = (sets bk (book_width * index) (h.dimensions ∷ h.entries ∷ before ∷ (x.0 ++ (values ∷ lone ∷ []))), x.1, values + get_or x.0 5 0)

  pub finish_refused : (o : Outcome (Lookup × ℕ)) {z : O.Refusal} → mapped (stored m values) o ≡ bad z → mapped (finished bk m h index before values lone) o ≡ bad z
  unfolding mapped
  finish_refused o e = rw (mapped_bad (stored m values) o e)

  pub finish_whole : (o : Outcome (Lookup × ℕ)) {a₀ a₁ a₂ a₃ a₄ a₅ k : ℕ} {m' : List ℕ} → mapped (stored m values) o ≡ ok ((a₀ ∷ a₁ ∷ a₂ ∷ a₃ ∷ a₄ ∷ a₅ ∷ [], m'), k)
      → {bk' : List ℕ} → bk' ≡ sets bk (book_width * index) (h.dimensions ∷ h.entries ∷ before ∷ a₀ ∷ a₁ ∷ a₂ ∷ a₃ ∷ a₄ ∷ a₅ ∷ values ∷ lone ∷ [])
      → mapped (finished bk m h index before values lone) o ≡ ok ((bk', m', values + a₅), k)
  unfolding finished mapped
  finish_whole o {a₀} {a₁} {a₂} {a₃} {a₄} {a₅} {k} {m'} w {bk'} b =
      sym (mapped-mapped rowed (stored m values) o) ∙ ap (mapped rowed) w ∙ (λ j. ok ((sym b j, m', values + a₅), k))

-- bounds on totals, from others
pub totals_within : (r : Result (Totals × Cursor) Refusal) (entries most : ℕ) → IfOk r (λ x. (x.0.entries ≡ entries) × (x.0.values ≤ most)) → IfOk r (λ x. (x.0.entries ≤ entries) × (x.0.values ≤ most))
totals_within (Ok x) entries most v = let e = v.0 in (omega arith, v.1)
totals_within (Err z) entries most v = v

pub totals_below : (r : Result (Totals × Cursor) Refusal) (entries above most : ℕ) → entries ≤ above → IfOk r (λ x. (x.0.entries ≤ entries) × (x.0.values ≤ most))
    → IfOk r (λ x. (x.0.entries ≤ above) × (x.0.values ≤ most))
totals_below (Ok x) entries above most h v = let e = v.0 in (omega arith, v.1)
totals_below (Err z) entries above most h v = v

-- a run that was stored is read back
run_back : (l vs : List ℕ) (i : ℕ) → i + length vs ≤ length l → take (length vs) (drop i (sets l i vs)) ≡ vs
run_back l vs i h =
    let n : length (take i l) ≡ i = length-take-le i l (omega arith) in
    ap (λ (x : List ℕ). take (length vs) (drop i x)) (sets-eq vs l i h ∙ append_assoc (take i l) vs (drop (i + length vs) l))
    ∙ ap (take (length vs)) (drop_at (take i l) (vs ++ drop (i + length vs) l) i n)
    ∙ take_at vs (drop (i + length vs) l) (length vs) refl

-- what follows the head
module _ (place : Cursor) (h : Head) (most : ℕ) (s : List ℕ) (k : ℕ) (bk lens wds m : List ℕ) (index before values : ℕ) where
  abbrev at_entry : Tables
  at_entry = tables bk lens wds m index before values

  module _ {st : Result Cursor Refusal} {lens' wds' : List ℕ} (w : Wrote (mapped (L.stored lens wds before) (entries (position place) h.entries s k)) st (lens', wds')) where
    pub body_refused : {z : Refusal} → st ≡ Err z → into1 put_book (body (position place) h most values s k) at_entry ≡ bad (refusal_of z)
    unfolding into1 mapped body
    body_refused q = rw (mapped_bad (L.stored lens wds before) (entries (position place) h.entries s k) (wrote_bad w q))

    module _ {c : Cursor} (q : st ≡ Ok c) where
      -- the lookup's definition, and the head with a number of entries
      abbrev rest : Outcome (Lookup × ℕ)
      rest = lookup (position place) h.entries h.dimensions most values s (position c)

      abbrev counted : ℕ → Head
      counted n = record { dimensions = h.dimensions; entries = n }

      -- the tables once the lengths ls are laid out, over what the lookup comes to
      abbrev placed : List ℕ → List ℕ × List ℕ × ℕ → Tables
      placed ls x = tables x.0 (sets lens before ls) (sets wds before (ledger_codewords ls)) x.1 (index + 1) (before + length ls) x.2

      body_as : (ls : List ℕ) → entries (position place) h.entries s k ≡ ok (ls, position c)
          → into1 put_book (body (position place) h most values s k) at_entry ≡ mapped (placed ls) (mapped (finished bk m (counted (length ls)) index before values (lone_mark ls)) rest)
      unfolding into1 body put_book book_row finished
      body_as ls e =
          rw e
          (mapped-then (λ b. put_book b at_entry) (book_of h ls) rest
          ∙ sym (mapped-mapped (placed ls) (finished bk m (counted (length ls)) index before values (lone_mark ls)) rest))

      -- what is answered with the totals of entries, where they are the lengths laid out and those before
      totalled : (ls bk' m' : List ℕ) {lens' wds' : List ℕ} (r : Result (Totals × Cursor) Refusal) → (sets lens before ls ≡ lens') → (sets wds before (ledger_codewords ls) ≡ wds')
          → IfOk r (λ x. before + length ls ≡ x.0.entries)
          → answered (λ t. tables bk' lens' wds' m' (index + 1) t.entries t.values) r ≡ mapped (placed ls) (answered (λ t. (bk', m', t.values)) r)
      unfolding answered mapped
      totalled ls bk' m' (Ok x) e f g = λ j. ok (tables bk' (sym e j) (sym f j) m' (index + 1) (sym g j) x.0.values, position x.1)
      totalled ls bk' m' (Err z) e f g = refl

      pub body_whole : {lone : ℕ} → before + h.entries ≤ length lens → lone ≡ lone_mark (take h.entries (drop before lens'))
          → (r : Result (Totals × Cursor) Refusal) (bk' m' : List ℕ) → answered (λ t. (bk', m', t.values)) r ≡ mapped (finished bk m h index before values lone) rest
          → IfOk r (λ x. (x.0.entries ≡ before + h.entries) × (x.0.values ≤ most))
          → answered (λ t. tables bk' lens' wds' m' (index + 1) t.entries t.values) r ≡ into1 put_book (body (position place) h most values s k) at_entry
      body_whole {lone} fits mark r bk' m' w₂ f =
          let a = mapped_ok (L.stored lens wds before) (entries (position place) h.entries s k) (wrote_ok w q) in
          let n : length a.0 ≡ h.entries = (entries_known (position place) h.entries s k a.1).long in
          let own : take h.entries (drop before lens') ≡ a.0 =
          ap (λ (x : List ℕ × List ℕ). take h.entries (drop before x.0)) (sym a.2)
          ∙ ap (λ (x : ℕ). take x (drop before (sets lens before a.0))) (sym n)
          ∙ run_back lens a.0 before (omega arith) in
          let o : lone_mark a.0 ≡ lone = sym (mark ∙ ap lone_mark own) in
          totalled a.0 bk' m' r (ap (λ (x : List ℕ × List ℕ). x.0) a.2) (ap (λ (x : List ℕ × List ℕ). x.1) a.2) (IfOk-weaker r _ _ (λ x v. ap (λ (x : ℕ). before + x) n ∙ sym v.0) f)
          ∙ ap (mapped (placed a.0)) w₂
          ∙ sym (body_as a.0 a.1 ∙ (λ j. mapped (placed a.0) (mapped (finished bk m (counted (n j)) index before values (o j)) rest)))

-- the head and what follows it
module _ (l : Limits) (before values : ℕ) (s : List ℕ) (k : Cursor) (t : Tables) {r : Result (Head × Cursor) Refusal} (p : outcome r ≡ head l (totals before 0) s (position k)) where
  pub book_refused : {z : Refusal} → r ≡ Err z → into1 put_book (book l (totals before values) s (position k)) t ≡ bad (refusal_of z)
  unfolding into1 mapped book head
  book_refused q = rw (refused_is p q)

  module _ {h : Head} {c : Cursor} (q : r ≡ Ok (h, c)) where
    pub book_whole : {o : Outcome (Tables × ℕ)} → o ≡ into1 put_book (body (position k) h l.multiplicands values s (position c)) t → o ≡ into1 put_book (book l (totals before values) s (position k)) t
    unfolding book body entries head
    book_whole w = rw (value_is p q) w
