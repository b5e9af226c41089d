-- Laws of the sections as the code asks them: one for each way out of a function, and those of the loop over time values. Assumes nothing.
use Rattle.std.specs.Prelude.{Result, Ok, Err}
use Prim.Native.Nat.{ℕ, suc, ◌+◌, ◌-◌, ◌^◌, ◌≤◌, ◌<◌}
use native.Mathlib.Nat.{sub-zero}
use native.Mathlib.Omega.{arith}
use borrow.Author.Rules.{rules}
use borrow.Author.Tests.{eq-eqb, ne_eqb}
use mathlib.Core.List.{List, [], ◌∷◌}
use mathlib.Core.Path.{◌≡◌, refl, sym, ap, ◌∙◌}
use lib.ListN.{length}
use Rattle.reading.specs.Outcome.{Outcome, ok, bad, then}
use Rattle.reading.specs.Reader.{Reader, many, puts, into}
use Rattle.reading.specs.Pad.{pad}
use Rattle.reading.specs.Encoding.{Zeros}
use Rattle.reading.specs.Inner.Table.{Table, table, put_row}
use Rattle.reading.proofs.Accepted.{many_number}
use Rattle.reading.proofs.Readers.{mapped_bad}
use Rattle.bits.specs.declared.Cursor.{Cursor}
use Rattle.bits.specs.declared.refusal.Refusal.{Refusal}
use Rattle.bits.specs.Inner.Cursors.{position, refusal_of, outcome, stepped, Wrote}
use Rattle.bits.specs.Field.{field}
use Rattle.bits.proofs.Answers.{value_is, refused_is, value_below}
use Rattle.bits.proofs.Steps.{wrote_next}
use Rattle.bits.specs.declared.refusal.Reason.TheVariants as R
use Rattle.limits.specs.declared.Limits.{Limits}
use Rattle.book.specs.Content.{Book}
use Rattle.book.specs.HeadReading.{Before}
use Rattle.book.specs.Inner.Layout.{tables, put_book}
use Rattle.book.specs.Inner.Layout as B
use Rattle.book.specs.Inner.Parts as P
use Rattle.book.specs.Rows.{book_rows, all_lengths, all_codewords, all_multiplicands, and_these}
use Rattle.book.proofs.BooksStored.{cleared_stored}
use Rattle.residue.specs.Content.{Residue}
use Rattle.residue.specs.Layout.{head_row, plan_table, put_residue}
use Rattle.residue.specs.Layout as ResidueLayout
use Rattle.residue.specs.Inner.Plans.{tables_at}
use Rattle.setup.specs.Reading.{book_section, section, time_value}
use Rattle.setup.specs.Inner.Parts.{ReadInto, ReadCounted, RowsStored, BooksStored, ResiduesStored, ClearedBookBuffers}
use Rattle.setup.proofs.ReadIntoLaws.{read_into_wrote, counted, counted_refused, rows_stored}

-- a count less one, of 6 bits and of 8
module _ (s : List ℕ) (k : Cursor) {r : Result (ℕ × Cursor) Refusal} {v : ℕ} {c : Cursor} where
  pub count_few : outcome r ≡ field 6 s (position k) → r ≡ Ok (v, c) → v + 1 ≤ 64
  count_few p q = let b : v < 64 = value_below 6 s (position k) p q in omega arith

  pub wide_few : {n : ℕ} → outcome r ≡ field 6 s (position k) → r ≡ Ok (v, c) → n ≡ v + 1 → n ≤ 64
  wide_few p q e = let b = count_few p q in omega arith

  pub books_few : outcome r ≡ field 8 s (position k) → r ≡ Ok (v, c) → v + 1 ≤ 256
  books_few p q = let b : v < 256 = value_below 8 s (position k) p q in omega arith

  pub count_fits : outcome r ≡ field 6 s (position k) → r ≡ Ok (v, c) → v + 1 < 2 ^ 32
  count_fits p q = let b = count_few p q in omega arith

  pub books_fit : outcome r ≡ field 8 s (position k) → r ≡ Ok (v, c) → v + 1 < 2 ^ 32
  books_fit p q = let b = books_few p q in omega arith

-- a section of items that have rows in one table
module _ {A : Type 0} (row : A → List ℕ) (item : Reader A) (s : List ℕ) (k : Cursor) {r : Result (ℕ × Cursor) Refusal} (p : outcome r ≡ field 6 s (position k)) where
  pub section_cut : {z : Refusal} {entry exit : List ℕ} → r ≡ Err z → ReadCounted (section item s (position k)) (Err z) (λ n. RowsStored row n entry exit)
  unfolding section
  section_cut q = counted_refused (rw (refused_is p q))

  pub section_read : {v n m : ℕ} {c : Cursor} {st : Result Cursor Refusal} {entry exit : List ℕ} → r ≡ Ok (v, c) → n ≡ v + 1 → Zeros entry
      → Wrote (into (put_row row) (many item n s (position c)) (table entry 0)) st (table exit m)
      → ReadInto (section item s (position k)) st (RowsStored row (v + 1) entry exit)
  unfolding section into
  section_read {v} {n} {m} {c} {st} {entry} {exit} q e z w =
      rw (value_is p q, ← e)
      (read_into_wrote (λ l. puts (put_row row) l (table entry 0)) (many item n s (position c)) w
      (λ a j f g. record { count = sym (many_number item s n (position c) f); cells = rows_stored row a entry z g }))

-- the books
abbrev none : Before
none = record { entries = 0; values = 0 }

books_stored : {limits : Limits} {n e v : ℕ} {b b' l l' w w' m m' : List ℕ} → ClearedBookBuffers limits b l w m → (bs : List Book)
    → puts put_book bs (tables b l w m 0 0 0) ≡ tables b' l' w' m' n e v → BooksStored n b b' l l' w w' m m' bs
books_stored {limits} {n} {e} {v} {b} {b'} {l} {l'} {w} {w'} {m} {m'} buffers bs g =
    let f : tables b' l' w' m' n e v
    ≡ tables (pad (length b) (book_rows none bs)) (pad (length l) (all_lengths bs)) (pad (length w) (all_codewords bs)) (pad (length m) (all_multiplicands bs)) (length bs)
    (and_these none bs).entries (and_these none bs).values
    = sym g ∙ (λ j. puts put_book bs (tables (buffers.no_books j) (buffers.no_lengths j) (buffers.no_codewords j) (buffers.no_multiplicands j) 0 0 0))
    ∙ cleared_stored (length b) (length l) (length w) (length m) bs in
    record {
      count = ap (λ (t : B.Tables). t.count) f;
      books = ap (λ (t : B.Tables). t.books) f;
      lengths = ap (λ (t : B.Tables). t.lengths) f;
      codewords = ap (λ (t : B.Tables). t.codewords) f;
      multiplicands = ap (λ (t : B.Tables). t.multiplicands) f;
    }

module _ (limits : Limits) (s : List ℕ) (k : Cursor) {r : Result (ℕ × Cursor) Refusal} (p : outcome r ≡ field 8 s (position k)) where
  pub books_cut : {z : Refusal} {b b' l l' w w' m m' : List ℕ} → r ≡ Err z → ReadCounted (book_section limits s (position k)) (Err z) (λ n. BooksStored n b b' l l' w w' m m')
  unfolding book_section
  books_cut q = counted_refused (rw (refused_is p q))

  module _ {v : ℕ} {c : Cursor} (q : r ≡ Ok (v, c)) (b l w m : List ℕ) where
    pub books_refused : {z : Refusal} {L : ℕ → List Book → Type 0} → into put_book (P.section limits (v + 1) s (position c)) (tables b l w m 0 0 0) ≡ bad (refusal_of z)
        → ReadCounted (book_section limits s (position k)) (Err z) L
    unfolding book_section into
    books_refused e = rw (value_is p q) (counted_refused (mapped_bad (λ bs. puts put_book bs (tables b l w m 0 0 0)) (P.section limits (v + 1) s (position c)) e))

    pub books_read : {e x : ℕ} {c' : Cursor} {b' l' w' m' : List ℕ} → ClearedBookBuffers limits b l w m
        → into put_book (P.section limits (v + 1) s (position c)) (tables b l w m 0 0 0) ≡ ok (tables b' l' w' m' (v + 1) e x, position c')
        → ReadCounted (book_section limits s (position k)) (Ok (v + 1, c')) (λ n. BooksStored n b b' l l' w w' m m')
    unfolding book_section into
    books_read buffers e =
        rw (value_is p q)
        (counted (v + 1)
        (read_into_wrote (λ bs. puts put_book bs (tables b l w m 0 0 0)) (P.section limits (v + 1) s (position c)) (wrote_next e) (λ bs j f g. books_stored buffers bs g)))

-- the residues
puts_residues : (rs : List Residue) (h p : Table)
    → puts put_residue rs (record { heads = h; plans = p }) ≡ record { heads = puts (put_row head_row) rs h; plans = puts (put_row plan_table) rs p }
unfolding puts put_residue
puts_residues [] h p = refl
puts_residues (r ∷ rs) h p = puts_residues rs (put_row head_row r h) (put_row plan_table r p)

module _ (item : Reader Residue) (s : List ℕ) (k : Cursor) {r : Result (ℕ × Cursor) Refusal} (p : outcome r ≡ field 6 s (position k)) where
  pub residues_cut : {z : Refusal} {h h' t t' : List ℕ} → r ≡ Err z → ReadCounted (section item s (position k)) (Err z) (λ n. ResiduesStored n h h' t t')
  unfolding section
  residues_cut q = counted_refused (rw (refused_is p q))

  pub residues_read : {v n : ℕ} {c : Cursor} {st : Result Cursor Refusal} {h h' t t' : List ℕ} → r ≡ Ok (v, c) → n ≡ v + 1 → Zeros h → Zeros t
      → Wrote (into put_residue (many item n s (position c)) (tables_at h t 0)) st (tables_at h' t' n)
      → ReadInto (section item s (position k)) st (ResiduesStored (v + 1) h h' t t')
  unfolding section into
  residues_read {v} {n} {c} {st} {h} {h'} {t} {t'} q e y z w =
      rw (value_is p q, ← e)
      (read_into_wrote (λ l. puts put_residue l (tables_at h t 0)) (many item n s (position c)) w
      (λ a j f g.
      let d : record { heads = puts (put_row head_row) a (table h 0); plans = puts (put_row plan_table) a (table t 0) } ≡ tables_at h' t' n
      = sym (puts_residues a (table h 0) (table t 0)) ∙ g in
      record {
        count = sym (many_number item s n (position c) f);
        residues = rows_stored head_row a h y (ap (λ (x : ResidueLayout.Tables). x.heads) d);
        plans = rows_stored plan_table a t z (ap (λ (x : ResidueLayout.Tables). x.plans) d);
      }))

-- time values: nothing is left of what was read but the position
abbrev after : {A : Type 0} → Outcome (A × ℕ) → Outcome ℕ
after o = then o (λ x. ok x.1)

module _ (s : List ℕ) (k : Cursor) {r : Result (ℕ × Cursor) Refusal} where
  pub time_cut : {z : Refusal} → outcome r ≡ field 16 s (position k) → r ≡ Err z → stepped (Err z) ≡ then (time_value s (position k)) (λ x. ok x.1)
  unfolding time_value stepped
  time_cut p q = rw (refused_is p q)

  pub time_wrong : {v : ℕ} {c : Cursor} → outcome r ≡ field 16 s (position k) → r ≡ Ok (v, c) → (v ≡ 0 → ⊥)
      → stepped (Err (record { reason = R.NotZero; place = k })) ≡ then (time_value s (position k)) (λ x. ok x.1)
  unfolding time_value stepped
  time_wrong p q n = rw (value_is p q, ne_eqb _ _ n)

  pub time_read : {v : ℕ} {c : Cursor} → outcome r ≡ field 16 s (position k) → r ≡ Ok (v, c) → v ≡ 0 → stepped (Ok c) ≡ then (time_value s (position k)) (λ x. ok x.1)
  unfolding time_value stepped
  time_read p q e = rw (value_is p q, eq-eqb _ _ e)

  pub times_cut : {z : Refusal} → outcome r ≡ field 6 s (position k) → r ≡ Err z → stepped (Err z) ≡ then (section time_value s (position k)) (λ x. ok x.1)
  unfolding section stepped
  times_cut p q = rw (refused_is p q)

  pub times_read : {v : ℕ} {c : Cursor} (st : Result Cursor Refusal) → outcome r ≡ field 6 s (position k) → r ≡ Ok (v, c) → stepped st ≡ then (many time_value (v + 1) s (position c)) (λ x. ok x.1)
      → stepped st ≡ then (section time_value s (position k)) (λ x. ok x.1)
  unfolding section
  times_read st p q e = rw (value_is p q) e

-- i of n are read: what is left of them from here is the whole
unfoldable pub TimesLeft : List ℕ → ℕ → Outcome ℕ → ℕ → Cursor → Type 0
TimesLeft s n whole i c = then (many time_value (n - i) s (position c)) (λ x. ok x.1) ≡ whole

after_cons : {A : Type 0} (a : A) (o : Outcome (List A × ℕ)) → after (then o (λ y. ok (a ∷ y.0, y.1))) ≡ after o
after_cons a (ok y) = refl
after_cons a (bad z) = refl

after_ok : {A : Type 0} (o : Outcome (A × ℕ)) {k : ℕ} → after o ≡ ok k → (a : A) × (o ≡ ok (a, k))
after_ok (ok x) {k} e = let p : x.1 ≡ k = cc in (x.0, (λ j. ok (x.0, p j)))
after_ok (bad z) e = let n : ◌≡◌ {A = ℕ} 0 1 = cc in absurd (omega arith)

after_bad : {A : Type 0} (o : Outcome (A × ℕ)) {z : _} → after o ≡ bad z → o ≡ bad z
after_bad (ok x) e = let n : ◌≡◌ {A = ℕ} 0 1 = cc in absurd (omega arith)
after_bad (bad y) e = cc

pub times_start : (s : List ℕ) (n : ℕ) (c : Cursor) → TimesLeft s n (then (many time_value n s (position c)) (λ x. ok x.1)) 0 c
unfolding TimesLeft
times_start s n c = rw sub-zero refl

turn : (s : List ℕ) (n i k : ℕ) → i < n → after (many time_value (n - i) s k) ≡ after (many time_value (suc (n - (i + 1))) s k)
turn s n i k h = let e : n - i ≡ suc (n - (i + 1)) = omega arith in ap (λ (m : ℕ). after (many time_value m s k)) e

module _ (s : List ℕ) (n : ℕ) (whole : Outcome ℕ) (i : ℕ) (c : Cursor) (left : TimesLeft s n whole i c) where
  pub times_done : n ≤ i → stepped (Ok c) ≡ whole
  unfolding TimesLeft stepped many
  times_done h = let e : n - i ≡ 0 = omega arith in sym (ap (λ (m : ℕ). after (many time_value m s (position c))) e) ∙ left

  module _ (h : i < n) {st : Result Cursor Refusal} (one : stepped st ≡ then (time_value s (position c)) (λ x. ok x.1)) where
    pub times_refused : {z : Refusal} → st ≡ Err z → stepped (Err z) ≡ whole
    unfolding TimesLeft stepped many
    times_refused q = let b = after_bad (time_value s (position c)) (sym one ∙ ap stepped q) in sym (turn s n i (position c) h ∙ (rw b refl)) ∙ left

    pub times_next : {c' : Cursor} → st ≡ Ok c' → TimesLeft s n whole (i + 1) c'
    unfolding TimesLeft stepped many
    times_next {c'} q =
        let b = after_ok (time_value s (position c)) (sym one ∙ ap stepped q) in
        sym (turn s n i (position c) h ∙ (rw b.1 (after_cons b.0 (many time_value (n - (i + 1)) s (position c'))))) ∙ left

pub ruleset counts = (rules, count_few, count_fits, wide_few, books_few, books_fit)

pub ruleset time_laws = (rules, count_fits, times_start)
