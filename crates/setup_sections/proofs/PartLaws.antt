-- Laws of the sections put together, as the code asks them. Assumes nothing.
use Rattle.std.specs.Prelude.{Result, Ok, Err}
use Prim.Native.Nat.{ℕ}
use native.Mathlib.Omega.{arith}
use mathlib.Core.List.{List}
use mathlib.Core.Path.{◌≡◌, refl, subst}
use lib.ListN.{length}
use Rattle.reading.specs.Outcome.{Outcome, ok, bad, then}
use Rattle.bits.specs.declared.Cursor.{Cursor}
use Rattle.bits.specs.declared.refusal.Refusal.{Refusal}
use Rattle.bits.specs.Inner.Cursors.{position, stepped}
use Rattle.limits.specs.declared.Limits.{Limits}
use Rattle.book.specs.Content.{Book}
use Rattle.floor.specs.Content.{Floor}
use Rattle.residue.specs.Content.{Residue}
use Rattle.mapping.specs.Content.{Mapping}
use Rattle.mode.specs.Content.{Mode}
use Rattle.floor.specs.Layout.{floor_row}
use Rattle.floor.specs.Reading.{floor}
use Rattle.residue.specs.Reading.{Books, residue}
use Rattle.mapping.specs.declared.Known.{Known}
use Rattle.mapping.specs.Layout.{mapping_row}
use Rattle.mapping.specs.Reading.{mapping}
use Rattle.mode.specs.Layout.{mode_row}
use Rattle.mode.specs.Reading.{mode}
use Rattle.setup.specs.Content.{known}
use Rattle.setup.specs.Reading.{book_section, section, time_value}
use Rattle.setup.specs.Inner.Parts.{ReadInto, ReadCounted, RowsStored, ResiduesStored, FloorsStored, MappingsStored, AfterBooksStored, book_part, floor_part, mapping_part, after_books}
use Rattle.setup.proofs.ReadIntoLaws.{read_into_bad, counted, counted_read, counted_refused, counted_bad, counted_ok}
use Rattle.setup_sections.specs.declared.parts.FloorPart.{FloorPart}
use Rattle.setup_sections.specs.declared.parts.MappingPart.{MappingPart}
use Rattle.setup_sections.specs.declared.parts.After.{After}

-- what follows a content that is known: nothing of it stays
pub skipped : {B C : Type 0} {L : C → Type 0} (a : C) (q : Outcome (B × ℕ)) {r : Result Cursor Refusal} → L a → stepped r ≡ then q (λ x. ok x.1) → ReadInto (then q (λ t. ok (a, t.1))) r L
skipped {B} {C} {L} a (ok t) l e = record { step = e; stored = λ x f. let p : a ≡ x.0 = cc in subst L p l }
skipped a (bad z) l e = record { step = e; stored = λ x f. let n : ◌≡◌ {A = ℕ} 0 1 = cc in absurd (omega arith) }

-- or g puts both together
pub followed : {B C : Type 0} {M : B → Type 0} {N : C → Type 0} (g : B → C) (q : Outcome (B × ℕ)) {r : Result Cursor Refusal} → ReadInto q r M → ((b : B) → M b → N (g b))
    → ReadInto (then q (λ y. ok (g y.0, y.1))) r N
followed {B} {C} {M} {N} g (ok y) l n = record { step = l.step; stored = λ x f. let p : g y.0 ≡ x.0 = cc in subst N p (n y.0 (l.stored y refl)) }
followed g (bad z) l n = record { step = l.step; stored = λ x f. let m : ◌≡◌ {A = ℕ} 0 1 = cc in absurd (omega arith) }

-- books and time values
module _ (limits : Limits) (s : List ℕ) (k : Cursor) {L : ℕ → List Book → Type 0} where
  pub book_part_refused : {z : Refusal} → ReadCounted (book_section limits s (position k)) (Err z) L → ReadCounted (book_part limits s (position k)) (Err z) L
  unfolding book_part
  book_part_refused l = counted_refused (rw (counted_bad l))

  module _ {n : ℕ} {c : Cursor} (l : ReadCounted (book_section limits s (position k)) (Ok (n, c)) L) where
    pub times_refused : {z : Refusal} → stepped (Err z) ≡ then (section time_value s (position c)) (λ x. ok x.1) → ReadCounted (book_part limits s (position k)) (Err z) L
    unfolding book_part
    times_refused {z} e = let b = counted_ok l in rw b.1 (counted_refused (read_into_bad {r = Err z} (skipped {L = L n} b.0 (section time_value s (position c)) b.2 e) refl))

    pub book_part_read : {c' : Cursor} → stepped (Ok c') ≡ then (section time_value s (position c)) (λ x. ok x.1) → ReadCounted (book_part limits s (position k)) (Ok (n, c')) L
    unfolding book_part
    book_part_read e = let b = counted_ok l in rw b.1 (counted n (skipped b.0 (section time_value s (position c)) b.2 e))

-- floors and residues
module _ (books : Books) (s : List ℕ) (k : Cursor) {L : ℕ → List Floor → Type 0} {N : FloorPart → List Floor × List Residue → Type 0} where
  pub floors_refused : {z : Refusal} → ReadCounted (section (floor books.count) s (position k)) (Err z) L → ReadCounted (floor_part books s (position k)) (Err z) N
  unfolding floor_part
  floors_refused l = counted_refused (rw (counted_bad l))

  module _ {n : ℕ} {c : Cursor} (l : ReadCounted (section (floor books.count) s (position k)) (Ok (n, c)) L) where
    pub residues_refused : {z : Refusal} {M : ℕ → List Residue → Type 0} → ReadCounted (section (residue books) s (position c)) (Err z) M → ReadCounted (floor_part books s (position k)) (Err z) N
    unfolding floor_part
    residues_refused l₁ = let a = counted_ok l in counted_refused (rw (a.1, counted_bad l₁))

floors_both : (books : Books) (s : List ℕ) (k c c' : ℕ) (fs : List Floor) (rs : List Residue) → section (floor books.count) s k ≡ ok (fs, c) → section (residue books) s c ≡ ok (rs, c')
    → floor_part books s k ≡ ok ((fs, rs), c')
unfolding floor_part
floors_both books s k c c' fs rs p q = rw (p, q)

pub floor_part_read : (books : Books) (s : List ℕ) (k : Cursor) {n m : ℕ} {c c' : Cursor} {f f' h h' p p' : List ℕ}
    → ReadCounted (section (floor books.count) s (position k)) (Ok (n, c)) (λ i. RowsStored floor_row i f f')
    → ReadCounted (section (residue books) s (position c)) (Ok (m, c')) (λ i. ResiduesStored i h h' p p')
    → ReadCounted {V = FloorPart} (floor_part books s (position k)) (Ok (record { floors = n; residues = m }, c')) (λ part. FloorsStored part.floors part.residues f f' h h' p p')
floor_part_read books s k l l₁ =
    let a = counted_ok l in
    let b = counted_ok l₁ in
    counted_read (floors_both books s _ _ _ a.0 b.0 a.1 b.1) (record { floor_rows = a.2; residue_rows = b.2 })

-- mappings and modes
module _ (known : Known) (s : List ℕ) (k : Cursor) {N : MappingPart → List Mapping × List Mode → Type 0} where
  pub mappings_refused : {z : Refusal} {L : ℕ → List Mapping → Type 0} → ReadCounted (section (mapping known) s (position k)) (Err z) L → ReadCounted (mapping_part known s (position k)) (Err z) N
  unfolding mapping_part
  mappings_refused l = counted_refused (rw (counted_bad l))

mappings_both : (known : Known) (s : List ℕ) (k c c' : ℕ) (ms : List Mapping) (modes : List Mode) → section (mapping known) s k ≡ ok (ms, c) → section (mode (length ms)) s c ≡ ok (modes, c')
    → mapping_part known s k ≡ ok ((ms, modes), c')
unfolding mapping_part
mappings_both known s k c c' ms modes p q = rw (p, q)

module _ (known : Known) (s : List ℕ) (k : Cursor) {n : ℕ} {c : Cursor} {m m' : List ℕ} (l : ReadCounted (section (mapping known) s (position k)) (Ok (n, c)) (λ i. RowsStored mapping_row i m m')) where
  -- the modes are read behind as many mappings as were counted
  modes_behind : {r : Result (ℕ × Cursor) Refusal} {M : ℕ → List Mode → Type 0} → ReadCounted (section (mode n) s (position c)) r M → ReadCounted (section (mode (length (counted_ok l).0)) s (position c)) r M
  modes_behind {r} {M} l₁ = subst (λ (x : ℕ). ReadCounted (section (mode x) s (position c)) r M) (counted_ok l).2.count l₁

  pub modes_refused : {z : Refusal} {M : ℕ → List Mode → Type 0} {N : MappingPart → List Mapping × List Mode → Type 0} → ReadCounted (section (mode n) s (position c)) (Err z) M
      → ReadCounted (mapping_part known s (position k)) (Err z) N
  unfolding mapping_part
  modes_refused l₁ = let a = counted_ok l in counted_refused (rw (a.1, counted_bad (modes_behind l₁)))

  pub mapping_part_read : {i : ℕ} {c' : Cursor} {o o' : List ℕ} → ReadCounted (section (mode n) s (position c)) (Ok (i, c')) (λ j. RowsStored mode_row j o o')
      → ReadCounted {V = MappingPart} (mapping_part known s (position k)) (Ok (record { mappings = n; modes = i }, c')) (λ part. MappingsStored part.mappings part.modes m m' o o')
  mapping_part_read l₁ =
      let a = counted_ok l in
      let b = counted_ok (modes_behind l₁) in
      counted_read (mappings_both known s _ _ _ a.0 b.0 a.1 b.1) (record { mapping_rows = a.2; mode_rows = b.2 })

-- all that follows the books
module _ (channels : ℕ) (books : Books) (s : List ℕ) (k : Cursor) {N : After → _ → Type 0} where
  pub first_part_refused : {z : Refusal} {L : FloorPart → _ → Type 0} → ReadCounted (floor_part books s (position k)) (Err z) L → ReadCounted (after_books channels books s (position k)) (Err z) N
  unfolding after_books
  first_part_refused l = counted_refused (rw (counted_bad l))

after_both : (channels : ℕ) (books : Books) (s : List ℕ) (k c c' : ℕ) (x : List Floor × List Residue) (y : List Mapping × List Mode) → floor_part books s k ≡ ok (x, c)
    → mapping_part (known channels x.0 x.1) s c ≡ ok (y, c') → after_books channels books s k ≡ ok ((x, y), c')
unfolding after_books
after_both channels books s k c c' x y p q = rw (p, q)

module _ (channels : ℕ) (books : Books) (s : List ℕ) (k : Cursor) {x : FloorPart} {c : Cursor} {f f' r r' p p' : List ℕ}
    (l : ReadCounted (floor_part books s (position k)) (Ok (x, c)) (λ part. FloorsStored part.floors part.residues f f' r r' p p')) where
  -- the mappings are read against as many floors and residues as were counted
  mappings_behind : {q : Result (MappingPart × Cursor) Refusal} {M : MappingPart → List Mapping × List Mode → Type 0}
      → ReadCounted (mapping_part (record { channels = channels; floors = x.floors; residues = x.residues }) s (position c)) q M
      → ReadCounted (mapping_part (known channels (counted_ok l).0.0 (counted_ok l).0.1) s (position c)) q M
  unfolding known
  mappings_behind {q} {M} l₁ =
      let a = (counted_ok l).2 in
      subst (λ (y : Known). ReadCounted (mapping_part y s (position c)) q M) (λ t. record { channels = channels; floors = a.floor_rows.count t; residues = a.residue_rows.count t }) l₁

  pub second_part_refused : {z : Refusal} {M : MappingPart → List Mapping × List Mode → Type 0} {N : After → _ → Type 0}
      → ReadCounted (mapping_part (record { channels = channels; floors = x.floors; residues = x.residues }) s (position c)) (Err z) M
      → ReadCounted (after_books channels books s (position k)) (Err z) N
  unfolding after_books
  second_part_refused l₁ = let a = counted_ok l in counted_refused (rw (a.1, counted_bad (mappings_behind l₁)))

  pub after_read : {y : MappingPart} {c' : Cursor} {m m' o o' : List ℕ}
      → ReadCounted (mapping_part (record { channels = channels; floors = x.floors; residues = x.residues }) s (position c)) (Ok (y, c')) (λ part. MappingsStored part.mappings part.modes m m' o o')
      → ReadCounted {V = After} (after_books channels books s (position k)) (Ok (record { floors = x.floors; residues = x.residues; mappings = y.mappings; modes = y.modes }, c'))
      (λ a. AfterBooksStored a.floors a.residues a.mappings a.modes f f' r r' p p' m m' o o')
  after_read l₁ =
      let a = counted_ok l in
      let b = counted_ok (mappings_behind l₁) in
      counted_read (after_both channels books s _ _ _ a.0 b.0 a.1 b.1) (record { floor_part_is = a.2; mapping_part_is = b.2 })
