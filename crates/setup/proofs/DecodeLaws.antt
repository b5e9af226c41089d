-- THE CONTENT OF SOUND TABLES IS WHAT THEY DECODE TO, whatever the limits and the channels. By each kind's rows, which are decoded one by one.
-- Assumes nothing.
use Prim.Native.Nat.{ℕ, zero, suc, ◌+◌, ◌-◌, ◌*◌, ◌≤◌}
use native.Mathlib.Omega.{arith}
use native.Mathlib.Nat.{mul-suc}
use mathlib.Core.List.{List, [], ◌∷◌, ◌++◌}
use mathlib.Core.Path.{◌≡◌, refl, sym, ap, ◌∙◌}
use lib.ListN.{length, get_or, take, drop}
use lib.Seq.{take_at, drop_at}
use Rattle.reading.specs.Lists.{rows}
use Rattle.reading.specs.Pad.{pad}
use Rattle.reading.specs.Encoding.{Each}
use Rattle.reading.proofs.Encodes.{pad_append}
use Rattle.limits.specs.declared.Limits.{Limits}
use Rattle.book.specs.HeadReading.{Before}
use Rattle.book.specs.Rows.{decode_books}
use Rattle.book.proofs.BooksStored.{within_entries, within_values, decode_books_lem}
use Rattle.floor.specs.Inner.Decode.{decode_floor}
use Rattle.floor.specs.Layout.{floor_row, floor_width}
use Rattle.floor.specs.Inner.Valid.{ValidFloor}
use Rattle.floor.proofs.Decoded.{floor_long, floor_decoded}
use Rattle.residue.specs.Inner.Decode.{decode_residues}
use Rattle.residue.proofs.Laws.{decode_residues_lem}
use Rattle.mapping.specs.Inner.Decode.{decode_mapping}
use Rattle.mapping.specs.Layout.{mapping_row, mapping_width}
use Rattle.mapping.specs.Inner.Valid.{ValidMapping}
use Rattle.mapping.proofs.Laws.{decode_mapping_lem}
use Rattle.mapping.proofs.RowLaws.{mapping_wide}
use Rattle.mode.specs.Inner.Decode.{decode_mode}
use Rattle.mode.specs.Layout.{mode_row}
use Rattle.mode.specs.Inner.Valid.{ValidMode}
use Rattle.mode.proofs.Laws.{mode_wide, decode_mode_lem}
use Rattle.setup.specs.Content.{Setup, books_known, known}
use Rattle.setup.specs.Layout.{Tables}
use Rattle.setup.specs.Inner.Decode.{decode_rows, decode_setup}
use Rattle.setup.specs.Sound.{Sound, OneContent}
use Rattle.setup.proofs.WrittenLaws.{sound_facts}

-- items are decoded from their rows
module _ {A : Type 0} (row : A → List ℕ) (Valid : A → Type 0) (w : ℕ) (wide : (a : A) → length (row a) ≡ w) (decode : List ℕ → A)
    (back : (a : A) → Valid a → decode (row a) ≡ a) where
  rows_decoded : (l : List A) (n m : ℕ) → length l ≡ m → w * m ≤ n → Each Valid l → decode_rows w decode m (pad n (rows row l)) ≡ l
  unfolding rows Each decode_rows
  rows_decoded [] n zero e h v = refl
  rows_decoded [] n (suc m) e h v = absurd (omega arith)
  rows_decoded (a ∷ l) n zero e h v = absurd (omega arith)
  rows_decoded (a ∷ l) n (suc m) e h v =
      let la = wide a in
      let s : w * suc m ≡ w * m + w = mul-suc w m in
      let k : n ≡ length (row a) + (n - w) = omega arith in
      let p : pad n (row a ++ rows row l) ≡ row a ++ pad (n - w) (rows row l) = ap (λ (q : ℕ). pad q (row a ++ rows row l)) k ∙ pad_append (row a) (rows row l) (n - w) in
      let f : decode (take w (pad n (row a ++ rows row l))) ≡ a = ap (λ (q : List ℕ). decode (take w q)) p ∙ ap decode (take_at (row a) _ w la) ∙ back a v.0 in
      let g : drop w (pad n (row a ++ rows row l)) ≡ pad (n - w) (rows row l) = ap (drop w) p ∙ drop_at (row a) _ w la in
      let i = ap (decode_rows w decode m) g ∙ rows_decoded l (n - w) m (omega arith) (omega arith) v.1 in
      λ j. f j ∷ i j

  pub table_decoded : (l : List A) (m : ℕ) (t : List ℕ) → t ≡ pad (length t) (rows row l) → length l ≡ m → w * m ≤ length t → Each Valid l → l ≡ decode_rows w decode m t
  table_decoded l m t e n h v = sym (ap (decode_rows w decode m) e ∙ rows_decoded l (length t) m n h v)

module _ {limits : Limits} {channels : ℕ} {t : Tables} (x : Sound limits channels t) where
  abbrev c : Setup
  c = x.content

  books_decoded : c.books ≡ decode_books (get_or t.counts 0 0) t.books t.lengths t.multiplicands
  books_decoded =
      let p = sound_facts x in
      let w = p.written in
      let none : Before = record { entries = 0; values = 0 } in
      let e = within_entries limits none c.books (omega arith) p.valid.books in
      let v = within_values limits none c.books (omega arith) p.valid.books in
      let few = p.valid.book_count.high in
      let r₁ = p.room.books in
      let r₂ = p.room.lengths in
      let r₃ = p.room.multiplicands in
      sym
      ((λ j. decode_books (w.counts.first j) (w.books j) (w.lengths j) (w.multiplicands j))
      ∙ decode_books_lem (length t.books) (length t.lengths) (length t.multiplicands) c.books (omega arith) (omega arith) (omega arith))

  floors_decoded : c.floors ≡ decode_rows floor_width decode_floor (get_or t.counts 1 0) t.floors
  floors_decoded =
      let p = sound_facts x in
      let n = p.written.counts.second in
      let few = p.valid.floor_count.high in
      let r = p.room.floors in
      table_decoded floor_row (ValidFloor (length c.books)) floor_width floor_long decode_floor (floor_decoded (length c.books))
      c.floors (get_or t.counts 1 0) t.floors p.written.floors (sym n) (omega arith) p.valid.floors

  residues_decoded : c.residues ≡ decode_residues (get_or t.counts 2 0) t.residues t.plans
  residues_decoded =
      let p = sound_facts x in
      let w = p.written in
      let n = w.counts.third in
      let few = p.valid.residue_count.high in
      let r₁ = p.room.residues in
      let r₂ = p.room.plans in
      sym
      ((λ j. decode_residues (get_or t.counts 2 0) (w.residues j) (w.plans j))
      ∙ decode_residues_lem (books_known c.books) c.residues (get_or t.counts 2 0) (length t.residues) (length t.plans) (sym n)
      p.valid.residues (omega arith) (omega arith))

  -- a mapping's row has a place for each of 256 channels
  mappings_decoded : c.mappings ≡ decode_rows mapping_width decode_mapping (get_or t.counts 3 0) t.mappings
  unfolding known
  mappings_decoded =
      let p = sound_facts x in
      let n = p.written.counts.fourth in
      let few = p.valid.mapping_count.high in
      let r = p.room.mappings in
      let channels_few = x.carried.few_channels in
      table_decoded mapping_row (ValidMapping (known channels c.floors c.residues)) mapping_width mapping_wide decode_mapping
      (λ a. decode_mapping_lem (known channels c.floors c.residues) a (omega arith))
      c.mappings (get_or t.counts 3 0) t.mappings p.written.mappings (sym n) (omega arith) p.valid.mappings

  modes_decoded : c.modes ≡ decode_rows 2 decode_mode (get_or t.counts 4 0) t.modes
  modes_decoded =
      let p = sound_facts x in
      let n = p.written.counts.fifth in
      let few = p.valid.mode_count.high in
      let r = p.room.modes in
      table_decoded mode_row (ValidMode (length c.mappings)) 2 mode_wide decode_mode (λ a _. decode_mode_lem a)
      c.modes (get_or t.counts 4 0) t.modes p.written.modes (sym n) (omega arith) p.valid.modes

  -- THE LAW
  pub content_decoded : x.content ≡ decode_setup t
  unfolding decode_setup
  content_decoded = λ j. record { books = books_decoded j; floors = floors_decoded j; residues = residues_decoded j; mappings = mappings_decoded j; modes = modes_decoded j }

-- so two judgements of the same tables, for whatever limits and channels, have one content
pub one_content : (t : Tables) → OneContent t
one_content t = record { decoded = λ x. content_decoded x; same = λ x y. content_decoded x ∙ sym (content_decoded y) }
