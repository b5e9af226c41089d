-- The residues of sound tables: each is the content's, by its row as by the fields that were read before its plan, and the books that it names can be read.
-- Assumes nothing.
use Prim.Native.Nat.{ℕ, zero, suc, ◌+◌, ◌-◌, ◌*◌, ◌^◌, ◌≤◌, ◌<◌}
use native.Mathlib.Omega.{arith}
use native.Mathlib.Nat.{pow-le-pow_right}
use borrow.Author.Tests.{leb-true, ltb-true}
use mathlib.Core.List.{List}
use mathlib.Core.Path.{◌≡◌, refl, sym, ap, subst, ◌∙◌}
use lib.Dec.{leb}
use lib.ListN.{length, get_or, drop}
use lib.Seq.{drop-drop}
use Rattle.reading.specs.Lists.{rows}
use Rattle.reading.proofs.EachLaws.{each_at, all_at}
use Rattle.reading.proofs.Least.{and_split}
use Rattle.reading.proofs.Stored.{stored_number}
use Rattle.reading.proofs.Basics.{other_than_zero}
use Rattle.limits.specs.declared.Limits.{Limits}
use Rattle.book.specs.Layout.{dimensions_at, entries_at}
use Rattle.book_codeword.specs.Inner.Stored.{dimensions_in}
use Rattle.residue.specs.Content.{Residue, no_residue}
use Rattle.residue.specs.Reading.{Books, residue_fits, with_plan}
use Rattle.residue.specs.Reading as R
use Rattle.residue.specs.Layout.{plan_table}
use Rattle.residue.specs.Inner.Decode.{chunks, head_at, decode_residue, decode_residues}
use Rattle.residue.specs.Inner.Heads.{head_of}
use Rattle.residue.specs.Inner.Valid.{ValidResidue}
use Rattle.residue.specs.declared.head.Head.{Head}
use Rattle.residue.proofs.Laws.{rows8_long}
use Rattle.residue.proofs.DecodeLaws.{head_dropped}
use Rattle.residue_row.proofs.Laws.{residues_stored}
use Rattle.residue_pass.specs.Inner.Readable.{residue_in, residue_by, place_in, ResidueReadable}
use Rattle.residue_pass.proofs.ReadableLaws.{residue_by_head}
use Rattle.setup.specs.Content.{Setup, books_known}
use Rattle.setup.specs.Layout.{Tables}
use Rattle.setup.specs.Sound.{Sound}
use Rattle.setup.specs.Inner.Decode.{decode_setup}
use Rattle.setup.proofs.DecodeLaws.{content_decoded}
use Rattle.setup.proofs.WrittenLaws.{SoundFacts, sound_facts}
use Rattle.setup_rows.specs.Inner.Rows.{ResidueSound}
use Rattle.setup_rows.proofs.BookLaws.{books_are, some_dimension, few_entries}
use Rattle.setup_rows.proofs.StoredLaws.{book_stored}

-- a power grows with its exponent
power_less : (c d : ℕ) → 1 ≤ c → 1 ≤ d → c ^ (d - 1) ≤ c ^ d
power_less c d g h = pow-le-pow_right {n = c} (omega arith) {i = d - 1} {j = d} (omega arith)

-- residue n of the residues that two tables decode to, whatever they hold; d stands for a residue past the last
residue_at : (m n : ℕ) (h p : List ℕ) (d : Residue) → n < m → get_or (decode_residues m h p) n d ≡ decode_residue (drop (6 * n) h) (drop (512 * n) p)
unfolding decode_residues
residue_at zero n h p d l = absurd (omega arith)
residue_at (suc m) zero h p d l = refl
residue_at (suc m) (suc n) h p d l =
    let a : 6 + 6 * n ≡ 6 * suc n = omega arith in
    let b : 512 + 512 * n ≡ 512 * suc n = omega arith in
    residue_at m n (drop 6 h) (drop 512 p) d (omega arith)
    ∙ (λ j. decode_residue (drop-drop (6 * n) 6 h j) (drop-drop (512 * n) 512 p j))
    ∙ (λ j. decode_residue (drop (a j) h) (drop (b j) p))

decoded_in : (residues plans : List ℕ) (n : ℕ) → decode_residue (drop (6 * n) residues) (drop (512 * n) plans) ≡ residue_in residues plans n
unfolding decode_residue residue_in
decoded_in residues plans n =
    ap (λ (f : R.Head). with_plan f (chunks f.classifications (drop (512 * n) plans))) (head_dropped residues n)

module _ {limits : Limits} {channels : ℕ} {t : Tables} (x : Sound limits channels t) (n : ℕ) (l : n < length x.content.residues) where
  abbrev own : Residue
  own = get_or x.content.residues n no_residue

  facts : SoundFacts limits channels t x.content
  facts = sound_facts x

  own_content : residue_in t.residues t.plans n ≡ own
  unfolding decode_setup
  own_content =
      let m = facts.written.counts.third in
      sym (decoded_in t.residues t.plans n)
      ∙ sym (residue_at (get_or t.counts 2 0) n t.residues t.plans no_residue (omega arith))
      ∙ ap (λ (c : Setup). get_or c.residues n no_residue) (sym (content_decoded x))

  own_valid : ValidResidue (books_known x.content.books) own
  own_valid = each_at (ValidResidue (books_known x.content.books)) no_residue x.content.residues facts.valid.residues n l

  -- rule 13, against the books as the table has them
  class_words_is : own.classifications ^ dimensions_at t.books own.classbook ≤ entries_at t.books own.classbook
  unfolding residue_fits
  class_words_is =
      let v = subst (λ (k : Books). ValidResidue k own) (sym (books_are x)) own_valid in
      let a = and_split (leb own.begin own.end) _ v.rule13 in
      let b = and_split (leb (own.classifications ^ dimensions_at t.books own.classbook) (entries_at t.books own.classbook)) _ a.1 in
      leb-true _ _ b.0

  classbook_set_up : own.classbook < length x.content.books
  unfolding books_known
  classbook_set_up = ltb-true _ _ own_valid.rule11.classbook

  -- the book of a place of the plan that is not empty is set up
  module _ (class pass : ℕ) (c : class < own.classifications) (p : pass < 8) where
    place_is : place_in t.plans n class pass ≡ get_or (rows (λ row. row) own.plan) (8 * class + pass) 0
    unfolding plan_table
    place_is =
        let w = facts.written in
        let few = facts.valid.residue_count.high in
        let r = facts.room.residues in
        let s = facts.room.plans in
        let stored = residues_stored x.content.residues t.residues t.plans w.residues w.plans (omega arith) (omega arith) n l no_residue in
        let high = own_valid.carried.classifications.high in
        stored_number 512 (rows (λ row. row) own.plan) stored.plan (8 * class + pass) (omega arith)

    place_set_up : (place_in t.plans n class pass ≡ 0 → ⊥) → place_in t.plans n class pass - 1 < length x.content.books
    unfolding books_known
    place_set_up some =
        let long = rows8_long own.plan own_valid.carried.passes in
        let many = own_valid.carried.plan in
        let a = all_at (λ b. leb b (length x.content.books)) (rows (λ row. row) own.plan) own_valid.rule11.plan (8 * class + pass) (omega arith) in
        let b : get_or (rows (λ row. row) own.plan) (8 * class + pass) 0 ≤ length x.content.books = leb-true _ _ a in
        let e = place_is in
        let z = other_than_zero (place_in t.plans n class pass) some in
        omega arith

  -- where its fields before the plan were read as h
  module _ (h : Head) (e : head_of h ≡ head_at t.residues n) where
    own_by : residue_by h t.plans n ≡ own
    own_by = residue_by_head h t.residues t.plans n e ∙ own_content

    same_size : h.size ≡ own.size
    unfolding residue_by
    same_size = ap (λ (r : Residue). r.size) own_by

    same_classes : h.classifications ≡ own.classifications
    unfolding residue_by
    same_classes = ap (λ (r : Residue). r.classifications) own_by

    same_book : h.classbook ≡ own.classbook
    unfolding residue_by
    same_book = ap (λ (r : Residue). r.classbook) own_by

    readable : ResidueReadable t.books t.lengths t.codewords t.plans n h
    unfolding dimensions_in
    readable =
        let b = same_book in
        let c = same_classes in
        let s = same_size in
        let carried = own_valid.carried in
        let set_up_is = classbook_set_up in
        let size = carried.size.low in
        let low = carried.classifications.low in
        let high = carried.classifications.high in
        let named : h.classbook < length x.content.books = omega arith in
        let dimensions = some_dimension x h.classbook named in
        let few = few_entries x h.classbook named in
        let words : h.classifications ^ dimensions_at t.books h.classbook ≤ entries_at t.books h.classbook = rw (same_classes, same_book) class_words_is in
        let less = power_less h.classifications (dimensions_at t.books h.classbook) (omega arith) dimensions in
        record {
          size_low = omega arith;
          classes_low = omega arith;
          classes_high = omega arith;
          class_book = book_stored x h.classbook named;
          class_dimensions = dimensions;
          power = omega arith;
          places = λ class pass g p some.
              let u = place_set_up class pass (omega arith) p some in
              (book_stored x (place_in t.plans n class pass - 1) u, some_dimension x (place_in t.plans n class pass - 1) u);
        }

  -- RESIDUE n
  pub residue_sound : ResidueSound t n (get_or x.content.residues n no_residue)
  residue_sound = record { content = own_content; content_by = own_by; readable = readable }
