-- A CONTENT IS VALID, part by part, EXACTLY WHEN A PACKET CAN CARRY IT AND IT MEETS THE RULES, number by number. By each part's record taken apart
-- and put together; the books' totals so far against those of all by induction along the books. Assumes nothing.
use Prim.Native.Nat.{ℕ, ◌+◌, ◌≤◌}
use native.Mathlib.Omega.{arith}
use borrow.Author.Tests.{leb-true, le-leb}
use mathlib.Core.List.{List, [], ◌∷◌}
use lib.ListN.{length}
use Rattle.reading.specs.Lists.{sum}
use Rattle.reading.specs.Encoding.{Each}
use Rattle.reading.proofs.EachLaws.{each_map, each_both}
use Rattle.limits.specs.declared.Limits.{Limits}
use Rattle.book.specs.Content.{Book}
use Rattle.book.specs.HeadReading.{Before}
use Rattle.book.specs.Reading.{and_this}
use Rattle.book.specs.Carried.{CarriedBook}
use Rattle.book.specs.Rules.{Rule6, Rule7, Rule8, Book14}
use Rattle.book.specs.Inner.Valid.{ValidBook, ValidBooks}
use Rattle.floor.specs.Rules.{Class11, Rule12}
use Rattle.residue.specs.Rules.{Rule10, Residue11, Rule13}
use Rattle.setup.specs.Content.{Setup, books_known, known}
use Rattle.setup.specs.Carried.{Carried}
use Rattle.setup.specs.Rules.{entries_in_all, multiplicands_in_all, MeetsRules}
use Rattle.setup.specs.Inner.Valid.{ValidSetup}
use Rattle.setup.specs.Layout.{Tables}
use Rattle.setup.specs.Sound.{Sound}

-- books
module _ (limits : Limits) where
  books_each : {P : Book → Type 0} → ((before : Before) (b : Book) → ValidBook limits before b → P b) → (before : Before) (bs : List Book) → ValidBooks limits before bs → Each P bs
  unfolding ValidBooks Each
  books_each f before [] v = tt
  books_each f before (b ∷ bs) v = (f before b v.0, books_each f (and_this before b) bs v.1)

  books_within : (before : Before) (bs : List Book) → before.entries ≤ limits.entries → before.values ≤ limits.multiplicands → ValidBooks limits before bs
      → (before.entries + entries_in_all bs ≤ limits.entries) × (before.values + multiplicands_in_all bs ≤ limits.multiplicands)
  unfolding ValidBooks entries_in_all multiplicands_in_all sum
  books_within before [] p q v = (omega arith, omega arith)
  books_within before (b ∷ bs) p q v =
      let i = books_within (and_this before b) bs v.0.entries_all v.0.values_all v.1 in
      let i₀ = i.0 in
      let i₁ = i.1 in
      (omega arith, omega arith)

  books_valid : (before : Before) (bs : List Book) → Each CarriedBook bs → Each Rule6 bs → Each Rule7 bs → Each Rule8 bs → Each (Book14 limits) bs
      → before.entries + entries_in_all bs ≤ limits.entries → before.values + multiplicands_in_all bs ≤ limits.multiplicands → ValidBooks limits before bs
  unfolding ValidBooks Each entries_in_all multiplicands_in_all sum
  books_valid before [] c r s e f p q = tt
  books_valid before (b ∷ bs) c r s e f p q =
      (record { carried = c.0; rule6 = r.0; rule7 = s.0; rule8 = e.0; rule14 = f.0; entries_all = omega arith; values_all = omega arith }, books_valid (and_this before b) bs c.1 r.1 s.1 e.1 f.1 (omega arith) (omega arith))

abbrev none : Before
none = record { entries = 0; values = 0 }

module _ (limits : Limits) (channels : ℕ) (c : Setup) where
  -- A VALID CONTENT CAN BE CARRIED, for so many channels as a packet names
  pub valid_carried : channels ≤ 255 → ValidSetup limits channels c → Carried channels c
  unfolding known
  valid_carried few v =
      record {
        few_channels = few;
        book_count = v.book_count;
        books = books_each limits (λ before b x. x.carried) none c.books v.books;
        floor_count = v.floor_count;
        floors = each_map (λ f x. x.carried) c.floors v.floors;
        residue_count = v.residue_count;
        residues = each_map (λ r x. x.carried) c.residues v.residues;
        mapping_count = v.mapping_count;
        mappings = each_map (λ m x. x.carried) c.mappings v.mappings;
        mode_count = v.mode_count;
        modes = each_map (λ m x. x.carried) c.modes v.modes;
      }

  -- AND MEETS THE RULES
  pub valid_meets : ValidSetup limits channels c → MeetsRules limits channels c
  unfolding known books_known
  valid_meets v =
      let w = books_within limits none c.books (omega arith) (omega arith) v.books in
      record {
        rule6 = books_each limits (λ before b x. x.rule6) none c.books v.books;
        rule7 = books_each limits (λ before b x. x.rule7) none c.books v.books;
        rule8 = books_each limits (λ before b x. x.rule8) none c.books v.books;
        rule10 = each_map (λ r x. x.rule10) c.residues v.residues;
        rule11 = record {
          floors = each_map (λ f x. x.classes) c.floors v.floors;
          residues = each_map (λ r x. x.rule11) c.residues v.residues;
          mappings = each_map (λ m x. x.rule11) c.mappings v.mappings;
          modes = each_map (λ m x. x.rule11) c.modes v.modes;
        };
        rule12 = each_map (λ f x. x.rules) c.floors v.floors;
        rule13 = each_map (λ r x. x.rule13) c.residues v.residues;
        rule14 = record {
          book = books_each limits (λ before b x. x.rule14) none c.books v.books;
          entries = le-leb (0 + entries_in_all c.books) limits.entries w.0;
          multiplicands = le-leb (0 + multiplicands_in_all c.books) limits.multiplicands w.1;
        };
      }

  -- WHAT CAN BE CARRIED AND MEETS THE RULES IS VALID
  pub meets_valid : Carried channels c → MeetsRules limits channels c → ValidSetup limits channels c
  unfolding known books_known
  meets_valid d r =
      let e : 0 + entries_in_all c.books ≤ limits.entries = leb-true _ _ r.rule14.entries in
      let m : 0 + multiplicands_in_all c.books ≤ limits.multiplicands = leb-true _ _ r.rule14.multiplicands in
      record {
        book_count = d.book_count;
        books = books_valid limits none c.books d.books r.rule6 r.rule7 r.rule8 r.rule14.book (omega arith) (omega arith);
        floor_count = d.floor_count;
        floors =
            each_both (λ f x (y : Each (Class11 (length c.books)) f.classes × Rule12 f). record { carried = x; classes = y.0; rules = y.1 }) c.floors d.floors
            (each_both (λ f x y. (x, y)) c.floors r.rule11.floors r.rule12);
        residue_count = d.residue_count;
        residues =
            each_both {Q = λ a. Rule10 a × (Residue11 (length c.books) a × Rule13 (books_known c.books) a)} (λ a x y. record { carried = x; rule10 = y.0; rule11 = y.1.0; rule13 = y.1.1 })
            c.residues d.residues
            (each_both (λ a x y. (x, y)) c.residues r.rule10 (each_both (λ a x y. (x, y)) c.residues r.rule11.residues r.rule13));
        mapping_count = d.mapping_count;
        mappings = each_both (λ m x y. record { carried = x; rule11 = y }) c.mappings d.mappings r.rule11.mappings;
        mode_count = d.mode_count;
        modes = each_both (λ m x y. record { carried = x; rule11 = y }) c.modes d.modes r.rule11.modes;
      }

-- so the content of sound tables is valid
pub sound_valid : {limits : Limits} {channels : ℕ} {t : Tables} (s : Sound limits channels t) → ValidSetup limits channels s.content
sound_valid {limits} {channels} {t} s = meets_valid limits channels s.content s.carried s.rules
