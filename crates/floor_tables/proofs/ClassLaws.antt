-- The tests of a class's row, as the code asks them: one law for each way out of a function. Assumes nothing.
use Prim.Native.Nat.{ℕ, suc, ◌+◌, ◌^◌, ◌≤◌, ◌<◌}
use native.Mathlib.Numerals.{add-one}
use native.Mathlib.Omega.{arith}
use borrow.Author.Tests.{le-leb}
use mathlib.Core.Bool.{Bool, true, false, not}
use mathlib.Core.List.{List, [], ◌∷◌}
use mathlib.Core.Logic.{◌↔◌, ⊎_elim}
use mathlib.Core.Path.{◌≡◌, refl, sym, ap, ◌∙◌}
use lib.Dec.{leb, ltb, leb-suc-suc}
use lib.ListN.{length, get_or, take, length-replicate}
use lib.Pow.{pow_mono}
use lib.Seq.{slice, length-take-le}
use Rattle.reading.specs.Lists.{all}
use Rattle.reading.specs.Pad.{pad}
use Rattle.reading.specs.Counted.{Counted}
use Rattle.reading.specs.Encoding.{Each}
use Rattle.reading.proofs.Least.{and_split, lt_or_le}
use Rattle.reading.proofs.Encodes.{iff_false, refuted, shown}
use Rattle.reading.proofs.Pads.{length-pad}
use Rattle.numbers.proofs.ListLaws.{take-pad}
use Rattle.floor.specs.Layout.{class_row}
use Rattle.floor.specs.Inner.Valid.{ValidClass}
use Rattle.floor.proofs.ClassDecoded.{ClassStored, class_long, class_stored}
use Rattle.floor.proofs.ValidLaws.{master_most}
use Rattle.floor_tables.specs.Inner.Parts.{ValidClassRow, class_of_master, class_of_book, ValidBooks}
use Rattle.floor_tables.proofs.Places.{part, below_part, slice_front, slice_long, slice-next, slice_stored, stored_whole, all_zeros, padded_tested}

one : Counted 8 1
one = record { low = omega arith; high = omega arith }

-- ---- the master book

few_bits : (subclasses : ℕ) → 2 ^ subclasses ≤ 8 → subclasses ≤ 3
few_bits subclasses h = ⊎_elim (λ (k : subclasses < 4). omega arith) (λ (k : 4 ≤ subclasses). let p : 2 ^ 4 ≤ 2 ^ subclasses = pow_mono k in absurd (omega arith)) (lt_or_le subclasses 4)

pub master_valid : (books subclasses master : ℕ) → 2 ^ subclasses ≤ 8 → master ≤ books → (subclasses ≡ 0 → master ≡ 0) → ((subclasses ≡ 0 → ⊥) → 1 ≤ master)
    → ValidClass books (class_of_master subclasses master)
master_valid books subclasses master few most none some =
    record {
      carried = record {
        dimensions = one;
        subclasses = few_bits subclasses few;
        no_master = none;
        some_master = some;
        count = length-replicate (2 ^ subclasses) 0;
        books = all_zeros (λ b. leb b 255) refl (2 ^ subclasses);
      };
      rules = record { master = le-leb master books most; subclasses = all_zeros (λ b. leb b books) (le-leb 0 books (omega arith)) (2 ^ subclasses) };
    }

-- ---- the subclass books

-- the code's tests are those of the rules
below_next : (most : ℕ) (l : List ℕ) → all (λ v. ltb v (most + 1)) l ≡ all (λ v. leb v most) l
below_next most l = ap (λ (f : ℕ → Bool). all f l) (λ j v. (ap (leb (suc v)) (add-one most) ∙ leb-suc-suc v most) j)

module _ (books : ℕ) where
  book_valid : {b : ℕ} → leb b books ≡ true → leb b 255 ≡ true → ValidClass books (class_of_book b)
  unfolding all
  book_valid h k =
      record {
        carried = record { dimensions = one; subclasses = omega arith; no_master = λ z. refl; some_master = λ z. absurd (z refl); count = refl; books = rw k };
        rules = record { master = le-leb 0 books (omega arith); subclasses = rw h };
      }

  books_valid : (l : List ℕ) → all (λ v. leb v books) l ≡ true → all (λ v. leb v 255) l ≡ true → Each (λ b. ValidClass books (class_of_book b)) l
  unfolding all Each
  books_valid [] h k = tt
  books_valid (b ∷ l) h k =
      let x = and_split (leb b books) (all (λ v. leb v books) l) h in
      let y = and_split (leb b 255) (all (λ v. leb v 255) l) k in
      (book_valid x.0 y.0, books_valid l x.1 y.1)

  books_meet : (l : List ℕ) → Each (λ b. ValidClass books (class_of_book b)) l → (all (λ v. leb v books) l ≡ true) × (all (λ v. leb v 255) l ≡ true)
  unfolding all Each
  books_meet [] v = (refl, refl)
  books_meet (b ∷ l) v =
      let m = books_meet l v.1 in
      let x = and_split (leb b books) true v.0.rules.subclasses in
      let y = and_split (leb b 255) true v.0.carried.books in
      (rw (x.0, m.0), rw (y.0, m.1))

module _ (books : ℕ) (t : List ℕ) (at count : ℕ) (room : at + 8 ≤ length t) (few : count ≤ 8) {b₁ : Bool} (p₁ : b₁ ≡ all (λ v. ltb v (books + 1)) (part at (at + count) t)) where
  front : take count (slice at (at + 8) t) ≡ slice at (at + count) t
  front = slice_front t at count (at + 8) (omega arith)

  tested : (most : ℕ) {b : Bool} → b ≡ all (λ v. ltb v (most + 1)) (part at (at + count) t) → (b ≡ true) ↔ (all (λ v. leb v most) (take count (slice at (at + 8) t)) ≡ true)
  tested most {b} p =
      let q : b ≡ all (λ v. leb v most) (take count (slice at (at + 8) t)) = below_part (most + 1) at (at + count) t p ∙ below_next most (slice at (at + count) t) ∙ ap (all (λ v. leb v most)) (sym front) in
      ((λ s. sym q ∙ s), (λ s. q ∙ s))

  pub books_unset : not b₁ ≡ true → (false ≡ true) ↔ ValidBooks books count (slice at (at + 8) t)
  books_unset n = iff_false (λ s. refuted (tested books p₁) n (books_meet books (take count (slice at (at + 8) t)) s.valid).0)

  module _ (y₁ : not b₁ ≡ false) {b₂ : Bool} (p₂ : b₂ ≡ all (λ v. ltb v 256) (part at (at + count) t)) where
    pub books_large : not b₂ ≡ true → (false ≡ true) ↔ ValidBooks books count (slice at (at + 8) t)
    books_large n = iff_false (λ s. refuted (tested 255 p₂) n (books_meet books (take count (slice at (at + 8) t)) s.valid).1)

    pub books_end : not b₂ ≡ false → {b₃ : Bool} → b₃ ≡ all (λ v. ltb v 1) (part (at + count) (at + 8) t) → (b₃ ≡ true) ↔ ValidBooks books count (slice at (at + 8) t)
    books_end y₂ p₃ =
        let z = padded_tested t at count (at + 8) p₃ 8 refl room in (
          (λ e. record { valid = books_valid books (take count (slice at (at + 8) t)) (shown (tested books p₁) y₁) (shown (tested 255 p₂) y₂); holds = z.0 e }),
          (λ s. z.1 s.holds),
        )

-- ---- a class

module _ (books : ℕ) (t : List ℕ) (at : ℕ) (room : at + 11 ≤ length t) {d : ℕ} (q₀ : d ≡ get_or t at 0) where
  stored : (r : ValidClassRow books t at) → ClassStored t at r.item
  stored r = let l = class_long r.item in class_stored r.item (slice_stored t at (at + 11) r.written (omega arith) room)

  pub class_low : d < 1 → (false ≡ true) ↔ ValidClassRow books t at
  class_low h = iff_false (λ r. let k = r.valid.carried.dimensions.low in let s = (stored r).dimensions in omega arith)

  pub class_high : 8 < d → (false ≡ true) ↔ ValidClassRow books t at
  class_high h = iff_false (λ r. let k = r.valid.carried.dimensions.high in let s = (stored r).dimensions in omega arith)

  module _ (y₀ : 1 ≤ d) (y₁ : d ≤ 8) {e : ℕ} (q₁ : e ≡ get_or t (at + 1) 0) where
    pub class_many : 3 < e → (false ≡ true) ↔ ValidClassRow books t at
    class_many h = iff_false (λ r. let k = r.valid.carried.subclasses in let s = (stored r).subclasses in omega arith)

    module _ (y₂ : e ≤ 3) {m : ℕ} (q₂ : m ≡ get_or t (at + 2) 0) {b : Bool} (p : (b ≡ true) ↔ ValidClass books (class_of_master e m)) where
      pub class_master_not : not b ≡ true → (false ≡ true) ↔ ValidClassRow books t at
      class_master_not n =
          iff_false (λ r.
          let v = r.valid in
          let s = stored r in
          refuted p n (rw (q₁ ∙ s.subclasses, q₂ ∙ s.master) (master_valid books _ _ (pow_mono v.carried.subclasses) (master_most v) v.carried.no_master v.carried.some_master)))

      module _ (y₃ : not b ≡ false) {n : ℕ} (h : n ≡ 2 ^ e) where
        heads : slice at (at + 11) t ≡ d ∷ e ∷ m ∷ slice (at + 3) (at + 3 + 8) t
        heads =
            let s : at + 11 ≡ at + 3 + 8 = omega arith in
            ap (λ (k : ℕ). slice at k t) s
            ∙ slice-next t at (at + 1) (at + 3 + 8) refl (omega arith) (omega arith)
            ∙ (λ j. sym q₀ j ∷ slice-next t (at + 1) (at + 2) (at + 3 + 8) (omega arith) (omega arith) (omega arith) j)
            ∙ (λ j. d ∷ sym q₁ j ∷ slice-next t (at + 2) (at + 3) (at + 3 + 8) (omega arith) (omega arith) (omega arith) j)
            ∙ (λ j. d ∷ e ∷ sym q₂ j ∷ slice (at + 3) (at + 3 + 8) t)

        pub class_end : {b₂ : Bool} → (b₂ ≡ true) ↔ ValidBooks books n (slice (at + 3) (at + 3 + 8) t) → (b₂ ≡ true) ↔ ValidClassRow books t at
        unfolding class_row
        class_end p₂ =
            let cells = slice (at + 3) (at + 3 + 8) t in
            let v : ValidClass books (class_of_master e m) = shown p y₃ in
            let few : 2 ^ e ≤ 8 = pow_mono y₂ in
            let long = slice_long t (at + 3) 8 (at + 3 + 8) refl (omega arith) in (
              (λ s.
                  let k = p₂.0 s in
                  let meet = books_meet books (take n cells) k.valid in
                  record {
                    item = record { dimensions = d; subclasses = e; master = m; books = take n cells };
                    valid = record {
                      carried = record {
                        dimensions = record { low = y₀; high = y₁ };
                        subclasses = y₂;
                        no_master = v.carried.no_master;
                        some_master = v.carried.some_master;
                        count = length-take-le n cells (omega arith) ∙ h;
                        books = meet.1;
                      };
                      rules = record { master = v.rules.master; subclasses = meet.0 };
                    };
                    written = heads ∙ ap (λ (l : List ℕ). d ∷ e ∷ m ∷ l) k.holds;
                  }),
              (λ r.
                  let c = r.item in
                  let u = r.valid in
                  let f = stored r in
                  let z = length-pad 8 c.books in
                  let E : cells ≡ pad 8 c.books = stored_whole t (at + 3) (at + 3 + 8) f.books (omega arith) in
                  let same : e ≡ c.subclasses = q₁ ∙ f.subclasses in
                  let T : take n cells ≡ c.books = ap (take n) E ∙ take-pad 8 c.books (u.carried.count ∙ ap (λ (x : ℕ). 2 ^ x) (sym same) ∙ sym h) (omega arith) in
                  p₂.1 (record { valid = rw T (books_valid books c.books u.rules.subclasses u.carried.books); holds = E ∙ ap (pad 8) (sym T) })),
            )

pub power_few : {e n : ℕ} → e ≤ 3 → n ≡ 2 ^ e → n ≤ 8
power_few h k = rw k (pow_mono h)
