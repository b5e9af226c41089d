-- Laws of recognising the rows of one residue, as the code asks them. Assumes nothing.
use Prim.Native.Nat.{ℕ, zero, suc, ◌+◌, ◌-◌, ◌*◌, ◌^◌, ◌≤◌, ◌<◌}
use native.Mathlib.Omega.{arith}
use borrow.Author.Tests.{le-leb, lt-ltb}
use mathlib.Core.Bool.{Bool, true, false, ◌&&◌}
use mathlib.Core.List.{List, ◌++◌}
use mathlib.Core.Logic.{◌↔◌}
use mathlib.Core.Path.{◌≡◌, refl, sym, ap, subst, ◌∙◌}
use lib.Dec.{leb}
use lib.ListN.{length, take, drop, replicate, length-drop, length-replicate}
use Rattle.std.proofs.lemmas.List.{take-take}
use lib.Seq.{drop_at, take-add, length-take-le}
use Rattle.reading.specs.Lists.{all, rows}
use Rattle.reading.specs.Encoding.{Zeros}
use Rattle.reading.proofs.Encodes.{iff_false, not_said}
use Rattle.reading.proofs.Least.{and_split}
use Rattle.reading.proofs.Pads.{pad_nil}
use Rattle.reading.proofs.Parts.{part_slice}
use Rattle.rules.specs.Rules as Rule
use Rattle.residue.specs.Reading.{Books, Head, place_fits, residue_fits, with_plan}
use Rattle.residue.specs.Layout.{plan_table, plan_width}
use Rattle.residue.specs.Carried.{Rows8}
use Rattle.residue.specs.Inner.Valid.{ValidResidue}
use Rattle.residue.specs.Inner.FromTable.{books_of}
use Rattle.residue.specs.Inner.Heads.{head_of}
use Rattle.residue.specs.Inner.Plans.{head_fits}
use Rattle.residue.specs.Inner.Decode.{chunks, head_at, decode_residue}
use Rattle.residue.specs.declared.head.Head as D
use Rattle.residue.proofs.DecodeLaws.{head_dropped}
use Rattle.residue.proofs.Laws.{plan_table_is}
use Rattle.residue_tables.specs.Inner.Recognised.{ValidHead, ValidRows}

both : {a b : Bool} → a ≡ true → b ≡ true → a && b ≡ true
both p q = rw (p, q)

-- the part of rule 13 that the fields before the plan decide, and the part of the plan
module _ (books : Books) (h : Head) (plan : List (List ℕ)) (v : ValidResidue books (with_plan h plan)) where
  head_fits_lem : head_fits books h ≡ true
  unfolding residue_fits
  head_fits_lem =
      let a = and_split (leb h.begin h.end) _ v.rule13 in
      let b = and_split (leb (h.classifications ^ books.dimensions h.classbook) (books.entries h.classbook)) _ a.1 in
      both a.0 b.0

  plan_fits : all (place_fits books h.size) (rows (λ row. row) plan) ≡ true
  unfolding residue_fits
  plan_fits =
      let a = and_split (leb h.begin h.end) _ v.rule13 in
      (and_split (leb (h.classifications ^ books.dimensions h.classbook) (books.entries h.classbook)) _ a.1).1

both_fit : (books : Books) (h : Head) (plan : List (List ℕ)) → head_fits books h ≡ true → all (place_fits books h.size) (rows (λ row. row) plan) ≡ true
    → residue_fits books (with_plan h plan) ≡ true
unfolding residue_fits
both_fit books h plan e f =
    let a = and_split (leb h.begin h.end) _ e in
    both a.0 (both a.1 f)

-- a plan without books
abbrev empty_plan : ℕ → List (List ℕ)
empty_plan n = replicate n (replicate 8 0)

empty_passes : (n : ℕ) → Rows8 (empty_plan n)
unfolding Rows8
empty_passes zero = tt
empty_passes (suc n) = (refl, empty_passes n)

empty_all : (f : ℕ → Bool) → f 0 ≡ true → (n : ℕ) → all f (rows (λ row. row) (empty_plan n)) ≡ true
unfolding all rows
empty_all f e zero = refl
empty_all f e (suc n) = rw e (empty_all f e n)

empty_fits : (books : Books) (size n : ℕ) → all (place_fits books size) (rows (λ row. row) (empty_plan n)) ≡ true
unfolding place_fits
empty_fits books size n = empty_all (place_fits books size) refl n

-- the fields before the plan
module _ (count : ℕ) (t : List ℕ) (h : D.Head) where
  pub head_judged : h.kind ≤ 2 → h.begin < 2 ^ 24 → h.end < 2 ^ 24 → 1 ≤ h.size → h.size ≤ 2 ^ 24 → 1 ≤ h.classifications → h.classifications ≤ 64
      → h.classbook < count → {r : Bool} → r ≡ head_fits (books_of 0 t) (head_of h) → (r ≡ true) ↔ ValidHead (books_of count t) (head_of h)
  head_judged a b c d e f g i {r} p = (
    (λ y. record {
      plan = empty_plan h.classifications;
      valid = record {
        carried = record {
          begin = b;
          end = c;
          size = record { low = d; high = e };
          classifications = record { low = f; high = g };
          plan = length-replicate h.classifications _;
          passes = empty_passes h.classifications;
        };
        rule10 = le-leb h.kind 2 a;
        rule11 = record { classbook = lt-ltb h.classbook count i; plan = empty_all (λ v. leb v count) (le-leb 0 count (omega arith)) h.classifications };
        rule13 = both_fit (books_of count t) (head_of h) _ (sym p ∙ y) (empty_fits (books_of count t) h.size h.classifications);
      };
    }),
    (λ v. p ∙ head_fits_lem (books_of count t) (head_of h) v.plan v.valid),
  )

-- chunks of 8
chunks_long : (n : ℕ) (l : List ℕ) → length (chunks n l) ≡ n
unfolding chunks
chunks_long zero l = refl
chunks_long (suc n) l = ap suc (chunks_long n (drop 8 l))

chunks-8 : (n : ℕ) (l : List ℕ) → 8 * n ≤ length l → Rows8 (chunks n l)
unfolding chunks Rows8
chunks-8 zero l h = tt
chunks-8 (suc n) l h = (length-take-le 8 l (omega arith), chunks-8 n (drop 8 l) (simp length-drop (omega arith)))

chunks-rows : (n : ℕ) (l : List ℕ) → rows (λ row. row) (chunks n l) ≡ take (8 * n) l
unfolding chunks rows
chunks-rows zero l = refl
chunks-rows (suc n) l =
    let e : 8 + 8 * n ≡ 8 * suc n = omega arith in
    ap (λ (x : List ℕ). take 8 l ++ x) (chunks-rows n (drop 8 l)) ∙ sym (take-add 8 (8 * n) l) ∙ ap (λ (m : ℕ). take m l) e

-- the rows of a residue, in the parts that the code takes them in
record Parts (books : Books) (h : Head) (p : List ℕ) : Type 0 where
  pub head : ValidHead books h
  pub set_up_is : all (λ v. Rule.meets11 (Rule.book_or_none books.count v)) (take (8 * h.classifications) p) ≡ true
  pub fits : all (place_fits books h.size) (take (8 * h.classifications) p) ≡ true
  pub empty : Zeros (drop (8 * h.classifications) (take plan_width p))

module _ (books : Books) (h p : List ℕ) (room : plan_width ≤ length p) where
  abbrev hd : Head
  hd = head_at h 0

  abbrev used : ℕ
  used = 8 * hd.classifications

  -- a plan's row is what is used and what is behind
  row_split : hd.classifications ≤ 64 → take plan_width p ≡ take used p ++ drop used (take plan_width p)
  row_split few =
      let e : plan_width ≡ used + (plan_width - used) = omega arith in
      ap (λ (n : ℕ). take n p) e ∙ take-add used (plan_width - used) p ∙ ap (λ (l : List ℕ). take used p ++ l) (part_slice used plan_width p)

  written_out : ValidResidue books (decode_residue h p) → plan_table (decode_residue h p) ≡ take used p ++ replicate (plan_width - used) 0
  unfolding decode_residue
  written_out v = plan_table_is books (decode_residue h p) v ∙ (λ j. chunks-rows hd.classifications p j ++ pad_nil (plan_width - used) j)

  after_long : hd.classifications ≤ 64 → length (drop used (take plan_width p)) ≡ plan_width - used
  after_long few = simp length-drop (let e = length-take-le plan_width p room in omega arith)

  apart : ValidRows books h p → Parts books hd p
  unfolding decode_residue
  apart w =
      let v = w.valid in
      let few = v.carried.classifications.high in
      let long = length-take-le used p (omega arith) in
      let r = chunks-rows hd.classifications p in
      let e : drop used (take plan_width p) ≡ replicate (plan_width - used) 0 =
      sym (drop_at (take used p) (drop used (take plan_width p)) used long)
      ∙ ap (drop used) (sym (row_split few) ∙ w.written ∙ written_out v)
      ∙ drop_at (take used p) (replicate (plan_width - used) 0) used long in
      record {
        head = record { plan = chunks hd.classifications p; valid = v };
        set_up_is = rw (← r) v.rule11.plan;
        fits = rw (← r) (plan_fits books hd (chunks hd.classifications p) v);
        empty = e ∙ ap (λ (n : ℕ). replicate n 0) (sym (after_long few));
      }

  together : Parts books hd p → ValidRows books h p
  unfolding decode_residue
  together w =
      let v = w.head.valid in
      let few = v.carried.classifications.high in
      let r = chunks-rows hd.classifications p in
      let valid : ValidResidue books (decode_residue h p) =
      record {
        carried = record {
          begin = v.carried.begin;
          end = v.carried.end;
          size = v.carried.size;
          classifications = v.carried.classifications;
          plan = chunks_long hd.classifications p;
          passes = chunks-8 hd.classifications p (omega arith);
        };
        rule10 = v.rule10;
        rule11 = record { classbook = v.rule11.classbook; plan = rw r w.set_up_is };
        rule13 = both_fit books hd (chunks hd.classifications p) (head_fits_lem books hd w.head.plan v) (rw r w.fits);
      } in
      let e : drop used (take plan_width p) ≡ replicate (plan_width - used) 0 = w.empty ∙ ap (λ (n : ℕ). replicate n 0) (after_long few) in
      record { valid = valid; written = row_split few ∙ ap (λ (l : List ℕ). take used p ++ l) e ∙ sym (written_out valid) }

-- one residue, one law for each way out
module _ (count : ℕ) (t residues plans : List ℕ) (i : ℕ) (at : (i ≤ 63) × (32768 ≤ length plans)) (h : D.Head) (e : head_of h ≡ head_at residues i) where
  parts : ValidRows (books_of count t) (drop (6 * i) residues) (drop (plan_width * i) plans) ↔ Parts (books_of count t) (head_of h) (drop (plan_width * i) plans)
  parts =
      let same : head_at (drop (6 * i) residues) 0 ≡ head_of h = head_dropped residues i ∙ sym e in
      let a = at.0 in
      let b = at.1 in
      let room : plan_width ≤ length (drop (plan_width * i) plans) = simp length-drop (omega arith) in (
        (λ w. subst (λ (x : Head). Parts (books_of count t) x (drop (plan_width * i) plans)) same (apart (books_of count t) (drop (6 * i) residues) (drop (plan_width * i) plans) room w)),
        (λ w. together (books_of count t) (drop (6 * i) residues) (drop (plan_width * i) plans) room (subst (λ (x : Head). Parts (books_of count t) x (drop (plan_width * i) plans)) (sym same) w)),
      )

  module _ {rh : Bool} (head : (rh ≡ true) ↔ ValidHead (books_of count t) (head_of h)) where
    pub head_fails : rh ≡ false → (false ≡ true) ↔ ValidRows (books_of count t) (drop (6 * i) residues) (drop (plan_width * i) plans)
    head_fails q = iff_false (λ w. not_said head q (parts.0 w).head)

    module _ (qh : rh ≡ true) where
      -- the part of the table that is the residue's, and the places in use
      abbrev its_plan : List ℕ
      its_plan = take (plan_width * i + plan_width - plan_width * i) (drop (plan_width * i) plans)

      abbrev in_use : ℕ
      in_use = 8 * h.classifications

      plan_is : its_plan ≡ take plan_width (drop (plan_width * i) plans)
      plan_is = let a : plan_width * i + plan_width - plan_width * i ≡ plan_width = omega arith in ap (λ (n : ℕ). take n (drop (plan_width * i) plans)) a

      places : take in_use its_plan ≡ take in_use (drop (plan_width * i) plans)
      places = let few = (head.0 qh).valid.carried.classifications.high in ap (take in_use) plan_is ∙ take-take in_use plan_width (drop (plan_width * i) plans) (omega arith)

      tested : (f : ℕ → Bool) {r : Bool} → r ≡ all f (take in_use its_plan) → (r ≡ true) ↔ (all f (take in_use (drop (plan_width * i) plans)) ≡ true)
      tested f p = let q = p ∙ ap (all f) places in ((λ y. sym q ∙ y), (λ y. q ∙ y))

      module _ {r₁ : Bool} (p₁ : r₁ ≡ all (λ v. Rule.meets11 (Rule.book_or_none count v)) (take in_use its_plan)) where
        pub set_up_fails : r₁ ≡ false → (false ≡ true) ↔ ValidRows (books_of count t) (drop (6 * i) residues) (drop (plan_width * i) plans)
        set_up_fails q = iff_false (λ w. not_said (tested (λ v. Rule.meets11 (Rule.book_or_none count v)) p₁) q (parts.0 w).set_up_is)

        module _ {r₂ : Bool} (p₂ : r₂ ≡ all (place_fits (books_of 0 t) h.size) (take in_use its_plan)) where
          fit : (r₂ ≡ true) ↔ (all (place_fits (books_of count t) h.size) (take in_use (drop (plan_width * i) plans)) ≡ true)
          unfolding place_fits
          fit = tested (place_fits (books_of 0 t) h.size) p₂

          pub fits_fails : r₂ ≡ false → (false ≡ true) ↔ ValidRows (books_of count t) (drop (6 * i) residues) (drop (plan_width * i) plans)
          fits_fails q = iff_false (λ w. not_said fit q (parts.0 w).fits)

          pub residue_judged : r₁ ≡ true → r₂ ≡ true → {r₃ : Bool} → (r₃ ≡ true) ↔ Zeros (drop in_use its_plan)
              → (r₃ ≡ true) ↔ ValidRows (books_of count t) (drop (6 * i) residues) (drop (plan_width * i) plans)
          residue_judged q₁ q₂ z =
              let s = rw plan_is at z in (
                (λ y. parts.1 (record { head = head.0 qh; set_up_is = (tested (λ v. Rule.meets11 (Rule.book_or_none count v)) p₁).0 q₁; fits = fit.0 q₂; empty = s.0 y })),
                (λ v. s.1 (parts.0 v).empty),
              )
