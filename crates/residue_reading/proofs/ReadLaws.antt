-- Laws of reading a residue into the tables, as the code asks them: the plan's loop, the judgement, the rows. Assumes nothing.
use Rattle.std.specs.Prelude.{Result, Ok, Err}
use Prim.Native.Nat.{ℕ, zero, suc, ◌+◌, ◌-◌, ◌*◌, ◌≤◌, ◌<◌}
use native.Mathlib.Omega.{arith}
use borrow.Author.Tests.{not-true, not-false}
use mathlib.Core.Bool.{Bool, true, false, not, ◌&&◌, and_assoc}
use mathlib.Core.List.{List, [], ◌∷◌, ◌++◌}
use mathlib.Core.Path.{◌≡◌, refl, sym, ap, ◌∙◌}
use lib.Dec.{leb}
use lib.ListN.{length, get_or, set, take, replicate, length-set, replicate-append-replicate}
use lib.Seq.{get_or-take, sets, length-take-le}
use Rattle.reading.specs.Outcome.{Outcome, ok, bad}
use Rattle.reading.specs.Reader.{each, mapped, into1}
use Rattle.reading.specs.Pad.{pad}
use Rattle.reading.specs.Lists.{all, rows}
use Rattle.reading.specs.Inner.Table.{table, put_row}
use Rattle.reading.proofs.Readers.{Long, each_long, mapped_ok, mapped_bad}
use Rattle.reading.proofs.Pads.{pad_nil, length-pad}
use Rattle.bits.specs.declared.Cursor.{Cursor}
use Rattle.bits.specs.declared.refusal.Refusal.{Refusal}
use Rattle.bits.specs.declared.refusal.Reason.TheVariants as R
use Rattle.bits.specs.Inner.Cursors.{position, outcome, Wrote}
use Rattle.bits.proofs.Answers.{value_is, refused_is}
use Rattle.bits.proofs.Steps.{wrote_next, wrote_refused}
use Rattle.residue.specs.Reading.{Head, plan_row, place_fits, residue_fits, with_plan, residue_from}
use Rattle.residue.specs.Inner.FromTable.{books_of}
use Rattle.residue.specs.Inner.Heads.{head_numbers}
use Rattle.residue.specs.Layout.{Tables, head_row, plan_table, put_residue, plan_width}
use Rattle.residue.specs.Inner.Plans.{Grid, head_fits, tables_at}
use Rattle.residue_reading.specs.Inner.Slots.{pad_with}
use Rattle.residue.specs.Carried.{Rows8}
use Rattle.residue.proofs.RowsLaws.{pad_cat}
use Rattle.residue.proofs.PlanSound.{row_read_long}
use Rattle.residue_reading.proofs.SlotLaws.{take_pad_with, Filling, fill_start, fill_next, fill_refused, fill_done}

pad_zero : (xs : List ℕ) → pad 0 xs ≡ []
unfolding pad
pad_zero xs = refl

-- rows of 8, and empty rows behind them
pub rows-pad_with : (n m : ℕ) (plan : List (List ℕ)) → m ≡ 8 * n → Rows8 plan → rows (λ row. row) (pad_with (replicate 8 0) n plan) ≡ pad m (rows (λ row. row) plan)
unfolding rows pad_with Rows8
rows-pad_with zero m plan e r = let f : m ≡ 0 = omega arith in sym (ap (λ (j : ℕ). pad j (rows (λ row. row) plan)) f ∙ pad_zero (rows (λ row. row) plan))
rows-pad_with (suc n) m [] e r =
    let f : 8 + (m - 8) ≡ m = omega arith in
    ap (λ (l : List ℕ). replicate 8 0 ++ l) (rows-pad_with n (m - 8) [] (omega arith) r ∙ pad_nil (m - 8))
    ∙ replicate-append-replicate 8 (m - 8) 0
    ∙ ap (λ (j : ℕ). replicate j 0) f
    ∙ sym (pad_nil m)
rows-pad_with (suc n) m (row ∷ plan) e r =
    let long = r.0 in
    ap (λ (l : List ℕ). row ++ l) (rows-pad_with n (m - 8) plan (omega arith) r.1)
    ∙ sym (pad_cat m row (rows (λ row. row) plan) (m - 8) (omega arith))

rows8_take : (plan : List (List ℕ)) (n : ℕ) → Rows8 plan → Rows8 (take n plan)
unfolding Rows8
rows8_take plan zero r = tt
rows8_take [] (suc n) r = tt
rows8_take (x ∷ plan) (suc n) r = (r.0, rows8_take plan n r.1)

rows8_set : (plan : List (List ℕ)) (i : ℕ) (row : List ℕ) → Rows8 plan → length row ≡ 8 → Rows8 (set plan i row)
unfolding Rows8
rows8_set [] i row r e = tt
rows8_set (x ∷ plan) zero row r e = (e, r.1)
rows8_set (x ∷ plan) (suc i) row r e = (r.0, rows8_set plan i row r.1 e)

rows8_empty : (n : ℕ) → Rows8 (replicate n (replicate 8 0))
unfolding Rows8
rows8_empty zero = tt
rows8_empty (suc n) = (refl, rows8_empty n)

-- the plan's loop, of which i classes are done
pub record Planning (s : List ℕ) (count classes : ℕ) (cascades : List ℕ) (k₀ : Cursor) (plan : List (List ℕ)) (c : Cursor) (i : ℕ) : Type 0 where
  pub within : i ≤ classes
  pub filling : Filling 0 (replicate 8 0) 64 (plan_row count) s (take classes cascades) k₀ plan c i
  pub grid : Grid plan

-- a residue's judgement in two halves
fits_halves : (count : ℕ) (t : List ℕ) (h : Head) (p : List (List ℕ))
    → residue_fits (books_of count t) (with_plan h p) ≡ head_fits (books_of 0 t) h && all (place_fits (books_of 0 t) h.size) (rows (λ row. row) p)
unfolding residue_fits place_fits
fits_halves count t h p = sym (and_assoc (leb h.begin h.end) _ _)

module _ (s : List ℕ) (count classes : ℕ) (cascades : List ℕ) (k₀ : Cursor) where
  pub planning_start : Planning s count classes cascades k₀ (replicate 64 (replicate 8 0)) k₀ 0
  planning_start =
      record {
        within = omega arith;
        filling = fill_start 0 (replicate 8 0) 64 (plan_row count) s (take classes cascades) k₀;
        grid = record { classes = refl; passes = rows8_empty 64 };
      }

  module _ (long : length cascades ≡ 64) (few : classes ≤ 64) {plan : List (List ℕ)} {c : Cursor} {i : ℕ} (w : Planning s count classes cascades k₀ plan c i) where
    cascades_long : length (take classes cascades) ≡ classes
    cascades_long = length-take-le classes cascades (omega arith)

    module _ (h : i < classes) {r : Result (List ℕ × Cursor) Refusal} (p : outcome r ≡ plan_row count (get_or cascades i 0) s (position c)) where
      pub planning_next : {row : List ℕ} {c' : Cursor} → r ≡ Ok (row, c') → Planning s count classes cascades k₀ (set plan i row) c' (i + 1)
      planning_next {row} {c'} q =
          let e = cascades_long in
          let o = value_is p q in
          let g = w.grid in
          record {
            within = omega arith;
            filling = fill_next 0 (replicate 8 0) 64 (plan_row count) s (take classes cascades) w.filling (omega arith) (rw (get_or-take classes cascades i 0 h) o);
            grid = record { classes = simp length-set g.classes; passes = rows8_set plan i row g.passes (row_read_long count (get_or cascades i 0) s (position c) o) };
          }

      module _ (t : List ℕ) (place : ℕ) (hd : Head) (T : Tables) where
        pub planning_refused : {z : Refusal} → r ≡ Err z → (U : Tables)
            → Wrote (into1 put_residue (residue_from (books_of count t) place hd (take classes cascades) s (position k₀)) T) (Err z) U
        unfolding residue_from into1 mapped
        planning_refused {z} q U =
            let e = cascades_long in
            let o = refused_is p q in
            let f = fill_refused 0 (replicate 8 0) 64 (plan_row count) s (take classes cascades) w.filling (omega arith) z (rw (get_or-take classes cascades i 0 h) o) in
            wrote_refused U (rw (mapped_bad (pad_with (replicate 8 0) 64) (each (plan_row count) (take classes cascades) s (position k₀)) (refused_is f refl)))

    module _ (h : classes ≤ i) where
      -- the plan as it was read
      read : (p : List (List ℕ)) × (each (plan_row count) (take classes cascades) s (position k₀) ≡ ok (p, position c)) × (pad_with (replicate 8 0) 64 p ≡ plan)
      read =
          let e = cascades_long in
          mapped_ok
          (pad_with (replicate 8 0) 64)
          (each (plan_row count) (take classes cascades) s (position k₀))
          (value_is (fill_done 0 (replicate 8 0) 64 (plan_row count) s (take classes cascades) w.filling (omega arith)) refl)

      read_long : length read.0 ≡ classes
      read_long = go (each (plan_row count) (take classes cascades) s (position k₀)) (each_long (plan_row count) (take classes cascades) s (position k₀)) read.1 ∙ cascades_long
        where
          go : (o : Outcome (List (List ℕ) × ℕ)) → Long (length (take classes cascades)) o → o ≡ ok (read.0, position c) → length read.0 ≡ length (take classes cascades)
          go (ok x) l f = let g : x ≡ (read.0, position c) = cc in sym (ap (λ (y : List (List ℕ) × ℕ). length y.0) g) ∙ l
          go (bad z) l f = let g : ◌≡◌ {A = ℕ} 0 1 = cc in absurd (omega arith)

      read_is : take classes plan ≡ read.0
      read_is =
          ap (λ (n : ℕ). take n plan) (sym read_long)
          ∙ ap (take (length read.0)) (sym read.2)
          ∙ take_pad_with (replicate 8 0) 64 read.0 (let e = read_long in omega arith)

      module _ (t : List ℕ) (place : Cursor) (hd : Head) {rh : Bool} (ph : rh ≡ head_fits (books_of 0 t) hd) where
        pub head_unfit : not rh ≡ true → (T U : Tables)
            → Wrote (into1 put_residue (residue_from (books_of count t) (position place) hd (take classes cascades) s (position k₀)) T) (Err (record { reason = R.Residue; place = place })) U
        unfolding residue_from into1 mapped
        head_unfit q T U =
            let f : residue_fits (books_of count t) (with_plan hd read.0) ≡ false = fits_halves count t hd read.0 ∙ rw (← ph, not-true rh q) in
            wrote_refused U (rw (read.1, f))

        module _ (qh : not rh ≡ false) {rp : Bool} (pp : rp ≡ all (place_fits (books_of 0 t) hd.size) (rows (λ row. row) (take classes plan))) where
          whole_fits : residue_fits (books_of count t) (with_plan hd read.0) ≡ rp
          whole_fits =
              fits_halves count t hd read.0
              ∙ rw (← ph, not-false rh qh) (ap (λ (l : List (List ℕ)). all (place_fits (books_of 0 t) hd.size) (rows (λ row. row) l)) (sym read_is) ∙ sym pp)

          pub plan_unfit : not rp ≡ true → (T U : Tables)
              → Wrote (into1 put_residue (residue_from (books_of count t) (position place) hd (take classes cascades) s (position k₀)) T) (Err (record { reason = R.Residue; place = place })) U
          unfolding residue_from into1 mapped
          plan_unfit q T U =
              let f : residue_fits (books_of count t) (with_plan hd read.0) ≡ false = whole_fits ∙ not-true rp q in
              wrote_refused U (rw (read.1, f))

          pub residue_written : not rp ≡ false → (residues plans : List ℕ) (index : ℕ) {residues' plans' : List ℕ} → residues' ≡ sets residues (6 * index) (head_numbers hd)
              → plans' ≡ sets plans (plan_width * index) (rows (λ row. row) plan)
              → Wrote (into1 put_residue (residue_from (books_of count t) (position place) hd (take classes cascades) s (position k₀)) (tables_at residues plans index)) (Ok c)
              (tables_at residues' plans' (index + 1))
          unfolding residue_from into1 mapped put_residue put_row head_row plan_table
          residue_written q residues plans index {residues'} {plans'} a b =
              let f : residue_fits (books_of count t) (with_plan hd read.0) ≡ true = whole_fits ∙ not-false rp q in
              let g : rows (λ row. row) plan ≡ pad plan_width (rows (λ row. row) read.0) =
              ap (rows (λ row. row)) (sym read.2) ∙ rows-pad_with 64 plan_width read.0 refl (rw (← read_is) (rows8_take plan classes w.grid.passes)) in
              let m : 6 * index + 6 ≡ 6 * (index + 1) = omega arith in
              let n : plan_width * index + length (pad plan_width (rows (λ row. row) read.0)) ≡ plan_width * (index + 1) = rw length-pad (omega arith) in
              let o : sets plans (plan_width * index) (pad plan_width (rows (λ row. row) read.0)) ≡ plans' = ap (sets plans (plan_width * index)) (sym g) ∙ sym b in
              wrote_next (rw (read.1, f) (λ j. ok (record { heads = table (sym a j) (m j); plans = table (o j) (n j) }, position c)))
