-- Tables are the writing-out of residues that meet every rule exactly where the rows of each are, one after the other, and zeros stand behind them. Assumes nothing.
use Prim.Native.Nat.{ℕ, suc, ◌+◌, ◌-◌, ◌*◌, ◌≤◌, ◌<◌}
use native.Mathlib.Omega.{arith}
use mathlib.Core.Bool.{Bool, true, false}
use mathlib.Core.List.{List, [], ◌∷◌, ◌++◌}
use mathlib.Core.Logic.{◌↔◌}
use mathlib.Core.Path.{◌≡◌, refl, sym, ap, subst, ◌∙◌}
use lib.ListN.{length, take, drop, length-drop, take-append-drop}
use lib.Seq.{take_at, drop_at, drop-drop}
use Rattle.reading.specs.Pad.{pad}
use Rattle.reading.specs.Lists.{rows}
use Rattle.reading.specs.Encoding.{Zeros, Each}
use Rattle.reading.proofs.Encodes.{iff_false, not_said}
use Rattle.reading.proofs.Pads.{pad_nil}
use Rattle.residue.specs.Content.{Residue}
use Rattle.residue.specs.Reading.{Books}
use Rattle.residue.specs.Layout.{head_row, plan_table, plan_width}
use Rattle.residue.specs.Inner.Valid.{ValidResidue}
use Rattle.residue.specs.Inner.Decode.{decode_residue, decode_residues}
use Rattle.residue.proofs.Laws.{length-head_row, length-plan_table, decode_rows_lem, decode_residues_lem}
use Rattle.residue.proofs.RowsLaws.{pad_cat}
use Rattle.residue_tables.specs.Inner.Recognised.{Holds, ResiduesRecognised, OneContent, ValidRows}

-- the tables hold some content
abbrev Encoded : Books → ℕ → List ℕ → List ℕ → Type 0
Encoded books n h p = (content : List Residue) × Holds books n h p content

-- no residue: zeros alone
encoded_none : (books : Books) (h p : List ℕ) → Encoded books 0 h p ↔ (Zeros h × Zeros p)
unfolding rows Each
encoded_none books h p = (
  (λ s. none s.0 s.1),
  (λ z. ([], record { count = refl; valid = tt; head_rows = z.0 ∙ sym (pad_nil (length h)); plan_rows = z.1 ∙ sym (pad_nil (length p)) })),
)
  where
    none : (rs : List Residue) → Holds books 0 h p rs → Zeros h × Zeros p
    none [] s = (s.head_rows ∙ pad_nil (length h), s.plan_rows ∙ pad_nil (length p))
    none (r ∷ rs) s = let e = s.count in absurd (omega arith)

-- one row more in front of a table
module _ (row : Residue → List ℕ) (w : ℕ) (wide : (r : Residue) → length (row r) ≡ w) (r : Residue) (rs : List Residue) (cells : List ℕ) (room : w ≤ length cells) where
  in-front : pad (length cells) (rows row (r ∷ rs)) ≡ row r ++ pad (length (drop w cells)) (rows row rs)
  unfolding rows
  in-front =
      let a = wide r in
      let b : length (drop w cells) ≡ length cells - w = length-drop w cells in
      pad_cat (length cells) (row r) (rows row rs) (length (drop w cells)) (omega arith)

  front_row : cells ≡ pad (length cells) (rows row (r ∷ rs)) → cells ≡ row r ++ drop w cells
  front_row e =
      let f = e ∙ in-front in
      f ∙ ap (λ (l : List ℕ). row r ++ l) (sym (ap (drop w) f ∙ drop_at (row r) (pad (length (drop w cells)) (rows row rs)) w (wide r)))

  after_row : cells ≡ pad (length cells) (rows row (r ∷ rs)) → drop w cells ≡ pad (length (drop w cells)) (rows row rs)
  after_row e = ap (drop w) (e ∙ in-front) ∙ drop_at (row r) (pad (length (drop w cells)) (rows row rs)) w (wide r)

  with_row : take w cells ≡ row r → drop w cells ≡ pad (length (drop w cells)) (rows row rs) → cells ≡ pad (length cells) (rows row (r ∷ rs))
  with_row e f = sym (take-append-drop w cells) ∙ (λ j. e j ++ f j) ∙ sym in-front

-- the six numbers that begin a list
six : (h p : List ℕ) → 6 ≤ length h → take 6 h ≡ head_row (decode_residue h p)
unfolding head_row decode_residue
six [] p l = absurd (omega arith)
six (a ∷ []) p l = absurd (omega arith)
six (a ∷ b ∷ []) p l = absurd (omega arith)
six (a ∷ b ∷ c ∷ []) p l = absurd (omega arith)
six (a ∷ b ∷ c ∷ d ∷ []) p l = absurd (omega arith)
six (a ∷ b ∷ c ∷ d ∷ e ∷ []) p l = absurd (omega arith)
six (a ∷ b ∷ c ∷ d ∷ e ∷ f ∷ h) p l = refl

-- one residue more: its rows, and then the others'
module _ (books : Books) (n : ℕ) (h p : List ℕ) (room : 6 ≤ length h) (room-p : plan_width ≤ length p) where
  encoded_first : Encoded books (suc n) h p → ValidRows books h p × Encoded books n (drop 6 h) (drop plan_width p)
  unfolding Each
  encoded_first s = go s.0 s.1
    where
      go : (rs : List Residue) → Holds books (suc n) h p rs → ValidRows books h p × Encoded books n (drop 6 h) (drop plan_width p)
      go [] s = let e = s.count in absurd (omega arith)
      go (r ∷ rs) s =
          let k = s.count in
          let a = front_row head_row 6 length-head_row r rs h room s.head_rows in
          let b = front_row plan_table plan_width length-plan_table r rs p room-p s.plan_rows in
          let d : r ≡ decode_residue h p = sym ((λ j. decode_residue (a j) (b j)) ∙ decode_rows_lem books r s.valid.0 (drop 6 h) (drop plan_width p)) in (
            record {
              valid = subst (ValidResidue books) d s.valid.0;
              written = ap (take plan_width) b ∙ take_at (plan_table r) (drop plan_width p) plan_width (length-plan_table r) ∙ ap plan_table d;
            },
            (
              rs,
              record {
                count = omega arith;
                valid = s.valid.1;
                head_rows = after_row head_row 6 length-head_row r rs h room s.head_rows;
                plan_rows = after_row plan_table plan_width length-plan_table r rs p room-p s.plan_rows;
              },
            ),
          )

  encoded_cons : ValidRows books h p → Encoded books n (drop 6 h) (drop plan_width p) → Encoded books (suc n) h p
  unfolding Each
  encoded_cons v s = (
    decode_residue h p ∷ s.0,
    record {
      count = ap suc s.1.count;
      valid = (v.valid, s.1.valid);
      head_rows = with_row head_row 6 length-head_row (decode_residue h p) s.0 h room (six h p room) s.1.head_rows;
      plan_rows = with_row plan_table plan_width length-plan_table (decode_residue h p) s.0 p room-p v.written s.1.plan_rows;
    },
  )

-- the loop over the residues: the rows of i are found right, so that all depends on the others
pub record Recognising (books : Books) (n : ℕ) (residues plans : List ℕ) (i : ℕ) : Type 0 where
  pub within : i ≤ n
  pub left : Encoded books n residues plans ↔ Encoded books (n - i) (drop (6 * i) residues) (drop (plan_width * i) plans)

module _ (books : Books) (n : ℕ) (residues plans : List ℕ) where
  pub one_content : n ≤ 64 → OneContent books n residues plans
  one_content few =
      record {
        decoded = λ s.
            let a = s.room in
            let b = s.room_plans in
            sym
            ((λ j. decode_residues n (s.holds.head_rows j) (s.holds.plan_rows j))
            ∙ decode_residues_lem books s.content n (length residues) (length plans) s.holds.count s.holds.valid (omega arith) (omega arith));
      }

  module _ (few : n ≤ 64) (room : 384 ≤ length residues) (room_plans : 32768 ≤ length plans) {i : ℕ} (w : Recognising books n residues plans i) where
    -- the residue at i, and the others behind it
    module _ (h : i < n) where
      abbrev Others : Type 0
      Others = Encoded books (n - (i + 1)) (drop (6 * (i + 1)) residues) (drop (plan_width * (i + 1)) plans)

      turn : Encoded books n residues plans ↔ (ValidRows books (drop (6 * i) residues) (drop (plan_width * i) plans) × Others)
      turn =
          let e : n - i ≡ suc (n - (i + 1)) = omega arith in
          let a : 6 * i + 6 ≡ 6 * (i + 1) = omega arith in
          let b : plan_width * i + plan_width ≡ plan_width * (i + 1) = omega arith in
          let x : 6 ≤ length (drop (6 * i) residues) = simp length-drop (omega arith) in
          let y : plan_width ≤ length (drop (plan_width * i) plans) = simp length-drop (omega arith) in
          let next : Encoded books (n - (i + 1)) (drop 6 (drop (6 * i) residues)) (drop plan_width (drop (plan_width * i) plans)) ≡ Others =
          rw (drop-drop 6 (6 * i) residues, drop-drop plan_width (plan_width * i) plans, a, b) refl in
          let s : Encoded books n residues plans ↔ Encoded books (suc (n - (i + 1))) (drop (6 * i) residues) (drop (plan_width * i) plans) = rw e at w.left in (
            (λ c. let d = encoded_first books (n - (i + 1)) _ _ x y (s.0 c) in (d.0, subst (λ (T : Type 0). T) next d.1)),
            (λ d. s.1 (encoded_cons books (n - (i + 1)) _ _ x y d.0 (subst (λ (T : Type 0). T) (sym next) d.1))),
          )

      module _ {r : Bool} (said : (r ≡ true) ↔ ValidRows books (drop (6 * i) residues) (drop (plan_width * i) plans)) where
        pub recognising_failed : r ≡ false → (false ≡ true) ↔ ResiduesRecognised books n residues plans
        recognising_failed q = iff_false (λ s. not_said said q (turn.0 (s.content, s.holds)).0)

        pub recognising_next : r ≡ true → Recognising books n residues plans (i + 1)
        recognising_next q = record { within = omega arith; left = ((λ c. (turn.0 c).1), (λ d. turn.1 (said.0 q, d))) }

    -- the zeros behind the last residue
    module _ (h : n ≤ i) where
      after : Encoded books n residues plans ↔ (Zeros (drop (6 * n) residues) × Zeros (drop (plan_width * n) plans))
      after =
          let a = w.within in
          let x : n - i ≡ 0 = omega arith in
          let y : i ≡ n = omega arith in
          let s : Encoded books n residues plans ↔ Encoded books 0 (drop (6 * n) residues) (drop (plan_width * n) plans) = rw (x, y) at w.left in
          let z = encoded_none books (drop (6 * n) residues) (drop (plan_width * n) plans) in
          ((λ c. z.0 (s.0 c)), (λ d. s.1 (z.1 d)))

      module _ {r : Bool} (said : (r ≡ true) ↔ Zeros (drop (6 * n) residues)) where
        pub tail_failed : r ≡ false → (r ≡ true) ↔ ResiduesRecognised books n residues plans
        tail_failed q = rw q (iff_false (λ s. not_said said q (after.0 (s.content, s.holds)).0))

        pub tail_judged : r ≡ true → {r₂ : Bool} → (r₂ ≡ true) ↔ Zeros (drop (plan_width * n) plans) → (r₂ ≡ true) ↔ ResiduesRecognised books n residues plans
        tail_judged q z = (
          (λ y. let c = after.1 (said.0 q, z.0 y) in record { room = room; room_plans = room_plans; content = c.0; holds = c.1 }),
          (λ s. z.1 (after.0 (s.content, s.holds)).1),
        )
