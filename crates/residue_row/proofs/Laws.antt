-- Which number of a residue each place of its rows holds: with `residues_stored`, what the functions of src/lib.rt give. Assumes nothing.
use Prim.Native.Nat.{ℕ, zero, suc, ◌+◌, ◌*◌, ◌≤◌, ◌<◌}
use native.Mathlib.Omega.{arith}
use mathlib.Core.List.{List, [], ◌∷◌}
use mathlib.Core.Path.{◌≡◌, refl, ◌∙◌}
use lib.ListN.{length, get_or, get_or-append}
use lib.Seq.{get_or-append-add}
use Rattle.reading.specs.Pad.{pad}
use Rattle.reading.specs.Lists.{rows}
use Rattle.reading.proofs.Stored.{Stored, stored_number, rows_stored}
use Rattle.residue.specs.Content.{Residue}
use Rattle.residue.specs.Reading.{Books}
use Rattle.residue.specs.Layout.{head_width, plan_width, head_row, plan_table}
use Rattle.residue.specs.Carried.{Rows8}
use Rattle.residue.specs.Inner.Valid.{ValidResidue}
use Rattle.residue.specs.Inner.Decode.{head_at}
use Rattle.residue.proofs.Laws.{length-head_row, length-plan_table}

-- rows of 8, one after the other
rows8_at : (plan : List (List ℕ)) → Rows8 plan → (class pass k : ℕ) → class < length plan → pass < 8 → k ≡ 8 * class + pass
    → get_or (rows (λ row. row) plan) k 0 ≡ get_or (get_or plan class []) pass 0
unfolding rows Rows8
rows8_at [] r class pass k h g e = absurd (omega arith)
rows8_at (row ∷ plan) r zero pass k h g e =
    let n = r.0 in
    let f : k ≡ pass = omega arith in
    rw f (get_or-append row (rows (λ row. row) plan) 0 pass (omega arith))
rows8_at (row ∷ plan) r (suc class) pass k h g e =
    let n = r.0 in
    let f : k ≡ length row + (8 * class + pass) = omega arith in
    rw f (get_or-append-add row (rows (λ row. row) plan) (8 * class + pass) 0 ∙ rows8_at plan r.1 class pass (8 * class + pass) (omega arith) g refl)

-- the rows of a residue that lies in the tables as number i
pub record ResidueStored (residues plans : List ℕ) (i : ℕ) (r : Residue) : Type 0 where
  pub head : Stored residues (head_width * i) (head_row r)
  pub plan : Stored plans (plan_width * i) (plan_table r)

-- IN TABLES THAT ARE THE WRITING-OUT OF RESIDUES, EACH LIES AT ITS NUMBER; d stands for a residue past the last
pub residues_stored : (rs : List Residue) (residues plans : List ℕ) → residues ≡ pad (length residues) (rows head_row rs) → plans ≡ pad (length plans) (rows plan_table rs)
    → head_width * length rs ≤ length residues → plan_width * length rs ≤ length plans → (i : ℕ) → i < length rs → (d : Residue) → ResidueStored residues plans i (get_or rs i d)
residues_stored rs residues plans e f h g i k d =
    record { head = rows_stored head_row 6 length-head_row d rs residues e h i k; plan = rows_stored plan_table plan_width length-plan_table d rs plans f g i k }

-- what the places of a residue that lies as number i hold
module _ {residues plans : List ℕ} {i : ℕ} {r : Residue} (l : ResidueStored residues plans i r) where
  head_number : (j : ℕ) → j < 6 → get_or residues (6 * i + j) 0 ≡ get_or (head_row r) j 0
  head_number j h = let n = length-head_row r in l.head.same j (omega arith)

  -- the fields before the plan
  pub head_is : head_at residues i ≡ record { type = r.type; begin = r.begin; end = r.end; size = r.size; classifications = r.classifications; classbook = r.classbook }
  unfolding head_row
  head_is =
      λ j. record {
        type = head_number 0 (omega arith) j;
        begin = head_number 1 (omega arith) j;
        end = head_number 2 (omega arith) j;
        size = head_number 3 (omega arith) j;
        classifications = head_number 4 (omega arith) j;
        classbook = head_number 5 (omega arith) j;
      }

  -- the place of a class and a pass
  pub plan_place_is : {books : Books} → ValidResidue books r → (class pass : ℕ) → class < r.classifications → pass < 8
      → get_or plans (plan_width * i + (8 * class + pass)) 0 ≡ get_or (get_or r.plan class []) pass 0
  unfolding plan_table
  plan_place_is v class pass c p =
      let high = v.carried.classifications.high in
      let many = v.carried.plan in
      stored_number plan_width (rows (λ row. row) r.plan) l.plan (8 * class + pass) (omega arith)
      ∙ rows8_at r.plan v.carried.passes class pass (8 * class + pass) (omega arith) p refl
