-- Laws of writing a plan row by row, as the code asks them. Assumes nothing.
use Prim.Native.Nat.{ℕ, ◌+◌, ◌*◌, ◌≤◌, ◌<◌}
use native.Mathlib.Omega.{arith}
use borrow.Author.Rules.{rules}
use mathlib.Core.List.{List, []}
use mathlib.Core.Path.{◌≡◌, refl, sym, ap, ◌∙◌}
use lib.ListN.{length, get_or, take}
use lib.Seq.{take_all, sets, length-sets}
use Rattle.reading.specs.Lists.{rows}
use Rattle.reading.proofs.Tables.{sets_append}
use Rattle.residue.specs.Inner.Plans.{Grid}
use Rattle.residue.proofs.RowsLaws.{rows_more, rows_long}

-- the loop that writes a grid row by row
module _ (entry : List ℕ) (at : ℕ) (plan : List (List ℕ)) where
  pub record WritingRows (now : List ℕ) (i : ℕ) : Type 0 where
    pub within : i ≤ 64
    pub long : length now ≡ length entry
    pub is : now ≡ sets entry at (rows (λ row. row) (take i plan))

  pub writing_start : WritingRows entry 0
  unfolding rows
  writing_start = record { within = omega arith; long = refl; is = refl }

  module _ (g : Grid plan) {now : List ℕ} {i : ℕ} (w : WritingRows now i) where
    pub writing_next : i < 64 → (now' : List ℕ) → now' ≡ sets now (at + 8 * i) (get_or plan i []) → WritingRows now' (i + 1)
    writing_next h now' e =
        let c = g.classes in
        let n : length (rows (λ row. row) (take i plan)) ≡ 8 * i = rows_long plan i g.passes (omega arith) in
        record {
          within = omega arith;
          long = rw e (length-sets now (at + 8 * i) (get_or plan i []) ∙ w.long);
          is =
              e
              ∙ ap (λ (l : List ℕ). sets l (at + 8 * i) (get_or plan i [])) w.is
              ∙ ap (λ (m : ℕ). sets (sets entry at (rows (λ row. row) (take i plan))) (at + m) (get_or plan i [])) (sym n)
              ∙ sym (sets_append (rows (λ row. row) (take i plan)) (get_or plan i []) entry at)
              ∙ ap (sets entry at) (sym (rows_more plan i (omega arith)));
        }

    pub writing_done : 64 ≤ i → now ≡ sets entry at (rows (λ row. row) plan)
    writing_done h =
        let c = g.classes in
        w.is ∙ ap (λ (l : List (List ℕ)). sets entry at (rows (λ row. row) l)) (take_all i plan (omega arith))

pub ruleset writing_laws = (rules, writing_start, writing_next, writing_done)
