-- A residue by the fields that were read before its plan, and by its row: the same. Assumes nothing.
use Prim.Native.Nat.{ℕ, ◌*◌}
use mathlib.Core.List.{List}
use mathlib.Core.Path.{◌≡◌, ap}
use lib.ListN.{drop}
use Rattle.residue.specs.Layout.{plan_width}
use Rattle.residue.specs.Reading as R
use Rattle.residue.specs.Reading.{with_plan}
use Rattle.residue.specs.Inner.Decode.{head_at, chunks}
use Rattle.residue.specs.Inner.Heads.{head_of}
use Rattle.residue.specs.declared.head.Head.{Head}
use Rattle.residue_pass.specs.Inner.Readable.{residue_in, residue_by}

pub residue_by_head : (h : Head) (residues plans : List ℕ) (n : ℕ) → head_of h ≡ head_at residues n → residue_by h plans n ≡ residue_in residues plans n
unfolding residue_by residue_in
residue_by_head h residues plans n e = ap (λ (x : R.Head). with_plan x (chunks x.classifications (drop (plan_width * n) plans))) e
