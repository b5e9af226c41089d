-- The run's invariant. Assumes nothing.
use Prim.Native.Nat.{ℕ, ◌≤◌}
use mathlib.Core.List.{List}
use lib.ListN.{length, take}
use Rattle.setup.specs.declared.lent.LentTablesMut.{LentTablesMut}
use Rattle.setup.specs.Handed.{held_mut, StaysLent}
use Rattle.record_step.specs.Inner.Kept.{KeptTables, KeptOutputs}
use Rattle.record_progress.specs.Inner.Taken.{Room}
use Rattle.record_progress.specs.declared.Progress.{Progress}

-- a record may be taken from the first `to` bytes
pub record Running (t : LentTablesMut) (p : Progress) (to : ℕ) (t' : LentTablesMut) (curves' words' input' lines' : List ℕ) : Type 0 where
  pub kept : KeptTables p.kept (held_mut t') × KeptOutputs p.kept curves' words'
  pub room : Room p (take to input') lines'
  pub inside : to ≤ length input'
  pub lent : StaysLent t t'
