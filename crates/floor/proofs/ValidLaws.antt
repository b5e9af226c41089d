-- What holds of a class and of a floor that meet every rule, as proofs ask it. Assumes nothing.
use Prim.Native.Nat.{ℕ, ◌≤◌}
use borrow.Author.Tests.{leb-true}
use lib.ListN.{length}
use Rattle.reading.specs.Encoding.{Each}
use Rattle.reading.proofs.EachLaws.{each_both}
use Rattle.floor.specs.Inner.Valid.{ValidClass, ValidFloor}
use Rattle.floor.specs.Content.{Floor, Class}

module _ {books : ℕ} {c : Class} (v : ValidClass books c) where
  -- the master book is set up (11)
  pub master_most : c.master ≤ books
  master_most = leb-true c.master books v.rules.master

module _ {books : ℕ} {f : Floor} (v : ValidFloor books f) where
  -- at most 63 X values are read (12)
  pub values_few : length f.xs ≤ 63
  values_few = leb-true (length f.xs) 63 v.rules.count

  -- each class meets every rule
  pub classes_meet : Each (ValidClass books) f.classes
  classes_meet = each_both (λ c x y. record { carried = x; rules = y }) f.classes v.carried.classes v.classes
