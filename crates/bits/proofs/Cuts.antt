-- A packet cut after any byte: a field read from it is the same, or it is cut (01, "An accepted packet cut after any byte ..").
-- Assumes nothing.
use Prim.Native.Nat.{ℕ, zero, suc, ◌+◌, ◌*◌, ◌/◌, ◌≤◌, ◌<◌}
use native.Mathlib.Omega.{arith}
use mathlib.Core.List.{List}
use mathlib.Core.Logic.{◌⊎◌, inl, inr}
use mathlib.Core.Path.{◌≡◌, refl, ◌∙◌}
use mathlib.Core.Bool.{Bool, true, false}
use lib.ListN.{length, take, length-take}
use lib.Seq.{get_or-take}
use lib.Dec.{leb}
use borrow.Author.Tests.{leb-true, leb-false}
use Rattle.reading.specs.Outcome.{refusal, bad}
use Rattle.bits.specs.Field.{bit_at, value_at, field}
use Rattle.bits.proofs.Fields.{field_whole, field_cut}

-- the packet's first b bytes
module _ (s : List ℕ) (b : ℕ) where
  pub bit_cut : (k : ℕ) → k < 8 * b → bit_at (take b s) k ≡ bit_at s k
  unfolding bit_at
  bit_cut k h = let l : k / 8 < b = omega arith in rw (get_or-take b s (k / 8) 0 l)

  pub value_cut : (k w : ℕ) → k + w ≤ 8 * b → value_at (take b s) k w ≡ value_at s k w
  unfolding value_at
  value_cut k zero h = refl
  value_cut k (suc w) h = rw (value_cut k w (omega arith), bit_cut (k + w) (omega arith))

  -- reading from the cut packet gives the same, or a cut
  pub field_cut_packet : (w k : ℕ) → (field w (take b s) k ≡ field w s k) ⊎ (field w (take b s) k ≡ bad (refusal 1 k))
  field_cut_packet w k = go (leb (k + w) (8 * length (take b s))) refl
    where
      go : (t : Bool) → leb (k + w) (8 * length (take b s)) ≡ t
          → (field w (take b s) k ≡ field w s k) ⊎ (field w (take b s) k ≡ bad (refusal 1 k))
      go false p = inr (field_cut (take b s) k w (leb-false _ _ p))
      go true p =
          let h : k + w ≤ 8 * length (take b s) = leb-true _ _ p in
          let l = length-take b s in
          let m : k + w ≤ 8 * b = omega arith in
          let n : k + w ≤ 8 * length s = omega arith in
          inl (field_whole (take b s) k w h ∙ rw (value_cut k w m, field_whole s k w n))
