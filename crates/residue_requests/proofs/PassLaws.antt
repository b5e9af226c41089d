-- Partitions one after the other; a pass that has a book for no class reads nothing, so the later passes may end after the last one that has a book. Assumes nothing.
use Prim.Native.Nat.{ℕ, zero, suc, ◌+◌, ◌≤◌, ◌<◌}
use native.Mathlib.Omega.{arith}
use mathlib.Core.List.{List, [], ◌∷◌, ◌++◌}
use mathlib.Core.Path.{◌≡◌, refl, sym, ◌∙◌}
use Rattle.residue.specs.Content.{Residue}
use Rattle.requests.specs.Requests.{done, bind}
use Rattle.requests.proofs.Laws.{bind_same, bind-bind}
use Rattle.residue_requests.specs.Requests.{planned}
use Rattle.residue_requests.specs.Inner.Unplaced.{flat_partition, flat_partitions, flat_later_passes, Bookless}

module _ (dimensions_of : ℕ → ℕ) (r : Residue) where
  -- partitions of one list of classes and then another
  pub partitions_append : (pass : ℕ) (a b : List ℕ) → flat_partitions dimensions_of r pass (a ++ b) ≡ bind (flat_partitions dimensions_of r pass a) (λ _. flat_partitions dimensions_of r pass b)
  unfolding flat_partitions bind
  partitions_append pass [] b = refl
  partitions_append pass (c ∷ a) b =
      let x = flat_partition dimensions_of r (planned r pass c) in
      let y = flat_partitions dimensions_of r pass a in
      let z = flat_partitions dimensions_of r pass b in
      bind_same x (λ _. flat_partitions dimensions_of r pass (a ++ b)) (λ _. bind y (λ _. z)) (λ _. partitions_append pass a b) ∙ sym (bind-bind x (λ _. y) (λ _. z))

  pub bookless_partitions : (pass : ℕ) (cs : List ℕ) → Bookless r pass → flat_partitions dimensions_of r pass cs ≡ done tt
  unfolding flat_partitions flat_partition bind Bookless
  bookless_partitions pass [] h = refl
  bookless_partitions pass (c ∷ cs) h = rw (h c) (bookless_partitions pass cs h)

  -- so do passes that have none, one after the other
  pub bookless_passes : (pass m : ℕ) (cs : List ℕ) → ((p : ℕ) → pass ≤ p → p < pass + m → Bookless r p) → flat_later_passes dimensions_of r pass m cs ≡ done tt
  unfolding flat_later_passes bind
  bookless_passes pass zero cs h = refl
  bookless_passes pass (suc m) cs h = rw (bookless_partitions pass cs (h pass (omega arith) (omega arith))) (bookless_passes (suc pass) m cs (λ p a b. h p (omega arith) (omega arith)))
