-- A packet cut after any byte: the values of a floor that are read from it are the same, or the cut. Assumes nothing.
use Prim.Native.Nat.{ℕ, zero, suc, ◌-◌}
use mathlib.Core.Bool.{Bool, true, false, cond}
use mathlib.Core.List.{List, [], ◌∷◌, ◌++◌}
use mathlib.Core.Logic.{◌⊎◌, inl, inr}
use mathlib.Core.Option.{none, some}
use mathlib.Core.Path.{◌≡◌, refl}
use lib.Dec.{eqb}
use lib.ListN.{get_or, take}
use Rattle.reading.specs.Lists.{rows}
use Rattle.reading.specs.Outcome.{refusal, Outcome, ok, bad, then}
use Rattle.reading.specs.Reader.{Reader, many, each, mapped}
use Rattle.bits.specs.Field.{field}
use Rattle.bits.proofs.Cuts.{field_cut_packet}
use Rattle.codeword.specs.Codeword.{codeword}
use Rattle.codeword.proofs.Laws.{codeword_cut_packet}
use Rattle.floor.specs.Content.{Class, no_class, Floor}
use Rattle.floor_partition.specs.Partition.{class_value, chosen, value, partition, whole}
use Rattle.floor_values.specs.Values.{first_bits, partition_of, used_values, floor_values}
use Rattle.floor_values.specs.Claims.{SameOrCut}

same : {A : Type 0} (o : Outcome A) → SameOrCut o o
unfolding SameOrCut
same o = inl refl

-- the one way a single read is cut
from_one : {A : Type 0} (o' o : Outcome A) (k : ℕ) → (o' ≡ o) ⊎ (o' ≡ bad (refusal 1 k)) → SameOrCut o' o
unfolding SameOrCut
from_one o' o k (inl e) = inl e
from_one o' o k (inr e) = inr (k, e)

-- a step, and then the next
then_cut : {A B : Type 0} (o' o : Outcome A) (f' f : A → Outcome B) → SameOrCut o' o → ((x : A) → SameOrCut (f' x) (f x)) → SameOrCut (then o' f') (then o f)
unfolding SameOrCut
then_cut (ok x) o f' f (inl e) h = rw (← e) (h x)
then_cut (bad z) o f' f (inl e) h = rw (← e) (inl refl)
then_cut o' o f' f (inr e) h = rw e.1 (inr (e.0, refl))

mapped_cut : {A B : Type 0} (g : A → B) (o' o : Outcome (A × ℕ)) → SameOrCut o' o → SameOrCut (mapped g o') (mapped g o)
unfolding SameOrCut mapped
mapped_cut g o' o (inl e) = rw e (inl refl)
mapped_cut g o' o (inr e) = rw e.1 (inr (e.0, refl))

cond_cut : {A : Type 0} (t : Bool) (a' a c' c : Outcome A) → SameOrCut a' a → SameOrCut c' c → SameOrCut (cond t a' c') (cond t a c)
cond_cut true a' a c' c h g = h
cond_cut false a' a c' c h g = g

module _ (s : List ℕ) (b : ℕ) where
  field_cuts : (w k : ℕ) → SameOrCut (field w (take b s) k) (field w s k)
  field_cuts w k = from_one (field w (take b s) k) (field w s k) k (field_cut_packet s b w k)

  codeword_cuts : (ls : List ℕ) (k : ℕ) → SameOrCut (codeword ls (take b s) k) (codeword ls s k)
  codeword_cuts ls k = from_one (codeword ls (take b s) k) (codeword ls s k) k (codeword_cut_packet ls s b k)

  -- lists that are read item by item
  many_cut : {A : Type 0} (r : Reader A) → ((k : ℕ) → SameOrCut (r (take b s) k) (r s k)) → (n k : ℕ) → SameOrCut (many r n (take b s) k) (many r n s k)
  unfolding many
  many_cut r h zero k = same (ok ([], k))
  many_cut r h (suc n) k =
      then_cut (r (take b s) k) (r s k) (λ x. then (many r n (take b s) x.1) (λ y. ok (x.0 ∷ y.0, y.1))) (λ x. then (many r n s x.1) (λ y. ok (x.0 ∷ y.0, y.1))) (h k)
      (λ x. then_cut (many r n (take b s) x.1) (many r n s x.1) (λ y. ok (x.0 ∷ y.0, y.1)) (λ y. ok (x.0 ∷ y.0, y.1)) (many_cut r h n x.1) (λ y. same (ok (x.0 ∷ y.0, y.1))))

  each_cut : {A : Type 0} (r : ℕ → Reader A) → ((p k : ℕ) → SameOrCut (r p (take b s) k) (r p s k)) → (l : List ℕ) (k : ℕ) → SameOrCut (each r l (take b s) k) (each r l s k)
  unfolding each
  each_cut r h [] k = same (ok ([], k))
  each_cut r h (p ∷ l) k =
      then_cut (r p (take b s) k) (r p s k) (λ x. then (each r l (take b s) x.1) (λ y. ok (x.0 ∷ y.0, y.1))) (λ x. then (each r l s x.1) (λ y. ok (x.0 ∷ y.0, y.1))) (h p k)
      (λ x. then_cut (each r l (take b s) x.1) (each r l s x.1) (λ y. ok (x.0 ∷ y.0, y.1)) (λ y. ok (x.0 ∷ y.0, y.1)) (each_cut r h l x.1) (λ y. same (ok (x.0 ∷ y.0, y.1))))

  module _ (lengths_of : ℕ → List ℕ) where
    value_cuts : (p k : ℕ) → SameOrCut (value lengths_of p (take b s) k) (value lengths_of p s k)
    unfolding value
    value_cuts p k = cond_cut (eqb p 0) (ok (0, k)) (ok (0, k)) (codeword (lengths_of (p - 1)) (take b s) k) (codeword (lengths_of (p - 1)) s k) (same (ok (0, k))) (codeword_cuts (lengths_of (p - 1)) k)

    class_cuts : (c : Class) (k : ℕ) → SameOrCut (class_value lengths_of c (take b s) k) (class_value lengths_of c s k)
    unfolding class_value
    class_cuts c k =
        cond_cut (eqb c.subclasses 0) (ok (0, k)) (ok (0, k)) (codeword (lengths_of (c.master - 1)) (take b s) k) (codeword (lengths_of (c.master - 1)) s k) (same (ok (0, k))) (codeword_cuts (lengths_of (c.master - 1)) k)

    partition_cuts : (c : Class) (k : ℕ) → SameOrCut (partition lengths_of c (take b s) k) (partition lengths_of c s k)
    unfolding partition
    partition_cuts c k =
        then_cut (class_value lengths_of c (take b s) k) (class_value lengths_of c s k) (λ v. each (value lengths_of) (chosen c v.0 c.dimensions) (take b s) v.1) (λ v. each (value lengths_of) (chosen c v.0 c.dimensions) s v.1)
        (class_cuts c k) (λ v. each_cut (value lengths_of) value_cuts (chosen c v.0 c.dimensions) v.1)

    module _ (f : Floor) where
      part_cuts : (p k : ℕ) → SameOrCut (partition_of lengths_of f p (take b s) k) (partition_of lengths_of f p s k)
      unfolding partition_of
      part_cuts p k = partition_cuts (get_or f.classes p no_class) k

      used_cuts : (k : ℕ) → SameOrCut (used_values lengths_of f (take b s) k) (used_values lengths_of f s k)
      unfolding used_values
      used_cuts k =
          then_cut (many (field (first_bits f.multiplier)) 2 (take b s) k) (many (field (first_bits f.multiplier)) 2 s k)
          (λ first. then (each (partition_of lengths_of f) f.partitions (take b s) first.1) (λ later. ok (first.0 ++ rows whole later.0, later.1)))
          (λ first. then (each (partition_of lengths_of f) f.partitions s first.1) (λ later. ok (first.0 ++ rows whole later.0, later.1)))
          (many_cut (field (first_bits f.multiplier)) (field_cuts (first_bits f.multiplier)) 2 k)
          (λ first. then_cut (each (partition_of lengths_of f) f.partitions (take b s) first.1) (each (partition_of lengths_of f) f.partitions s first.1)
          (λ later. ok (first.0 ++ rows whole later.0, later.1)) (λ later. ok (first.0 ++ rows whole later.0, later.1))
          (each_cut (partition_of lengths_of f) part_cuts f.partitions first.1) (λ later. same (ok (first.0 ++ rows whole later.0, later.1))))

      pub floor_cuts : (k : ℕ) → SameOrCut (floor_values lengths_of f (take b s) k) (floor_values lengths_of f s k)
      unfolding floor_values
      floor_cuts k =
          then_cut (field 1 (take b s) k) (field 1 s k)
          (λ nonzero. cond (eqb nonzero.0 0) (ok (none, nonzero.1)) (mapped some (used_values lengths_of f (take b s) nonzero.1)))
          (λ nonzero. cond (eqb nonzero.0 0) (ok (none, nonzero.1)) (mapped some (used_values lengths_of f s nonzero.1)))
          (field_cuts 1 k)
          (λ nonzero. cond_cut (eqb nonzero.0 0) (ok (none, nonzero.1)) (ok (none, nonzero.1)) (mapped some (used_values lengths_of f (take b s) nonzero.1)) (mapped some (used_values lengths_of f s nonzero.1))
          (same (ok (none, nonzero.1))) (mapped_cut some (used_values lengths_of f (take b s) nonzero.1) (used_values lengths_of f s nonzero.1) (used_cuts nonzero.1)))
