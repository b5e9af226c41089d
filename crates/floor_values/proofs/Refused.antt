-- Reading the values of a floor refuses nothing but a missing bit. Assumes nothing.
use Prim.Native.Nat.{ℕ, zero, suc, ◌+◌, ◌-◌, ◌*◌}
use mathlib.Core.Bool.{Bool, true, false, cond}
use mathlib.Core.List.{List, [], ◌∷◌, ◌++◌}
use mathlib.Core.Option.{Option, none, some}
use mathlib.Core.Path.{◌≡◌, refl, subst}
use lib.Dec.{eqb, ltb, leb}
use lib.ListN.{length, get_or}
use Rattle.reading.specs.Lists.{rows}
use Rattle.reading.specs.Outcome.{Refusal, refusal, Outcome, ok, bad, then, need}
use Rattle.reading.specs.Reader.{Reader, many, each, mapped}
use Rattle.bits.specs.Field.{value_at, field}
use Rattle.codeword_assignment.specs.Book.{used, is_lone, first_used}
use Rattle.codeword.specs.Codeword.{bits_at, entry_of, or_go_on, matching, lone_bits, codeword}
use Rattle.floor.specs.Content.{Class, no_class, Floor}
use Rattle.floor_partition.specs.Partition.{class_value, chosen, value, partition, whole}
use Rattle.floor_values.specs.Values.{first_bits, partition_of, used_values, floor_values}

-- a value, or the cut
abbrev Cut : {A : Type 0} → Outcome A → Type 0
Cut (ok x) = Unit {0}
Cut (bad z) = z.number ≡ 1

need_cut : {A : Type 0} (t : Bool) (k : ℕ) (o : Outcome A) → Cut o → Cut (need t (refusal 1 k) o)
need_cut true k o h = h
need_cut false k o h = refl

then_cut : {A B : Type 0} (o : Outcome A) (f : A → Outcome B) → Cut o → ((x : A) → Cut (f x)) → Cut (then o f)
then_cut (ok x) f h g = g x
then_cut (bad z) f h g = h

mapped_cut : {A B : Type 0} (g : A → B) (o : Outcome (A × ℕ)) → Cut o → Cut (mapped g o)
unfolding mapped
mapped_cut g (ok x) h = tt
mapped_cut g (bad z) h = h

cond_cut : {A : Type 0} (t : Bool) (a b : Outcome A) → Cut a → Cut b → Cut (cond t a b)
cond_cut true a b h g = h
cond_cut false a b h g = g

module _ (s : List ℕ) where
  field_cut : (w k : ℕ) → Cut (field w s k)
  unfolding field
  field_cut w k = need_cut (leb (k + w) (8 * length s)) k (ok (value_at s k w, k + w)) tt

  go_on_cut : (o : Option ℕ) (k : ℕ) (p : Outcome (ℕ × ℕ)) → Cut p → Cut (or_go_on o k p)
  go_on_cut (some e) k p h = tt
  go_on_cut none k p h = h

  matching_cut : (ls : List ℕ) (k m n : ℕ) → Cut (matching ls n m s k)
  unfolding matching
  matching_cut ls k zero n = refl
  matching_cut ls k (suc m) n =
      need_cut (ltb (k + n) (8 * length s)) k (or_go_on (entry_of ls (suc n) (bits_at s k (suc n))) (k + suc n) (matching ls (suc n) m s k))
      (go_on_cut (entry_of ls (suc n) (bits_at s k (suc n))) (k + suc n) (matching ls (suc n) m s k) (matching_cut ls k m (suc n)))

  codeword_cut : (ls : List ℕ) (k : ℕ) → Cut (codeword ls s k)
  unfolding codeword
  codeword_cut ls k =
      cond_cut (is_lone (used ls)) (mapped (λ _. first_used ls) (field lone_bits s k)) (matching ls 0 32 s k) (mapped_cut (λ _. first_used ls) (field lone_bits s k) (field_cut lone_bits k)) (matching_cut ls k 32 0)

  many_cut : {A : Type 0} (r : Reader A) → ((k : ℕ) → Cut (r s k)) → (n k : ℕ) → Cut (many r n s k)
  unfolding many
  many_cut r h zero k = tt
  many_cut r h (suc n) k =
      then_cut (r s k) (λ x. then (many r n s x.1) (λ y. ok (x.0 ∷ y.0, y.1))) (h k)
      (λ x. then_cut (many r n s x.1) (λ y. ok (x.0 ∷ y.0, y.1)) (many_cut r h n x.1) (λ y. tt))

  each_cut : {A : Type 0} (r : ℕ → Reader A) → ((p k : ℕ) → Cut (r p s k)) → (l : List ℕ) (k : ℕ) → Cut (each r l s k)
  unfolding each
  each_cut r h [] k = tt
  each_cut r h (p ∷ l) k =
      then_cut (r p s k) (λ x. then (each r l s x.1) (λ y. ok (x.0 ∷ y.0, y.1))) (h p k)
      (λ x. then_cut (each r l s x.1) (λ y. ok (x.0 ∷ y.0, y.1)) (each_cut r h l x.1) (λ y. tt))

module _ (lengths_of : ℕ → List ℕ) (s : List ℕ) where
  value_cut : (p k : ℕ) → Cut (value lengths_of p s k)
  unfolding value
  value_cut p k = cond_cut (eqb p 0) (ok (0, k)) (codeword (lengths_of (p - 1)) s k) tt (codeword_cut s (lengths_of (p - 1)) k)

  class_cut : (c : Class) (k : ℕ) → Cut (class_value lengths_of c s k)
  unfolding class_value
  class_cut c k = cond_cut (eqb c.subclasses 0) (ok (0, k)) (codeword (lengths_of (c.master - 1)) s k) tt (codeword_cut s (lengths_of (c.master - 1)) k)

  module _ (f : Floor) where
    part_cut : (p k : ℕ) → Cut (partition_of lengths_of f p s k)
    unfolding partition_of partition
    part_cut p k =
        let c = get_or f.classes p no_class in
        then_cut (class_value lengths_of c s k) (λ v. each (value lengths_of) (chosen c v.0 c.dimensions) s v.1) (class_cut c k)
        (λ v. each_cut s (value lengths_of) value_cut (chosen c v.0 c.dimensions) v.1)

    used_cut : (k : ℕ) → Cut (used_values lengths_of f s k)
    unfolding used_values
    used_cut k =
        then_cut (many (field (first_bits f.multiplier)) 2 s k)
        (λ first. then (each (partition_of lengths_of f) f.partitions s first.1) (λ later. ok (first.0 ++ rows whole later.0, later.1)))
        (many_cut s (field (first_bits f.multiplier)) (field_cut s (first_bits f.multiplier)) 2 k)
        (λ first. then_cut (each (partition_of lengths_of f) f.partitions s first.1) (λ later. ok (first.0 ++ rows whole later.0, later.1))
        (each_cut s (partition_of lengths_of f) part_cut f.partitions first.1) (λ later. tt))

    floor_cut : (k : ℕ) → Cut (floor_values lengths_of f s k)
    unfolding floor_values
    floor_cut k =
        then_cut (field 1 s k) (λ nonzero. cond (eqb nonzero.0 0) (ok (none, nonzero.1)) (mapped some (used_values lengths_of f s nonzero.1))) (field_cut s 1 k)
        (λ nonzero. cond_cut (eqb nonzero.0 0) (ok (none, nonzero.1)) (mapped some (used_values lengths_of f s nonzero.1)) tt
        (mapped_cut some (used_values lengths_of f s nonzero.1) (used_cut nonzero.1)))

    pub floor_refused : (k : ℕ) (z : Refusal) → floor_values lengths_of f s k ≡ bad z → z.number ≡ 1
    floor_refused k z e = subst (λ (o : Outcome (Option (List ℕ) × ℕ)). Cut o) e (floor_cut k)
