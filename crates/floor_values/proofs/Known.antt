-- What the values that are read for a floor are known to be (specs/Claims). Assumes nothing.
use Prim.Native.Nat.{ℕ, zero, suc, ◌-◌, ◌/◌, ◌%◌, ◌^◌, ◌≤◌, ◌<◌}
use native.Mathlib.Omega.{arith}
use borrow.Author.Tests.{leb-true, eqb-false}
use mathlib.Core.Bool.{Bool, true, false, cond}
use mathlib.Core.List.{List, [], ◌∷◌, ◌++◌, map}
use mathlib.Core.Option.{Option, none, some}
use mathlib.Core.Path.{◌≡◌, refl, ap, subst, ◌∙◌}
use lib.Dec.{eqb, leb}
use lib.ListN.{length, get_or, length-append, get_or-append}
use lib.Pow.{pow_mono}
use Rattle.reading.specs.Lists.{rows, all}
use Rattle.reading.specs.Encoding.{Each}
use Rattle.reading.specs.Outcome.{ok, then}
use Rattle.reading.specs.Reader.{many, each, mapped}
use Rattle.reading.proofs.Least.{and_split}
use Rattle.reading.proofs.Outcomes.{then_ok, ok_is}
use Rattle.reading.proofs.Accepted.{many_number, many_each}
use Rattle.reading.proofs.Readers.{Long, each_long, mapped_ok}
use Rattle.reading.proofs.Basics.{other_than_zero}
use Rattle.bits.specs.Field.{field}
use Rattle.bits.proofs.Fields.{field-ok}
use Rattle.codeword.specs.Codeword.{codeword}
use Rattle.floor.specs.Content.{Class, no_class, Floor, value_count, x_list}
use Rattle.floor.specs.Rules.{Class11}
use Rattle.floor.specs.Inner.Valid.{ValidFloor}
use Rattle.floor_partition.specs.Partition.{class_value, chosen, value, partition, whole}
use Rattle.floor_values.specs.Values.{first_bits, partition_of, used_values, floor_values}
use Rattle.book_codeword.specs.Inner.Stored.{lengths_in}
use Rattle.floor_values.specs.Inner.Stored.{floor_in, FloorStored}
use Rattle.floor_values.specs.Claims.{FloorValues}
use Rattle.floor_partition.proofs.ClassLaws.{entry_small}
use Rattle.floor_values.proofs.FirstLaws.{bits_known}
use Rattle.floor_values.proofs.Cuts.{floor_cuts}
use Rattle.floor_values.proofs.Refused.{floor_refused}

-- HOW MANY
chosen_long : (c : Class) (v n : ℕ) → length (chosen c v n) ≡ n
unfolding chosen
chosen_long c v zero = refl
chosen_long c v (suc n) = ap suc (chosen_long c (v / 2 ^ c.subclasses) n)

dimensions_get : (cs : List Class) (p : ℕ) → get_or (map (λ (c : Class). c.dimensions) cs) p 0 ≡ (get_or cs p no_class).dimensions
dimensions_get [] p = refl
dimensions_get (c ∷ cs) zero = refl
dimensions_get (c ∷ cs) (suc p) = dimensions_get cs p

module _ (lengths_of : ℕ → List ℕ) (s : List ℕ) where
  partition_long : (c : Class) (k : ℕ) {x : List ℕ × ℕ} → partition lengths_of c s k ≡ ok x → length x.0 ≡ c.dimensions
  unfolding partition
  partition_long c k {x} e =
      let v = then_ok (class_value lengths_of c s k) (λ v. each (value lengths_of) (chosen c v.0 c.dimensions) s v.1) e in
      subst (Long (length (chosen c v.0.0 c.dimensions))) v.2 (each_long (value lengths_of) (chosen c v.0.0 c.dimensions) s v.0.1) ∙ chosen_long c v.0.0 c.dimensions

  total_long : (f : Floor) (ps : List ℕ) (k : ℕ) {x : List (List ℕ) × ℕ} → each (partition_of lengths_of f) ps s k ≡ ok x
      → length (rows whole x.0) ≡ value_count (map (λ (c : Class). c.dimensions) f.classes) ps
  unfolding each rows whole value_count partition_of
  total_long f [] k {x} e = let g : ([], k) ≡ x = ok_is e in subst (λ (y : List (List ℕ) × ℕ). length (rows whole y.0) ≡ 0) g refl
  total_long f (p ∷ ps) k {x} e =
      let a = then_ok (partition lengths_of (get_or f.classes p no_class) s k) (λ x. then (each (partition_of lengths_of f) ps s x.1) (λ y. ok (x.0 ∷ y.0, y.1))) e in
      let b = then_ok (each (partition_of lengths_of f) ps s a.0.1) (λ y. ok (a.0.0 ∷ y.0, y.1)) a.2 in
      let g : (a.0.0 ∷ b.0.0, b.0.1) ≡ x = ok_is b.2 in
      let h = total_long f ps a.0.1 b.1 in
      let i = partition_long (get_or f.classes p no_class) k a.1 in
      let d = dimensions_get f.classes p in
      let j = length-append a.0.0 (rows whole b.0.0) in
      subst (λ (y : List (List ℕ) × ℕ). length (rows whole y.0) ≡ value_count (map (λ (c : Class). c.dimensions) f.classes) (p ∷ ps)) g (omega arith)

-- HOW LARGE
unfoldable Small : List ℕ → Type 0
Small ys = (i : ℕ) → get_or ys i 0 < 65536

small_get : (ys : List ℕ) → Small ys → (i : ℕ) → get_or ys i 0 < 65536
unfolding Small
small_get ys h = h

small_none : Small []
unfolding Small
small_none i = omega arith

small_cons : (y : ℕ) (ys : List ℕ) → y < 65536 → Small ys → Small (y ∷ ys)
unfolding Small
small_cons y ys h g zero = h
small_cons y ys h g (suc i) = g i

small_append : (xs ys : List ℕ) → Small xs → Small ys → Small (xs ++ ys)
unfolding Small
small_append [] ys h g i = g i
small_append (x ∷ xs) ys h g zero = h zero
small_append (x ∷ xs) ys h g (suc i) = small_append xs ys (λ j. h (suc j)) g i

all_low : (count : ℕ) (l : List ℕ) → all (λ b. leb b count) l ≡ true → (j : ℕ) → get_or l j 0 ≤ count
unfolding all
all_low count [] h j = omega arith
all_low count (x ∷ l) h zero = leb-true x count (and_split (leb x count) (all (λ b. leb b count) l) h).0
all_low count (x ∷ l) h (suc j) = all_low count l (and_split (leb x count) (all (λ b. leb b count) l) h).1 j

places_low : (count : ℕ) (cs : List Class) → Each (Class11 count) cs → (p j : ℕ) → get_or (get_or cs p no_class).books j 0 ≤ count
unfolding Each
places_low count [] v p j = omega arith
places_low count (c ∷ cs) v zero j = all_low count c.books v.0.subclasses j
places_low count (c ∷ cs) v (suc p) j = places_low count cs v.1 p j

module _ (lengths_of : ℕ → List ℕ) (count : ℕ) (entries : (b : ℕ) → b < count → (s : List ℕ) (k v n : ℕ) → codeword (lengths_of b) s k ≡ ok (v, n) → v < 65536) (s : List ℕ) where
  value_small : (p k : ℕ) → p ≤ count → {x : ℕ × ℕ} → value lengths_of p s k ≡ ok x → x.0 < 65536
  unfolding value
  value_small p k h {x} e = go (eqb p 0) refl e
    where
      go : (t : Bool) → eqb p 0 ≡ t → cond t (ok (0, k)) (codeword (lengths_of (p - 1)) s k) ≡ ok x → x.0 < 65536
      go true q e = let g : (0, k) ≡ x = ok_is e in subst (λ (y : ℕ × ℕ). y.0 < 65536) g (omega arith)
      go false q e = let low = other_than_zero p (eqb-false p 0 q) in entries (p - 1) (omega arith) s k x.0 x.1 e

  module _ (c : Class) (low : (j : ℕ) → get_or c.books j 0 ≤ count) where
    chosen_small : (v n k : ℕ) {x : List ℕ × ℕ} → each (value lengths_of) (chosen c v n) s k ≡ ok x → Small x.0
    unfolding each chosen
    chosen_small v zero k {x} e = let g : ([], k) ≡ x = ok_is e in subst (λ (y : List ℕ × ℕ). Small y.0) g small_none
    chosen_small v (suc n) k {x} e =
        let p = get_or c.books (v % 2 ^ c.subclasses) 0 in
        let l = chosen c (v / 2 ^ c.subclasses) n in
        let a = then_ok (value lengths_of p s k) (λ x. then (each (value lengths_of) l s x.1) (λ y. ok (x.0 ∷ y.0, y.1))) e in
        let b = then_ok (each (value lengths_of) l s a.0.1) (λ y. ok (a.0.0 ∷ y.0, y.1)) a.2 in
        let g : (a.0.0 ∷ b.0.0, b.0.1) ≡ x = ok_is b.2 in
        subst (λ (y : List ℕ × ℕ). Small y.0) g (small_cons a.0.0 b.0.0 (value_small p k (low (v % 2 ^ c.subclasses)) a.1) (chosen_small (v / 2 ^ c.subclasses) n a.0.1 b.1))

    partition_small : (k : ℕ) {x : List ℕ × ℕ} → partition lengths_of c s k ≡ ok x → Small x.0
    unfolding partition
    partition_small k e =
        let v = then_ok (class_value lengths_of c s k) (λ v. each (value lengths_of) (chosen c v.0 c.dimensions) s v.1) e in
        chosen_small v.0.0 c.dimensions v.0.1 v.2

  module _ (f : Floor) (valid : ValidFloor count f) where
    partitions_small : (ps : List ℕ) (k : ℕ) {x : List (List ℕ) × ℕ} → each (partition_of lengths_of f) ps s k ≡ ok x → Small (rows whole x.0)
    unfolding each rows whole partition_of
    partitions_small [] k {x} e = let g : ([], k) ≡ x = ok_is e in subst (λ (y : List (List ℕ) × ℕ). Small (rows whole y.0)) g small_none
    partitions_small (p ∷ ps) k {x} e =
        let a = then_ok (partition lengths_of (get_or f.classes p no_class) s k) (λ x. then (each (partition_of lengths_of f) ps s x.1) (λ y. ok (x.0 ∷ y.0, y.1))) e in
        let b = then_ok (each (partition_of lengths_of f) ps s a.0.1) (λ y. ok (a.0.0 ∷ y.0, y.1)) a.2 in
        let g : (a.0.0 ∷ b.0.0, b.0.1) ≡ x = ok_is b.2 in
        let i = partition_small (get_or f.classes p no_class) (λ j. places_low count f.classes valid.classes p j) k a.1 in
        subst (λ (y : List (List ℕ) × ℕ). Small (rows whole y.0)) g (small_append a.0.0 (rows whole b.0.0) i (partitions_small ps a.0.1 b.1))

    -- the first two
    first_below : (k : ℕ) (x : ℕ × ℕ) → field (first_bits f.multiplier) s k ≡ ok x → x.0 < 256
    first_below k x e =
        let few = (bits_known f.multiplier valid.carried.multiplier.low valid.carried.multiplier.high).few in
        let h = (field-ok s k (first_bits f.multiplier) e).below in
        let g : 2 ^ first_bits f.multiplier ≤ 2 ^ 8 = pow_mono few in
        omega arith

    -- all of them
    record Known (ys : List ℕ) : Type 0 where
      pub counted : length ys ≡ length (x_list f.rangebits f.xs)
      pub first : (get_or ys 0 0 < 256) × (get_or ys 1 0 < 256)
      pub small : Small ys

    each_get : (l : List ℕ) → Each (λ v. v < 256) l → (i : ℕ) → get_or l i 0 < 256
    unfolding Each
    each_get [] h i = omega arith
    each_get (x ∷ l) h zero = h.0
    each_get (x ∷ l) h (suc i) = each_get l h.1 i

    byte_small : (l : List ℕ) → ((i : ℕ) → get_or l i 0 < 256) → Small l
    unfolding Small
    byte_small l h i = let g = h i in omega arith

    used_known : (k : ℕ) (ys : List ℕ) (n : ℕ) → used_values lengths_of f s k ≡ ok (ys, n) → Known ys
    unfolding used_values
    used_known k ys n e =
        let w = first_bits f.multiplier in
        let a = then_ok (many (field w) 2 s k) (λ first. then (each (partition_of lengths_of f) f.partitions s first.1) (λ later. ok (first.0 ++ rows whole later.0, later.1))) e in
        let b = then_ok (each (partition_of lengths_of f) f.partitions s a.0.1) (λ later. ok (a.0.0 ++ rows whole later.0, later.1)) a.2 in
        let g : ◌≡◌ {A = List ℕ × ℕ} (a.0.0 ++ rows whole b.0.0, b.0.1) (ys, n) = ok_is b.2 in
        let same : a.0.0 ++ rows whole b.0.0 ≡ ys = ap (λ (y : List ℕ × ℕ). y.0) g in
        let two = many_number (field w) s 2 k a.1 in
        let low = each_get a.0.0 (many_each (field w) s (λ v. v < 256) first_below 2 k a.1) in
        let later = total_long lengths_of s f f.partitions a.0.1 b.1 in
        let long = length-append a.0.0 (rows whole b.0.0) in
        let xs = valid.carried.value_count_is in
        subst Known same
        (record {
          counted = omega arith;
          first = (rw (get_or-append a.0.0 (rows whole b.0.0) 0 0 (omega arith)) (low 0), rw (get_or-append a.0.0 (rows whole b.0.0) 0 1 (omega arith)) (low 1));
          small = small_append a.0.0 (rows whole b.0.0) (byte_small a.0.0 low) (partitions_small f.partitions a.0.1 b.1);
        })

    floor_known : (k : ℕ) (ys : List ℕ) (n : ℕ) → floor_values lengths_of f s k ≡ ok (some ys, n) → Known ys
    unfolding floor_values
    floor_known k ys n e =
        let a = then_ok (field 1 s k) (λ nonzero. cond (eqb nonzero.0 0) (ok (none, nonzero.1)) (mapped some (used_values lengths_of f s nonzero.1))) e in
        go a.0 (eqb a.0.0 0) a.2
      where
        go : (x : ℕ × ℕ) (t : Bool) → cond t (ok (none, x.1)) (mapped some (used_values lengths_of f s x.1)) ≡ ok (some ys, n) → Known ys
        go x true q =
            let p : ◌≡◌ {A = Option (List ℕ) × ℕ} (none, x.1) (some ys, n) = ok_is q in
            let o : ◌≡◌ {A = Option (List ℕ)} none (some ys) = ap (λ (y : Option (List ℕ) × ℕ). y.0) p in
            let z : ◌≡◌ {A = ℕ} 0 1 = cc in
            absurd (omega arith)
        go x false q =
            let m = mapped_ok some (used_values lengths_of f s x.1) q in
            let i : m.0 ≡ ys = cc in
            subst Known i (used_known x.1 m.0 n m.1)

-- AS THE CONTRACT SAYS IT
pub values_known : {floors books lengths codewords : List ℕ} {n : ℕ} → FloorStored floors books lengths codewords n → FloorValues (lengths_in books lengths) (floor_in floors n)
values_known {floors} {books} {lengths} {codewords} {n} l =
    let entries : (b : ℕ) → b < l.count → (s : List ℕ) (k v m : ℕ) → codeword (lengths_in books lengths b) s k ≡ ok (v, m) → v < 65536 =
    λ b h s k v m e. entry_small (l.readable b h) s k v m (unfold lengths_in in e) in
    record {
      counted = λ s k ys m e. (floor_known (lengths_in books lengths) l.count entries s (floor_in floors n) l.valid k ys m e).counted;
      first = λ s k ys m e. (floor_known (lengths_in books lengths) l.count entries s (floor_in floors n) l.valid k ys m e).first;
      small = λ s k ys m e. small_get ys (floor_known (lengths_in books lengths) l.count entries s (floor_in floors n) l.valid k ys m e).small;
      refused = λ s k z e. floor_refused (lengths_in books lengths) s (floor_in floors n) k z e;
      cut = λ s b k. floor_cuts s b (lengths_in books lengths) (floor_in floors n) k;
    }
