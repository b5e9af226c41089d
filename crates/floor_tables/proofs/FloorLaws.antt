-- The tests of a floor's row and of a table of floors, as the code asks them: one law for each way out of a function. Assumes nothing.
use Prim.Native.Nat.{ℕ, ◌+◌, ◌-◌, ◌*◌, ◌^◌, ◌%◌, ◌≤◌, ◌<◌}
use native.Mathlib.Omega.{arith}
use borrow.Author.Tests.{eq-eqb, eqb-true, le-leb, leb-true, not-true, not-false}
use mathlib.Core.Bool.{Bool, true, false, not}
use mathlib.Core.List.{List, ◌∷◌, ◌++◌, map}
use mathlib.Core.Logic.{◌↔◌}
use mathlib.Core.Path.{◌≡◌, refl, sym, ap, ◌∙◌}
use lib.Dec.{eqb, ltb}
use lib.ListN.{length, get_or, take, drop}
use lib.Seq.{slice, length-take-le}
use Rattle.reading.specs.Lists.{all, distinct, rows}
use Rattle.reading.specs.Pad.{pad}
use Rattle.reading.specs.Counted.{Counted}
use Rattle.reading.specs.Encoding.{Zeros, Each, Encodes}
use Rattle.reading.proofs.Least.{true_not_false}
use Rattle.reading.proofs.EachLaws.{each_map}
use Rattle.reading.proofs.Pads.{length-pad}
use Rattle.reading.proofs.Parts.{part_slice}
use Rattle.reading.proofs.Encodes.{iff_false, refuted, shown, rows_length, encodes_pad, encodes_long}
use Rattle.numbers.proofs.ListLaws.{take-pad}
use Rattle.numbers.proofs.NumberLaws.{one_shifted}
use Rattle.floor.specs.Content.{Class, x_list, class_count, value_count}
use Rattle.floor.specs.Layout.{class_row, floor_row, floor_width}
use Rattle.floor.specs.Inner.Valid.{ValidClass, ValidFloor}
use Rattle.floor.proofs.ClassDecoded.{class_long}
use Rattle.floor.specs.Carried.{CarriedFloor}
use Rattle.floor.specs.Inner.Counts.{classes_to, values_to}
use Rattle.floor.proofs.CountLaws.{class_count_most, classes_counted, values_counted}
use Rattle.floor.proofs.Decoded.{floor_long, FloorStored, floor_stored}
use Rattle.floor.proofs.ValidLaws.{values_few, classes_meet}
use Rattle.floor_row.proofs.Laws.{x_list_is}
use Rattle.floor_tables.specs.Inner.Parts.{ValidFloorRow, partition_places, class_places, ValidPartitions, ValidClasses, values_at, ValidCount, floor_of_ends, ValidHead, DecidesRow}
use Rattle.floor_tables.specs.Inner.Recognised.{FloorsRecognised}
use Rattle.floor_tables.proofs.Places.{part, below_part, slice_front, slice_long, slice-next, slice_both, slice_stored, stored_whole, zeros_tested, padded_tested}

-- ---- partitions

module _ (t : List ℕ) (at : ℕ) (room : at + floor_width ≤ length t) {n : ℕ} (q : n ≡ get_or t at 0) (y : n ≤ 31) {b₁ : Bool} (p₁ : b₁ ≡ all (λ v. ltb v 16) (part (at + 5) (at + 5 + n) t)) where
  named : b₁ ≡ all (λ c. ltb c 16) (take (get_or t at 0) (partition_places t at))
  named = below_part 16 (at + 5) (at + 5 + n) t p₁ ∙ ap (all (λ c. ltb c 16)) (sym (slice_front t (at + 5) n (at + 36) (omega arith)) ∙ ap (λ (k : ℕ). take k (partition_places t at)) q)

  pub partitions_not : not b₁ ≡ true → (false ≡ true) ↔ ValidPartitions t at
  partitions_not z = iff_false (λ r. true_not_false b₁ (named ∙ r.named) (not-true b₁ z))

  pub partitions_end : not b₁ ≡ false → {b₂ : Bool} → b₂ ≡ all (λ v. ltb v 1) (part (at + 5 + n) (at + 36) t) → (b₂ ≡ true) ↔ ValidPartitions t at
  partitions_end y₁ p₂ =
      let z = padded_tested t (at + 5) n (at + 36) p₂ 31 (omega arith) (omega arith) in
      let long = slice_long t (at + 5) 31 (at + 36) (omega arith) (omega arith) in (
        (λ e. record { few = rw q at y; long = length-take-le (get_or t at 0) (partition_places t at) (omega arith); holds = rw q at (z.0 e); named = sym named ∙ not-false b₁ y₁ }),
        (λ r. z.1 (rw q r.holds)),
      )

-- ---- classes

module _ (books : ℕ) (t : List ℕ) (at : ℕ) (room : at + floor_width ≤ length t) {n : ℕ} (q : n ≡ get_or t (at + 1) 0) where
  pub named_many : 16 < n → (false ≡ true) ↔ ValidClasses books t at
  named_many h =
      iff_false (λ r.
      let k = encodes_long class_row (ValidClass books) 11 class_long (get_or t (at + 1) 0) (class_places t at) r.classes in
      let l = slice_long t (at + 36) 176 (at + 212) (omega arith) (omega arith) in
      omega arith)

  module _ {m : ℕ} (q₁ : m ≡ get_or t at 0) {k : ℕ} (q₂ : k ≡ classes_to (take (at + 36 - (at + 5)) (drop (at + 5) t)) m) where
    counted : k ≡ classes_to (partition_places t at) (get_or t at 0)
    counted = q₂ ∙ (λ j. classes_to (part_slice (at + 5) (at + 36) t j) (q₁ j))

    pub named_other : (n ≡ k → ⊥) → (false ≡ true) ↔ ValidClasses books t at
    named_other h = iff_false (λ r. h (q ∙ r.count ∙ sym counted))

    module _ (y₁ : n ≡ k) {b₁ : Bool}
        (p₁ : Encodes class_row (ValidClass books) n (slice (at + 36) (at + 36 + 176) t) ↔ ((b₁ ≡ true) × Zeros (drop (11 * n) (slice (at + 36) (at + 36 + 176) t)))) where
      classes_said : Encodes class_row (ValidClass books) (get_or t (at + 1) 0) (class_places t at) ↔ ((b₁ ≡ true) × Zeros (drop (11 * n) (class_places t at)))
      classes_said = let e : at + 36 + 176 ≡ at + 212 = omega arith in rw (← q) (rw e at p₁)

      pub named_not : not b₁ ≡ true → (false ≡ true) ↔ ValidClasses books t at
      named_not z = iff_false (λ r. true_not_false b₁ (classes_said.0 r.classes).0 (not-true b₁ z))

      pub named_end : not b₁ ≡ false → {b₂ : Bool} → b₂ ≡ all (λ v. ltb v 1) (part (at + 36 + 11 * n) (at + 212) t) → (b₂ ≡ true) ↔ ValidClasses books t at
      named_end z p₂ =
          let s = zeros_tested t (at + 36) (11 * n) (at + 212) p₂ in
          ((λ e. record { count = sym q ∙ y₁ ∙ counted; classes = classes_said.1 (not-false b₁ z, s.0 e) }), (λ r. s.1 (classes_said.0 r.classes).1))

-- ---- count of X values, multiplier, range bits

pub count_most : {t : List ℕ} {at : ℕ} → ValidCount t at → get_or t (at + 4) 0 ≤ 65
count_most {t} {at} r = let e = r.values in let k = leb-true (values_at t at) 63 r.few in omega arith

pub count_end : (t : List ℕ) (at : ℕ) {v : ℕ} → v ≡ get_or t (at + 4) 0 → v ≤ 65 → 2 ≤ v → {n : ℕ} → n ≡ get_or t at 0
    → {k : ℕ} → k ≡ values_to (take (at + 212 - (at + 36)) (drop (at + 36) t)) (take (at + 36 - (at + 5)) (drop (at + 5) t)) n → (eqb (v - 2) k ≡ true) ↔ ValidCount t at
count_end t at {v} q₄ y₃ y₄ q₀ {k} q =
    let w : k ≡ values_at t at = q ∙ (λ j. values_to (part_slice (at + 36) (at + 212) t j) (part_slice (at + 5) (at + 36) t j) (q₀ j)) in (
      (λ e. let d = eqb-true (v - 2) k e in record { values = omega arith; few = le-leb (values_at t at) 63 (omega arith) }),
      (λ r. let s = r.values in eq-eqb (v - 2) k (omega arith)),
    )

-- the end of the X list lies in the table
pub list_inside : {t : List ℕ} {at v : ℕ} → at + floor_width ≤ length t → ValidHead t at → v ≡ get_or t (at + 4) 0 → at + 212 + v ≤ length t
list_inside room r q₄ = let k = count_most r.count in omega arith

pub ends_carried : {m b : ℕ} → Counted 4 m → b ≤ 15 → CarriedFloor (floor_of_ends m b)
unfolding all class_count value_count Each
ends_carried count bits =
    record { partitions = omega arith; classes_named = refl; class_count_is = refl; classes = tt; multiplier = count; rangebits = bits; value_count_is = refl; in_range = refl }

-- ---- a floor

module _ (books : ℕ) (t : List ℕ) (at : ℕ) (room : at + floor_width ≤ length t) where
  stored : (r : ValidFloorRow books t at) → FloorStored t at r.item
  stored r = let l = floor_long r.item in floor_stored r.item (slice_stored t at (at + floor_width) r.written (omega arith) room)

  -- the parts of its row
  module _ (r : ValidFloorRow books t at) where
    partition_run_lem : partition_places t at ≡ pad 31 r.item.partitions
    partition_run_lem = let l = length-pad 31 r.item.partitions in stored_whole t (at + 5) (at + 36) (stored r).partitions (omega arith)

    class_run : class_places t at ≡ pad 176 (rows class_row r.item.classes)
    class_run = let l = length-pad 176 (rows class_row r.item.classes) in stored_whole t (at + 36) (at + 212) (stored r).classes (omega arith)

    row_partitions : ValidPartitions t at
    row_partitions =
        let ps = r.item.partitions in
        let v = r.valid.carried in
        let e = (stored r).count in
        let T : take (get_or t at 0) (partition_places t at) ≡ ps = ap (take (get_or t at 0)) partition_run_lem ∙ take-pad 31 ps (sym e) (rw e v.partitions) in
        record { few = rw e v.partitions; long = ap length T ∙ sym e; holds = partition_run_lem ∙ ap (pad 31) (sym T); named = ap (all (λ c. ltb c 16)) T ∙ v.classes_named }

    row_classes : ValidClasses books t at
    row_classes =
        let cs = r.item.classes in
        let v = r.valid.carried in
        let most = class_count_most r.item.partitions v.classes_named in
        let count = v.class_count_is in
        let long = rows_length class_row (ValidClass books) 11 class_long cs in
        record {
          count = (stored r).named ∙ count ∙ sym (classes_counted 31 r.item.partitions v.partitions) ∙ (λ j. classes_to (sym partition_run_lem j) (sym (stored r).count j));
          classes = rw (stored r).named (encodes_pad class_row (ValidClass books) (length cs) 176 cs (class_places t at) class_run refl (classes_meet r.valid) (omega arith));
        }

    row_head : ValidHead t at
    row_head =
        let v = r.valid.carried in
        let k = stored r in
        let e : values_at t at ≡ length r.item.xs =
        (λ j. values_to (class_run j) (partition_run_lem j) (k.count j)) ∙ values_counted r.item.classes 31 r.item.partitions v.partitions v.classes_named ∙ sym v.value_count_is in
        record {
          carried = rw (k.multiplier, k.rangebits) (ends_carried v.multiplier v.rangebits);
          count = record { values = k.values ∙ ap (λ (x : ℕ). 2 + x) (sym e); few = rw e r.valid.rules.count };
        }

  -- from one test to the next
  module _ {b₁ : Bool} (p₁ : (b₁ ≡ true) ↔ ValidPartitions t at) where
    pub floor_partitions : not b₁ ≡ true → (false ≡ true) ↔ ValidFloorRow books t at
    floor_partitions n = iff_false (λ r. refuted p₁ n (row_partitions r))

    module _ (y₁ : not b₁ ≡ false) where
      pub floor_few : get_or t at 0 ≤ 31
      floor_few = (shown p₁ y₁).few

      module _ {b₂ : Bool} (p₂ : (b₂ ≡ true) ↔ ValidClasses books t at) where
        pub floor_classes : not b₂ ≡ true → (false ≡ true) ↔ ValidFloorRow books t at
        floor_classes n = iff_false (λ r. refuted p₂ n (row_classes r))

        module _ (y₂ : not b₂ ≡ false) {b₃ : Bool} (p₃ : (b₃ ≡ true) ↔ ValidHead t at) where
          pub floor_head : not b₃ ≡ true → (false ≡ true) ↔ ValidFloorRow books t at
          floor_head n = iff_false (λ r. refuted p₃ n (row_head r))

          pub floor_end : {b₄ : Bool} → DecidesRow b₄ t at → (b₄ ≡ true) ↔ ValidFloorRow books t at
          floor_end p₄ = p₄ books (shown p₁ y₁) (shown p₂ y₂)

-- ---- the X list

-- the row from its parts
module _ (books : ℕ) (t : List ℕ) (at : ℕ) (room : at + floor_width ≤ length t) (head : ValidHead t at) (P : ValidPartitions t at) (C : ValidClasses books t at)
    (xs : List ℕ) (long : length xs ≡ values_at t at) where
  heads : slice at (at + floor_width) t ≡ get_or t at 0 ∷ get_or t (at + 1) 0 ∷ get_or t (at + 2) 0 ∷ get_or t (at + 3) 0 ∷ get_or t (at + 4) 0 ∷ (partition_places t at ++ (class_places t at ++ slice (at + 212) (at + floor_width) t))
  heads =
      let next : (i j : ℕ) → j ≡ i + 1 → i < floor_width → slice (at + i) (at + floor_width) t ≡ get_or t (at + i) 0 ∷ slice (at + j) (at + floor_width) t = λ i j e h. slice-next t (at + i) (at + j) (at + floor_width) (omega arith) (omega arith) room in
      slice-next t at (at + 1) (at + floor_width) refl (omega arith) room
      ∙ ap (λ (l : List ℕ). get_or t at 0 ∷ l) (next 1 2 refl (omega arith)
      ∙ ap (λ (l : List ℕ). get_or t (at + 1) 0 ∷ l) (next 2 3 refl (omega arith)
      ∙ ap (λ (l : List ℕ). get_or t (at + 2) 0 ∷ l) (next 3 4 refl (omega arith)
      ∙ ap (λ (l : List ℕ). get_or t (at + 3) 0 ∷ l) (next 4 5 refl (omega arith)
      ∙ ap (λ (l : List ℕ). get_or t (at + 4) 0 ∷ l) (slice_both t (at + 5) (at + 36) (at + floor_width) (omega arith) (omega arith)
      ∙ ap (λ (l : List ℕ). partition_places t at ++ l) (slice_both t (at + 36) (at + 212) (at + floor_width) (omega arith) (omega arith)))))))

  class_cells : class_places t at ≡ pad 176 (rows class_row C.classes.items)
  class_cells = C.classes.written ∙ ap (λ (k : ℕ). pad k (rows class_row C.classes.items)) (slice_long t (at + 36) 176 (at + 212) (omega arith) (omega arith))

  row_made : all (λ x. ltb x (2 ^ get_or t (at + 3) 0)) xs ≡ true → distinct (x_list (get_or t (at + 3) 0) xs) ≡ true → slice (at + 212) (at + floor_width) t ≡ pad 65 (x_list (get_or t (at + 3) 0) xs) → ValidFloorRow books t at
  unfolding floor_row
  row_made range different list =
      let n = get_or t at 0 in
      let ps = take n (partition_places t at) in
      let cs = C.classes.items in
      let few : length ps ≤ 31 = rw P.long P.few in
      let values : values_at t at ≡ value_count (map (λ (c : Class). c.dimensions) cs) ps =
      (λ j. values_to (class_cells j) (P.holds j) (sym P.long j)) ∙ values_counted cs 31 ps few P.named in
      let v = head.count.values in
      let total : get_or t (at + 4) 0 ≡ 2 + length xs = omega arith in
      record {
        item = record { partitions = ps; classes = cs; multiplier = get_or t (at + 2) 0; rangebits = get_or t (at + 3) 0; xs = xs };
        valid = record {
          carried = record {
            partitions = few;
            classes_named = P.named;
            class_count_is = C.classes.number ∙ C.count ∙ (λ j. classes_to (P.holds j) (sym P.long j)) ∙ classes_counted 31 ps few;
            classes = each_map (λ c v. v.carried) cs C.classes.valid;
            multiplier = head.carried.multiplier;
            rangebits = head.carried.rangebits;
            value_count_is = long ∙ values;
            in_range = range;
          };
          classes = each_map (λ c v. v.rules) cs C.classes.valid;
          rules = record { count = rw long head.count.few; different = different };
        };
        written = heads
            ∙ (λ j. sym P.long j ∷ sym C.classes.number j ∷ get_or t (at + 2) 0 ∷ get_or t (at + 3) 0 ∷ total j ∷ (P.holds j ++ (class_cells j ++ list j)));
      }

module _ (t : List ℕ) (at : ℕ) (room : at + floor_width ≤ length t) (head : ValidHead t at) {b : ℕ} (q₃ : b ≡ get_or t (at + 3) 0) {n : ℕ} (power : n ≡ (1 * 2 ^ b) % 18446744073709551616)
    {v : ℕ} (q₄ : v ≡ get_or t (at + 4) 0) {f : ℕ} (q₅ : f ≡ get_or t (at + 212) 0) where
  range : n ≡ 2 ^ get_or t (at + 3) 0
  range = let few = head.carried.rangebits in power ∙ one_shifted 64 b (omega arith) ∙ ap (λ (e : ℕ). 2 ^ e) q₃

  some : 2 ≤ v
  some = let e = head.count.values in omega arith

  most : v ≤ 65
  most = rw q₄ (count_most head.count)

  -- the list, and that of a floor whose row lies there
  listed : slice (at + 212) (at + 212 + v) t ≡ f ∷ get_or t (at + 213) 0 ∷ slice (at + 214) (at + 212 + v) t
  listed =
      let l = most in
      let s = some in
      slice-next t (at + 212) (at + 213) (at + 212 + v) (omega arith) (omega arith) (omega arith)
      ∙ (λ j. sym q₅ j ∷ slice-next t (at + 213) (at + 214) (at + 212 + v) (omega arith) (omega arith) (omega arith) j)

  module _ {books : ℕ} (r : ValidFloorRow books t at) where
    of_row : slice (at + 212) (at + 212 + v) t ≡ x_list r.item.rangebits r.item.xs
    of_row = let k = stored books t at room r in let s = values_few r.valid in rw (q₄ ∙ k.values) (x_list_is k (omega arith))

    same : f ∷ get_or t (at + 213) 0 ∷ slice (at + 214) (at + 212 + v) t ≡ x_list r.item.rangebits r.item.xs
    same = sym listed ∙ of_row

    range_of_lem : n ≡ 2 ^ r.item.rangebits
    range_of_lem = range ∙ ap (λ (e : ℕ). 2 ^ e) (stored books t at room r).rangebits

  pub list_first : (f ≡ 0 → ⊥) → DecidesRow false t at
  list_first h books P C = iff_false (λ r. h (ap (λ (l : List ℕ). get_or l 0 0) (same r)))

  module _ (y₀ : f ≡ 0) {g : ℕ} (q₆ : g ≡ get_or t (at + 213) 0) where
    pub list_second : (g ≡ n → ⊥) → DecidesRow false t at
    list_second h books P C = iff_false (λ r. h (q₆ ∙ ap (λ (l : List ℕ). get_or l 1 0) (same r) ∙ sym (range_of_lem r)))

    module _ (y₁ : g ≡ n) {b₁ : Bool} (p₁ : b₁ ≡ all (λ w. ltb w n) (part (at + 214) (at + 212 + v) t)) where
      tested : b₁ ≡ all (λ w. ltb w n) (slice (at + 214) (at + 212 + v) t)
      tested = below_part n (at + 214) (at + 212 + v) t p₁

      pub list_range : not b₁ ≡ true → DecidesRow false t at
      list_range z books P C =
          iff_false (λ r. true_not_false b₁ (tested ∙ (λ j. all (λ w. ltb w (range_of_lem r j)) (ap (drop 2) (same r) j)) ∙ r.valid.carried.in_range) (not-true b₁ z))

      module _ (y₂ : not b₁ ≡ false) {b₂ : Bool} (p₂ : b₂ ≡ all (λ w. ltb w 1) (part (at + 212 + v) (at + floor_width) t)) where
        front : take v (slice (at + 212) (at + floor_width) t) ≡ slice (at + 212) (at + 212 + v) t
        front = let l = most in slice_front t (at + 212) v (at + floor_width) (omega arith)

        padded : (b₂ ≡ true) ↔ (slice (at + 212) (at + floor_width) t ≡ pad 65 (slice (at + 212) (at + 212 + v) t))
        padded = rw front at (padded_tested t (at + 212) v (at + floor_width) p₂ 65 (omega arith) room)

        pub list_trailing : not b₂ ≡ true → DecidesRow false t at
        list_trailing z books P C =
            iff_false (λ r.
            let X = x_list r.item.rangebits r.item.xs in
            let l = length-pad 65 X in
            refuted padded z (stored_whole t (at + 212) (at + floor_width) (stored books t at room r).list (omega arith) ∙ ap (pad 65) (sym (of_row r))))

        pub list_end : not b₂ ≡ false → {d : Bool} → d ≡ distinct (part (at + 212) (at + 212 + v) t) → DecidesRow d t at
        list_end z {d} x books P C =
            let w : d ≡ distinct (slice (at + 212) (at + 212 + v) t) = x ∙ ap distinct (part_slice (at + 212) (at + 212 + v) t) in
            let xs = slice (at + 214) (at + 212 + v) t in
            let s = some in
            let l = most in
            let e : 0 ≡ f = sym y₀ in
            let X : slice (at + 212) (at + 212 + v) t ≡ x_list (get_or t (at + 3) 0) xs = listed ∙ (λ j. sym e j ∷ (sym q₆ ∙ y₁ ∙ range) j ∷ xs) in
            let long = slice_long t (at + 214) (v - 2) (at + 212 + v) (omega arith) (omega arith) in
            let c = head.count.values in (
              (λ y. row_made books t at room head P C xs (omega arith) ((λ j. all (λ w. ltb w (sym range j)) xs) ∙ sym tested ∙ not-false b₁ y₂) (ap distinct (sym X) ∙ sym w ∙ y) (shown padded z ∙ ap (pad 65) X)),
              (λ r. w ∙ ap distinct (of_row r) ∙ r.valid.rules.different),
            )

-- ---- a table of floors

module _ (books count : ℕ) (t : List ℕ) (few : count ≤ 64) (room : 17728 ≤ length t) {books' : ℕ} (same : books' ≡ books) {b : Bool}
    (p : Encodes floor_row (ValidFloor books') count t ↔ ((b ≡ true) × Zeros (drop (floor_width * count) t))) where
  rows_said : FloorsRecognised books count t → (b ≡ true) × Zeros (drop (floor_width * count) t)
  rows_said s =
      let n = s.counted in
      let l = rows_length floor_row (ValidFloor books) floor_width floor_long s.content in
      p.0 (rw same (encodes_pad floor_row (ValidFloor books) count (length t) s.content t s.written s.counted s.valid (omega arith)))

  pub table_rows : not b ≡ true → (false ≡ true) ↔ FloorsRecognised books count t
  table_rows n = iff_false (λ s. true_not_false b (rows_said s).0 (not-true b n))

  pub table_end : not b ≡ false → {b₂ : Bool} → (b₂ ≡ true) ↔ Zeros (drop (floor_width * count) t) → (b₂ ≡ true) ↔ FloorsRecognised books count t
  table_end n p₂ = (
    (λ e.
        let s : Encodes floor_row (ValidFloor books) count t = rw same at (p.1 (not-false b n, p₂.0 e)) in
        record { room = room; content = s.items; counted = s.number; valid = s.valid; written = s.written }),
    (λ s. p₂.1 (rows_said s).1),
  )
