-- Laws of the loop over the partitions of a floor, as the code asks them. Assumes nothing.
use Rattle.std.specs.Prelude.{Result, Ok, Err}
use Prim.Native.Nat.{ℕ, zero, suc, ◌+◌, ◌*◌, ◌≤◌, ◌<◌}
use native.Mathlib.Omega.{arith}
use mathlib.Core.List.{List, [], ◌∷◌}
use mathlib.Core.Path.{◌≡◌, refl, sym, ap, ◌∙◌}
use lib.ListN.{length, get_or, take, drop, length-take, length-drop}
use lib.Seq.{sets, get_or-take, get_or-drop}
use Rattle.reading.specs.Lists.{rows}
use Rattle.reading.specs.Outcome.{Outcome}
use Rattle.reading.specs.Reader.{each, mapped, puts, into, into1}
use Rattle.reading.specs.Inner.Table.{Table, table, put_row}
use Rattle.reading.proofs.Tables.{puts-rows}
use Rattle.reading.proofs.EachLaws.{each_at}
use Rattle.bits.specs.declared.Cursor.{Cursor}
use Rattle.bits.specs.declared.refusal.Refusal.{Refusal}
use Rattle.bits.specs.Inner.Cursors.{position, Wrote}
use Rattle.bits.proofs.Steps.{EachRest, each_loop_start, each_loop_next, each_loop_refused, each_loop_done}
use Rattle.bits.proofs.Written.{wrote_through}
use Rattle.floor.specs.Content.{class_count, no_class}
use Rattle.floor.specs.Inner.Decode.{class_at, classes_at, floor_at}
use Rattle.floor.specs.Inner.Valid.{ValidClass}
use Rattle.floor.proofs.CountLaws.{class_count_most}
use Rattle.floor.proofs.ValidLaws.{classes_meet}
use Rattle.floor_partition.specs.Partition.{partition, whole}
use Rattle.floor_values.specs.Values.{partition_of}
use Rattle.book_codeword.specs.Inner.Stored.{lengths_in}
use Rattle.floor_partition.specs.Inner.Stored.{class_in, ClassStored}
use Rattle.floor_values.specs.Inner.Stored.{floor_in, FloorStored}
use Rattle.floor.specs.Layout.{floor_width}

-- the classes of a floor, as they lie in the table
pub classes_long : (t : List ℕ) (at n : ℕ) → length (classes_at t at n) ≡ n
unfolding classes_at
classes_long t at zero = refl
classes_long t at (suc n) = ap suc (classes_long t (at + 11) n)

pub classes_get : (t : List ℕ) (at n c : ℕ) → c < n → get_or (classes_at t at n) c no_class ≡ class_at t (at + 11 * c)
unfolding classes_at
classes_get t at zero c h = absurd (omega arith)
classes_get t at (suc n) zero h = ap (class_at t) (omega arith)
classes_get t at (suc n) (suc c) h = classes_get t (at + 11) n c (omega arith) ∙ ap (class_at t) (omega arith)

pub class_below : (ps : List ℕ) (i : ℕ) → i < length ps → get_or ps i 0 < class_count ps
unfolding class_count
class_below [] i h = absurd (omega arith)
class_below (p ∷ ps) zero h = omega arith
class_below (p ∷ ps) (suc i) h = let l = class_below ps i (omega arith) in omega arith

module _ {floors books lengths codewords : List ℕ} {n : ℕ} (l : FloorStored floors books lengths codewords n) where
  -- as many partitions as the row says
  pub partitions_long : get_or floors (floor_width * n) 0 ≡ length (floor_in floors n).partitions
  partitions_long =
      let few : length (floor_in floors n).partitions ≤ 31 = l.valid.carried.partitions in
      let room = l.room in
      let e : length (floor_in floors n).partitions ≡ length (drop (floor_width * n + 5) (take (floor_width * n + 5 + get_or floors (floor_width * n) 0) floors)) = unfold floor_in floor_at in refl in
      let d = length-drop (floor_width * n + 5) (take (floor_width * n + 5 + get_or floors (floor_width * n) 0) floors) in
      let t = length-take (floor_width * n + 5 + get_or floors (floor_width * n) 0) floors in
      omega arith

  pub partition_get : (i : ℕ) → i < length (floor_in floors n).partitions → get_or (floor_in floors n).partitions i 0 ≡ get_or floors (floor_width * n + 5 + i) 0
  unfolding floor_in floor_at
  partition_get i h =
      let e = partitions_long in
      get_or-drop (floor_width * n + 5) (take (floor_width * n + 5 + get_or floors (floor_width * n) 0) floors) i 0 ∙ get_or-take (floor_width * n + 5 + get_or floors (floor_width * n) 0) floors (floor_width * n + 5 + i) 0 (omega arith)

  -- the class of partition i
  module _ {i class : ℕ} (h : i < length (floor_in floors n).partitions) (e : class ≡ get_or floors (floor_width * n + 5 + i) 0) where
    class_of : get_or (floor_in floors n).partitions i 0 ≡ class
    class_of = partition_get i h ∙ sym e

    class_low : class < length (floor_in floors n).classes
    class_low = let b = class_below (floor_in floors n).partitions i h in let c = l.valid.carried.class_count_is in let k = class_of in omega arith

    class_few : class < get_or floors (floor_width * n + 1) 0
    class_few =
        let low = class_low in
        let m = classes_long floors (floor_width * n + 36) (get_or floors (floor_width * n + 1) 0) in
        let f : length (floor_in floors n).classes ≡ length (classes_at floors (floor_width * n + 36) (get_or floors (floor_width * n + 1) 0)) = unfold floor_in floor_at in refl in
        omega arith

    class_get : get_or (floor_in floors n).classes class no_class ≡ class_in floors n class
    unfolding floor_in floor_at class_in
    class_get = classes_get floors (floor_width * n + 36) (get_or floors (floor_width * n + 1) 0) class class_few

    pub class_stored : ClassStored floors books lengths codewords n class
    class_stored =
        let low = class_low in
        let most = class_count_most (floor_in floors n).partitions l.valid.carried.classes_named in
        let c = l.valid.carried.class_count_is in
        record {
          floor_few = l.few;
          class_few = omega arith;
          count = l.count;
          valid = rw (← class_get) (each_at (ValidClass l.count) no_class (floor_in floors n).classes (classes_meet l.valid) class low);
          readable = l.readable;
        }

    pub partition_is : (lengths_of : ℕ → List ℕ) → partition_of lengths_of (floor_in floors n) (get_or (floor_in floors n).partitions i 0) ≡ partition lengths_of (class_in floors n class)
    unfolding partition_of
    partition_is lengths_of = rw (class_of, class_get)

-- i of the partitions are read, and their values lie before place `at`
pub record Progress (s floors books lengths codewords : List ℕ) (n : ℕ) (entry : List ℕ) (from : Cursor) (count : ℕ) (now : List ℕ) (next : Cursor) (at i : ℕ) : Type 0 where
  pub stored : FloorStored floors books lengths codewords n
  pub counted : count ≡ length (floor_in floors n).partitions
  pub place_few : at ≤ 2 + 8 * i
  pub long : length now ≡ length entry
  pub rest : EachRest 0 (put_row whole) (partition_of (lengths_in books lengths) (floor_in floors n)) s (floor_in floors n).partitions
      (into (put_row whole) (each (partition_of (lengths_in books lengths) (floor_in floors n)) (floor_in floors n).partitions s (position from)) (table entry 2)) i next (table now at)

-- what was written, without the place behind it
written : (o : Outcome (List (List ℕ) × ℕ)) (entry : List ℕ) {st : Result Cursor Refusal} {u : Table} → Wrote (into (put_row whole) o (table entry 2)) st u
    → Wrote (mapped (λ l. sets entry 2 (rows whole l)) o) st u.cells
unfolding into
written o entry w =
    wrote_through (λ l. puts (put_row whole) l (table entry 2)) (λ t. t.cells) (λ l. sets entry 2 (rows whole l)) (λ l. ap (λ (t : Table). t.cells) (puts-rows whole l entry 2)) o w

module _ {s floors books lengths codewords : List ℕ} {n : ℕ} {entry : List ℕ} {from : Cursor} {count : ℕ} where
  pub go_start : FloorStored floors books lengths codewords n → count ≡ get_or floors (floor_width * n) 0 → Progress s floors books lengths codewords n entry from count entry from 2 0
  go_start l e =
      record {
        stored = l;
        counted = e ∙ partitions_long l;
        place_few = omega arith;
        long = refl;
        rest = each_loop_start 0 (put_row whole) (partition_of (lengths_in books lengths) (floor_in floors n)) s (floor_in floors n).partitions _ from (table entry 2) refl;
      }

  module _ {now : List ℕ} {next : Cursor} {at i : ℕ} (w : Progress s floors books lengths codewords n entry from count now next at i) where
    pub count_few : count ≤ 31
    count_few = rw w.counted w.stored.valid.carried.partitions

    pub place_low : i ≤ count → at ≤ 65535
    place_low b = let a = w.place_few in let d = count_few in omega arith

    module _ (h : i < count) {class : ℕ} (e : class ≡ get_or floors (floor_width * n + 5 + i) 0) where
      low : i < length (floor_in floors n).partitions
      low = let k = w.counted in omega arith

      pub go_class : ClassStored floors books lengths codewords n class
      go_class = class_stored w.stored low e

      module _ {st : Result Cursor Refusal} {now' : List ℕ}
          (one : Wrote (into1 (put_row whole) (partition (lengths_in books lengths) (class_in floors n class) s (position next)) (table now at)) st (table now' (at + (class_in floors n class).dimensions))) where
        step : Wrote (into1 (put_row whole) (partition_of (lengths_in books lengths) (floor_in floors n) (get_or (floor_in floors n).partitions i 0) s (position next)) (table now at)) st (table now' (at + (class_in floors n class).dimensions))
        step = rw (partition_is w.stored low e (lengths_in books lengths)) one

        pub go_refused : {z : Refusal} → st ≡ Err z → (u : List ℕ)
            → Wrote (mapped (λ l. sets entry 2 (rows whole l)) (each (partition_of (lengths_in books lengths) (floor_in floors n)) (floor_in floors n).partitions s (position from))) (Err z) u
        go_refused q u =
            written (each (partition_of (lengths_in books lengths) (floor_in floors n)) (floor_in floors n).partitions s (position from)) entry
            (each_loop_refused 0 (put_row whole) (partition_of (lengths_in books lengths) (floor_in floors n)) s (floor_in floors n).partitions _ i next (table now at) w.rest low step q (table u 0))

        pub go_next : {after : Cursor} → st ≡ Ok after → length now' ≡ length now → {d : ℕ} → d ≡ get_or floors (floor_width * n + 36 + 11 * class) 0
            → Progress s floors books lengths codewords n entry from count now' after (at + d) (i + 1)
        go_next q same {d} f =
            let dims : d ≡ (class_in floors n class).dimensions = unfold class_in class_at in f in
            let most = go_class.valid.carried.dimensions.high in
            let place = w.place_few in
            record {
              stored = w.stored;
              counted = w.counted;
              place_few = omega arith;
              long = same ∙ w.long;
              rest = rw dims (each_loop_next 0 (put_row whole) (partition_of (lengths_in books lengths) (floor_in floors n)) s (floor_in floors n).partitions _ i next (table now at) w.rest low step q);
            }

    pub go_done : count ≤ i
        → Wrote (mapped (λ l. sets entry 2 (rows whole l)) (each (partition_of (lengths_in books lengths) (floor_in floors n)) (floor_in floors n).partitions s (position from))) (Ok next) now
    go_done h =
        written (each (partition_of (lengths_in books lengths) (floor_in floors n)) (floor_in floors n).partitions s (position from)) entry
        (each_loop_done 0 (put_row whole) (partition_of (lengths_in books lengths) (floor_in floors n)) s (floor_in floors n).partitions _ i next (table now at) w.rest (rw (← w.counted) h))
