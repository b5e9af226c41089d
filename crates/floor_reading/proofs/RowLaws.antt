-- Laws of putting a floor together from its parts, as the code asks them. Assumes nothing.
use Rattle.std.specs.Prelude.{Result, Ok, Err}
use Prim.Native.Nat.{ℕ, ◌+◌, ◌≤◌, ◌<◌}
use native.Mathlib.Omega.{arith}
use borrow.Author.Rules.{rules}
use mathlib.Core.Bool.{true}
use mathlib.Core.List.{List, [], ◌∷◌, ◌++◌, map, append_assoc}
use mathlib.Core.Path.{◌≡◌, refl, sym, ap, ◌∙◌}
use lib.Dec.{ltb}
use lib.ListN.{length, take, replicate, length-append}
use lib.Seq.{sets}
use Rattle.reading.specs.Outcome.{Outcome, ok, bad, then}
use Rattle.reading.specs.Reader.{many, mapped, into, into1}
use Rattle.reading.specs.Lists.{all, rows}
use Rattle.reading.specs.Pad.{pad}
use Rattle.reading.specs.Inner.Table.{Table, table, put_row}
use Rattle.reading.proofs.Pads.{pad_nil, length-pad}
use Rattle.reading.proofs.Readers.{mapped_ok, mapped_bad}
use Rattle.reading.proofs.Accepted.{many-all}
use Rattle.bits.specs.declared.Cursor.{Cursor}
use Rattle.bits.specs.declared.refusal.Refusal.{Refusal}
use Rattle.bits.specs.Inner.Cursors.{position, outcome, Wrote}
use Rattle.bits.specs.Field.{field}
use Rattle.bits.proofs.Answers.{value_is, refused_is, value_below}
use Rattle.bits.proofs.Steps.{wrote_refused, wrote_next, wrote_bad}
use Rattle.numbers.specs.Inner.Cell.{cell}
use Rattle.numbers.proofs.Beside.{beside_bad, beside_ok}
use Rattle.numbers.proofs.Collected.{Collected, collected, rows_cell, wrote_as, two_runs}
use Rattle.numbers.proofs.ListLaws.{take-pad}
use Rattle.numbers.proofs.Accepted.{field_below}
use Rattle.floor.specs.Content.{Class, x_list, class_count, value_count}
use Rattle.floor.specs.Layout.{class_row, floor_row, floor_width}
use Rattle.floor.specs.ClassReading.{class}
use Rattle.floor.specs.XListReading.{Ends, ends}
use Rattle.floor.specs.Reading.{floor_type, floor1, floor, floor_from}
use Rattle.floor.specs.Inner.Counts.{classes_to, values_to, Partitions}
use Rattle.floor.proofs.XListAccepted.{EndsFit, ends_fit}
use Rattle.floor.proofs.CountLaws.{classes_counted, class_count_most, values_counted}
use Rattle.floor_x_list.specs.Inner.Pieces.{EndsRead, ends_read, with_list, ends_in_buffer}
use Rattle.floor_x_list.specs.declared.Ends as Program
use Rattle.floor_reading.specs.Inner.Pieces.{row_of}

-- the row is stored in two runs: the 5 counts with the 31 places for partitions, then the rest
pub two_runs_at : (entry : List ℕ) (at : ℕ) (first second third : List ℕ) {middle last : List ℕ} → length first ≡ 5 → length second ≡ 31
    → middle ≡ sets entry at (first ++ second) → last ≡ sets middle (at + 36) third → last ≡ sets entry at ((first ++ second) ++ third)
two_runs_at entry at first second third {middle} {last} a b m l =
    let n : at + 36 ≡ at + length (first ++ second) = simp length-append (omega arith) in
    two_runs entry at (first ++ second) third middle last n m l

-- the row, from its four parts
row_long : (count named : ℕ) (ps cs : List ℕ) (e : Ends) → length ps ≡ 31 → length cs ≡ 176 → floor_width ≡ length (row_of count named ps cs e)
unfolding row_of
row_long count named ps cs e p q =
    let z = length-pad 65 (x_list e.rangebits e.xs) in
    let a = length-append cs (pad 65 (x_list e.rangebits e.xs)) in
    let b = length-append ps (cs ++ pad 65 (x_list e.rangebits e.xs)) in
    omega arith

row_written : (count named : ℕ) (ps cs : List ℕ) (e : Ends) (entry : List ℕ) (i : ℕ) → length ps ≡ 31 → length cs ≡ 176
    → {m b : ℕ} {l : List ℕ} → ends_in_buffer e ≡ ends_read m b l → {n : ℕ} → length e.xs ≡ n
    → {t : List ℕ} → t ≡ sets entry i (((count ∷ named ∷ m ∷ b ∷ (2 + n) ∷ []) ++ ps) ++ (cs ++ l))
    → put_row (row_of count named ps cs) e (table entry i) ≡ table t (i + floor_width)
unfolding put_row ends_in_buffer row_of
row_written count named ps cs e entry i p q {m} {b} {l} h {n} g {t} w =
    let em : e.multiplier ≡ m = ap (λ (y : EndsRead). y.multiplier) h in
    let eb : e.rangebits ≡ b = ap (λ (y : EndsRead). y.rangebits) h in
    let el : pad 65 (x_list e.rangebits e.xs) ≡ l = ap (λ (y : EndsRead). y.list) h in
    let heads : (count ∷ named ∷ m ∷ b ∷ (2 + n) ∷ []) ≡ (count ∷ named ∷ e.multiplier ∷ e.rangebits ∷ (2 + length e.xs) ∷ []) =
    λ j. count ∷ named ∷ sym em j ∷ sym eb j ∷ (2 + sym g j) ∷ [] in
    let same : t ≡ sets entry i (row_of count named ps cs e) =
    w
    ∙ ap (sets entry i) (append_assoc (count ∷ named ∷ m ∷ b ∷ (2 + n) ∷ []) ps (cs ++ l)
    ∙ (λ j. heads j ++ (ps ++ (cs ++ sym el j)))) in
    λ j. table (sym same j) (i + sym (row_long count named ps cs e p q) j)

module _ (place : Cursor) (count named : ℕ) (ps cs : List ℕ) (s : List ℕ) (k : Cursor) (entry : List ℕ) (i : ℕ) {n : ℕ} (values : n ≡ values_to cs ps count) (l : List ℕ) {r : Result (Program.Ends × Cursor) Refusal}
    (w : mapped (with_list l) (outcome r) ≡ mapped ends_in_buffer (ends (position place) n s (position k))) where
  pub after_refused : {z : Refusal} → r ≡ Err z → (u : Table) → Wrote (into1 (put_row (row_of count named ps cs)) (ends (position place) (values_to cs ps count) s (position k)) (table entry i)) (Err z) u
  unfolding into1 mapped
  after_refused t u = wrote_refused u (rw (← values, beside_bad (with_list l) ends_in_buffer (ends (position place) n s (position k)) w t))

  module _ {a : Program.Ends} {c : Cursor} (t : r ≡ Ok (a, c)) where
    read : (e : Ends) × (ends (position place) n s (position k) ≡ ok (e, position c)) × (ends_in_buffer e ≡ with_list l a)
    read = mapped_ok ends_in_buffer (ends (position place) n s (position k)) (beside_ok (with_list l) ends_in_buffer (ends (position place) n s (position k)) w t)

    fits : EndsFit n read.0
    fits = ends_fit (position place) n s (position k) read.1

    pub after_few : 2 + n < 65536
    after_few = let h = fits.few in omega arith

    pub after_multiplier : a.multiplier < 65536
    unfolding ends_in_buffer
    after_multiplier = let h = fits.multiplier_high in let g : read.0.multiplier ≡ a.multiplier = ap (λ (y : EndsRead). y.multiplier) read.2 in omega arith

    pub after_rangebits : a.rangebits < 65536
    unfolding ends_in_buffer
    after_rangebits = let h = fits.rangebits in let g : read.0.rangebits ≡ a.rangebits = ap (λ (y : EndsRead). y.rangebits) read.2 in omega arith

    pub after_written : length ps ≡ 31 → length cs ≡ 176
        → (x : List ℕ) → x ≡ sets entry i (((count ∷ named ∷ a.multiplier ∷ a.rangebits ∷ (2 + n) ∷ []) ++ ps) ++ (cs ++ l))
        → Wrote (into1 (put_row (row_of count named ps cs)) (ends (position place) (values_to cs ps count) s (position k)) (table entry i)) (Ok c) (table x (i + floor_width))
    after_written p q x f =
        let made = row_written count named ps cs read.0 entry i p q read.2 fits.long f in
        let last : into1 (put_row (row_of count named ps cs)) (ok (read.0, position c)) (table entry i) ≡ ok (table x (i + floor_width), position c) = unfold into1 mapped in λ j. ok (made j, position c) in
        wrote_next
        (ap (λ (j : ℕ). into1 (put_row (row_of count named ps cs)) (ends (position place) j s (position k)) (table entry i)) (sym values)
        ∙ ap (λ (o : Outcome (Ends × ℕ)). into1 (put_row (row_of count named ps cs)) o (table entry i)) read.1
        ∙ last)

pub ruleset after_laws = (rules, after_refused, after_few, after_multiplier, after_rangebits, after_written)

-- the row that was put together is the floor's
same_rows : (ps : List ℕ) (count : ℕ) → length ps ≡ count → (cs : List Class) (n : ℕ) → length cs ≡ n → (o : Outcome (Ends × ℕ)) (t : Table)
    → into1 (put_row (row_of count n (pad 31 ps) (pad 176 (rows class_row cs)))) o t
    ≡ into1 (put_row floor_row) (then o (λ e. ok (record { partitions = ps; classes = cs; multiplier = e.0.multiplier; rangebits = e.0.rangebits; xs = e.0.xs }, e.1))) t
unfolding into1 mapped put_row row_of floor_row
same_rows ps count p cs n c (ok e) t = rw (← p, ← c)
same_rows ps count p cs n c (bad z) t = refl

from_parts : (books place : ℕ) (ps : List ℕ) (count : ℕ) → length ps ≡ count → count ≤ 31 → all (λ c. ltb c 16) ps ≡ true → (s : List ℕ) (k j : ℕ) (cs : List Class)
    → many (class books) (class_count ps) s k ≡ ok (cs, j) → {n : ℕ} → length cs ≡ n → {buffer l : List ℕ} → buffer ≡ pad 31 ps → l ≡ pad 176 (rows class_row cs) → (t : Table) {r : Result Cursor Refusal} {u : Table}
    → Wrote (into1 (put_row (row_of count n buffer l)) (ends place (values_to l buffer count) s j) t) r u
    → Wrote (into1 (put_row floor_row) (floor_from books place ps s k) t) r u
unfolding floor_from
from_parts books place ps count long few named s k j cs read {n} c {buffer} {l} b e t w =
    let v : values_to l buffer count ≡ value_count (map (λ (x : Class). x.dimensions) cs) ps =
    (λ i. values_to (e i) (b i) (sym long i)) ∙ values_counted cs 31 ps (omega arith) named in
    rw read (wrote_as ((λ i. into1 (put_row (row_of count n (b i) (e i))) (ends place (v i) s j) t)
    ∙ same_rows ps count long cs n c (ends place (value_count (map (λ (x : Class). x.dimensions) cs) ps) s j) t) w)

-- what follows the partitions
module _ (books : ℕ) (place : Cursor) (buffer : List ℕ) (count : ℕ) (known : Partitions count buffer) (s : List ℕ) (k : Cursor) {n : ℕ} (named : n ≡ classes_to buffer count) where
  pub from_long : length buffer ≡ 31
  from_long = ap length known.holds ∙ length-pad 31 (take count buffer)

  counted : classes_to buffer count ≡ class_count (take count buffer)
  counted =
      let few = known.few in
      let long = known.long in
      (λ j. classes_to (known.holds j) (sym long j)) ∙ classes_counted 31 (take count buffer) (omega arith)

  pub from_few : n ≤ 16
  from_few = let e = class_count_most (take count buffer) known.named in rw (named, counted) e

  module _ (entry : List ℕ) (i : ℕ) {st : Result Cursor Refusal} {l : List ℕ} {q : ℕ} (w : Wrote (into (put_row class_row) (many (class books) n s (position k)) (table (replicate 176 0) 0)) st (table l q)) where
    pub from_refused : {z : Refusal} → st ≡ Err z → (u : Table)
        → Wrote (into1 (put_row floor_row) (floor_from books (position place) (take count buffer) s (position k)) (table entry i)) (Err z) u
    unfolding into into1 mapped floor_from
    from_refused t u = wrote_refused u (rw (← counted, ← named, mapped_bad _ (many (class books) n s (position k)) (wrote_bad w t)))

    pub from_read : {c : Cursor} → st ≡ Ok c → {r : Result Cursor Refusal} {u : Table}
        → Wrote (into1 (put_row (row_of count n buffer l)) (ends (position place) (values_to l buffer count) s (position c)) (table entry i)) r u
        → Wrote (into1 (put_row floor_row) (floor_from books (position place) (take count buffer) s (position k)) (table entry i)) r u
    from_read {c} t v =
        let g = collected class_row (class books) n s (position k) (replicate 176 0) 0 176 [] (sym (pad_nil 176)) refl w t in
        from_parts books (position place) (take count buffer) count known.long known.few known.named s (position k) (position c) g.items
        (ap (λ (j : ℕ). many (class books) j s (position k)) (sym (named ∙ counted)) ∙ g.read) g.long known.holds g.holds (table entry i) v

pub ruleset from_laws = (rules, from_long, from_few, from_refused, from_read)

-- a floor behind its type
module _ (books : ℕ) (place : Cursor) (s : List ℕ) (k : Cursor) (entry : List ℕ) (i : ℕ) {r : Result (ℕ × Cursor) Refusal} (p : outcome r ≡ field 5 s (position k)) where
  pub floor1_cut : {z : Refusal} → r ≡ Err z → (u : Table) → Wrote (into1 (put_row floor_row) (floor1 books (position place) s (position k)) (table entry i)) (Err z) u
  unfolding into1 mapped floor1
  floor1_cut q u = wrote_refused u (rw (refused_is p q))

  module _ {n : ℕ} {k₁ : Cursor} (q : r ≡ Ok (n, k₁)) where
    pub count_few : n ≤ 63
    count_few = let h = value_below 5 s (position k) p q in omega arith

    module _ {st : Result Cursor Refusal} {l : List ℕ} {x : ℕ} (w : Wrote (into (put_row cell) (many (field 4) n s (position k₁)) (table (replicate 31 0) 0)) st (table l x)) where
      pub floor1_refused : {z : Refusal} → st ≡ Err z → (u : Table) → Wrote (into1 (put_row floor_row) (floor1 books (position place) s (position k)) (table entry i)) (Err z) u
      unfolding into into1 mapped floor1
      floor1_refused t u = wrote_refused u (rw (value_is p q, mapped_bad _ (many (field 4) n s (position k₁)) (wrote_bad w t)))

      module _ {c : Cursor} (t : st ≡ Ok c) where
        parts : Collected cell (many (field 4) n s (position k₁)) n c 31 [] l
        parts = collected cell (field 4) n s (position k₁) (replicate 31 0) 0 31 [] (sym (pad_nil 31)) refl w t

        plain : l ≡ pad 31 parts.items
        plain = parts.holds ∙ ap (pad 31) (rows_cell parts.items)

        few : n ≤ 31
        few = let h = value_below 5 s (position k) p q in omega arith

        taken : take n l ≡ parts.items
        taken = ap (take n) plain ∙ take-pad 31 parts.items parts.long few

        pub floor1_known : Partitions n l
        floor1_known =
            record {
              few = few;
              long = ap length taken ∙ parts.long;
              holds = plain ∙ ap (pad 31) (sym taken);
              named = ap (all (λ c. ltb c 16)) taken ∙ many-all (λ c. ltb c 16) (field 4) s (field_below 4 s) n (position k₁) parts.read;
            }

        pub floor1_read : {y : Result Cursor Refusal} {u : Table} → Wrote (into1 (put_row floor_row) (floor_from books (position place) (take n l) s (position c)) (table entry i)) y u
            → Wrote (into1 (put_row floor_row) (floor1 books (position place) s (position k)) (table entry i)) y u
        unfolding floor1 floor_from
        floor1_read f = rw (value_is p q, parts.read, ← taken) f

pub ruleset floor1_laws = (rules, floor1_cut, count_few, floor1_refused, floor1_known, floor1_read)

-- a floor
module _ (books : ℕ) (s : List ℕ) (k : Cursor) (entry : List ℕ) (i : ℕ) {r : Result (ℕ × Cursor) Refusal} (p : outcome r ≡ floor_type s (position k)) where
  pub floor_refused : {z : Refusal} → r ≡ Err z → (u : Table) → Wrote (into1 (put_row floor_row) (floor books s (position k)) (table entry i)) (Err z) u
  unfolding into1 mapped floor
  floor_refused q u = wrote_refused u (rw (refused_is p q))

  pub floor_read_lem : {v : ℕ} {k₁ : Cursor} → r ≡ Ok (v, k₁) → {y : Result Cursor Refusal} {u : Table} → Wrote (into1 (put_row floor_row) (floor1 books (position k) s (position k₁)) (table entry i)) y u
      → Wrote (into1 (put_row floor_row) (floor books s (position k)) (table entry i)) y u
  unfolding floor
  floor_read_lem q w = rw (value_is p q) w

pub ruleset floor_laws = (rules, floor_refused, floor_read_lem)
