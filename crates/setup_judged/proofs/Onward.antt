-- READING GOES ONWARD: what is read from behind a bit `place` ends behind it, and no refusal on the way is 7 or 8 at that place; by its number, or for 7 and 8 of a
-- book since the book begins further on. One law for each way to build an outcome, and then one for each reader of a setup packet. Assumes nothing.
use Prim.Native.Nat.{ℕ, zero, suc, ◌+◌, ◌-◌, ◌*◌, ◌^◌, ◌≤◌, ◌<◌}
use native.Mathlib.Omega.{arith}
use mathlib.Core.Bool.{Bool, true, false, not, cond, ◌||◌}
use mathlib.Core.List.{List, [], ◌∷◌, map}
use mathlib.Core.Path.{◌≡◌, ap}
use lib.Dec.{eqb, leb, ltb}
use lib.ListN.{length}
use Rattle.reading.specs.Outcome.{Refusal, refusal, Outcome, ok, bad, then, need}
use Rattle.reading.specs.Reader.{Reader, judged, mapped, many, each}
use Rattle.reading.specs.Lists.{distinct}
use Rattle.bits.specs.Field.{value_at, field}
use Rattle.bits.specs.Ilog.{ilog}
use Rattle.header.specs.Header.{framing}
use Rattle.limits.specs.declared.Limits.{Limits}
use Rattle.codeword_assignment.specs.Book.{used, first_refused, free_after, is_lone}
use Rattle.rules.specs.Rules.{meets7, meets8}
use Rattle.book.specs.Content.{Book}
use Rattle.book.specs.HeadReading as H
use Rattle.book.specs.declared.Head as D
use Rattle.book.specs.LengthsReading as L
use Rattle.book.specs.LookupReading as U
use Rattle.book.specs.Reading as K
use Rattle.floor.specs.Content.{Class, x_list, class_count, value_count}
use Rattle.floor.specs.ClassReading as C
use Rattle.floor.specs.XListReading as X
use Rattle.floor.specs.Reading as F
use Rattle.residue.specs.Reading as R
use Rattle.mapping.specs.Content.{Coupling, Submap}
use Rattle.mapping.specs.declared.Known.{Known}
use Rattle.mapping.specs.Reading as M
use Rattle.mode.specs.Reading as O
use Rattle.setup.specs.Reading.{section, time_value}

-- neither 7 nor 8 at the place
abbrev pub Elsewhere : ℕ → Refusal → Type 0
Elsewhere place z = (z ≡ refusal 7 place → ⊥) × (z ≡ refusal 8 place → ⊥)

-- neither 7 nor 8
abbrev Other : ℕ → Type 0
Other number = (number ≡ 7 → ⊥) × (number ≡ 8 → ⊥)

other1 : Other 1
other1 = ((λ e. omega arith), (λ e. omega arith))

other5 : Other 5
other5 = ((λ e. omega arith), (λ e. omega arith))

other6 : Other 6
other6 = ((λ e. omega arith), (λ e. omega arith))

other9 : Other 9
other9 = ((λ e. omega arith), (λ e. omega arith))

other10 : Other 10
other10 = ((λ e. omega arith), (λ e. omega arith))

other11 : Other 11
other11 = ((λ e. omega arith), (λ e. omega arith))

other12 : Other 12
other12 = ((λ e. omega arith), (λ e. omega arith))

other13 : Other 13
other13 = ((λ e. omega arith), (λ e. omega arith))

other14 : Other 14
other14 = ((λ e. omega arith), (λ e. omega arith))

-- an outcome that ends behind the place, or is refused elsewhere
pub data Past (place : ℕ) {A : Type 0} : Outcome (A × ℕ) → Type 0 where
  read : (x : A × ℕ) → place < x.1 → Past place (ok x)
  refused : (z : Refusal) → Elsewhere place z → Past place (bad z)

-- an outcome that is not refused at the place
pub data Apart (place : ℕ) {A : Type 0} : Outcome A → Type 0 where
  value : (a : A) → Apart place (ok a)
  refused : (z : Refusal) → Elsewhere place z → Apart place (bad z)

module _ (place : ℕ) where
  by_number : {z : Refusal} → Other z.number → Elsewhere place z
  by_number o = ((λ e. o.0 (ap (λ (z : Refusal). z.number) e)), (λ e. o.1 (ap (λ (z : Refusal). z.number) e)))

  by_place : {z : Refusal} → place < z.place → Elsewhere place z
  by_place {z} h = (
    (λ e. let p : z.place ≡ place = ap (λ (z : Refusal). z.place) e in omega arith),
    (λ e. let p : z.place ≡ place = ap (λ (z : Refusal). z.place) e in omega arith),
  )

  pub then_past : {A B : Type 0} {o : Outcome (A × ℕ)} {f : A × ℕ → Outcome (B × ℕ)} → Past place o → ((x : A × ℕ) → place < x.1 → Past place (f x)) → Past place (then o f)
  then_past (read x p) g = g x p
  then_past (refused z e) g = refused z e

  pub then_apart : {A B : Type 0} {o : Outcome (A × ℕ)} {f : A × ℕ → Outcome B} → Past place o → ((x : A × ℕ) → place < x.1 → Apart place (f x)) → Apart place (then o f)
  then_apart (read x p) g = g x p
  then_apart (refused z e) g = refused z e

  need_past : {A : Type 0} (t : Bool) (z : Refusal) {o : Outcome (A × ℕ)} → Elsewhere place z → Past place o → Past place (need t z o)
  need_past true z e p = p
  need_past false z e p = refused z e

  either : {A : Type 0} (t : Bool) {o q : Outcome (A × ℕ)} → Past place o → Past place q → Past place (cond t o q)
  either true p q = p
  either false p q = q

  mapped_past : {A B : Type 0} (f : A → B) {o : Outcome (A × ℕ)} → Past place o → Past place (mapped f o)
  unfolding mapped
  mapped_past f (read x p) = read (f x.0, x.1) p
  mapped_past f (refused z e) = refused z e

module _ (place : ℕ) (s : List ℕ) where
  -- what reads onward from every bit behind the place
  abbrev pub Onward : {A : Type 0} → Reader A → Type 0
  Onward r = (k : ℕ) → place < k → Past place (r s k)

  -- a field ends behind the place where its last bit lies there or further on
  field_to : (w k : ℕ) → place < k + w → Past place (field w s k)
  unfolding field
  field_to w k h = need_past place (leb (k + w) (8 * length s)) (refusal 1 k) (by_number place other1) (read (value_at s k w, k + w) h)

  field_past : (w : ℕ) → Onward (field w)
  field_past w k h = field_to w k (omega arith)

  judged_past : (test : ℕ → Bool) (n : ℕ) (r : Reader ℕ) (k : ℕ) → Other n → Past place (r s k) → Past place (judged test n r s k)
  judged_past test n r k o p = then_past place p (λ (x : ℕ × ℕ) q. need_past place (test x.0) (refusal n k) (by_number place o) (read x q))

  judged-field : (test : ℕ → Bool) (n w : ℕ) → Other n → Onward (judged test n (field w))
  judged-field test n w o k h = judged_past test n (field w) k o (field_past w k h)

  many_past : {A : Type 0} (r : Reader A) → Onward r → (n : ℕ) → Onward (many r n)
  unfolding many
  many_past r o zero k h = read ([], k) h
  many_past {A} r o (suc n) k h = then_past place (o k h) (λ (x : A × ℕ) p. then_past place (many_past r o n x.1 p) (λ (y : List A × ℕ) q. read _ q))

  each_past : {A B : Type 0} (r : B → Reader A) → ((b : B) → Onward (r b)) → (l : List B) → Onward (each r l)
  unfolding each
  each_past r o [] k h = read ([], k) h
  each_past {A} r o (b ∷ l) k h = then_past place (o b k h) (λ (x : A × ℕ) p. then_past place (each_past r o l x.1 p) (λ (y : List A × ℕ) q. read _ q))

  -- books
  length_past : (sparse : ℕ) → Onward (L.entry_length sparse)
  unfolding L.entry_length
  length_past sparse k h =
      either place (eqb sparse 0) (mapped_past place suc (field_past 5 k h))
      (then_past place (field_past 1 k h) (λ (f : ℕ × ℕ) p. either place (eqb f.0 0) (read (0, f.1) p) (mapped_past place suc (field_past 5 f.1 p))))

  runs_past : (first turns length left : ℕ) → Onward (L.runs first turns length left)
  unfolding L.runs
  runs_past first zero length left k h = refused (refusal 6 first) (by_number place other6)
  runs_past first (suc turns) length left k h =
      either place (eqb left 0) (read ([], k) h)
      (need_past place (leb length 32 || eqb left 0) (refusal 6 first) (by_number place other6)
      (then_past place (judged-field (λ n. leb n left) 6 (ilog left) other6 k h) (λ (n : ℕ × ℕ) p.
      then_past place (runs_past first turns (length + 1) (left - n.0) n.1 p) (λ (rest : List ℕ × ℕ) q. read _ q))))

  pub lengths_past : (first entries : ℕ) → Onward (L.lengths first entries)
  unfolding L.lengths
  lengths_past first entries k h =
      then_past place (field_past 1 k h) (λ (ordered : ℕ × ℕ) p.
      either place (eqb ordered.0 0)
      (then_past place (field_past 1 ordered.1 p) (λ (sparse : ℕ × ℕ) q. many_past (L.entry_length sparse.0) (length_past sparse.0) entries sparse.1 q))
      (then_past place (field_past 5 ordered.1 p) (λ (len : ℕ × ℕ) q. runs_past first 33 (len.0 + 1) entries len.1 q)))

  -- 7 and 8 of a book that begins behind the place
  entered_past : (first : ℕ) (ls : List ℕ × ℕ) → place < first → place < ls.1 → Past place (L.entered first ls.0 (ok ls))
  unfolding L.entered
  entered_past first ls h p = need_past place (meets7 (first_refused ls.0)) (refusal 7 first) (by_place place h)
      (need_past place (meets8 (free_after ls.0) (is_lone (used ls.0))) (refusal 8 first) (by_place place h) (read ls p))

  values_past : (first type count most before : ℕ) → Onward (U.values first type count most before)
  unfolding U.values
  values_past first type count most before k h =
      then_past place (field_past 32 k h) (λ (minimum : ℕ × ℕ) p.
      then_past place (field_past 32 minimum.1 p) (λ (delta : ℕ × ℕ) q.
      then_past place (field_past 4 delta.1 q) (λ (width : ℕ × ℕ) t.
      then_past place (field_past 1 width.1 t) (λ (sequence : ℕ × ℕ) u.
      need_past place (leb (before + count) most) (refusal 14 first) (by_number place other14)
      (then_past place (many_past (field (width.0 + 1)) (field_past (width.0 + 1)) count sequence.1 u) (λ (list : List ℕ × ℕ) v. read _ v))))))

  pub lookup_past : (first entries dimensions most before : ℕ) → Onward (U.lookup first entries dimensions most before)
  unfolding U.lookup
  lookup_past first entries dimensions most before k h =
      then_past place (judged-field (λ v. leb v 2) 6 4 other6 k h) (λ (type : ℕ × ℕ) p.
      either place (eqb type.0 0) (read (U.no_lookup, type.1) p) (values_past first type.0 (U.value_count type.0 entries dimensions) most before type.1 p))

  -- a head, even where it begins at the place itself: its first field has some bits
  pub head_past : (limits : Limits) (before : H.Before) (k : ℕ) → place ≤ k → Past place (H.head limits before s k)
  unfolding H.head
  head_past limits before k h =
      then_past place (judged_past (λ v. eqb v 0x564342) 6 (field 24) k other6 (field_to 24 k (omega arith))) (λ (pattern : ℕ × ℕ) p.
      then_past place (judged-field (λ v. not (eqb v 0)) 6 16 other6 pattern.1 p) (λ (dimensions : ℕ × ℕ) q.
      then_past place (judged_past (λ v. leb (before.entries + v) limits.entries) 14 (judged (λ v. leb v limits.book_entries) 14 (judged (λ v. not (eqb v 0)) 6 (field 24))) dimensions.1 other14
      (judged_past (λ v. leb v limits.book_entries) 14 (judged (λ v. not (eqb v 0)) 6 (field 24)) dimensions.1 other14
      (judged-field (λ v. not (eqb v 0)) 6 24 other6 dimensions.1 q))) (λ (entries : ℕ × ℕ) t. read _ t)))

  book_past : (limits : Limits) (before : H.Before) → Onward (K.book limits before)
  unfolding K.book
  book_past limits before k h =
      then_past place (head_past limits before k (omega arith)) (λ (x : D.Head × ℕ) p.
      then_past place (then_past place (lengths_past k x.0.entries x.1 p) (λ (ls : List ℕ × ℕ) q. entered_past k ls h q)) (λ (ls : List ℕ × ℕ) q.
      then_past place (lookup_past k x.0.entries x.0.dimensions limits.multiplicands before.values ls.1 q) (λ (l : U.Lookup × ℕ) t. read _ t)))

  pub books_past : (limits : Limits) (n : ℕ) (before : H.Before) → Onward (K.books limits before n)
  unfolding K.books
  books_past limits zero before k h = read ([], k) h
  books_past limits (suc n) before k h =
      then_past place (book_past limits before k h) (λ (b : Book × ℕ) p.
      then_past place (books_past limits n (K.and_this before b.0) b.1 p) (λ (rest : List Book × ℕ) q. read _ q))

  -- floors
  class_past : (books : ℕ) → Onward (C.class books)
  unfolding C.class C.master_book C.subclass_book
  class_past books k h =
      then_past place (field_past 3 k h) (λ (dimensions : ℕ × ℕ) p.
      then_past place (field_past 2 dimensions.1 p) (λ (subclasses : ℕ × ℕ) q.
      then_past place (either place (eqb subclasses.0 0) (read (0, subclasses.1) q) (mapped_past place suc (judged-field (λ v. ltb v books) 11 8 other11 subclasses.1 q))) (λ (master : ℕ × ℕ) t.
      then_past place (many_past (C.subclass_book books) (judged-field (λ v. leb v books) 11 8 other11) (2 ^ subclasses.0) master.1 t) (λ (list : List ℕ × ℕ) u. read _ u))))

  ends_past : (first n : ℕ) → Onward (X.ends first n)
  unfolding X.ends X.ends_from X.x_values
  ends_past first n k h =
      then_past place (field_past 2 k h) (λ (multiplier : ℕ × ℕ) p.
      then_past place (field_past 4 multiplier.1 p) (λ (rangebits : ℕ × ℕ) q.
      then_past place (either place (leb n 63) (many_past (field rangebits.0) (field_past rangebits.0) n rangebits.1 q)
      (then_past place (many_past (field rangebits.0) (field_past rangebits.0) 63 rangebits.1 q) (λ (x : List ℕ × ℕ) _. refused (refusal 12 first) (by_number place other12)))) (λ (xs : List ℕ × ℕ) t.
      need_past place (distinct (x_list rangebits.0 xs.0)) (refusal 12 first) (by_number place other12) (read _ t))))

  pub floor_past : (books : ℕ) → Onward (F.floor books)
  unfolding F.floor F.floor_type F.floor1 F.floor_from
  floor_past books k h =
      then_past place (judged_past (λ v. leb v 1) 10 (judged (λ v. not (eqb v 0)) 14 (field 16)) k other10 (judged-field (λ v. not (eqb v 0)) 14 16 other14 k h)) (λ (type : ℕ × ℕ) p.
      then_past place (field_past 5 type.1 p) (λ (count : ℕ × ℕ) q.
      then_past place (many_past (field 4) (field_past 4) count.0 count.1 q) (λ (partitions : List ℕ × ℕ) t.
      then_past place (many_past (C.class books) (class_past books) (class_count partitions.0) partitions.1 t) (λ (classes : List Class × ℕ) u.
      then_past place (ends_past k (value_count (map (λ c. c.dimensions) classes.0) partitions.0) classes.1 u) (λ (e : X.Ends × ℕ) v. read _ v)))))

  -- residues
  cascade_past : Onward R.cascade
  unfolding R.cascade
  cascade_past k h =
      then_past place (field_past 3 k h) (λ (low : ℕ × ℕ) p.
      then_past place (field_past 1 low.1 p) (λ (flag : ℕ × ℕ) q.
      either place (eqb flag.0 0) (read (low.0, flag.1) q) (mapped_past place (λ high. high * 8 + low.0) (field_past 5 flag.1 q))))

  plan_past : (count c : ℕ) → Onward (R.plan_row count c)
  unfolding R.plan_row R.plan_book
  plan_past count c k h =
      each_past (R.plan_book count) (λ bit j p. either place (eqb bit 0) (read (0, j) p) (mapped_past place suc (judged-field (λ v. ltb v count) 11 8 other11 j p))) (R.passes c) k h

  fields_past : (count : ℕ) → Onward (R.head count)
  unfolding R.head R.head_from
  fields_past count k h =
      then_past place (judged-field (λ v. leb v 2) 10 16 other10 k h) (λ (type : ℕ × ℕ) p.
      then_past place (field_past 24 type.1 p) (λ (begin : ℕ × ℕ) q.
      then_past place (field_past 24 begin.1 q) (λ (end : ℕ × ℕ) t.
      then_past place (field_past 24 end.1 t) (λ (size : ℕ × ℕ) u.
      then_past place (field_past 6 size.1 u) (λ (classifications : ℕ × ℕ) v.
      then_past place (judged-field (λ v. ltb v count) 11 8 other11 classifications.1 v) (λ (classbook : ℕ × ℕ) w. read _ w))))))

  pub residue_past : (books : R.Books) → Onward (R.residue books)
  unfolding R.residue R.residue_from
  residue_past books k h =
      then_past place (fields_past books.count k h) (λ (x : R.Head × ℕ) p.
      then_past place (many_past R.cascade cascade_past x.0.classifications x.1 p) (λ (cascades : List ℕ × ℕ) q.
      then_past place (each_past (R.plan_row books.count) (plan_past books.count) cascades.0 cascades.1 q) (λ (plan : List (List ℕ) × ℕ) t.
      need_past place (R.residue_fits books (R.with_plan x.0 plan.0)) (refusal 13 k) (by_number place other13) (read _ t))))

  -- mappings
  channel_past : (channels : ℕ) → Onward (M.channel channels)
  unfolding M.channel
  channel_past channels k h = judged-field (λ v. ltb v channels) 11 (ilog (channels - 1)) other11 k h

  coupling_past : (channels : ℕ) → Onward (M.coupling channels)
  unfolding M.coupling
  coupling_past channels k h =
      then_past place (channel_past channels k h) (λ (magnitude : ℕ × ℕ) p.
      then_past place (judged_past (λ v. not (eqb v magnitude.0)) 11 (M.channel channels) magnitude.1 other11 (channel_past channels magnitude.1 p)) (λ (angle : ℕ × ℕ) q. read _ q))

  submap_past : (known : Known) → Onward (M.submap known)
  unfolding M.submap
  submap_past known k h =
      then_past place (field_past 8 k h) (λ (discarded : ℕ × ℕ) p.
      then_past place (judged-field (λ v. ltb v known.floors) 11 8 other11 discarded.1 p) (λ (floor : ℕ × ℕ) q.
      then_past place (judged-field (λ v. ltb v known.residues) 11 8 other11 floor.1 q) (λ (residue : ℕ × ℕ) t. read _ t)))

  flagged : (other w : ℕ) → Onward (λ s k. then (field 1 s k) (λ flag. cond (eqb flag.0 0) (ok (other, flag.1)) (mapped suc (field w s flag.1))))
  flagged other w k h = then_past place (field_past 1 k h) (λ (flag : ℕ × ℕ) p. either place (eqb flag.0 0) (read (other, flag.1) p) (mapped_past place suc (field_past w flag.1 p)))

  pub mapping_past : (known : Known) → Onward (M.mapping known)
  unfolding M.mapping M.submap_count M.coupling_count M.parts M.multiplexes M.multiplex
  mapping_past known k h =
      then_past place (judged-field (λ v. eqb v 0) 9 16 other9 k h) (λ (type : ℕ × ℕ) p.
      then_past place (flagged 1 4 type.1 p) (λ (submaps : ℕ × ℕ) q.
      then_past place (flagged 0 8 submaps.1 q) (λ (steps : ℕ × ℕ) t.
      then_past place (many_past (M.coupling known.channels) (coupling_past known.channels) steps.0 steps.1 t) (λ (couplings : List Coupling × ℕ) u.
      then_past place (judged-field (λ v. eqb v 0) 9 2 other9 couplings.1 u) (λ (reserved : ℕ × ℕ) v.
      then_past place (either place (leb submaps.0 1) (read ([], reserved.1) v)
      (many_past (M.multiplex submaps.0) (judged-field (λ v. ltb v submaps.0) 11 4 other11) known.channels reserved.1 v)) (λ (multiplex : List ℕ × ℕ) w.
      then_past place (many_past (M.submap known) (submap_past known) submaps.0 multiplex.1 w) (λ (list : List Submap × ℕ) x. read _ x)))))))

  -- modes
  pub mode_past : (mappings : ℕ) → Onward (O.mode mappings)
  unfolding O.mode
  mode_past mappings k h =
      then_past place (field_past 1 k h) (λ (flag : ℕ × ℕ) p.
      then_past place (judged-field (λ v. eqb v 0) 9 16 other9 flag.1 p) (λ (window : ℕ × ℕ) q.
      then_past place (judged-field (λ v. eqb v 0) 9 16 other9 window.1 q) (λ (transform : ℕ × ℕ) t.
      then_past place (judged-field (λ v. ltb v mappings) 11 8 other11 transform.1 t) (λ (mapping : ℕ × ℕ) u. read _ u))))

  -- time values, a section of items, the framing bit
  pub time_past : Onward time_value
  unfolding time_value
  time_past k h = judged-field (λ v. eqb v 0) 9 16 other9 k h

  pub section_past : {A : Type 0} (r : Reader A) → Onward r → Onward (section r)
  unfolding section
  section_past r o k h = then_past place (field_past 6 k h) (λ (n : ℕ × ℕ) p. many_past r o (n.0 + 1) n.1 p)

  pub framing_past : Onward framing
  unfolding framing
  framing_past k h = judged-field (λ v. not (eqb v 0)) 5 1 other5 k h
