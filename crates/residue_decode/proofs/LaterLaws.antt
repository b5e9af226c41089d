-- Laws of a later pass, as the code asks them: the next class word, a group of classes found again, and the pass. Assumes nothing.
use Rattle.std.specs.Prelude.{Result, Ok, Err}
use Prim.Native.Nat.{ℕ, zero, suc, ◌+◌, ◌-◌, ◌%◌, ◌≤◌, ◌<◌, min, max}
use native.Mathlib.Omega.{arith}
use borrow.Author.Rules.{rules}
use borrow.Author.Tests.{eq-eqb, ne_eqb}
use mathlib.Core.List.{List, [], ◌++◌, append_assoc}
use mathlib.Core.Path.{◌≡◌, refl, sym, ap, ◌∙◌}
use lib.ListN.{length, get_or, drop, drop_of_length-le}
use lib.Seq.{drop-cons}
use Rattle.bits.specs.Inner.Cursors.{position}
use Rattle.book_codeword.specs.Inner.Stored.{lengths_in, dimensions_in}
use Rattle.residue.specs.Content.{Residue}
use Rattle.residue.specs.declared.head.Head.{Head}
use Rattle.requests.specs.Requests.{Requests}
use Rattle.requests.specs.Run.{read, Run, run}
use Rattle.requests.specs.Inner.Parts.{joined}
use Rattle.requests.proofs.Laws.{run_bind}
use Rattle.residue_requests.specs.Requests.{classes_of}
use Rattle.residue_requests.specs.Inner.Unplaced.{flat_partitions}
use Rattle.residue_requests.specs.Inner.Again.{odd_front, entries_from, next_class, again, ClassWordsBefore}
use Rattle.residue_requests.proofs.AgainLaws.{numbers, next_same, entries_same}
use Rattle.residue_requests.proofs.PassLaws.{partitions_append}
use Rattle.codeword_list.specs.declared.Progress.{Progress}
use Rattle.codeword_list.specs.declared.Stop.{Stop}
use Rattle.codeword_list.specs.Inner.ListRead.{ReadIntoList}
use Rattle.codeword_list.specs.Inner.WordsRun.{words_run}
use Rattle.codeword_list.proofs.Laws.{ReadSoFar, sofar_start, sofar_next, sofar_last, sofar_fits, joined_stop, read_nothing, read_length}
use Rattle.residue_pass.specs.Inner.Readable.{residue_by, group_classes, ResidueReadable, PassReadable}
use Rattle.residue_pass.proofs.PartitionLaws.{get_before}
use Rattle.residue_pass.specs.Inner.PassRuns.{partitions_run}
use Rattle.residue_decode.specs.Inner.Parts.{classes_in}

-- THE NEXT CLASS WORD
module _ (l : List ℕ) (at : ℕ) where
  next_here : at < length l → get_or l at 0 % 2 ≡ 0 → next_class l at ≡ at
  unfolding next_class odd_front
  next_here h e =
      let odd : get_or l at 0 % 2 ≡ 1 → ⊥ = λ o. omega arith in
      let z : at + 0 ≡ at = omega arith in
      rw (drop-cons l at 0 h, ne_eqb (get_or l at 0 % 2) 1 odd) z

  next_later : at < length l → (get_or l at 0 % 2 ≡ 0 → ⊥) → next_class l at ≡ next_class l (at + 1)
  unfolding next_class odd_front
  next_later h n =
      let odd : get_or l at 0 % 2 ≡ 1 = omega arith in
      let y : at + suc (odd_front (drop (suc at) l)) ≡ suc at + odd_front (drop (suc at) l) = omega arith in
      let z : suc at ≡ at + 1 = omega arith in
      rw (drop-cons l at 0 h, eq-eqb (get_or l at 0 % 2) 1 odd) (y ∙ ap (λ (n : ℕ). n + odd_front (drop n l)) z)

  next_end : length l ≤ at → next_class l at ≡ at
  unfolding next_class odd_front
  next_end h = rw (drop_of_length-le l h) (omega arith)

pub record Seeking (l : List ℕ) (from at : ℕ) : Type 0 where
  pub low : from ≤ at
  pub within : at ≤ max from (length l)
  pub same : next_class l from ≡ next_class l at

pub seek_start : {l : List ℕ} {from : ℕ} → Seeking l from from
seek_start = record { low = omega arith; within = omega arith; same = refl }

module _ {l : List ℕ} {from at : ℕ} (s : Seeking l from at) where
  pub seek_found : at < length l → get_or l at 0 % 2 ≡ 0 → at ≡ next_class l from
  seek_found h e = sym (s.same ∙ next_here l at h e)

  pub seek_next : at < length l → (get_or l at 0 % 2 ≡ 0 → ⊥) → Seeking l from (at + 1)
  seek_next h n = record { low = let w = s.low in omega arith; within = omega arith; same = s.same ∙ next_later l at h n }

  pub seek_end : length l ≤ at → max from (length l) ≡ next_class l from
  seek_end h =
      let a = s.low in
      let b = s.within in
      let e : max from (length l) ≡ at = omega arith in
      e ∙ sym (s.same ∙ next_end l at h)

-- A GROUP OF CLASSES, FOUND AGAIN
module _ (d : ℕ) (r : Residue) (live : ℕ) (l : List ℕ) where
  again-rows : (rows left unused : ℕ) (es : List ℕ) (at : ℕ) → rows ≤ left → rows ≤ unused
      → again d r live l left unused es at ≡ group_classes r unused es rows ++ again d r live l (left - rows) (unused - rows) es at
  unfolding again group_classes
  again-rows zero left unused es at h g = let y : left - 0 ≡ left = omega arith in let z : unused - 0 ≡ unused = omega arith in rw (y, z) refl
  again-rows (suc rows) zero unused es at h g = absurd (omega arith)
  again-rows (suc rows) (suc left) zero es at h g = absurd (omega arith)
  again-rows (suc rows) (suc left) (suc unused) es at h g =
      let y : suc left - suc rows ≡ left - rows = omega arith in
      let z : suc unused - suc rows ≡ unused - rows = omega arith in
      let c = classes_of r unused es in
      rw (y, z)
      (ap (λ (t : List ℕ). c ++ t) (again-rows rows left unused es at (omega arith) (omega arith))
      ∙ sym (append_assoc c (group_classes r unused es rows) (again d r live l (left - rows) (unused - rows) es at)))

  again_ends : (left unused : ℕ) (es : List ℕ) (at : ℕ) → min left unused ≡ 0 → again d r live l left unused es at ≡ again d r live l left 0 [] at
  unfolding again
  again_ends zero unused es at h = refl
  again_ends (suc left) zero es at h = refl
  again_ends (suc left) (suc unused) es at h = absurd (omega arith)

  again_first : (left : ℕ) (at : ℕ) → 1 ≤ d
      → again d r live l (suc left) 0 [] at ≡ again d r live l (suc left) d (entries_from l (next_class l at) live) (next_class l at + live)
  unfolding again
  again_first left at h = go d h refl
    where
      go : (e : ℕ) → 1 ≤ e → d ≡ e → again d r live l (suc left) 0 [] at ≡ again d r live l (suc left) e (entries_from l (next_class l at) live) (next_class l at + live)
      go zero h q = absurd (omega arith)
      go (suc e) h q = let z : d - 1 ≡ e = omega arith in rw z refl

  again_group : (rows left at : ℕ) → 1 ≤ d → 0 < left → rows ≡ min d left
      → again d r live l left 0 [] at ≡ group_classes r d (entries_from l (next_class l at) live) rows ++ again d r live l (left - rows) 0 [] (next_class l at + live)
  again_group rows zero at h g e = absurd (omega arith)
  again_group rows (suc left) at h g e =
      let es = entries_from l (next_class l at) live in
      let next = next_class l at + live in
      again_first left at h ∙ again-rows rows (suc left) d es next (omega arith) (omega arith)
      ∙ ap (λ (t : List ℕ). group_classes r d es rows ++ t) (again_ends (suc left - rows) (d - rows) es next (omega arith))

-- its class words, and those of the rest
module _ (d live end : ℕ) (l : List ℕ) where
  before_rows : (rows left unused at : ℕ) → rows ≤ left → rows ≤ unused → ClassWordsBefore d live end l left unused at
      → ClassWordsBefore d live end l (left - rows) (unused - rows) at
  unfolding ClassWordsBefore
  before_rows zero left unused at h g x = let y : left - 0 ≡ left = omega arith in let z : unused - 0 ≡ unused = omega arith in rw (y, z) x
  before_rows (suc rows) zero unused at h g x = absurd (omega arith)
  before_rows (suc rows) (suc left) zero at h g x = absurd (omega arith)
  before_rows (suc rows) (suc left) (suc unused) at h g x =
      let y : suc left - suc rows ≡ left - rows = omega arith in
      let z : suc unused - suc rows ≡ unused - rows = omega arith in
      rw (y, z) (before_rows rows left unused at (omega arith) (omega arith) x)

  before_ends : (left unused at : ℕ) → min left unused ≡ 0 → ClassWordsBefore d live end l left unused at → ClassWordsBefore d live end l left 0 at
  unfolding ClassWordsBefore
  before_ends zero unused at h x = tt
  before_ends (suc left) zero at h x = x
  before_ends (suc left) (suc unused) at h x = absurd (omega arith)

  before_group : (rows left at : ℕ) → 1 ≤ d → 0 < left → rows ≡ min d left → ClassWordsBefore d live end l left 0 at
      → (next_class l at + live ≤ end) × ClassWordsBefore d live end l (left - rows) 0 (next_class l at + live)
  unfolding ClassWordsBefore
  before_group rows zero at h g e x = absurd (omega arith)
  before_group rows (suc left) at h g e x =
      let next = next_class l at + live in
      (x.0, before_ends (suc left - rows) (d - rows) next (omega arith) (before_rows rows (suc left) d next (omega arith) (omega arith) (go d h refl)))
    where
      go : (e : ℕ) → 1 ≤ e → d ≡ e → ClassWordsBefore d live end l (suc left) e (next_class l at + live)
      go zero h q = absurd (omega arith)
      go (suc e) h q = let z : d - 1 ≡ e = omega arith in rw (← z) x.1

-- A LATER PASS, of which `left` partitions are left, whose class words stand from place `place` on
pub record LaterLeft (s books lengths codewords plans : List ℕ) (n : ℕ) (h : Head) (start live digits top partitions pass : ℕ) (entered : List ℕ) (from : Progress) (out : List ℕ)
    (next : Progress) (place left : ℕ) : Type 0 where
  pub readable : PassReadable books lengths codewords plans n h digits top
  pub pass_few : pass < 8
  pub some : 1 ≤ live
  pub long : length out ≡ length entered
  pub class_words_is : ClassWordsBefore digits live from.count entered left 0 place
  pub sofar : ReadSoFar (partitions_run books lengths plans n h pass (classes_in plans n h digits live entered partitions start) s (position from.at)) entered from.count
      (partitions_run books lengths plans n h pass (classes_in plans n h digits live entered left place) s (position next.at)) out next.count

module _ {s books lengths codewords plans : List ℕ} {n : ℕ} {h : Head} {start live digits top partitions pass : ℕ} {entered : List ℕ} {from : Progress} where
  pub later_start : PassReadable books lengths codewords plans n h digits top → pass < 8 → 1 ≤ live → from.count ≤ length entered
      → ClassWordsBefore digits live from.count entered partitions 0 start
      → LaterLeft s books lengths codewords plans n h start live digits top partitions pass entered from entered from start partitions
  later_start l p o r d = record { readable = l; pass_few = p; some = o; long = refl; class_words_is = d; sofar = sofar_start r }

  module _ {out : List ℕ} {next : Progress} {place left : ℕ}
      (g : LaterLeft s books lengths codewords plans n h start live digits top partitions pass entered from out next place left) where
    pub later_fits : next.count ≤ length out
    later_fits = sofar_fits g.sofar

    pub later_readable : ResidueReadable books lengths codewords plans n h
    later_readable = g.readable.readable

    pub later_done : left ≤ 0
        → ReadIntoList (partitions_run books lengths plans n h pass (classes_in plans n h digits live entered partitions start) s (position from.at)) entered from.count (Ok next) out
    unfolding flat_partitions again run
    later_done z = let y : left ≡ 0 = omega arith in sofar_last (rw y at g.sofar) (read_nothing refl later_fits refl)

    module _ (more : 0 < left) {at rows : ℕ} (a : at ≡ next_class out place) (e : rows ≡ min digits left) where
      digits_some : 1 ≤ digits
      digits_some = let x = g.readable.digits_are in let y = g.readable.readable.class_dimensions in omega arith

      group : (next_class entered place + live ≤ from.count) × ClassWordsBefore digits live from.count entered (left - rows) 0 (next_class entered place + live)
      group = before_group digits live from.count entered rows left place digits_some more e g.class_words_is

      kept : (i : ℕ) → i < from.count → get_or out i 0 ≡ get_or entered i 0
      kept i k = ap (λ (l : List ℕ). get_or l i 0) g.sofar.list ∙ get_before (numbers g.sofar.items) entered from.count i k

      at_is : at ≡ next_class entered place
      at_is = let x = group.0 in let y = g.some in a ∙ next_same entered out from.count kept g.long place (omega arith)

      pub later_within : at + live ≤ from.count
      later_within = let x = group.0 in let y = at_is in omega arith

      pub later_there : at + live ≤ next.count
      later_there = let x = group.0 in let y = at_is in let z = g.sofar.number in omega arith

      later_rest : classes_in plans n h digits live entered left place
          ≡ group_classes (residue_by h plans n) digits (entries_from out at live) rows ++ classes_in plans n h digits live entered (left - rows) (at + live)
      later_rest =
          let x = group.0 in
          let words = entries_same entered out from.count kept g.long (next_class entered place) live x in
          let f : entries_from out at live ≡ entries_from entered (next_class entered place) live = ap (λ (i : ℕ). entries_from out i live) at_is ∙ words in
          rw (f, at_is) (again_group digits (residue_by h plans n) live entered rows left place digits_some more e)

      module _ {r : Result Progress Stop} {exit : List ℕ}
          (x : ReadIntoList (partitions_run books lengths plans n h pass (group_classes (residue_by h plans n) digits (entries_from out at live) rows) s (position next.at)) out next.count r exit) where
        abbrev following : Unit {0} → ℕ → Run (Unit {0})
        following _ m = partitions_run books lengths plans n h pass (classes_in plans n h digits live entered (left - rows) (at + live)) s m

        later_joined : partitions_run books lengths plans n h pass (classes_in plans n h digits live entered left place) s (position next.at)
            ≡ joined (partitions_run books lengths plans n h pass (group_classes (residue_by h plans n) digits (entries_from out at live) rows) s (position next.at)) following
        later_joined =
            let these = group_classes (residue_by h plans n) digits (entries_from out at live) rows in
            let rest = classes_in plans n h digits live entered (left - rows) (at + live) in
            ap (λ (cs : List ℕ). partitions_run books lengths plans n h pass cs s (position next.at)) later_rest
            ∙ ap (λ (t : Requests (Unit {0})). words_run books lengths t s (position next.at)) (partitions_append (dimensions_in books) (residue_by h plans n) pass these rest)
            ∙ run_bind (read (lengths_in books lengths)) s (flat_partitions (dimensions_in books) (residue_by h plans n) pass these) (λ _. flat_partitions (dimensions_in books) (residue_by h plans n) pass rest) (position next.at)

        pub later_stop : {e : Stop} → r ≡ Err e
            → ReadIntoList (partitions_run books lengths plans n h pass (classes_in plans n h digits live entered partitions start) s (position from.at)) entered from.count (Err e) exit
        later_stop q = sofar_last (rw later_joined at g.sofar) (joined_stop following x _ q)

        pub later_next : {m : Progress} → r ≡ Ok m
            → LaterLeft s books lengths codewords plans n h start live digits top partitions pass entered from exit m (at + live) (left - rows)
        later_next q =
            let y = sofar_next g.sofar following later_joined x q in
            record { readable = g.readable; pass_few = g.pass_few; some = g.some; long = read_length x ∙ g.long; class_words_is = rw at_is group.1; sofar = y.2 }

pub ruleset seeking = (rules, seek_start, seek_found, seek_next, seek_end)

pub ruleset asked = (rules, later_start, later_fits, later_readable, later_done, later_there, later_stop, later_next)
