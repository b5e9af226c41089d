-- Laws of a partition, and of a partition of each vector, as the code asks them. Assumes nothing.
use Rattle.std.specs.Prelude.{Result, Ok, Err}
use Prim.Native.Nat.{ℕ, zero, suc, ◌+◌, ◌-◌, ◌*◌, ◌/◌, ◌%◌, ◌^◌, ◌≤◌, ◌<◌}
use native.Mathlib.Omega.{arith}
use native.Mathlib.Nat.{mod-lt, one-le-pow}
use borrow.Author.Rules.{rules}
use borrow.Author.Tests.{ne_eqb}
use mathlib.Core.List.{List, [], ◌∷◌}
use mathlib.Core.Path.{◌≡◌, refl, sym, ap, ◌∙◌}
use lib.ListN.{length, get_or, drop, set}
use lib.Seq.{sets, get_or-take, get_or-drop, get_or-set_other}
use Rattle.bits.specs.Inner.Cursors.{position}
use Rattle.book_codeword.specs.Inner.Stored.{lengths_in, dimensions_in, BookStored}
use Rattle.residue.specs.Layout.{plan_width}
use Rattle.residue.specs.Inner.Decode.{chunks}
use Rattle.residue.specs.declared.head.Head.{Head}
use Rattle.requests.specs.Run.{read, Run, run}
use Rattle.requests.specs.Inner.Parts.{joined}
use Rattle.requests.proofs.Laws.{run_bind}
use Rattle.residue_requests.specs.Requests.{planned, digit, classes_of}
use Rattle.residue_requests.specs.Inner.Unplaced.{flat_vectors, flat_partition, flat_partitions}
use Rattle.residue_requests.specs.Inner.Again.{entries_from}
use Rattle.residue_requests.proofs.AgainLaws.{numbers}
use Rattle.codeword_list.specs.declared.Progress.{Progress}
use Rattle.codeword_list.specs.declared.Stop.{Stop}
use Rattle.codeword_list.specs.Inner.ListRead.{ReadIntoList}
use Rattle.codeword_list.specs.Inner.WordsRun.{words_run}
use Rattle.codeword_list.proofs.Laws.{ReadSoFar, sofar_start, sofar_next, sofar_last, sofar_fits, joined_stop, read_nothing, read_length}
use Rattle.residue_pass.specs.Inner.Readable.{residue_by, place_in, ResidueReadable}
use Rattle.residue_pass.specs.Inner.PassRuns.{partition_run, partitions_run}

-- A PLACE OF THE PLAN
chunk_place : (c : ℕ) (l : List ℕ) (class pass : ℕ) → class < c → pass < 8 → get_or (get_or (chunks c l) class []) pass 0 ≡ get_or l (8 * class + pass) 0
unfolding chunks
chunk_place zero l class pass h g = absurd (omega arith)
chunk_place (suc c) l zero pass h g = let z : pass ≡ 8 * 0 + pass = omega arith in get_or-take 8 l pass 0 g ∙ ap (λ (i : ℕ). get_or l i 0) z
chunk_place (suc c) l (suc class) pass h g =
    let n : 8 + (8 * class + pass) ≡ 8 * suc class + pass = omega arith in
    chunk_place c (drop 8 l) class pass (omega arith) g ∙ get_or-drop 8 l (8 * class + pass) 0 ∙ ap (λ (i : ℕ). get_or l i 0) n

pub place_is : (h : Head) (plans : List ℕ) (n class pass : ℕ) → class < h.classifications → pass < 8 → planned (residue_by h plans n) pass class ≡ place_in plans n class pass
unfolding planned residue_by
place_is h plans n class pass c p =
    chunk_place h.classifications (drop (plan_width * n) plans) class pass c p ∙ get_or-drop (plan_width * n) plans (8 * class + pass) 0

module _ {books lengths codewords plans : List ℕ} {n : ℕ} {h : Head} (l : ResidueReadable books lengths codewords plans n h) {class pass : ℕ}
    (c : class < h.classifications) (p : pass < 8) {place : ℕ} (e : place ≡ place_in plans n class pass) where
  pub partition_none : place ≡ 0 → (s : List ℕ) (from : Progress) (out : List ℕ) → from.count ≤ length out
      → ReadIntoList (partition_run books lengths plans n h pass class s (position from.at)) out from.count (Ok from) out
  unfolding flat_partition run
  partition_none z s from out f = rw (place_is h plans n class pass c p ∙ sym e ∙ z) (read_nothing refl f refl)

  module _ (some : place ≡ 0 → ⊥) where
    stored : BookStored books lengths codewords (place_in plans n class pass - 1) × (1 ≤ dimensions_in books (place_in plans n class pass - 1))
    stored = l.places class pass c p (λ z. some (e ∙ z))

    pub place_low : 1 ≤ place
    place_low = omega (arith, some)

    pub book_stored : BookStored books lengths codewords (place - 1)
    book_stored = rw e stored.0

    pub book_dimensions : 1 ≤ dimensions_in books (place - 1)
    book_dimensions = rw e stored.1

    pub partition_some : (s : List ℕ) (k : ℕ) (out : List ℕ) (count : ℕ) {x : Result Progress Stop} {exit : List ℕ}
        → ReadIntoList (words_run books lengths (flat_vectors (place - 1) (h.size / dimensions_in books (place - 1))) s k) out count x exit
        → ReadIntoList (partition_run books lengths plans n h pass class s k) out count x exit
    unfolding flat_partition residue_by
    partition_some s k out count w =
        let nonzero : place_in plans n class pass ≡ 0 → ⊥ = λ z. some (e ∙ z) in
        rw (place_is h plans n class pass c p, ne_eqb (place_in plans n class pass) 0 nonzero) (rw e at w)

-- A PARTITION OF EACH VECTOR
pub get_before : (vs l : List ℕ) (i k : ℕ) → k < i → get_or (sets l i vs) k 0 ≡ get_or l k 0
get_before [] l i k h = refl
get_before (v ∷ vs) l i k h = get_before vs (set l i v) (suc i) k (omega arith) ∙ get_or-set_other l i k v 0 (λ e. omega arith)

-- the partitions of the vectors from v on, by the class words that stood in the list `entered` from place `at` on
abbrev pub across_run : List ℕ → List ℕ → List ℕ → ℕ → Head → ℕ → ℕ → List ℕ → ℕ → ℕ → List ℕ → ℕ → Run Unit
across_run books lengths plans n h pass unused entered at live s k =
    partitions_run books lengths plans n h pass (classes_of (residue_by h plans n) unused (entries_from entered at live)) s k

-- the loop's state
pub record AcrossLeft (s books lengths codewords plans : List ℕ) (n : ℕ) (h : Head) (at live unused divisor pass : ℕ) (entered : List ℕ) (from : Progress) (out : List ℕ)
    (next : Progress) (j : ℕ) : Type 0 where
  pub readable : ResidueReadable books lengths codewords plans n h
  pub pass_below : pass < 8
  pub class_words_is : at + live ≤ from.count
  pub room : from.count ≤ length entered
  pub power : divisor ≡ h.classifications ^ unused
  pub within : j ≤ live
  pub long : length out ≡ length entered
  pub sofar : ReadSoFar (across_run books lengths plans n h pass unused entered at live s (position from.at)) entered from.count
      (across_run books lengths plans n h pass unused entered (at + j) (live - j) s (position next.at)) out next.count

module _ {s books lengths codewords plans : List ℕ} {n : ℕ} {h : Head} {at live unused divisor pass : ℕ} {entered : List ℕ} {from : Progress} where
  pub across_start : ResidueReadable books lengths codewords plans n h → pass < 8 → at + live ≤ from.count → from.count ≤ length entered
      → divisor ≡ h.classifications ^ unused → AcrossLeft s books lengths codewords plans n h at live unused divisor pass entered from entered from 0
  across_start l p t r d =
      let z : at + 0 ≡ at = omega arith in
      let y : live - 0 ≡ live = omega arith in
      record { readable = l; pass_below = p; class_words_is = t; room = r; power = d; within = omega arith; long = refl; sofar = rw (z, y) (sofar_start r) }

  module _ {out : List ℕ} {next : Progress} {j : ℕ} (g : AcrossLeft s books lengths codewords plans n h at live unused divisor pass entered from out next j) where
    pub across_fits : next.count ≤ length out
    across_fits = sofar_fits g.sofar

    pub across_divisor : 1 ≤ divisor
    across_divisor = rw g.power (one-le-pow unused h.classifications g.readable.classes_low)

    one_partition : (c : ℕ) (cs : List ℕ) (k : ℕ) → partitions_run books lengths plans n h pass (c ∷ cs) s k
        ≡ joined (partition_run books lengths plans n h pass c s k) (λ _ m. partitions_run books lengths plans n h pass cs s m)
    unfolding flat_partitions
    one_partition c cs k =
        let r = residue_by h plans n in
        run_bind (read (lengths_in books lengths)) s (flat_partition (dimensions_in books) r (planned r pass c)) (λ _. flat_partitions (dimensions_in books) r pass cs) k

    pub across_done : live ≤ j → ReadIntoList (across_run books lengths plans n h pass unused entered at live s (position from.at)) entered from.count (Ok next) out
    unfolding flat_partitions classes_of entries_from run
    across_done low = let z : live - j ≡ 0 = omega arith in sofar_last (rw z at g.sofar) (read_nothing refl across_fits refl)

    module _ (more : j < live) where
      abbrev class : ℕ
      class = get_or out (at + j) 0 / 2 / divisor % h.classifications

      -- the class word is there
      pub across_word : at + j < length out
      across_word = let a = g.class_words_is in let b = g.room in let c = g.long in omega arith

      pub across_class : class < h.classifications
      across_class = mod-lt (get_or out (at + j) 0 / 2 / divisor) g.readable.classes_low

      class_is : digit (residue_by h plans n) unused (get_or entered (at + j) 0 / 2) ≡ class
      unfolding digit residue_by
      class_is =
          let t = g.class_words_is in
          let kept = get_before (numbers g.sofar.items) entered from.count (at + j) (omega arith) in
          let same : get_or out (at + j) 0 ≡ get_or entered (at + j) 0 = ap (λ (l : List ℕ). get_or l (at + j) 0) g.sofar.list ∙ kept in
          sym (rw (same, g.power) refl)

      abbrev later : List ℕ
      later = classes_of (residue_by h plans n) unused (entries_from entered (at + (j + 1)) (live - (j + 1)))

      across_rest : classes_of (residue_by h plans n) unused (entries_from entered (at + j) (live - j)) ≡ class ∷ later
      unfolding classes_of entries_from
      across_rest =
          let z : live - j ≡ suc (live - (j + 1)) = omega arith in
          let y : suc (at + j) ≡ at + (j + 1) = omega arith in
          rw (z, y, class_is)

      module _ {x : Result Progress Stop} {exit : List ℕ} (q : ReadIntoList (partition_run books lengths plans n h pass class s (position next.at)) out next.count x exit) where
        pub across_stop : {e : Stop} → x ≡ Err e
            → ReadIntoList (across_run books lengths plans n h pass unused entered at live s (position from.at)) entered from.count (Err e) exit
        across_stop e = sofar_last (rw (across_rest, one_partition) at g.sofar) (joined_stop (λ _ m. partitions_run books lengths plans n h pass later s m) q _ e)

        pub across_next : {p : Progress} → x ≡ Ok p → AcrossLeft s books lengths codewords plans n h at live unused divisor pass entered from exit p (j + 1)
        across_next e =
            let y = sofar_next (rw across_rest at g.sofar) (λ _ m. partitions_run books lengths plans n h pass later s m) (one_partition class later (position next.at)) q e in
            record {
              readable = g.readable;
              pass_below = g.pass_below;
              class_words_is = g.class_words_is;
              room = g.room;
              power = g.power;
              within = omega arith;
              long = read_length q ∙ g.long;
              sofar = y.2;
            }

pub ruleset asked = (rules, partition_none, place_low, book_stored, book_dimensions, partition_some, across_start, across_fits, across_divisor, across_word, across_class, across_done, across_stop, across_next)
