-- Laws of the later passes and of a whole residue, as the code asks them. Assumes nothing.
use Rattle.std.specs.Prelude.{Result, Ok, Err}
use Prim.Native.Nat.{ℕ, zero, suc, ◌+◌, ◌-◌, ◌≤◌, ◌<◌}
use native.Mathlib.Omega.{arith}
use borrow.Author.Rules.{rules}
use mathlib.Core.List.{List, [], ◌++◌, append_assoc}
use mathlib.Core.Option.{some}
use mathlib.Core.Path.{◌≡◌, refl, sym, ap, ◌∙◌}
use lib.ListN.{length, get_or, take, drop, length-take}
use lib.Seq.{sets-eq, drop_at}
use Rattle.bits.specs.Inner.Cursors.{position}
use Rattle.book_codeword.specs.Inner.Stored.{lengths_in, dimensions_in}
use Rattle.residue.specs.declared.head.Head.{Head}
use Rattle.requests.specs.Requests.{done}
use Rattle.requests.specs.Run.{read, Run, run}
use Rattle.requests.specs.Inner.Parts.{joined}
use Rattle.requests.proofs.Laws.{run_bind}
use Rattle.residue_requests.specs.Inner.Unplaced.{flat_partitions, flat_first_pass, flat_later_passes, flat_residue}
use Rattle.residue_requests.specs.Inner.Again.{next_class, ClassWordsBefore}
use Rattle.residue_requests.proofs.KindLaws.{Kind}
use Rattle.residue_requests.proofs.AgainLaws.{numbers, numbers_long, ListedFrom, again_is, class_words_before, again_same, class_words_same}
use Rattle.residue_requests.proofs.FirstPassLaws.{no_vectors}
use Rattle.residue_requests.proofs.PassLaws.{bookless_passes}
use Rattle.codeword_list.specs.declared.Progress.{Progress}
use Rattle.codeword_list.specs.declared.Stop.{Stop}
use Rattle.codeword_list.specs.Inner.ListRead.{ReadIntoList}
use Rattle.codeword_list.proofs.Laws.{ReadSoFar, sofar_start, sofar_next, sofar_last, sofar_fits, joined_stop, read_nothing, read_length, read_whole}
use Rattle.residue_pass.specs.Inner.Readable.{residue_by, PassReadable}
use Rattle.residue_pass.proofs.PartitionLaws.{get_before}
use Rattle.residue_pass.specs.Inner.PassRuns.{partitions_run, first_pass_run}
use Rattle.residue_decode.specs.Inner.Parts.{later_passes_run, residue_run, classes_in, LastPass}
use Rattle.residue_decode.proofs.LastLaws.{bookless}

-- THE LATER PASSES
before_further : (d live e f : ℕ) (l : List ℕ) (left unused at : ℕ) → e ≤ f → ClassWordsBefore d live e l left unused at → ClassWordsBefore d live f l left unused at
unfolding ClassWordsBefore
before_further d live e f l zero unused at h x = tt
before_further d live e f l (suc left) (suc unused) at h x = before_further d live e f l left unused at h x
before_further d live e f l (suc left) zero at h x = let y = x.0 in (omega arith, before_further d live e f l left (d - 1) (next_class l at + live) h x.1)

-- passes from `pass` on are left, of which those after `last` have no book
pub record PassesLeft (s books lengths codewords plans : List ℕ) (n : ℕ) (h : Head) (start live digits top partitions last : ℕ) (entered : List ℕ) (from : Progress) (out : List ℕ)
    (next : Progress) (pass : ℕ) : Type 0 where
  pub readable : PassReadable books lengths codewords plans n h digits top
  pub last_is : LastPass plans n h.classifications last
  pub within : (1 ≤ pass) × (pass ≤ 8)
  pub live_some : 1 ≤ live
  pub long : length out ≡ length entered
  pub class_words_is : ClassWordsBefore digits live from.count entered partitions 0 start
  pub sofar : ReadSoFar (later_passes_run books lengths plans n h 1 7 (classes_in plans n h digits live entered partitions start) s (position from.at)) entered from.count
      (later_passes_run books lengths plans n h pass (8 - pass) (classes_in plans n h digits live entered partitions start) s (position next.at))
      out next.count

module _ {s books lengths codewords plans : List ℕ} {n : ℕ} {h : Head} {start live digits top partitions last : ℕ} {entered : List ℕ} {from : Progress} where
  pub passes_start : LastPass plans n h.classifications last → PassReadable books lengths codewords plans n h digits top → 1 ≤ live
      → from.count ≤ length entered → ClassWordsBefore digits live from.count entered partitions 0 start
      → PassesLeft s books lengths codewords plans n h start live digits top partitions last entered from entered from 1
  passes_start p l o r d =
      record { readable = l; last_is = p; within = (omega arith, omega arith); live_some = o; long = refl; class_words_is = d; sofar = sofar_start r }

  module _ {out : List ℕ} {next : Progress} {pass : ℕ} (g : PassesLeft s books lengths codewords plans n h start live digits top partitions last entered from out next pass) where
    pub passes_fits : next.count ≤ length out
    passes_fits = sofar_fits g.sofar

    kept : (i : ℕ) → i < from.count → get_or out i 0 ≡ get_or entered i 0
    kept i k = ap (λ (l : List ℕ). get_or l i 0) g.sofar.list ∙ get_before (numbers g.sofar.items) entered from.count i k

    pub passes_class_words : ClassWordsBefore digits live next.count out partitions 0 start
    passes_class_words =
        let e = g.sofar.number in
        let same = class_words_same entered out from.count kept g.long digits live g.live_some partitions 0 start g.class_words_is in
        before_further digits live from.count next.count out partitions 0 start (omega arith) same

    pub passes_done : last < pass
        → ReadIntoList (later_passes_run books lengths plans n h 1 7 (classes_in plans n h digits live entered partitions start) s (position from.at)) entered from.count (Ok next) out
    unfolding run
    passes_done z =
        let most = g.within.1 in
        let classes = classes_in plans n h digits live entered partitions start in
        let nothing : flat_later_passes (dimensions_in books) (residue_by h plans n) pass (8 - pass) classes ≡ done tt =
        bookless_passes (dimensions_in books) (residue_by h plans n) pass (8 - pass) classes (λ p a b. bookless h g.last_is p (omega arith) (omega arith)) in
        sofar_last (rw nothing at g.sofar) (read_nothing refl passes_fits refl)

    pub passes_few : pass ≤ last → pass < 8
    passes_few z = let w = g.last_is.within in omega arith

    module _ (more : pass ≤ last) {r : Result Progress Stop} {exit : List ℕ}
        (x : ReadIntoList (partitions_run books lengths plans n h pass (classes_in plans n h digits live out partitions start) s (position next.at)) out next.count r exit) where
      abbrev after_pass : Unit {0} → ℕ → Run (Unit {0})
      after_pass _ m =
          later_passes_run books lengths plans n h (pass + 1) (8 - (pass + 1)) (classes_in plans n h digits live entered partitions start) s m

      passes_joined : later_passes_run books lengths plans n h pass (8 - pass) (classes_in plans n h digits live entered partitions start) s (position next.at)
          ≡ joined (partitions_run books lengths plans n h pass (classes_in plans n h digits live out partitions start) s (position next.at)) after_pass
      unfolding flat_later_passes
      passes_joined =
          let few = passes_few more in
          let z : 8 - pass ≡ suc (8 - (pass + 1)) = omega arith in
          let y : suc pass ≡ pass + 1 = omega arith in
          let classes = classes_in plans n h digits live entered partitions start in
          let e = again_same entered out from.count kept g.long digits live g.live_some (residue_by h plans n) partitions 0 [] start g.class_words_is in
          rw (z, y, e)
          (run_bind (read (lengths_in books lengths)) s (flat_partitions (dimensions_in books) (residue_by h plans n) pass classes)
          (λ _. flat_later_passes (dimensions_in books) (residue_by h plans n) (pass + 1) (8 - (pass + 1)) classes) (position next.at))

      pub passes_stop : {e : Stop} → r ≡ Err e
          → ReadIntoList (later_passes_run books lengths plans n h 1 7 (classes_in plans n h digits live entered partitions start) s (position from.at)) entered from.count (Err e) exit
      passes_stop q = sofar_last (rw passes_joined at g.sofar) (joined_stop after_pass x _ q)

      pub passes_next : {m : Progress} → r ≡ Ok m → PassesLeft s books lengths codewords plans n h start live digits top partitions last entered from exit m (pass + 1)
      passes_next q =
          let y = sofar_next g.sofar after_pass passes_joined x q in
          let few = passes_few more in
          record {
            readable = g.readable;
            last_is = g.last_is;
            within = (omega arith, omega arith);
            live_some = g.live_some;
            long = read_length x ∙ g.long;
            class_words_is = g.class_words_is;
            sofar = y.2;
          }

-- THE WHOLE RESIDUE
-- the codewords that were read last stand last in the list
listed_last : {A : Type 0} (h : Run A) (out : List ℕ) (c : ℕ) {r : Result Progress Stop} {exit : List ℕ} {m : Progress} → ReadIntoList h out c r exit → r ≡ Ok m
    → (drop c exit ≡ numbers h.items ++ drop (c + length (numbers h.items)) out) × (c + length h.items ≡ m.count)
listed_last h out c {exit = exit} {m = m} w q =
    let x = read_whole q w.ending in
    let p = numbers_long h.items in
    let l = numbers h.items in
    let f : c + length l ≤ length out = omega (arith, x.number, x.fits) in
    let t : length (take c out) ≡ c = omega (arith, length-take c out) in
    let e = sets-eq l out c f ∙ append_assoc (take c out) l (drop (c + length l) out) in
    (ap (drop c) (w.list ∙ e) ∙ drop_at (take c out) (l ++ drop (c + length l) out) c t, sym x.number)

module _ {books lengths codewords plans : List ℕ} {n : ℕ} {h : Head} {digits top : ℕ} (l : PassReadable books lengths codewords plans n h digits top) (s : List ℕ) (live partitions : ℕ)
    (from : Progress) (out : List ℕ) (room : from.count ≤ length out) where
  residue_joined : residue_run books lengths plans n h live partitions s (position from.at)
      ≡ joined (first_pass_run books lengths plans n h live partitions 0 [] s (position from.at)) (λ cs m. later_passes_run books lengths plans n h 1 7 cs s m)
  unfolding flat_residue
  residue_joined =
      run_bind (read (lengths_in books lengths)) s (flat_first_pass (dimensions_in books) (residue_by h plans n) live partitions 0 [] []) (λ cs. flat_later_passes (dimensions_in books) (residue_by h plans n) 1 7 cs) (position from.at)

  pub residue_none : live ≡ 0 → ReadIntoList (residue_run books lengths plans n h live partitions s (position from.at)) out from.count (Ok from) out
  unfolding run
  residue_none z = rw (z, no_vectors (dimensions_in books) (residue_by h plans n) partitions) (read_nothing refl room refl)

  module _ {r : Result Progress Stop} {exit : List ℕ}
      (x : ReadIntoList (first_pass_run books lengths plans n h live partitions 0 [] s (position from.at)) out from.count r exit) where
    pub residue_stop : {e : Stop} → r ≡ Err e
        → ReadIntoList (residue_run books lengths plans n h live partitions s (position from.at)) out from.count (Err e) exit
    residue_stop q = rw residue_joined (joined_stop (λ cs m. later_passes_run books lengths plans n h 1 7 cs s m) x _ q)

    module _ (more : live ≡ 0 → ⊥) {m : Progress} (q : r ≡ Ok m) where
      abbrev first : ℕ → Run (List ℕ)
      first live = first_pass_run books lengths plans n h live partitions 0 [] s (position from.at)

      digits_of : digits ≡ dimensions_in books (residue_by h plans n).classbook
      unfolding residue_by
      digits_of = l.digits_are

      -- the classes of pass 0 are in the list
      found_again : (cs : List ℕ) → (first live).value ≡ some cs
          → (cs ≡ classes_in plans n h digits live exit partitions from.count) × ClassWordsBefore digits live m.count exit partitions 0 from.count
      found_again cs e = go live more e (listed_last (first live) out from.count x q)
        where
          go : (live : ℕ) → (live ≡ 0 → ⊥) → (first live).value ≡ some cs
              → (drop from.count exit ≡ numbers (first live).items ++ drop (from.count + length (numbers (first live).items)) out)
              × (from.count + length (first live).items ≡ m.count)
              → (cs ≡ classes_in plans n h digits live exit partitions from.count) × ClassWordsBefore digits live m.count exit partitions 0 from.count
          go zero f e d = absurd (f refl)
          go (suc live) f e d =
              let tail = drop (from.count + length (numbers (first (suc live)).items)) out in
              let reads = read (lengths_in books lengths) in
              let y : ListedFrom reads (dimensions_in books) (residue_by h plans n) live s exit tail m.count (first (suc live)) cs from.count =
              record { came = e; vectors = []; kind = unfold Kind in tt; list = d.0; ends = omega (arith, d.1) } in
              rw digits_of (
                again_is reads (dimensions_in books) (residue_by h plans n) live s exit tail m.count partitions 0 [] [] (position from.at) y,
                class_words_before reads (dimensions_in books) (residue_by h plans n) live s exit tail m.count partitions 0 [] [] (position from.at) y,
              )

      pub residue_class_words : ClassWordsBefore digits live m.count exit partitions 0 from.count
      residue_class_words = let y = read_whole q x.ending in (found_again y.value y.came).1

      pub residue_then : {r₂ : Result Progress Stop} {exit₂ : List ℕ}
          → ReadIntoList (later_passes_run books lengths plans n h 1 7 (classes_in plans n h digits live exit partitions from.count) s (position m.at)) exit m.count r₂ exit₂
          → ReadIntoList (residue_run books lengths plans n h live partitions s (position from.at)) out from.count r₂ exit₂
      residue_then w =
          let y = sofar_next (sofar_start room) (λ cs m. later_passes_run books lengths plans n h 1 7 cs s m) residue_joined x q in
          sofar_last y.2 (rw (found_again y.0 y.1).0 w)

pub ruleset passed = (rules, passes_start, passes_fits, passes_class_words, passes_few, passes_done, passes_stop, passes_next)
