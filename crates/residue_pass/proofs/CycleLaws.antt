-- Laws of class words and their groups of partitions, as the code asks them. Assumes nothing.
use Rattle.std.specs.Prelude.{Result, Ok, Err}
use Prim.Native.Nat.{ℕ, zero, suc, ◌+◌, ◌-◌, ◌≤◌, ◌<◌, min}
use native.Mathlib.Omega.{arith}
use borrow.Author.Rules.{rules}
use mathlib.Core.Bool.{false}
use mathlib.Core.List.{List, [], ◌∷◌, ◌++◌, append-nil, append_assoc}
use mathlib.Core.Option.{some}
use mathlib.Core.Path.{◌≡◌, refl, sym, ap, ◌∙◌}
use lib.ListN.{length, take, drop, length-take}
use lib.Seq.{sets-eq, drop_at}
use Rattle.bits.specs.Inner.Cursors.{position}
use Rattle.book_codeword.specs.Inner.Stored.{lengths_in, dimensions_in, BookStored}
use Rattle.residue.specs.Content.{Residue}
use Rattle.residue.specs.declared.head.Head.{Head}
use Rattle.requests.specs.Requests.{done, request, bind}
use Rattle.requests.specs.Run.{read, Run, run}
use Rattle.requests.specs.Inner.Parts.{joined}
use Rattle.requests.proofs.Laws.{bind_same, bind-bind, run_bind}
use Rattle.residue_requests.specs.Requests.{classes_of}
use Rattle.residue_requests.specs.Inner.Unplaced.{flat_class_words, flat_partitions, flat_first_pass}
use Rattle.residue_requests.specs.Inner.Again.{entries_from}
use Rattle.residue_requests.proofs.KindLaws.{classes_read}
use Rattle.residue_requests.proofs.AgainLaws.{numbers, numbers_long, entries_are}
use Rattle.residue_requests.proofs.PassLaws.{partitions_append}
use Rattle.residue_requests.proofs.FirstPassLaws.{classes_before}
use Rattle.codeword_list.specs.declared.Progress.{Progress}
use Rattle.codeword_list.specs.declared.Stop.{Stop}
use Rattle.codeword_list.specs.Inner.ListRead.{ReadIntoList}
use Rattle.codeword_list.specs.Inner.WordsRun.{words_run, one_word}
use Rattle.codeword_list.proofs.Laws.{ReadSoFar, sofar_start, sofar_next, sofar_last, sofar_fits, joined_stop, read_nothing, read_length, read_whole, Alike, read_alike, alike_mapped}
use Rattle.residue_pass.specs.Inner.Readable.{residue_by, group_classes, PassReadable}
use Rattle.residue_pass.specs.Inner.PassRuns.{partitions_run, first_pass_run}

-- A RUN OF CLASS WORDS
abbrev pub class_words_run : List ℕ → List ℕ → ℕ → ℕ → List ℕ → List ℕ → ℕ → Run (List ℕ)
class_words_run books lengths book n es s k = words_run books lengths (flat_class_words book n es) s k

one_more : (books lengths : List ℕ) (book n : ℕ) (es s : List ℕ) (k : ℕ)
    → class_words_run books lengths book (suc n) es s k ≡ joined (words_run books lengths (one_word book false) s k) (λ e m. class_words_run books lengths book n (es ++ (e ∷ [])) s m)
unfolding flat_class_words request bind
one_more books lengths book n es s k = run_bind (read (lengths_in books lengths)) s (one_word book false) (λ e. flat_class_words book n (es ++ (e ∷ []))) k

-- the loop's state; `es` are the entries of the class words that were read
pub record ClassWordsLeft (s books lengths codewords : List ℕ) (book live : ℕ) (entered : List ℕ) (from : Progress) (out : List ℕ) (next : Progress) (i : ℕ) : Type 0 where
  pub stored : BookStored books lengths codewords book
  pub long : length out ≡ length entered
  pub es : List ℕ
  pub sofar : ReadSoFar (class_words_run books lengths book live [] s (position from.at)) entered from.count
      (class_words_run books lengths book (live - i) es s (position next.at)) out next.count

module _ {s books lengths codewords : List ℕ} {book live : ℕ} {entered : List ℕ} {from : Progress} where
  pub words_start : BookStored books lengths codewords book → from.count ≤ length entered → ClassWordsLeft s books lengths codewords book live entered from entered from 0
  words_start l r = let z : live - 0 ≡ live = omega arith in record { stored = l; long = refl; es = []; sofar = rw z (sofar_start r) }

  module _ {out : List ℕ} {next : Progress} {i : ℕ} (g : ClassWordsLeft s books lengths codewords book live entered from out next i) where
    pub words_fits : next.count ≤ length out
    words_fits = sofar_fits g.sofar

    pub words_done : live ≤ i → ReadIntoList (class_words_run books lengths book live [] s (position from.at)) entered from.count (Ok next) out
    unfolding flat_class_words run
    words_done z = let y : live - i ≡ 0 = omega arith in sofar_last (rw y at g.sofar) (read_nothing refl words_fits refl)

    module _ (more : i < live) {x : Result Progress Stop} {exit : List ℕ}
        (q : ReadIntoList (words_run books lengths (one_word book false) s (position next.at)) out next.count x exit) where
      abbrev later : ℕ → ℕ → Run (List ℕ)
      later e m = class_words_run books lengths book (live - (i + 1)) (g.es ++ (e ∷ [])) s m

      words_joined : class_words_run books lengths book (live - i) g.es s (position next.at) ≡ joined (words_run books lengths (one_word book false) s (position next.at)) later
      words_joined =
          let z : live - i ≡ suc (live - (i + 1)) = omega arith in
          ap (λ (n : ℕ). class_words_run books lengths book n g.es s (position next.at)) z ∙ one_more books lengths book (live - (i + 1)) g.es s (position next.at)

      pub words_stop : {e : Stop} → x ≡ Err e → ReadIntoList (class_words_run books lengths book live [] s (position from.at)) entered from.count (Err e) exit
      words_stop e = sofar_last (rw words_joined at g.sofar) (joined_stop later q _ e)

      pub words_next : {p : Progress} → x ≡ Ok p → ClassWordsLeft s books lengths codewords book live entered from exit p (i + 1)
      words_next e =
          let y = sofar_next g.sofar later words_joined q e in
          record { stored = g.stored; long = read_length q ∙ g.long; es = g.es ++ (y.0 ∷ []); sofar = y.2 }

-- PASS 0, as trees
module _ (dimensions_of : ℕ → ℕ) (r : Residue) (live : ℕ) where
  -- class words, and then their group
  group_is : (left d : ℕ) (words acc : List ℕ) → 1 ≤ d
      → bind (flat_partitions dimensions_of r 0 (classes_of r (d - 1) words)) (λ _. flat_first_pass dimensions_of r live left (d - 1) words (acc ++ classes_of r (d - 1) words))
      ≡ flat_first_pass dimensions_of r live (suc left) d words acc
  unfolding flat_first_pass
  group_is left zero words acc h = absurd (omega arith)
  group_is left (suc d) words acc h = let z : suc d - 1 ≡ d = omega arith in rw z refl

  first_words : (left : ℕ) (es acc : List ℕ) → 1 ≤ dimensions_of r.classbook
      → flat_first_pass dimensions_of r live (suc left) 0 es acc
      ≡ bind (flat_class_words r.classbook live []) (λ words. flat_first_pass dimensions_of r live (suc left) (dimensions_of r.classbook) words acc)
  unfolding flat_first_pass
  first_words left es acc h =
      bind_same (flat_class_words r.classbook live []) _ _ (λ words. group_is left (dimensions_of r.classbook) words acc h)

  -- a group, and then what follows it
  first_group : (rows left unused : ℕ) (es acc : List ℕ) → rows ≤ left → rows ≤ unused
      → flat_first_pass dimensions_of r live left unused es acc
      ≡ bind (flat_partitions dimensions_of r 0 (group_classes r unused es rows)) (λ _. flat_first_pass dimensions_of r live (left - rows) (unused - rows) es (acc ++ group_classes r unused es rows))
  unfolding flat_first_pass group_classes flat_partitions bind
  first_group zero left unused es acc h g = let y : left - 0 ≡ left = omega arith in let z : unused - 0 ≡ unused = omega arith in rw (y, z, append-nil acc) refl
  first_group (suc rows) zero unused es acc h g = absurd (omega arith)
  first_group (suc rows) (suc left) zero es acc h g = absurd (omega arith)
  first_group (suc rows) (suc left) (suc unused) es acc h g =
      let cs = classes_of r unused es in
      let gs = group_classes r unused es rows in
      let first = flat_partitions dimensions_of r 0 cs in
      let later = flat_partitions dimensions_of r 0 gs in
      let y : suc left - suc rows ≡ left - rows = omega arith in
      let z : suc unused - suc rows ≡ unused - rows = omega arith in
      let end = flat_first_pass dimensions_of r live (left - rows) (unused - rows) es ((acc ++ cs) ++ gs) in
      bind_same first (λ _. flat_first_pass dimensions_of r live left unused es (acc ++ cs)) (λ _. bind later (λ _. end))
      (λ _. first_group rows left unused es (acc ++ cs) (omega arith) (omega arith))
      ∙ sym (bind-bind first (λ _. later) (λ _. end))
      ∙ rw (← partitions_append dimensions_of r 0 cs gs, y, z, append_assoc acc cs gs) refl

-- whatever classes are known beforehand, the same codewords are read
first_alike : (lengths_of : ℕ → List ℕ) (s : List ℕ) (dimensions_of : ℕ → ℕ) (r : Residue) (live left unused : ℕ) (es acc : List ℕ) (k : ℕ)
    → Alike (run (read lengths_of) (flat_first_pass dimensions_of r live left unused es []) s k) (run (read lengths_of) (flat_first_pass dimensions_of r live left unused es acc) s k)
first_alike lengths_of s dimensions_of r live left unused es acc k =
    let first = flat_first_pass dimensions_of r live left unused es [] in
    let e : flat_first_pass dimensions_of r live left unused es acc ≡ bind first (λ cs. done (acc ++ cs)) =
    ap (flat_first_pass dimensions_of r live left unused es) (sym (append-nil acc)) ∙ classes_before dimensions_of r live left unused es acc [] in
    rw e (alike_mapped (read lengths_of) s first (λ cs. acc ++ cs) k)

-- the class words that were read last stand last in the list
words_listed : (books lengths s : List ℕ) (book live k : ℕ) (out : List ℕ) (c : ℕ) {x : Result Progress Stop} {exit : List ℕ} → ReadIntoList (class_words_run books lengths book live [] s k) out c x exit
    → {p : Progress} → x ≡ Ok p → (ws : List ℕ) → (class_words_run books lengths book live [] s k).value ≡ some ws
    → (p.count ≡ c + live) × (ws ≡ entries_from exit (p.count - live) live)
words_listed books lengths s book live k out c {x} {exit} w {p} q ws e =
    let items = (class_words_run books lengths book live [] s k).items in
    let whole = read_whole q w.ending in
    let y = classes_read (read (lengths_in books lengths)) s book live [] k e in
    let l = numbers_long items in
    let n : p.count ≡ c + live = omega (arith, whole.number, y.number) in
    let f : c + length (numbers items) ≤ length out = omega (arith, whole.number, whole.fits) in
    let low : c ≤ length out = omega arith in
    let t : length (take c out) ≡ c = omega (arith, length-take c out) in
    let tail = drop (c + length (numbers items)) out in
    let list : exit ≡ take c out ++ (numbers items ++ tail) = w.list ∙ sets-eq (numbers items) out c f ∙ append_assoc (take c out) (numbers items) tail in
    let d : drop c exit ≡ numbers items ++ tail = ap (drop c) list ∙ drop_at (take c out) (numbers items ++ tail) c t in
    let z : p.count - live ≡ c = omega arith in
    (n, rw z (y.words_are ∙ sym (entries_are items y.kind exit c tail d) ∙ ap (entries_from exit c) y.number))

pub words_counted : (books lengths s : List ℕ) (book live k : ℕ) (out : List ℕ) (c : ℕ) {x : Result Progress Stop} {exit : List ℕ} {p : Progress}
    → ReadIntoList (class_words_run books lengths book live [] s k) out c x exit → x ≡ Ok p → live ≤ p.count
words_counted books lengths s book live k out c w q =
    let y = read_whole q w.ending in
    let z = (words_listed books lengths s book live k out c w q y.value y.came).0 in
    omega arith

-- THE CYCLE, as the code asks it
module _ {books lengths codewords plans : List ℕ} {n : ℕ} {h : Head} {digits top : ℕ} (l : PassReadable books lengths codewords plans n h digits top) where
  pub class_book : BookStored books lengths codewords h.classbook
  class_book = l.readable.class_book

  module _ (s : List ℕ) (live left : ℕ) (from : Progress) (out : List ℕ) (room : from.count ≤ length out) where
    pub class_none : left ≡ 0 → ReadIntoList (first_pass_run books lengths plans n h live left 0 [] s (position from.at)) out from.count (Ok from) out
    unfolding flat_first_pass run
    class_none z = rw z (read_nothing refl room refl)

    module _ (more : left ≡ 0 → ⊥) {x : Result Progress Stop} {exit : List ℕ}
        (w : ReadIntoList (class_words_run books lengths h.classbook live [] s (position from.at)) out from.count x exit) where
      abbrev groups : List ℕ → ℕ → Run (List ℕ)
      groups ws m = first_pass_run books lengths plans n h live left (dimensions_in books h.classbook) ws s m

      class_joined : first_pass_run books lengths plans n h live left 0 [] s (position from.at) ≡ joined (class_words_run books lengths h.classbook live [] s (position from.at)) groups
      unfolding residue_by
      class_joined =
          let r = residue_by h plans n in
          let z : left ≡ suc (left - 1) = omega (arith, more) in
          let e : flat_first_pass (dimensions_in books) r live left 0 [] []
          ≡ bind (flat_class_words h.classbook live []) (λ ws. flat_first_pass (dimensions_in books) r live left (dimensions_in books h.classbook) ws []) =
          rw z (first_words (dimensions_in books) r live (left - 1) [] [] l.readable.class_dimensions) in
          rw e (run_bind (read (lengths_in books lengths)) s (flat_class_words h.classbook live []) _ (position from.at))

      pub class_stop : {e : Stop} → x ≡ Err e → ReadIntoList (first_pass_run books lengths plans n h live left 0 [] s (position from.at)) out from.count (Err e) exit
      class_stop q = rw class_joined (joined_stop groups w _ q)

      pub class_then : {p : Progress} → x ≡ Ok p → {x₂ : Result Progress Stop} {exit₂ : List ℕ}
          → ReadIntoList (first_pass_run books lengths plans n h live left digits (entries_from exit (p.count - live) live) s (position p.at)) exit p.count x₂ exit₂
          → ReadIntoList (first_pass_run books lengths plans n h live left 0 [] s (position from.at)) out from.count x₂ exit₂
      class_then q v =
          let y = sofar_next (sofar_start room) groups class_joined w q in
          let z = (words_listed books lengths s h.classbook live (position from.at) out from.count w q y.0 y.1).1 in
          sofar_last y.2 (rw (← l.digits_are, z) v)

    -- a group
    module _ (rows : ℕ) (e : rows ≡ min digits left) (es : List ℕ) {x : Result Progress Stop} {exit : List ℕ}
        (w : ReadIntoList (partitions_run books lengths plans n h 0 (group_classes (residue_by h plans n) digits es rows) s (position from.at)) out from.count x exit) where
      abbrev following : Unit {0} → ℕ → Run (List ℕ)
      following _ m =
          words_run books lengths
          (flat_first_pass (dimensions_in books) (residue_by h plans n) live (left - rows) (digits - rows) es ([] ++ group_classes (residue_by h plans n) digits es rows)) s m

      group_joined : first_pass_run books lengths plans n h live left digits es s (position from.at)
          ≡ joined (partitions_run books lengths plans n h 0 (group_classes (residue_by h plans n) digits es rows) s (position from.at)) following
      group_joined =
          let r = residue_by h plans n in
          rw (first_group (dimensions_in books) r live rows left digits es [] (omega arith) (omega arith))
          (run_bind (read (lengths_in books lengths)) s (flat_partitions (dimensions_in books) r 0 (group_classes r digits es rows)) _ (position from.at))

      pub group_stop : {e : Stop} → x ≡ Err e → ReadIntoList (first_pass_run books lengths plans n h live left digits es s (position from.at)) out from.count (Err e) exit
      group_stop q = rw group_joined (joined_stop following w _ q)

      -- past the last digit or the last partition the class words that were used do not matter
      ends_alike : (left' digits' : ℕ) → min left' digits' ≡ 0 → (acc : List ℕ) (k : ℕ)
          → Alike (first_pass_run books lengths plans n h live left' 0 [] s k) (words_run books lengths (flat_first_pass (dimensions_in books) (residue_by h plans n) live left' digits' es acc) s k)
      unfolding flat_first_pass run
      ends_alike zero digits' z acc k = record { numbers_are = refl; position_is = refl; came = refl }
      ends_alike (suc left') zero z acc k = first_alike (lengths_in books lengths) s (dimensions_in books) (residue_by h plans n) live (suc left') 0 [] acc k
      ends_alike (suc left') (suc digits') z acc k = absurd (omega arith)

      pub group_then : {p : Progress} → x ≡ Ok p → {x₂ : Result Progress Stop} {exit₂ : List ℕ}
          → ReadIntoList (first_pass_run books lengths plans n h live (left - rows) 0 [] s (position p.at)) exit p.count x₂ exit₂
          → ReadIntoList (first_pass_run books lengths plans n h live left digits es s (position from.at)) out from.count x₂ exit₂
      group_then {p} q v =
          let y = sofar_next (sofar_start room) following group_joined w q in
          sofar_last y.2 (read_alike (ends_alike (left - rows) (digits - rows) (omega arith) ([] ++ group_classes (residue_by h plans n) digits es rows) (position p.at)) v)

pub ruleset looped = (rules, words_start, words_fits, words_done, words_stop, words_next)

pub ruleset asked = (rules, class_book, class_none, class_stop, group_stop)
