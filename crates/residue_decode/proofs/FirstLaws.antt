-- Laws of pass 0, chunk by chunk, as the code asks them. Assumes nothing.
use Rattle.std.specs.Prelude.{Result, Ok, Err}
use Prim.Native.Nat.{ℕ, ◌+◌, ◌-◌, ◌*◌, ◌/◌, ◌≤◌, ◌<◌}
use native.Mathlib.Omega.{arith}
use borrow.Author.Rules.{rules}
use mathlib.Core.List.{List, [], ◌++◌, append-nil}
use mathlib.Core.Logic.{inl, inr, ⊎_elim}
use mathlib.Core.Path.{◌≡◌, refl, sym, ap, ◌∙◌}
use lib.ListN.{length}
use Rattle.bits.specs.Inner.Cursors.{position}
use Rattle.book_codeword.specs.Inner.Stored.{lengths_in, dimensions_in}
use Rattle.residue.specs.Content.{Residue}
use Rattle.residue.specs.declared.head.Head.{Head}
use Rattle.requests.specs.Requests.{Requests, bind}
use Rattle.requests.specs.Run.{read, Run, run}
use Rattle.requests.specs.Inner.Parts.{joined}
use Rattle.requests.proofs.Laws.{run_bind}
use Rattle.residue_requests.specs.Inner.Unplaced.{flat_first_pass}
use Rattle.residue_requests.proofs.FirstPassLaws.{classes_before, whole_words}
use Rattle.codeword_list.specs.declared.Progress.{Progress}
use Rattle.codeword_list.specs.declared.Stop.{Stop}
use Rattle.codeword_list.specs.Inner.ListRead.{ReadIntoList}
use Rattle.codeword_list.specs.Inner.WordsRun.{words_run}
use Rattle.codeword_list.proofs.Laws.{ReadSoFar, sofar_start, sofar_next, sofar_last, sofar_fits, joined_stop, read_nothing, read_length}
use Rattle.residue_pass.specs.Inner.Readable.{residue_by, PassReadable}
use Rattle.residue_pass.specs.Inner.PassRuns.{first_pass_run}
use Rattle.residue_decode.specs.Inner.Parts.{Chunk}

-- A CHUNK
pub chunk_all : {digits left : ℕ} → 0 < left → Chunk digits left left
chunk_all h = record { some = h; low = omega arith; whole = inl refl }

pub chunk_part : {digits left : ℕ} → 1 ≤ digits → digits < left / 16 → Chunk digits left (16 * digits)
chunk_part h g = record { some = omega arith; low = omega arith; whole = inr refl }

-- it is read without the classes that are known, and then the rest
chunk_split : (dimensions_of : ℕ → ℕ) (r : Residue) (live left c : ℕ) (acc : List ℕ) → 1 ≤ dimensions_of r.classbook → Chunk (dimensions_of r.classbook) left c
    → flat_first_pass dimensions_of r live left 0 [] acc
    ≡ bind (flat_first_pass dimensions_of r live c 0 [] []) (λ cs. flat_first_pass dimensions_of r live (left - c) 0 [] (acc ++ cs))
unfolding flat_first_pass
chunk_split dimensions_of r live left c acc h x = ⊎_elim all part x.whole
  where
    all : c ≡ left → flat_first_pass dimensions_of r live left 0 [] acc
        ≡ bind (flat_first_pass dimensions_of r live c 0 [] []) (λ cs. flat_first_pass dimensions_of r live (left - c) 0 [] (acc ++ cs))
    all e =
        let z : left - c ≡ 0 = omega arith in
        rw (z, e) (ap (flat_first_pass dimensions_of r live left 0 []) (sym (append-nil acc)) ∙ classes_before dimensions_of r live left 0 [] acc [])

    part : c ≡ 16 * dimensions_of r.classbook → flat_first_pass dimensions_of r live left 0 [] acc
        ≡ bind (flat_first_pass dimensions_of r live c 0 [] []) (λ cs. flat_first_pass dimensions_of r live (left - c) 0 [] (acc ++ cs))
    part e =
        let low = x.low in
        let d = dimensions_of r.classbook in
        let y : c ≡ d * 16 = omega arith in
        let z : left ≡ d * 16 + (left - c) = omega arith in
        rw y (ap (λ (n : ℕ). flat_first_pass dimensions_of r live n 0 [] acc) (rw y at z) ∙ whole_words dimensions_of r live 16 (left - d * 16) acc h)

-- PASS 0, of which `left` partitions are left
pub record FirstLeft (s books lengths codewords plans : List ℕ) (n : ℕ) (h : Head) (live digits top partitions : ℕ) (entered : List ℕ) (from : Progress) (out : List ℕ) (next : Progress)
    (left : ℕ) : Type 0 where
  pub readable : PassReadable books lengths codewords plans n h digits top
  pub long : length out ≡ length entered
  pub acc : List ℕ
  pub sofar : ReadSoFar (first_pass_run books lengths plans n h live partitions 0 [] s (position from.at)) entered from.count
      (words_run books lengths (flat_first_pass (dimensions_in books) (residue_by h plans n) live left 0 [] acc) s (position next.at)) out next.count

module _ {s books lengths codewords plans : List ℕ} {n : ℕ} {h : Head} {live digits top partitions : ℕ} {entered : List ℕ} {from : Progress} where
  pub first_start : PassReadable books lengths codewords plans n h digits top → from.count ≤ length entered
      → FirstLeft s books lengths codewords plans n h live digits top partitions entered from entered from partitions
  first_start l r = record { readable = l; long = refl; acc = []; sofar = sofar_start r }

  module _ {out : List ℕ} {next : Progress} {left : ℕ} (g : FirstLeft s books lengths codewords plans n h live digits top partitions entered from out next left) where
    pub first_fits : next.count ≤ length out
    first_fits = sofar_fits g.sofar

    pub first_digits : 1 ≤ digits
    first_digits = let x = g.readable.digits_are in let y = g.readable.readable.class_dimensions in omega arith

    pub first_done : left ≤ 0 → ReadIntoList (first_pass_run books lengths plans n h live partitions 0 [] s (position from.at)) entered from.count (Ok next) out
    unfolding flat_first_pass run
    first_done z = let y : left ≡ 0 = omega arith in sofar_last (rw y at g.sofar) (read_nothing refl first_fits refl)

    module _ {c : ℕ} (x : Chunk digits left c) {r : Result Progress Stop} {exit : List ℕ}
        (w : ReadIntoList (first_pass_run books lengths plans n h live c 0 [] s (position next.at)) out next.count r exit) where
      abbrev after_chunk : List ℕ → ℕ → Run (List ℕ)
      after_chunk cs m = words_run books lengths (flat_first_pass (dimensions_in books) (residue_by h plans n) live (left - c) 0 [] (g.acc ++ cs)) s m

      chunk_joined : words_run books lengths (flat_first_pass (dimensions_in books) (residue_by h plans n) live left 0 [] g.acc) s (position next.at)
          ≡ joined (first_pass_run books lengths plans n h live c 0 [] s (position next.at)) after_chunk
      unfolding residue_by
      chunk_joined =
          let dimensions = g.readable.readable.class_dimensions in
          let y = chunk_split (dimensions_in books) (residue_by h plans n) live left c g.acc dimensions (rw g.readable.digits_are at x) in
          ap (λ (t : Requests (List ℕ)). words_run books lengths t s (position next.at)) y
          ∙ run_bind (read (lengths_in books lengths)) s (flat_first_pass (dimensions_in books) (residue_by h plans n) live c 0 [] []) (λ cs. flat_first_pass (dimensions_in books) (residue_by h plans n) live (left - c) 0 [] (g.acc ++ cs)) (position next.at)

      pub chunk_stop : {e : Stop} → r ≡ Err e
          → ReadIntoList (first_pass_run books lengths plans n h live partitions 0 [] s (position from.at)) entered from.count (Err e) exit
      chunk_stop q = sofar_last (rw chunk_joined at g.sofar) (joined_stop after_chunk w _ q)

      pub chunk_next : {m : Progress} → r ≡ Ok m → FirstLeft s books lengths codewords plans n h live digits top partitions entered from exit m (left - c)
      chunk_next q =
          let y = sofar_next g.sofar after_chunk chunk_joined w q in
          record { readable = g.readable; long = read_length w ∙ g.long; acc = g.acc ++ y.0; sofar = y.2 }

pub ruleset asked = (rules, chunk_all, chunk_part, first_start, first_fits, first_digits, first_done, chunk_stop, chunk_next)
