-- Laws of one codeword and of a run of them, as the code asks them. Assumes nothing.
use Rattle.std.specs.Prelude.{Result, Ok, Err}
use Prim.Native.Nat.{ℕ, zero, suc, ◌+◌, ◌-◌, ◌*◌, ◌/◌, ◌≤◌, ◌<◌}
use native.Mathlib.Nat.{div-eq_of_lt, div-eq-sub-div}
use native.Mathlib.Omega.{arith}
use borrow.Author.Rules.{rules}
use borrow.Author.Tests.{le-leb, lt-leb}
use mathlib.Core.Bool.{Bool, true, false}
use mathlib.Core.List.{List, [], ◌∷◌}
use mathlib.Core.Option.{some, none}
use mathlib.Core.Path.{◌≡◌, refl, sym, ap, ◌∙◌}
use lib.ListN.{length, set}
use lib.Seq.{set_out}
use Rattle.reading.specs.Least.{one}
use Rattle.reading.specs.Outcome.{Outcome, ok, bad}
use Rattle.bits.specs.declared.Cursor.{Cursor}
use Rattle.bits.specs.declared.refusal.Refusal.{Refusal}
use Rattle.bits.specs.Inner.Cursors.{position, outcome}
use Rattle.bits.proofs.Answers.{value_is, refused_is}
use Rattle.book.specs.Layout.{dimensions_at}
use Rattle.codeword.specs.Codeword.{codeword}
use Rattle.codeword.specs.Inner.Book.{Codebook}
use Rattle.codeword.specs.Inner.Claims.{Settled}
use Rattle.book_codeword.specs.Inner.Stored.{entries_of, lengths_in, dimensions_in, BookStored}
use Rattle.requests.specs.Requests.{vector, word, request, bind}
use Rattle.requests.specs.Run.{read, item, Run, ended, continued, run}
use Rattle.requests.specs.Inner.Parts.{joined}
use Rattle.requests.proofs.Laws.{run_bind}
use Rattle.residue_requests.specs.Listed.{listed}
use Rattle.residue_requests.specs.Inner.Unplaced.{nowhere, flat_vectors}
use Rattle.codeword_list.specs.declared.Progress.{Progress}
use Rattle.codeword_list.specs.declared.Stop.{Stop}
use Rattle.codeword_list.specs.declared.Stop.TheVariants.{Cut, Full}
use Rattle.codeword_list.specs.Inner.ListRead.{ending_of, ending_in, ReadIntoList}
use Rattle.codeword_list.specs.Inner.WordsRun.{role_by, one_word, words_run, vectors_run}
use Rattle.codeword_list.proofs.Laws.{ReadSoFar, sofar_start, sofar_fits, sofar_next, sofar_last, joined_cut, joined_full, read_nothing, Alike, read_alike}

-- how a codeword stands in the list
pub marked : (e : ℕ) (names-vector : Bool) → names-vector ≡ true → 2 * e + 1 ≡ 2 * e + one names-vector
marked e names-vector q = rw q

pub unmarked : (e : ℕ) (names-vector : Bool) → names-vector ≡ false → 2 * e ≡ 2 * e + one names-vector
unmarked e names-vector q = rw q (omega arith)

number_is : (book e : ℕ) (names-vector : Bool) → 2 * e + one names-vector ≡ listed (item (word book (role_by names-vector)) e)
unfolding listed
number_is book e true = refl
number_is book e false = refl

-- ONE CODEWORD, of a book with the lengths ls
abbrev one_run : (ℕ → List ℕ) → List ℕ → ℕ → Bool → Cursor → Run ℕ
one_run lengths_of s book names-vector at = run (read lengths_of) (one_word book names-vector) s (position at)

module _ (lengths_of : ℕ → List ℕ) (ls s : List ℕ) (book : ℕ) (same : lengths_of book ≡ ls) (names-vector : Bool) (at : Cursor) {f : Result (ℕ × Cursor) Refusal}
    (p : outcome f ≡ codeword ls s (position at)) where
  word_is : {e : ℕ} {next : Cursor} → f ≡ Ok (e, next)
      → one_run lengths_of s book names-vector at ≡ ended (item (word book (role_by names-vector)) e ∷ []) (position next) (some e)
  unfolding run read request
  word_is q = rw (same, value_is p q)

  word_cut_is : {z : Refusal} → f ≡ Err z → one_run lengths_of s book names-vector at ≡ ended [] (position at) none
  unfolding run read request
  word_cut_is q = rw (same, refused_is p q)

  module _ (out : List ℕ) (c : ℕ) where
    cut_one : c ≤ length out → {z : Refusal} → f ≡ Err z → ReadIntoList (one_run lengths_of s book names-vector at) out c (Err (Cut (record { at = at; count = c }))) out
    unfolding ending_in ending_of
    cut_one low q = let z : c + 0 ≡ c = omega arith in rw (word_cut_is q) (record { ending = rw (z, le-leb c (length out) low); list = refl })

    module _ {e : ℕ} {next : Cursor} (q : f ≡ Ok (e, next)) where
      full_one : length out < c + 1 → ReadIntoList (one_run lengths_of s book names-vector at) out c (Err Full) out
      unfolding ending_in ending_of
      full_one h =
          let past : length out ≤ c = omega arith in
          rw (word_is q) (record { ending = rw (lt-leb (c + 1) (length out) h); list = sym (set_out out c (listed (item (word book (role_by names-vector)) e)) past) })

      whole_one : c + 1 ≤ length out → {v : ℕ} → v ≡ 2 * e + one names-vector
          → ReadIntoList (one_run lengths_of s book names-vector at) out c (Ok (record { at = next; count = c + 1 })) (set out c v)
      unfolding ending_in ending_of
      whole_one h g = rw (word_is q) (record { ending = rw (le-leb (c + 1) (length out) h); list = ap (set out c) (g ∙ number_is book e names-vector) })

-- an entry that was read is small enough to be doubled
entry_small : (ls codewords s : List ℕ) (at : Cursor) {f : Result (ℕ × Cursor) Refusal} → Codebook ls codewords → outcome f ≡ codeword ls s (position at) → Settled ls
    → {e : ℕ} {next : Cursor} → f ≡ Ok (e, next) → e ≤ 16777216
entry_small ls codewords s at b p t {e} {next} q =
    let u = (t.used s (position at) e (position next) (value_is p q)).0 in
    let n = b.entries in
    omega arith

-- as `read_word` asks it, where the book lies in the tables
module _ {books lengths codewords : List ℕ} {book : ℕ} (b : BookStored books lengths codewords book) (s : List ℕ) (names-vector : Bool) (from : Progress) {f : Result (ℕ × Cursor) Refusal}
    (p : outcome f ≡ codeword (entries_of books book lengths) s (position from.at)) (out : List ℕ) where
  pub word_small : Settled (entries_of books book lengths) → {e : ℕ} {next : Cursor} → f ≡ Ok (e, next) → e ≤ 16777216
  word_small t q = entry_small (entries_of books book lengths) (entries_of books book codewords) s from.at b.book p t q

  pub word_cut : from.count ≤ length out → {z : Refusal} → f ≡ Err z → ReadIntoList (words_run books lengths (one_word book names-vector) s (position from.at)) out from.count (Err (Cut from)) out
  unfolding lengths_in
  word_cut low q = cut_one (lengths_in books lengths) (entries_of books book lengths) s book refl names-vector from.at p out from.count low q

  module _ {e : ℕ} {next : Cursor} (q : f ≡ Ok (e, next)) where
    pub word_full : length out < from.count + 1 → ReadIntoList (words_run books lengths (one_word book names-vector) s (position from.at)) out from.count (Err Full) out
    unfolding lengths_in
    word_full h = full_one (lengths_in books lengths) (entries_of books book lengths) s book refl names-vector from.at p out from.count q h

    pub word_whole : from.count + 1 ≤ length out → {v : ℕ} → v ≡ 2 * e + one names-vector
        → ReadIntoList (words_run books lengths (one_word book names-vector) s (position from.at)) out from.count (Ok (record { at = next; count = from.count + 1 })) (set out from.count v)
    unfolding lengths_in
    word_whole h g = whole_one (lengths_in books lengths) (entries_of books book lengths) s book refl names-vector from.at p out from.count q h g

-- A RUN OF THEM, of the book with the lengths ls
more_vectors : (lengths_of : ℕ → List ℕ) (s : List ℕ) (book n k : ℕ)
    → run (read lengths_of) (flat_vectors book (suc n)) s k ≡ joined (run (read lengths_of) (one_word book true) s k) (λ _ m. run (read lengths_of) (flat_vectors book n) s m)
unfolding flat_vectors request bind
more_vectors lengths_of s book n k = run_bind (read lengths_of) s (one_word book true) (λ _. flat_vectors book n) k

-- the loop's state: what is left to be read, into the list as it is
pub record VectorsLeft (ls codewords s : List ℕ) (size dimensions : ℕ) (entered : List ℕ) (from : Progress) (out : List ℕ) (reached : Progress) (left : ℕ) : Type 0 where
  pub book : Codebook ls codewords
  pub low : 1 ≤ dimensions
  pub sofar :
      ReadSoFar (vectors_run ls (size / dimensions) s (position from.at)) entered from.count (vectors_run ls (left / dimensions) s (position reached.at)) out reached.count

module _ {ls codewords s : List ℕ} {size dimensions : ℕ} {entered : List ℕ} {from : Progress} where
  pub vectors_start : Codebook ls codewords → 1 ≤ dimensions → from.count ≤ length entered → VectorsLeft ls codewords s size dimensions entered from entered from size
  vectors_start b d h = record { book = b; low = d; sofar = sofar_start h }

  module _ {out : List ℕ} {reached : Progress} {left : ℕ} (g : VectorsLeft ls codewords s size dimensions entered from out reached left) where
    pub vectors_fits : reached.count ≤ length out
    vectors_fits = sofar_fits g.sofar

    pub vectors_done : left < dimensions → ReadIntoList (vectors_run ls (size / dimensions) s (position from.at)) entered from.count (Ok reached) out
    unfolding flat_vectors run
    vectors_done h = let z : left / dimensions ≡ 0 = div-eq_of_lt h in sofar_last (rw z at g.sofar) (read_nothing refl vectors_fits refl)

    one_of_them : dimensions ≤ left
        → vectors_run ls (left / dimensions) s (position reached.at) ≡ joined (one_run (λ _. ls) s 0 true reached.at) (λ _ m. vectors_run ls ((left - dimensions) / dimensions) s m)
    one_of_them more =
        let z : left / dimensions ≡ suc ((left - dimensions) / dimensions) = omega (arith, div-eq-sub-div g.low more) in
        rw z (more_vectors (λ _. ls) s 0 ((left - dimensions) / dimensions) (position reached.at))

    module _ (more : dimensions ≤ left) {f : Result (ℕ × Cursor) Refusal} (p : outcome f ≡ codeword ls s (position reached.at)) where
      pub vectors_cut : {z : Refusal} → f ≡ Err z → ReadIntoList (vectors_run ls (size / dimensions) s (position from.at)) entered from.count (Err (Cut reached)) out
      vectors_cut q = sofar_last (rw (one_of_them more) at g.sofar) (joined_cut _ (cut_one (λ _. ls) ls s 0 refl true reached.at p out reached.count vectors_fits q) refl)

      module _ {e : ℕ} {next : Cursor} (q : f ≡ Ok (e, next)) where
        pub vectors_small : Settled ls → e ≤ 16777216
        vectors_small t = entry_small ls codewords s reached.at g.book p t q

        pub vectors_full : length out < reached.count + 1 → ReadIntoList (vectors_run ls (size / dimensions) s (position from.at)) entered from.count (Err Full) out
        vectors_full h = sofar_last (rw (one_of_them more) at g.sofar) (joined_full _ (full_one (λ _. ls) ls s 0 refl true reached.at p out reached.count q h) refl)

        pub vectors_next : reached.count + 1 ≤ length out → {v : ℕ} → v ≡ 2 * e + one true
            → VectorsLeft ls codewords s size dimensions entered from (set out reached.count v) (record { at = next; count = reached.count + 1 }) (left - dimensions)
        vectors_next h f' =
            record {
              book = g.book;
              low = g.low;
              sofar = (sofar_next g.sofar _ (one_of_them more) (whole_one (λ _. ls) ls s 0 refl true reached.at p out reached.count q h f') refl).2;
            }

-- the list does not show the book's number
alike_word : (book k : ℕ) (o : Outcome (ℕ × ℕ)) (f g : ℕ → ℕ → Run Unit) → ((v m : ℕ) → Alike (f v m) (g v m))
    → Alike (continued (word 0 (vector nowhere)) k o f) (continued (word book (vector nowhere)) k o g)
unfolding listed
alike_word book k (ok x) f g h =
    let a = h x.0 x.1 in
    record { numbers_are = ap (λ (t : List ℕ). (2 * x.0 + one true) ∷ t) a.numbers_are; position_is = a.position_is; came = a.came }
alike_word book k (bad z) f g h = record { numbers_are = refl; position_is = refl; came = refl }

alike_vectors : (lengths_of : ℕ → List ℕ) (s : List ℕ) (book n k : ℕ) → Alike (vectors_run (lengths_of book) n s k) (run (read lengths_of) (flat_vectors book n) s k)
unfolding run read flat_vectors
alike_vectors lengths_of s book zero k = record { numbers_are = refl; position_is = refl; came = refl }
alike_vectors lengths_of s book (suc n) k =
    alike_word book k (codeword (lengths_of book) s k) (λ _ m. vectors_run (lengths_of book) n s m) (λ _ m. run (read lengths_of) (flat_vectors book n) s m)
    (λ _ m. alike_vectors lengths_of s book n m)

-- as `read_run` asks it: the parts of the tables that it lends are the book's, and it steps by the book's dimensions
module _ (books : List ℕ) (book : ℕ) {dimensions : ℕ} (d : dimensions ≡ dimensions_at books book) where
  pub dimensions_low : 1 ≤ dimensions_in books book → 1 ≤ dimensions
  unfolding dimensions_in
  dimensions_low h = rw d h

  pub run_read : (lengths s : List ℕ) (size k : ℕ) {part : List ℕ} → part ≡ entries_of books book lengths → {out : List ℕ} {c : ℕ} {x : Result Progress Stop} {exit : List ℕ}
      → ReadIntoList (vectors_run part (size / dimensions) s k) out c x exit
      → ReadIntoList (words_run books lengths (flat_vectors book (size / dimensions_in books book)) s k) out c x exit
  unfolding lengths_in dimensions_in
  run_read lengths s size k e w = read_alike (alike_vectors (lengths_in books lengths) s book (size / dimensions_in books book) k) (rw (e, d) at w)

pub ruleset asked = (rules, marked, unmarked, word_small, word_cut, word_full, word_whole)

pub ruleset looped = (rules, vectors_start, vectors_fits, vectors_small, vectors_cut, vectors_full, vectors_next, vectors_done)
