-- Laws of the residues of all submaps: one submap after the other, into the list, and trees that are the same. Assumes nothing.
use Rattle.std.specs.Prelude.{Result, Ok, Err}
use Prim.Native.Nat.{ℕ, suc, ◌+◌, ◌≤◌, ◌<◌}
use native.Mathlib.Numerals.{add-one}
use native.Mathlib.Omega.{arith}
use mathlib.Core.Bool.{Bool}
use mathlib.Core.List.{List, [], ◌∷◌}
use mathlib.Core.Option.{some}
use mathlib.Core.Path.{◌≡◌, refl, ap, ◌∙◌}
use lib.ListN.{length, get_or, drop, drop_of_length-le}
use lib.Seq.{drop-cons}
use Rattle.bits.specs.Inner.Cursors.{position}
use Rattle.book_codeword.specs.Inner.Stored.{lengths_in, dimensions_in}
use Rattle.residue.specs.Content.{Residue}
use Rattle.mapping.specs.Content.{Submap, Mapping, no_submap}
use Rattle.requests.specs.Requests.{bind}
use Rattle.requests.specs.Run.{read, Run, run, ended}
use Rattle.requests.specs.Inner.Parts.{joined}
use Rattle.requests.proofs.Laws.{run_bind}
use Rattle.codeword_list.specs.declared.Progress.{Progress}
use Rattle.codeword_list.specs.declared.Stop.{Stop}
use Rattle.codeword_list.specs.Inner.ListRead.{ReadIntoList}
use Rattle.codeword_list.proofs.Laws.{ReadSoFar, sofar_start, sofar_fits, sofar_last, sofar_next, joined_stop, read_nothing, read_length}
use Rattle.residue_pass.specs.Inner.Readable.{residue_in}
use Rattle.audio.specs.Channels.{submap_requests, all_requests}
use Rattle.audio_residues.specs.Inner.Reading.{residue_number, submap_run, submaps_run}

-- THE SAME TREE, where `residue_at` gives the same residues for the submaps' numbers
pub same_residues : (D : ℕ → ℕ) (f g : ℕ → Residue) (half : ℕ) (m : Mapping) (live : List Bool) (n : ℕ) (xs : List Submap)
    → ((j : ℕ) → j < length xs → f (get_or xs j no_submap).residue ≡ g (get_or xs j no_submap).residue)
    → all_requests D f half m live n xs ≡ all_requests D g half m live n xs
unfolding all_requests
same_residues D f g half m live n [] e = refl
same_residues D f g half m live n (x ∷ xs) e =
    let one = e 0 (omega arith) in
    let more = same_residues D f g half m live (suc n) xs (λ j h. e (suc j) (omega arith)) in
    λ i. bind (submap_requests D half m live n (one i)) (λ _. more i)

-- and where the books' dimensions are the same
pub same_requests : {D E : ℕ → ℕ} → D ≡ E → (f g : ℕ → Residue) (half : ℕ) (m : Mapping) (live : List Bool) (n : ℕ) (xs : List Submap)
    → ((j : ℕ) → j < length xs → f (get_or xs j no_submap).residue ≡ g (get_or xs j no_submap).residue)
    → all_requests D f half m live n xs ≡ all_requests E g half m live n xs
same_requests {D} {E} d f g half m live n xs e =
    ap (λ (F : ℕ → ℕ). all_requests F f half m live n xs) d ∙ same_residues E f g half m live n xs e

module _ (books lengths residues plans : List ℕ) (half : ℕ) (m : Mapping) (live : List Bool) (packet : List ℕ) where
  -- the submaps from j on, run from bit k on
  unfoldable pub rest : ℕ → ℕ → Run Unit
  rest j k = submaps_run books lengths residues plans half m live j (drop j m.submaps) packet k

  rest_next : (j k : ℕ) → j < length m.submaps
      → rest j k ≡ joined (submap_run books lengths residues plans half m live j packet k) (λ _ n. rest (suc j) n)
  unfolding rest all_requests residue_number
  rest_next j k h =
      rw (drop-cons m.submaps j no_submap h)
      (run_bind (read (lengths_in books lengths)) packet
      (submap_requests (dimensions_in books) half m live j (residue_in residues plans (get_or m.submaps j no_submap).residue))
      (λ _. all_requests (dimensions_in books) (residue_in residues plans) half m live (suc j) (drop (suc j) m.submaps)) k)

  rest_none : (j k : ℕ) → length m.submaps ≤ j → rest j k ≡ ended [] k (some tt)
  unfolding rest all_requests run
  rest_none j k h = rw (drop_of_length-le m.submaps h)

  -- j submaps are read
  pub record SubmapsRead (entry : List ℕ) (from : Progress) (out : List ℕ) (next : Progress) (j : ℕ) : Type 0 where
    pub within : j ≤ length m.submaps
    pub long : length out ≡ length entry
    pub sofar : ReadSoFar (rest 0 (position from.at)) entry from.count (rest j (position next.at)) out next.count

  module _ {entry : List ℕ} {from : Progress} where
    pub submaps_start : from.count ≤ length entry → SubmapsRead entry from entry from 0
    submaps_start h = record { within = omega arith; long = refl; sofar = sofar_start h }

    module _ {out : List ℕ} {next : Progress} {j : ℕ} (w : SubmapsRead entry from out next j) where
      pub submaps_room_lem : next.count ≤ length out
      submaps_room_lem = sofar_fits w.sofar

      pub submaps_done : length m.submaps ≤ j
          → ReadIntoList (submaps_run books lengths residues plans half m live 0 m.submaps packet (position from.at)) entry from.count (Ok next) out
      unfolding rest
      submaps_done h = sofar_last w.sofar (read_nothing (rest_none j (position next.at) h) (sofar_fits w.sofar) refl)

      module _ (h : j < length m.submaps) {r : Result Progress Stop} {exit : List ℕ}
          (x : ReadIntoList (submap_run books lengths residues plans half m live j packet (position next.at)) out next.count r exit) where
        pub submaps_next : {p : Progress} → r ≡ Ok p → SubmapsRead entry from exit p (j + 1)
        submaps_next q =
            let y = sofar_next w.sofar (λ _ n. rest (suc j) n) (rest_next j (position next.at) h) x q in
            record { within = omega arith; long = read_length x ∙ w.long; sofar = rw add-one y.2 }

        -- the list was full, or a codeword was cut: nothing more is read
        pub submaps_stopped : (e : Stop) → r ≡ Err e
            → ReadIntoList (submaps_run books lengths residues plans half m live 0 m.submaps packet (position from.at)) entry from.count (Err e) exit
        unfolding rest
        submaps_stopped e q = sofar_last w.sofar (rw (rest_next j (position next.at) h) (joined_stop (λ _ n. rest (suc j) n) x e q))
