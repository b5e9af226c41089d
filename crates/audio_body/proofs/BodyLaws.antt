-- Floors and then residues as one run: what it is where a floor was cut, and where none was. Assumes nothing.
use Prim.Native.Nat.{ℕ, ◌+◌}
use native.Mathlib.Omega.{arith}
use mathlib.Core.Bool.{true, false}
use mathlib.Core.List.{List, [], ◌++◌, map}
use mathlib.Core.Option.{Option, none, some}
use mathlib.Core.Path.{◌≡◌, refl, ap, sym, ◌∙◌}
use lib.ListN.{length}
use lib.Seq.{sets}
use borrow.Author.Tests.{le-leb}
use Rattle.floor.specs.Content.{Floor}
use Rattle.requests.specs.Requests.{Requests, bind, each}
use Rattle.requests.specs.Run.{read, Item, Run, ended, run}
use Rattle.requests.specs.Inner.Parts.{after, joined}
use Rattle.requests.proofs.Laws.{run_bind}
use Rattle.floor_requests.specs.Requests.{FloorRead, floor_requests}
use Rattle.residue_requests.specs.Listed.{residue_words, listed}
use Rattle.residue_requests.proofs.ListedLaws.{words_append}
use Rattle.codeword_list.specs.Inner.ListRead.{cut, ending_in}
use Rattle.audio_body.specs.Inner.Body.{ending_words}
use Rattle.audio_body.proofs.BodyWords.{Asks, asks_each, floor_asks, run_kept}

module _ (lengths_of : ℕ → List ℕ) (s : List ℕ) (k : ℕ) (fs : List Floor) (residues : List FloorRead → Requests Unit) (asks : (vs : List FloorRead) → Asks true (residues vs)) where
  -- the floors' run, the whole run
  abbrev floors : Run (List FloorRead)
  floors = run (read lengths_of) (each floor_requests fs) s k

  abbrev all : Run Unit
  all = run (read lengths_of) (bind (each floor_requests fs) (λ vs. residues vs)) s k

  -- no codeword of a residue is a floor's
  no_words : residue_words floors.items ≡ []
  no_words = run_kept (read lengths_of) s false (each floor_requests fs) k (asks_each false floor_requests fs floor_asks)

  module _ (e : floors.value ≡ none) where
    -- a floor was cut: nothing more is read
    cut_run : all ≡ ended floors.items floors.position none
    unfolding joined
    cut_run = run_bind (read lengths_of) s (each floor_requests fs) (λ vs. residues vs) k ∙ ap (λ (v : Option (List FloorRead)). after floors.items floors.position v (λ vs n. run (read lengths_of) (residues vs) s n)) e

    cut_words : residue_words all.items ≡ []
    cut_words = ap (λ (r : Run Unit). residue_words r.items) cut_run ∙ no_words

    pub cut_ending : (room : ℕ) → ending_words room all ≡ cut floors.position 0
    unfolding ending_words
    cut_ending room = rw (cut_words, cut_run, le-leb 0 room (omega arith)) refl

    pub cut_list : (l : List ℕ) → l ≡ sets l 0 (map listed (residue_words all.items))
    cut_list l = ap (λ (ws : List Item). sets l 0 (map listed ws)) (sym cut_words)

  module _ {vs : List FloorRead} (e : floors.value ≡ some vs) where
    -- the residues' run behind all floors
    abbrev words : Run Unit
    words = run (read lengths_of) (residues vs) s floors.position

    whole_run : all ≡ ended (floors.items ++ words.items) words.position words.value
    unfolding joined
    whole_run = run_bind (read lengths_of) s (each floor_requests fs) (λ vs. residues vs) k ∙ ap (λ (v : Option (List FloorRead)). after floors.items floors.position v (λ vs n. run (read lengths_of) (residues vs) s n)) e

    whole_words : residue_words all.items ≡ words.items
    whole_words =
        ap (λ (r : Run Unit). residue_words r.items) whole_run
        ∙ words_append floors.items words.items
        ∙ ap (λ (l : List Item). l ++ residue_words words.items) no_words
        ∙ run_kept (read lengths_of) s true (residues vs) floors.position (asks vs)

    pub whole_ending : (room : ℕ) → ending_in room 0 words ≡ ending_words room all
    unfolding ending_in ending_words
    whole_ending room = let z : 0 + length words.items ≡ length words.items = omega arith in rw (whole_words, whole_run, z) refl

    pub whole_list : (l : List ℕ) → sets l 0 (map listed words.items) ≡ sets l 0 (map listed (residue_words all.items))
    whole_list l = ap (λ (ws : List Item). sets l 0 (map listed ws)) (sym whole_words)
