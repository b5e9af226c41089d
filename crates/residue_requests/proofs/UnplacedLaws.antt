-- THE TREE THAT THE PROGRAM GOES THROUGH is specs/Requests.antt's without the places of codewords: a run of the one has the answers, the position and the value
-- of a run of the other, and the same numbers for the lent list. Assumes nothing.
use Prim.Native.Nat.{ℕ, zero, suc, ◌+◌, ◌-◌, ◌/◌}
use mathlib.Core.Bool.{Bool, true, false, cond}
use mathlib.Core.List.{List, [], ◌∷◌, ◌++◌, map, append_assoc, append-nil}
use mathlib.Core.Path.{◌≡◌, refl, ap, sym, ◌∙◌}
use lib.Dec.{eqb}
use lib.ListN.{length}
use Rattle.reading.specs.Outcome.{Outcome, ok, bad}
use Rattle.residue.specs.Content.{Residue}
use Rattle.requests.specs.Requests.{floor, class, vector, Request, number, word, Requests, done, ask, request, bind, many}
use Rattle.requests.specs.Run.{read, Item, item, Run, continued, run}
use Rattle.requests.proofs.Laws.{bind_end, bind-bind, bind_same}
use Rattle.residue_requests.specs.Requests.{planned, classes_of, vectors, partition, across_vectors, class_words, first_pass, later_pass, later_passes, residue_requests}
use Rattle.residue_requests.specs.Listed.{listed}
use Rattle.residue_requests.specs.Inner.Unplaced.{nowhere, unplaced_request, unplaced_item, unplaced, flat_vectors, flat_class_words, flat_partition, flat_partitions, flat_first_pass, flat_later_passes, flat_residue}
use Rattle.residue_requests.proofs.PassLaws.{partitions_append}

module _ {A B : Type 0} where
  pub unplaced-bind : (x : Requests A) (f : A → Requests B) → unplaced (bind x f) ≡ bind (unplaced x) (λ a. unplaced (f a))
  unfolding unplaced bind
  unplaced-bind (done a) f = refl
  unplaced-bind (ask q g) f = λ j. ask (unplaced_request q) (λ v. unplaced-bind (g v) f j)

  -- where the parts are known
  in_parts : (x y : Requests A) (f g : A → Requests B) → unplaced x ≡ y → ((a : A) → unplaced (f a) ≡ g a) → unplaced (bind x f) ≡ bind y g
  in_parts x y f g e h = unplaced-bind x f ∙ ap (λ (z : Requests A). bind z (λ a. unplaced (f a))) e ∙ bind_same y (λ a. unplaced (f a)) g h

-- lists one after the other
abbrev concat : List (List ℕ) → List ℕ
concat [] = []
concat (l ∷ ls) = l ++ concat ls

concat_last : (ls : List (List ℕ)) (l : List ℕ) → concat (ls ++ (l ∷ [])) ≡ concat ls ++ l
concat_last [] l = append-nil l
concat_last (m ∷ ls) l = ap (λ (t : List ℕ). m ++ t) (concat_last ls l) ∙ sym (append_assoc m (concat ls) l)

-- class words: the definition puts each before the rest, the program each after those that it has
one_after : (rest : Requests (List ℕ)) (es : List ℕ) (e : ℕ)
    → bind (unplaced (bind rest (λ l. done (e ∷ l)))) (λ l. done (es ++ l)) ≡ bind (unplaced rest) (λ l. done ((es ++ (e ∷ [])) ++ l))
unfolding unplaced bind
one_after rest es e =
    ap (λ (z : Requests (List ℕ)). bind z (λ l. done (es ++ l))) (unplaced-bind rest (λ l. done (e ∷ l)))
    ∙ bind-bind (unplaced rest) (λ l. unplaced (done (e ∷ l))) (λ l. done (es ++ l))
    ∙ bind_same (unplaced rest) (λ l. done (es ++ (e ∷ l))) (λ l. done ((es ++ (e ∷ [])) ++ l)) (λ l. ap (λ (m : List ℕ). done m) (sym (append_assoc es (e ∷ []) l)))

class_words_from : (book n : ℕ) (es : List ℕ) → bind (unplaced (many (request (word book class)) n)) (λ l. done (es ++ l)) ≡ flat_class_words book n es
unfolding unplaced bind many request flat_class_words
class_words_from book zero es = ap (λ (l : List ℕ). done l) (append-nil es)
class_words_from book (suc n) es =
    λ j. ask (word book class) (λ e. (one_after (many (request (word book class)) n) es e ∙ class_words_from book n (es ++ (e ∷ []))) j)

module _ (submap : ℕ) (dimensions_of : ℕ → ℕ) (r : Residue) where
  unplaced-vectors : (book v p i n : ℕ) → unplaced (vectors submap dimensions_of r book v p i n) ≡ flat_vectors book n
  unfolding unplaced vectors flat_vectors
  unplaced-vectors book v p i zero = refl
  unplaced-vectors book v p i (suc n) = λ j. ask (word book (vector nowhere)) (λ _. unplaced-vectors book v p (suc i) n j)

  unplaced-partition : (pass p v c : ℕ) → unplaced (partition submap dimensions_of r pass p v c) ≡ flat_partition dimensions_of r (planned r pass c)
  unfolding unplaced partition flat_partition
  unplaced-partition pass p v c = go (eqb (planned r pass c) 0)
    where
      go : (t : Bool) → unplaced (cond t (done tt) (vectors submap dimensions_of r (planned r pass c - 1) v p 0 (r.size / dimensions_of (planned r pass c - 1))))
          ≡ cond t (done tt) (flat_vectors (planned r pass c - 1) (r.size / dimensions_of (planned r pass c - 1)))
      go true = refl
      go false = unplaced-vectors (planned r pass c - 1) v p 0 (r.size / dimensions_of (planned r pass c - 1))

  unplaced_across : (pass p v : ℕ) (cs : List ℕ) → unplaced (across_vectors submap dimensions_of r pass p v cs) ≡ flat_partitions dimensions_of r pass cs
  unfolding unplaced across_vectors flat_partitions
  unplaced_across pass p v [] = refl
  unplaced_across pass p v (c ∷ cs) =
      in_parts (partition submap dimensions_of r pass p v c) (flat_partition dimensions_of r (planned r pass c))
      (λ _. across_vectors submap dimensions_of r pass p (suc v) cs) (λ _. flat_partitions dimensions_of r pass cs)
      (unplaced-partition pass p v c) (λ _. unplaced_across pass p (suc v) cs)

  unplaced_class_words : (live : ℕ) → unplaced (class_words submap dimensions_of r live) ≡ flat_class_words r.classbook live []
  unfolding class_words
  unplaced_class_words live = sym (bind_end (unplaced (many (request (word r.classbook class)) live))) ∙ class_words_from r.classbook live []

  unplaced-pass : (pass p : ℕ) (classes : List (List ℕ)) → unplaced (later_pass submap dimensions_of r pass p classes) ≡ flat_partitions dimensions_of r pass (concat classes)
  unfolding unplaced later_pass flat_partitions
  unplaced-pass pass p [] = refl
  unplaced-pass pass p (cs ∷ classes) =
      in_parts (across_vectors submap dimensions_of r pass p 0 cs) (flat_partitions dimensions_of r pass cs)
      (λ _. later_pass submap dimensions_of r pass (suc p) classes) (λ _. flat_partitions dimensions_of r pass (concat classes))
      (unplaced_across pass p 0 cs) (λ _. unplaced-pass pass (suc p) classes)
      ∙ sym (partitions_append dimensions_of r pass cs (concat classes))

  unplaced_passes : (pass n : ℕ) (classes : List (List ℕ)) → unplaced (later_passes submap dimensions_of r pass n classes) ≡ flat_later_passes dimensions_of r pass n (concat classes)
  unfolding unplaced later_passes flat_later_passes
  unplaced_passes pass zero classes = refl
  unplaced_passes pass (suc n) classes =
      in_parts (later_pass submap dimensions_of r pass 0 classes) (flat_partitions dimensions_of r pass (concat classes))
      (λ _. later_passes submap dimensions_of r (suc pass) n classes) (λ _. flat_later_passes dimensions_of r (suc pass) n (concat classes))
      (unplaced-pass pass 0 classes) (λ _. unplaced_passes (suc pass) n classes)

  -- pass 0, whose value is a list for each partition, comes to the classes in one list
  abbrev flattened : Requests (List (List ℕ)) → Requests (List ℕ)
  flattened x = bind (unplaced x) (λ classes. done (concat classes))

  flattened-bind : {A : Type 0} (x y : Requests A) (f : A → Requests (List (List ℕ))) (g : A → Requests (List ℕ)) → unplaced x ≡ y → ((a : A) → flattened (f a) ≡ g a)
      → flattened (bind x f) ≡ bind y g
  flattened-bind {A} x y f g e h =
      ap (λ (z : Requests (List (List ℕ))). bind z (λ classes. done (concat classes))) (unplaced-bind x f)
      ∙ bind-bind (unplaced x) (λ a. unplaced (f a)) (λ classes. done (concat classes))
      ∙ ap (λ (z : Requests A). bind z (λ a. flattened (f a))) e
      ∙ bind_same y (λ a. flattened (f a)) g h

  -- one partition of each vector, and then the rest
  module _ (live p left : ℕ) (classes : List (List ℕ)) where
    row : (es : List ℕ) (unused : ℕ)
        → flattened (first_pass submap dimensions_of r live (suc p) left unused es (classes ++ (classes_of r unused es ∷ [])))
        ≡ flat_first_pass dimensions_of r live left unused es (concat (classes ++ (classes_of r unused es ∷ [])))
        → flattened (bind (across_vectors submap dimensions_of r 0 p 0 (classes_of r unused es)) (λ _. first_pass submap dimensions_of r live (suc p) left unused es (classes ++ (classes_of r unused es ∷ []))))
        ≡ bind (flat_partitions dimensions_of r 0 (classes_of r unused es)) (λ _. flat_first_pass dimensions_of r live left unused es (concat classes ++ classes_of r unused es))
    row es unused ih =
        let cs = classes_of r unused es in
        flattened-bind (across_vectors submap dimensions_of r 0 p 0 cs) (flat_partitions dimensions_of r 0 cs)
        (λ _. first_pass submap dimensions_of r live (suc p) left unused es (classes ++ (cs ∷ []))) (λ _. flat_first_pass dimensions_of r live left unused es (concat classes ++ cs))
        (unplaced_across 0 p 0 cs) (λ _. ih ∙ ap (λ (t : List ℕ). flat_first_pass dimensions_of r live left unused es t) (concat_last classes cs))

  unplaced_first : (live p left unused : ℕ) (es : List ℕ) (classes : List (List ℕ))
      → flattened (first_pass submap dimensions_of r live p left unused es classes) ≡ flat_first_pass dimensions_of r live left unused es (concat classes)
  unfolding unplaced bind first_pass flat_first_pass
  unplaced_first live p zero unused es classes = refl
  unplaced_first live p (suc left) zero es classes =
      let d = dimensions_of r.classbook - 1 in
      let f : List ℕ → Requests (List (List ℕ)) = λ words. first_pass submap dimensions_of r live (suc p) left d words (classes ++ (classes_of r d words ∷ [])) in
      let g : List ℕ → Requests (List ℕ) = λ words. flat_first_pass dimensions_of r live left d words (concat classes ++ classes_of r d words) in
      flattened-bind (class_words submap dimensions_of r live) (flat_class_words r.classbook live [])
      (λ words. bind (across_vectors submap dimensions_of r 0 p 0 (classes_of r d words)) (λ _. f words))
      (λ words. bind (flat_partitions dimensions_of r 0 (classes_of r d words)) (λ _. g words))
      (unplaced_class_words live)
      (λ words. row live p left classes words d (unplaced_first live (suc p) left d words (classes ++ (classes_of r d words ∷ []))))
  unplaced_first live p (suc left) (suc unused) es classes = row live p left classes es unused (unplaced_first live (suc p) left unused es (classes ++ (classes_of r unused es ∷ [])))

  -- THE WHOLE RESIDUE
  pub unplaced_residue : (live partitions : ℕ) → unplaced (residue_requests submap dimensions_of r live partitions) ≡ flat_residue dimensions_of r live partitions
  unfolding residue_requests flat_residue bind
  unplaced_residue live partitions =
      let x = first_pass submap dimensions_of r live 0 partitions 0 [] [] in
      unplaced-bind x (λ classes. later_passes submap dimensions_of r 1 7 classes)
      ∙ bind_same (unplaced x) (λ classes. unplaced (later_passes submap dimensions_of r 1 7 classes)) (λ classes. flat_later_passes dimensions_of r 1 7 (concat classes))
      (λ classes. unplaced_passes 1 7 classes)
      ∙ sym (bind-bind (unplaced x) (λ classes. done (concat classes)) (λ classes. flat_later_passes dimensions_of r 1 7 classes))
      ∙ ap (λ (z : Requests (List ℕ)). bind z (λ classes. flat_later_passes dimensions_of r 1 7 classes)) (unplaced_first live 0 partitions 0 [] [])

-- A RUN WITHOUT PLACES, compared with the run with them
pub record SameButPlaces {A : Type 0} (flat placed : Run A) : Type 0 where
  pub items : flat.items ≡ map unplaced_item placed.items
  pub position : flat.position ≡ placed.position
  pub value : flat.value ≡ placed.value
  -- so the lent list is the same
  pub numbers : map listed flat.items ≡ map listed placed.items
  pub count : length flat.items ≡ length placed.items

listed_same : (q : Request) (v : ℕ) → listed (unplaced_item (item q v)) ≡ listed (item q v)
unfolding listed
listed_same (number width) v = refl
listed_same (word book floor) v = refl
listed_same (word book class) v = refl
listed_same (word book (vector p)) v = refl

read_same : (lengths_of : ℕ → List ℕ) (s : List ℕ) (q : Request) (k : ℕ) → read lengths_of (unplaced_request q) s k ≡ read lengths_of q s k
unfolding read
read_same lengths_of s (number width) k = refl
read_same lengths_of s (word book role) k = refl

module _ {A : Type 0} where
  same_continued : (q : Request) (k : ℕ) (o : Outcome (ℕ × ℕ)) (f g : ℕ → ℕ → Run A) → ((v n : ℕ) → SameButPlaces (f v n) (g v n)) → SameButPlaces (continued (unplaced_request q) k o f) (continued q k o g)
  same_continued q k (ok x) f g h =
      let t = h x.0 x.1 in
      record {
        items = ap (λ (l : List Item). item (unplaced_request q) x.0 ∷ l) t.items;
        position = t.position;
        value = t.value;
        numbers = rw (listed_same q x.0) (ap (λ (l : List ℕ). listed (item q x.0) ∷ l) t.numbers);
        count = ap suc t.count;
      }
  same_continued q k (bad z) f g h = record { items = refl; position = refl; value = refl; numbers = refl; count = refl }

  pub unplaced-run : (lengths_of : ℕ → List ℕ) (s : List ℕ) (x : Requests A) (k : ℕ) → SameButPlaces (run (read lengths_of) (unplaced x) s k) (run (read lengths_of) x s k)
  unfolding run unplaced
  unplaced-run lengths_of s (done a) k = record { items = refl; position = refl; value = refl; numbers = refl; count = refl }
  unplaced-run lengths_of s (ask q f) k =
      rw (read_same lengths_of s q k)
      (same_continued q k (read lengths_of q s k) (λ v n. run (read lengths_of) (unplaced (f v)) s n) (λ v n. run (read lengths_of) (f v) s n) (λ v n. unplaced-run lengths_of s (f v) n))

-- A RESIDUE's run, as the program goes through it, compared with specs/Requests.antt's
pub residue_run_lem : (submap : ℕ) (dimensions_of : ℕ → ℕ) (lengths_of : ℕ → List ℕ) (r : Residue) (live partitions : ℕ) (s : List ℕ) (k : ℕ)
    → SameButPlaces (run (read lengths_of) (flat_residue dimensions_of r live partitions) s k) (run (read lengths_of) (residue_requests submap dimensions_of r live partitions) s k)
residue_run_lem submap dimensions_of lengths_of r live partitions s k =
    rw (← unplaced_residue submap dimensions_of r live partitions) (unplaced-run lengths_of s (residue_requests submap dimensions_of r live partitions) k)
