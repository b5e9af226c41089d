-- The codewords of the residues among the items of a packet's body: none is a floor's, and every item of the residues is one. Assumes nothing.
use Prim.Native.Nat.{ℕ, zero, suc, ◌-◌, ◌/◌}
use mathlib.Core.Bool.{Bool, true, false, cond}
use mathlib.Core.List.{List, [], ◌∷◌, ◌++◌}
use mathlib.Core.Path.{◌≡◌, refl}
use lib.Dec.{eqb}
use lib.ListN.{get_or}
use Rattle.reading.specs.Outcome.{Outcome, ok, bad}
use Rattle.reading.specs.Reader.{Reader}
use Rattle.floor.specs.Content.{Class, no_class, Floor}
use Rattle.floor_partition.specs.Partition.{chosen, whole}
use Rattle.floor_values.specs.Values.{first_bits}
use Rattle.reading.specs.Lists.{rows}
use Rattle.mapping.specs.Content.{Mapping, Submap}
use Rattle.residue.specs.Content.{Residue}
use Rattle.requests.specs.Requests.{Request, number, Requests, done, ask, request, bind, many, each}
use Rattle.requests.specs.Run.{Item, continued, run}
use Rattle.floor_requests.specs.Requests.{class_requests, value_requests, partition_requests, used_requests, unused, values, floor_requests}
use Rattle.residue_requests.specs.Requests.{planned, classes_of, vectors, partition, across_vectors, class_words, first_pass, later_pass, later_passes, residue_requests}
use Rattle.residue_requests.specs.Listed.{is_residue, residue_words}
use Rattle.audio.specs.Channels.{submap_requests, all_requests}

-- every request of a tree is for a codeword of a residue, or none is
module _ {A : Type 0} where
  unfoldable pub Asks : Bool → Requests A → Type 0
  Asks v (done a) = Unit {0}
  Asks v (ask q f) = (is_residue q ≡ v) × ((i : ℕ) → Asks v (f i))

module _ {A B : Type 0} where
  pub asks_bind : (v : Bool) (x : Requests A) (f : A → Requests B) → Asks v x → ((a : A) → Asks v (f a)) → Asks v (bind x f)
  unfolding Asks bind
  asks_bind v (done a) f p g = g a
  asks_bind v (ask q h) f p g = (p.0, λ i. asks_bind v (h i) f (p.1 i) g)

pub asks_done : {A : Type 0} (v : Bool) (a : A) → Asks v (done a)
unfolding Asks
asks_done v a = tt

pub asks_if : {A : Type 0} (v t : Bool) (x y : Requests A) → Asks v x → Asks v y → Asks v (cond t x y)
asks_if v true x y p q = p
asks_if v false x y p q = q

module _ {A : Type 0} where
  pub asks_many : (v : Bool) (x : Requests A) (n : ℕ) → Asks v x → Asks v (many x n)
  unfolding Asks many
  asks_many v x zero p = tt
  asks_many v x (suc n) p =
      asks_bind v x (λ a. bind (many x n) (λ l. done (a ∷ l))) p (λ a. asks_bind v (many x n) (λ l. done (a ∷ l)) (asks_many v x n p) (λ l. tt))

  pub asks_each : {B : Type 0} (v : Bool) (g : B → Requests A) (bs : List B) → ((b : B) → Asks v (g b)) → Asks v (each g bs)
  unfolding Asks each
  asks_each v g [] p = tt
  asks_each v g (b ∷ bs) p =
      asks_bind v (g b) (λ a. bind (each g bs) (λ l. done (a ∷ l))) (p b) (λ a. asks_bind v (each g bs) (λ l. done (a ∷ l)) (asks_each v g bs p) (λ l. tt))

pub asks_request : (v : Bool) (q : Request) → is_residue q ≡ v → Asks v (request q)
unfolding Asks request
asks_request v q e = (e, λ i. tt)

-- FLOORS ASK FOR NO CODEWORD OF A RESIDUE
class_asks : (c : Class) → Asks false (class_requests c)
unfolding class_requests
class_asks c = asks_if false (eqb c.subclasses 0) (done 0) _ (asks_done false 0) (asks_request false _ refl)

value_asks : (place : ℕ) → Asks false (value_requests place)
unfolding value_requests
value_asks place = asks_if false (eqb place 0) (done 0) _ (asks_done false 0) (asks_request false _ refl)

partition_asks : (c : Class) → Asks false (partition_requests c)
unfolding partition_requests
partition_asks c = asks_bind false (class_requests c) (λ v. each value_requests (chosen c v c.dimensions)) (class_asks c) (λ v. asks_each false value_requests (chosen c v c.dimensions) value_asks)

used_asks : (f : Floor) → Asks false (used_requests f)
unfolding used_requests
used_asks f =
    asks_bind false (many (request (number (first_bits f.multiplier))) 2) _ (asks_many false (request (number (first_bits f.multiplier))) 2 (asks_request false _ refl))
    (λ first. asks_bind false (each (λ p. partition_requests (get_or f.classes p no_class)) f.partitions) _
    (asks_each false (λ p. partition_requests (get_or f.classes p no_class)) f.partitions (λ p. partition_asks (get_or f.classes p no_class))) (λ later. asks_done false (first ++ rows whole later)))

pub floor_asks : (f : Floor) → Asks false (floor_requests f)
unfolding floor_requests
floor_asks f =
    asks_bind false (request (number 1)) _ (asks_request false _ refl)
    (λ nonzero. asks_if false (eqb nonzero 0) (done unused) _ (asks_done false unused) (asks_bind false (used_requests f) (λ ys. done (values ys)) (used_asks f) (λ ys. asks_done false (values ys))))

-- RESIDUES ASK FOR NOTHING ELSE
module _ (submap : ℕ) (dimensions_of : ℕ → ℕ) (r : Residue) where
  vectors_ask : (book v p i n : ℕ) → Asks true (vectors submap dimensions_of r book v p i n)
  unfolding Asks vectors
  vectors_ask book v p i zero = tt
  vectors_ask book v p i (suc n) = (refl, λ _. vectors_ask book v p (suc i) n)

  partition_asks_words : (pass p v c : ℕ) → Asks true (partition submap dimensions_of r pass p v c)
  unfolding partition
  partition_asks_words pass p v c = asks_if true (eqb (planned r pass c) 0) (done tt) _ (asks_done true tt) (vectors_ask (planned r pass c - 1) v p 0 (r.size / dimensions_of (planned r pass c - 1)))

  across_asks : (pass p v : ℕ) (cs : List ℕ) → Asks true (across_vectors submap dimensions_of r pass p v cs)
  unfolding Asks across_vectors
  across_asks pass p v [] = tt
  across_asks pass p v (c ∷ cs) =
      asks_bind true (partition submap dimensions_of r pass p v c) (λ _. across_vectors submap dimensions_of r pass p (suc v) cs) (partition_asks_words pass p v c) (λ _. across_asks pass p (suc v) cs)

  class_words_ask : (live : ℕ) → Asks true (class_words submap dimensions_of r live)
  unfolding class_words
  class_words_ask live = asks_many true _ live (asks_request true _ refl)

  first_asks : (live p left left_over : ℕ) (es : List ℕ) (classes : List (List ℕ)) → Asks true (first_pass submap dimensions_of r live p left left_over es classes)
  unfolding Asks first_pass
  first_asks live p zero left_over es classes = tt
  first_asks live p (suc left) zero es classes =
      asks_bind true (class_words submap dimensions_of r live) _ (class_words_ask live)
      (λ words. asks_bind true (across_vectors submap dimensions_of r 0 p 0 (classes_of r (dimensions_of r.classbook - 1) words)) _ (across_asks 0 p 0 (classes_of r (dimensions_of r.classbook - 1) words))
      (λ _. first_asks live (suc p) left (dimensions_of r.classbook - 1) words (classes ++ (classes_of r (dimensions_of r.classbook - 1) words ∷ []))))
  first_asks live p (suc left) (suc left_over) es classes =
      asks_bind true (across_vectors submap dimensions_of r 0 p 0 (classes_of r left_over es)) _ (across_asks 0 p 0 (classes_of r left_over es))
      (λ _. first_asks live (suc p) left left_over es (classes ++ (classes_of r left_over es ∷ [])))

  later_pass_asks : (pass p : ℕ) (classes : List (List ℕ)) → Asks true (later_pass submap dimensions_of r pass p classes)
  unfolding Asks later_pass
  later_pass_asks pass p [] = tt
  later_pass_asks pass p (cs ∷ classes) = asks_bind true (across_vectors submap dimensions_of r pass p 0 cs) _ (across_asks pass p 0 cs) (λ _. later_pass_asks pass (suc p) classes)

  later_asks : (pass n : ℕ) (classes : List (List ℕ)) → Asks true (later_passes submap dimensions_of r pass n classes)
  unfolding Asks later_passes
  later_asks pass zero classes = tt
  later_asks pass (suc n) classes = asks_bind true (later_pass submap dimensions_of r pass 0 classes) _ (later_pass_asks pass 0 classes) (λ _. later_asks (suc pass) n classes)

  residue_asks : (live partitions : ℕ) → Asks true (residue_requests submap dimensions_of r live partitions)
  unfolding residue_requests
  residue_asks live partitions =
      asks_bind true (first_pass submap dimensions_of r live 0 partitions 0 [] []) (λ classes. later_passes submap dimensions_of r 1 7 classes) (first_asks live 0 partitions 0 [] []) (λ classes. later_asks 1 7 classes)

pub all_ask : (dimensions_of : ℕ → ℕ) (residue_at : ℕ → Residue) (half : ℕ) (m : Mapping) (live : List Bool) (n : ℕ) (xs : List Submap) → Asks true (all_requests dimensions_of residue_at half m live n xs)
unfolding Asks all_requests submap_requests
all_ask dimensions_of residue_at half m live n [] = tt
all_ask dimensions_of residue_at half m live n (x ∷ xs) =
    asks_bind true (submap_requests dimensions_of half m live n (residue_at x.residue)) (λ _. all_requests dimensions_of residue_at half m live (suc n) xs) (residue_asks n dimensions_of (residue_at x.residue) _ _)
    (λ _. all_ask dimensions_of residue_at half m live (suc n) xs)

-- so are the items of a run
abbrev Kept : Bool → List Item → Type 0
Kept true l = residue_words l ≡ l
Kept false l = residue_words l ≡ []

one_kept : (v : Bool) (i : Item) (l : List Item) → is_residue i.request ≡ v → Kept v l → Kept v (i ∷ l)
unfolding residue_words
one_kept true i l e k = rw (e, k)
one_kept false i l e k = rw (e, k)

none_kept : (v : Bool) → Kept v []
unfolding residue_words
none_kept true = refl
none_kept false = refl

module _ {A : Type 0} (reads : Request → Reader ℕ) (s : List ℕ) where
  pub run_kept : (v : Bool) (x : Requests A) (k : ℕ) → Asks v x → Kept v (run reads x s k).items
  unfolding Asks run
  run_kept v (done a) k p = none_kept v
  run_kept v (ask q f) k p = go (reads q s k) (λ i n. run_kept v (f i) n (p.1 i))
    where
      go : (o : Outcome (ℕ × ℕ)) → ((i n : ℕ) → Kept v (run reads (f i) s n).items) → Kept v (continued q k o (λ i n. run reads (f i) s n)).items
      go (ok y) h = one_kept v _ _ p.0 (h y.0 y.1)
      go (bad z) h = none_kept v
