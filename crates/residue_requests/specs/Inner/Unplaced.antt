-- The tree of a residue's codewords as the program goes through it: it keeps no place of a codeword and the classes of all partitions in one list, by partition,
-- then vector. `unplaced` forgets the places of any tree; proofs/UnplacedLaws.antt shows that this is what becomes of specs/Requests.antt's tree, and that a
-- run of it has the same answers, position and value, and the same numbers for the lent list.
use Rattle.std.specs.Prelude.{ℕ, zero, suc, ◌-◌, ◌/◌, cond, List, [], ◌∷◌, ◌++◌, ◌≡◌, eqb}
use Rattle.residue.specs.Content.{Residue}
use Rattle.requests.specs.Requests.{Place, Role, floor, class, vector, Request, number, word, Requests, done, ask, bind}
use Rattle.requests.specs.Run.{Item, item}
use Rattle.residue_requests.specs.Requests.{planned, classes_of}

abbrev pub nowhere : Place
nowhere = record { submap = 0; vector = 0; partition = 0; index = 0 }

abbrev pub unplaced_role : Role → Role
unplaced_role floor = floor
unplaced_role class = class
unplaced_role (vector p) = vector nowhere

abbrev pub unplaced_request : Request → Request
unplaced_request (number width) = number width
unplaced_request (word book role) = word book (unplaced_role role)

abbrev pub unplaced_item : Item → Item
unplaced_item i = item (unplaced_request i.request) i.answer

module _ {A : Type 0} where
  unfoldable pub unplaced : Requests A → Requests A
  unplaced (done a) = done a
  unplaced (ask q f) = ask (unplaced_request q) (λ v. unplaced (f v))

-- so many codewords of a book, each naming a vector
unfoldable pub flat_vectors : ℕ → ℕ → Requests Unit
flat_vectors book zero = done tt
flat_vectors book (suc n) = ask (word book (vector nowhere)) (λ _. flat_vectors book n)

-- so many class words more, behind those that were read: the entries of all
unfoldable pub flat_class_words : ℕ → ℕ → List ℕ → Requests (List ℕ)
flat_class_words book zero es = done es
flat_class_words book (suc n) es = ask (word book class) (λ e. flat_class_words book n (es ++ (e ∷ [])))

-- a residue, and the dimensions of each book by its number
module _ (dimensions_of : ℕ → ℕ) (r : Residue) where
  -- a partition, read with the book of a place of the plan
  unfoldable pub flat_partition : ℕ → Requests Unit
  flat_partition place = cond (eqb place 0) (done tt) (flat_vectors (place - 1) (r.size / dimensions_of (place - 1)))

  -- partitions, one for each class of a list
  unfoldable pub flat_partitions : ℕ → List ℕ → Requests Unit
  flat_partitions pass [] = done tt
  flat_partitions pass (c ∷ cs) = bind (flat_partition (planned r pass c)) (λ _. flat_partitions pass cs)

  -- pass 0
  unfoldable pub flat_first_pass : ℕ → ℕ → ℕ → List ℕ → List ℕ → Requests (List ℕ)
  flat_first_pass live zero unused es classes = done classes
  flat_first_pass live (suc left) zero es classes =
      bind (flat_class_words r.classbook live []) (λ words.
      bind (flat_partitions 0 (classes_of r (dimensions_of r.classbook - 1) words)) (λ _.
      flat_first_pass live left (dimensions_of r.classbook - 1) words (classes ++ classes_of r (dimensions_of r.classbook - 1) words)))
  flat_first_pass live (suc left) (suc unused) es classes =
      bind (flat_partitions 0 (classes_of r unused es)) (λ _. flat_first_pass live left unused es (classes ++ classes_of r unused es))

  -- n passes from one on
  unfoldable pub flat_later_passes : ℕ → ℕ → List ℕ → Requests Unit
  flat_later_passes pass zero classes = done tt
  flat_later_passes pass (suc n) classes = bind (flat_partitions pass classes) (λ _. flat_later_passes (suc pass) n classes)

  -- all codewords of so many live vectors of so many partitions
  unfoldable pub flat_residue : ℕ → ℕ → Requests Unit
  flat_residue live partitions = bind (flat_first_pass live partitions 0 [] []) (λ classes. flat_later_passes 1 7 classes)

-- a pass has a book for no class
unfoldable pub Bookless : Residue → ℕ → Type 0
Bookless r pass = (class : ℕ) → planned r pass class ≡ 0
