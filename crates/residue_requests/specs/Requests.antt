-- THE CODEWORDS OF A RESIDUE in an audio packet as a tree of requests, by 001's steps ("packet decode"; 01, "Audio order" 5): which book is asked next. The
-- numbers in comments are 001's steps. Assumes nothing: these are definitions.
use Rattle.std.specs.Prelude.{ℕ, zero, suc, ◌-◌, ◌*◌, ◌/◌, ◌%◌, ◌^◌, ◌+◌, min, cond, List, [], ◌∷◌, ◌++◌, map, eqb, get_or}
use Rattle.residue.specs.Content.{Residue}
use Rattle.requests.specs.Requests.{Place, word, class, vector, Requests, done, ask, request, bind, many}

-- 15: what the plan has for a class in a pass: a book's number plus one, or 0 for nothing
unfoldable pub planned : Residue → ℕ → ℕ → ℕ
planned r pass c = get_or (get_or r.plan c []) pass 0

-- 8 to 10: the digit of a class word that has so many digits after it. What a class word has above its digits is dropped
unfoldable pub digit : Residue → ℕ → ℕ → ℕ
digit r after e = e / r.classifications ^ after % r.classifications

-- by it the class of one partition of each vector, where `es` are the vectors' class words
unfoldable pub classes_of : Residue → ℕ → List ℕ → List ℕ
classes_of r after es = map (digit r after) es

-- the residue r of a submap; `dimensions_of` gives the dimensions of a book by its number
module _ (submap : ℕ) (dimensions_of : ℕ → ℕ) (r : Residue) where
  -- so many codewords of a book, from index i on, for partition p of vector v
  unfoldable pub vectors : ℕ → ℕ → ℕ → ℕ → ℕ → Requests Unit
  vectors book v p i zero = done tt
  vectors book v p i (suc n) =
      ask (word book (vector (record { submap = submap; vector = v; partition = p; index = i }))) (λ _. vectors book v p (suc i) n)

  -- 15 to 17: partition p of vector v, of class c: partition size over dimensions codewords, or nothing
  unfoldable pub partition : ℕ → ℕ → ℕ → ℕ → Requests Unit
  partition pass p v c =
      cond (eqb (planned r pass c) 0) (done tt) (vectors (planned r pass c - 1) v p 0 (r.size / dimensions_of (planned r pass c - 1)))

  -- 12 to 17: partition p of each vector from v on, by its class
  unfoldable pub across_vectors : ℕ → ℕ → ℕ → List ℕ → Requests Unit
  across_vectors pass p v [] = done tt
  across_vectors pass p v (c ∷ cs) = bind (partition pass p v c) (λ _. across_vectors pass p (suc v) cs)

  -- 5 to 7: a class word for each of so many vectors
  unfoldable pub class_words : ℕ → Requests (List ℕ)
  class_words live = many (request (word r.classbook class)) live

  -- PASS 0 of `live` vectors, from where `left` partitions are to be read, `unused` digits of each of the class words `es` are left, and `classes` has the
  -- classes of the partitions that were read. With no digit left a class word for each vector comes first (4 to 11; 19 to 21). It comes to the classes
  -- of all partitions, a list for each: digits past the last partition are dropped
  unfoldable pub first_pass : ℕ → ℕ → ℕ → ℕ → List ℕ → List (List ℕ) → Requests (List (List ℕ))
  first_pass live p zero unused es classes = done classes
  first_pass live p (suc left) zero es classes =
      bind (class_words live) (λ words.
      bind (across_vectors 0 p 0 (classes_of r (dimensions_of r.classbook - 1) words)) (λ _.
      first_pass live (suc p) left (dimensions_of r.classbook - 1) words (classes ++ (classes_of r (dimensions_of r.classbook - 1) words ∷ []))))
  first_pass live p (suc left) (suc unused) es classes =
      bind (across_vectors 0 p 0 (classes_of r unused es)) (λ _. first_pass live (suc p) left unused es (classes ++ (classes_of r unused es ∷ [])))

  -- partitions from p on, in a later pass
  unfoldable pub later_pass : ℕ → ℕ → List (List ℕ) → Requests Unit
  later_pass pass p [] = done tt
  later_pass pass p (cs ∷ classes) = bind (across_vectors pass p 0 cs) (λ _. later_pass pass (suc p) classes)

  -- 2: n passes from one on; they read no class words
  unfoldable pub later_passes : ℕ → ℕ → List (List ℕ) → Requests Unit
  later_passes pass zero classes = done tt
  later_passes pass (suc n) classes = bind (later_pass pass 0 classes) (λ _. later_passes (suc pass) n classes)

  -- ALL CODEWORDS of so many live vectors of so many partitions: pass 0, then passes 1 to 7
  unfoldable pub residue_requests : ℕ → ℕ → Requests Unit
  residue_requests live partitions = bind (first_pass live 0 partitions 0 [] []) (λ classes. later_passes 1 7 classes)

-- how many partitions there are, where each vector has so many places: begin and end are each the lower of the setup's number and the size (000, 8.6.2; 01)
unfoldable pub partition_count : Residue → ℕ → ℕ
partition_count r size = (min r.end size - min r.begin size) / r.size
