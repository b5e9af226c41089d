-- Which codewords of a residue name vectors and which are class words, and what class words come to, for every way `reads` to read a request. Assumes nothing.
use Prim.Native.Nat.{ℕ, zero, suc, ◌+◌, ◌-◌, ◌/◌}
use native.Mathlib.Omega.{arith}
use mathlib.Core.Bool.{Bool, true, false, cond}
use mathlib.Core.List.{List, [], ◌∷◌, ◌++◌, map, append_assoc, append-nil}
use mathlib.Core.Option.{Option, none, some}
use mathlib.Core.Path.{◌≡◌, refl, sym, ap, ◌∙◌}
use lib.Dec.{eqb}
use lib.ListN.{length}
use Rattle.reading.specs.Outcome.{Outcome, ok, bad}
use Rattle.reading.specs.Reader.{Reader}
use Rattle.residue.specs.Content.{Residue}
use Rattle.requests.specs.Requests.{Request, word, class, vector, done}
use Rattle.requests.specs.Run.{Item, Run, continued, run}
use Rattle.requests.specs.Inner.Parts.{after, joined}
use Rattle.requests.proofs.Laws.{run_bind}
use Rattle.residue_requests.specs.Requests.{planned}
use Rattle.residue_requests.specs.Listed.{is_vector}
use Rattle.residue_requests.specs.Inner.Unplaced.{nowhere, flat_vectors, flat_class_words, flat_partition, flat_partitions}

-- every item of a list names a vector, or none does
unfoldable pub Kind : Bool → List Item → Type 0
Kind v [] = Unit {0}
Kind v (i ∷ l) = (is_vector i.request ≡ v) × Kind v l

pub kind_append : (v : Bool) (l m : List Item) → Kind v l → Kind v m → Kind v (l ++ m)
unfolding Kind
kind_append v [] m a b = b
kind_append v (i ∷ l) m a b = (a.0, kind_append v l m a.1 b)

-- a run in two parts that came to a value
pub record Both {A B : Type 0} (h : Run A) (f : A → ℕ → Run B) (v : B) : Type 0 where
  pub first : A
  pub came : h.value ≡ some first
  pub second : (f first h.position).value ≡ some v
  pub items : (joined h f).items ≡ h.items ++ (f first h.position).items

module _ {A B : Type 0} (h : Run A) (f : A → ℕ → Run B) where
  pub both : {v : B} → (joined h f).value ≡ some v → Both h f v
  unfolding joined
  both {v} e = go h.value refl e
    where
      go : (x : Option A) → h.value ≡ x → (after h.items h.position x f).value ≡ some v → Both h f v
      go (some a) q e = record { first = a; came = q; second = e; items = rw q }
      go none q e = let z : ◌≡◌ {A = ℕ} 0 1 = cc in absurd (omega arith)

  pub kind_joined : (v : Bool) → Kind v h.items → ((a : A) (n : ℕ) → Kind v (f a n).items) → Kind v (joined h f).items
  unfolding joined
  kind_joined v k g = go h.value
    where
      go : (x : Option A) → Kind v (after h.items h.position x f).items
      go (some a) = kind_append v h.items (f a h.position).items k (g a h.position)
      go none = k

continued_kind : {A : Type 0} (v : Bool) (q : Request) (k : ℕ) (o : Outcome (ℕ × ℕ)) (f : ℕ → ℕ → Run A) → is_vector q ≡ v → ((i m : ℕ) → Kind v (f i m).items)
    → Kind v (continued q k o f).items
unfolding Kind
continued_kind v q k (ok x) f e g = (e, g x.0 x.1)
continued_kind v q k (bad z) f e g = tt

-- so many class words, that came to `words`: their entries after those that were read before
pub record ClassesRead (n : ℕ) (es : List ℕ) (h : Run (List ℕ)) (words : List ℕ) : Type 0 where
  pub kind : Kind false h.items
  pub number : length h.items ≡ n
  pub words_are : words ≡ es ++ map (λ i. i.answer) h.items

continued_classes : (n : ℕ) (es : List ℕ) (q : Request) (k : ℕ) → is_vector q ≡ false → (o : Outcome (ℕ × ℕ)) (f : ℕ → ℕ → Run (List ℕ)) {words : List ℕ}
    → ((i m : ℕ) → (f i m).value ≡ some words → ClassesRead n (es ++ (i ∷ [])) (f i m) words) → (continued q k o f).value ≡ some words
    → ClassesRead (suc n) es (continued q k o f) words
unfolding Kind
continued_classes n es q k v (ok x) f g e =
    let c = g x.0 x.1 e in
    let w = append_assoc es (x.0 ∷ []) (map (λ i. i.answer) (f x.0 x.1).items) in
    record { kind = (v, c.kind); number = ap suc c.number; words_are = c.words_are ∙ w }
continued_classes n es q k v (bad z) f g e = let y : ◌≡◌ {A = ℕ} 0 1 = cc in absurd (omega arith)

module _ (reads : Request → Reader ℕ) (s : List ℕ) where
  pub vectors_kind : (book n k : ℕ) → Kind true (run reads (flat_vectors book n) s k).items
  unfolding run flat_vectors Kind
  vectors_kind book zero k = tt
  vectors_kind book (suc n) k =
      let q = word book (vector nowhere) in
      continued_kind true q k (reads q s k) (λ i m. run reads (flat_vectors book n) s m) refl (λ i m. vectors_kind book n m)

  module _ (dimensions_of : ℕ → ℕ) (r : Residue) where
    partition_kind : (place k : ℕ) → Kind true (run reads (flat_partition dimensions_of r place) s k).items
    unfolding flat_partition run Kind
    partition_kind place k = go (eqb place 0)
      where
        go : (t : Bool) → Kind true (run reads (cond t (done tt) (flat_vectors (place - 1) (r.size / dimensions_of (place - 1)))) s k).items
        go true = tt
        go false = vectors_kind (place - 1) (r.size / dimensions_of (place - 1)) k

    pub partitions_kind : (pass : ℕ) (cs : List ℕ) (k : ℕ) → Kind true (run reads (flat_partitions dimensions_of r pass cs) s k).items
    unfolding run flat_partitions Kind
    partitions_kind pass [] k = tt
    partitions_kind pass (c ∷ cs) k =
        let x = flat_partition dimensions_of r (planned r pass c) in
        let y = flat_partitions dimensions_of r pass cs in
        rw (run_bind reads s x (λ _. y) k)
        (kind_joined (run reads x s k) (λ _ n. run reads y s n) true (partition_kind (planned r pass c) k) (λ _ n. partitions_kind pass cs n))

  pub classes_read : (book n : ℕ) (es : List ℕ) (k : ℕ) {words : List ℕ} → (run reads (flat_class_words book n es) s k).value ≡ some words
      → ClassesRead n es (run reads (flat_class_words book n es) s k) words
  unfolding run flat_class_words Kind
  classes_read book zero es k e = record { kind = tt; number = refl; words_are = sym (cc) ∙ sym (append-nil es) }
  classes_read book (suc n) es k e =
      let q = word book class in
      continued_classes n es q k refl (reads q s k) (λ i m. run reads (flat_class_words book n (es ++ (i ∷ []))) s m) (λ i m g. classes_read book n (es ++ (i ∷ [])) m g) e
