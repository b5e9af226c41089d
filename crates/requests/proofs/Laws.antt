-- Laws of trees of requests and their runs, for every way `reads` to read a request. Assumes nothing.
use Prim.Native.Nat.{ℕ, zero, suc, ◌+◌}
use native.Mathlib.Omega.{arith}
use mathlib.Core.Bool.{Bool, true, false, cond}
use mathlib.Core.List.{List, [], ◌∷◌, ◌++◌, append_assoc}
use mathlib.Core.Option.{Option, none, some}
use mathlib.Core.Path.{◌≡◌, refl, ap, sym, ◌∙◌}
use Rattle.reading.specs.Outcome.{Refusal, refusal, Outcome, ok, bad, then}
use Rattle.reading.specs.Reader as reader
use Rattle.requests.specs.Requests.{Request, Requests, done, ask, request, bind, many, each}
use Rattle.requests.specs.Run.{Item, item, Run, ended, before, continued, run, whole_or, outcome}
use Rattle.requests.specs.Inner.Parts.{after, joined, Reads}

-- a value that is bound is handed on; binding to the end is nothing; binding twice
module _ {A B : Type 0} where
  pub bind_done : (a : A) (f : A → Requests B) → bind (done a) f ≡ f a
  unfolding bind
  bind_done a f = refl

pub bind_end : {A : Type 0} (x : Requests A) → bind x (λ a. done a) ≡ x
unfolding bind
bind_end (done a) = refl
bind_end (ask q g) = λ j. ask q (λ v. bind_end (g v) j)

module _ {A B C : Type 0} where
  pub bind-bind : (x : Requests A) (f : A → Requests B) (g : B → Requests C) → bind (bind x f) g ≡ bind x (λ a. bind (f a) g)
  unfolding bind
  bind-bind (done a) f g = refl
  bind-bind (ask q h) f g = λ j. ask q (λ v. bind-bind (h v) f g j)

module _ {A B : Type 0} where
  pub bind_same : (x : Requests A) (f g : A → Requests B) → ((a : A) → f a ≡ g a) → bind x f ≡ bind x g
  bind_same x f g e = λ j. bind x (λ a. e a j)

-- one list and then another, one count and then another
module _ {A : Type 0} where
  -- the values of x, those of y behind them
  abbrev pub appended : Requests (List A) → Requests (List A) → Requests (List A)
  appended x y = bind x (λ l. bind y (λ m. done (l ++ m)))

  one_before : (a : A) (x y : Requests (List A)) → bind (appended x y) (λ l. done (a ∷ l)) ≡ bind (bind x (λ l. done (a ∷ l))) (λ l. bind y (λ m. done (l ++ m)))
  unfolding bind
  one_before a x y =
      bind-bind x (λ l. bind y (λ m. done (l ++ m))) (λ l. done (a ∷ l))
      ∙ bind_same x (λ l. bind (bind y (λ m. done (l ++ m))) (λ t. done (a ∷ t))) (λ l. bind y (λ m. done (a ∷ l ++ m))) (λ l. bind-bind y (λ m. done (l ++ m)) (λ t. done (a ∷ t)))
      ∙ sym (bind-bind x (λ l. done (a ∷ l)) (λ l. bind y (λ m. done (l ++ m))))

  -- a tree more before the first
  more : (z : Requests A) (w x y : Requests (List A)) → w ≡ appended x y
      → bind z (λ a. bind w (λ l. done (a ∷ l))) ≡ appended (bind z (λ a. bind x (λ l. done (a ∷ l)))) y
  more z w x y e =
      bind_same z (λ a. bind w (λ l. done (a ∷ l))) (λ a. bind (bind x (λ l. done (a ∷ l))) (λ l. bind y (λ m. done (l ++ m)))) (λ a. rw e (one_before a x y))
      ∙ sym (bind-bind z (λ a. bind x (λ l. done (a ∷ l))) (λ l. bind y (λ m. done (l ++ m))))

  pub many_add : (x : Requests A) (n m : ℕ) → many x (n + m) ≡ appended (many x n) (many x m)
  unfolding many bind
  many_add x zero m = let e : 0 + m ≡ m = omega arith in rw e (sym (bind_end (many x m)))
  many_add x (suc n) m = let e : suc n + m ≡ suc (n + m) = omega arith in rw e (more x (many x (n + m)) (many x n) (many x m) (many_add x n m))

  pub each_append : {B : Type 0} (g : B → Requests A) (bs cs : List B) → each g (bs ++ cs) ≡ appended (each g bs) (each g cs)
  unfolding each bind
  each_append g [] cs = sym (bind_end (each g cs))
  each_append g (b ∷ bs) cs = more (g b) (each g (bs ++ cs)) (each g bs) (each g cs) (each_append g bs cs)

-- the run of one tree and then another
module _ {A B : Type 0} (reads : Request → reader.Reader ℕ) (s : List ℕ) where
  continued-joined : (q : Request) (k : ℕ) (o : Outcome (ℕ × ℕ)) (f : ℕ → ℕ → Run A) (g : A → ℕ → Run B) (h : ℕ → ℕ → Run B)
      → ((v n : ℕ) → h v n ≡ joined (f v n) g) → continued q k o h ≡ joined (continued q k o f) g
  unfolding joined
  continued-joined q k (ok x) f g h e = rw (e x.0 x.1) (go (f x.0 x.1).items (f x.0 x.1).position (f x.0 x.1).value)
    where
      go : (l : List Item) (n : ℕ) (v : Option A) → before (item q x.0) (after l n v g) ≡ after (item q x.0 ∷ l) n v g
      go l n (some a) = refl
      go l n none = refl
  continued-joined q k (bad z) f g h e = refl

  pub run_bind : (x : Requests A) (f : A → Requests B) (k : ℕ) → run reads (bind x f) s k ≡ joined (run reads x s k) (λ a n. run reads (f a) s n)
  unfolding run bind joined
  run_bind (done a) f k = refl
  run_bind (ask q g) f k =
      continued-joined q k (reads q s k) (λ v n. run reads (g v) s n) (λ a n. run reads (f a) s n) (λ v n. run reads (bind (g v) f) s n) (λ v n. run_bind (g v) f n)

-- joining thrice
module _ {A B C : Type 0} where
  pub joined-joined : (r : Run A) (f : A → ℕ → Run B) (g : B → ℕ → Run C) → joined (joined r f) g ≡ joined r (λ a n. joined (f a n) g)
  unfolding joined
  joined-joined r f g = go r.value
    where
      twice : (l : List Item) (m : List Item) (n : ℕ) (v : Option B) → after (l ++ m) n v g ≡ after l n (some tt) (λ (_ : Unit {0}) (_ : ℕ). after m n v g)
      twice l m n (some b) = λ j. ended (append_assoc l m (g b n).items j) (g b n).position (g b n).value
      twice l m n none = refl

      go : (v : Option A) → joined (after r.items r.position v f) g ≡ after r.items r.position v (λ a n. joined (f a n) g)
      go (some a) = twice r.items (f a r.position).items (f a r.position).position (f a r.position).value
      go none = refl

module _ {A B : Type 0} where
  pub joined_same : (r : Run A) (f g : A → ℕ → Run B) → ((a : A) (n : ℕ) → f a n ≡ g a n) → joined r f ≡ joined r g
  unfolding joined
  joined_same r f g e = go r.value
    where
      go : (v : Option A) → after r.items r.position v f ≡ after r.items r.position v g
      go (some a) = ap (λ (t : Run B). ended (r.items ++ t.items) t.position t.value) (e a r.position)
      go none = refl

-- trees that read what readers read
module _ (reads : Request → reader.Reader ℕ) where
  pub reads-done : {A : Type 0} (a : A) → Reads reads (done a) (λ s k. ok (a, k))
  unfolding Reads run outcome
  reads-done a s k = refl

  pub reads-bind : {A B : Type 0} (x : Requests A) (f : A → Requests B) (r : reader.Reader A) (g : A → reader.Reader B) → Reads reads x r
      → ((a : A) → Reads reads (f a) (g a)) → Reads reads (bind x f) (λ s k. then (r s k) (λ y. g y.0 s y.1))
  unfolding Reads outcome joined
  reads-bind {A} {B} x f r g p q s k = rw (run_bind reads s x f k, ← p s k) (go (run reads x s k).items (run reads x s k).position (run reads x s k).value)
    where
      go : (l : List Item) (n : ℕ) (v : Option A)
          → whole_or (after l n v (λ a m. run reads (f a) s m)).value (after l n v (λ a m. run reads (f a) s m)).position
          ≡ then (whole_or v n) (λ y. g y.0 s y.1)
      go l n (some a) = q a s n
      go l n none = refl

  -- `many` and `each` of trees read what `many` and `each` of readers read
  pub reads-many : {A : Type 0} (x : Requests A) (r : reader.Reader A) → Reads reads x r → (n : ℕ) → Reads reads (many x n) (reader.many r n)
  unfolding many reader.many
  reads-many x r p zero = reads-done []
  reads-many x r p (suc n) =
      reads-bind x (λ a. bind (many x n) (λ l. done (a ∷ l))) r (λ a s i. then (reader.many r n s i) (λ y. ok (a ∷ y.0, y.1))) p
      (λ a. reads-bind (many x n) (λ l. done (a ∷ l)) (reader.many r n) (λ l s i. ok (a ∷ l, i)) (reads-many x r p n) (λ l. reads-done (a ∷ l)))

  pub reads-each : {A B : Type 0} (g : B → Requests A) (r : B → reader.Reader A) → ((b : B) → Reads reads (g b) (r b)) → (l : List B) → Reads reads (each g l) (reader.each r l)
  unfolding each reader.each
  reads-each g r p [] = reads-done []
  reads-each g r p (b ∷ bs) =
      reads-bind (g b) (λ a. bind (each g bs) (λ l. done (a ∷ l))) (r b) (λ a s i. then (reader.each r bs s i) (λ y. ok (a ∷ y.0, y.1))) (p b)
      (λ a. reads-bind (each g bs) (λ l. done (a ∷ l)) (reader.each r bs) (λ l s i. ok (a ∷ l, i)) (reads-each g r p bs) (λ l. reads-done (a ∷ l)))

  pub reads_if : {A : Type 0} (t : Bool) (x y : Requests A) (r u : reader.Reader A) → Reads reads x r → Reads reads y u
      → Reads reads (cond t x y) (λ s k. cond t (r s k) (u s k))
  unfolding Reads
  reads_if true x y r u p q = p
  reads_if false x y r u p q = q

  -- one request, where nothing but a cut refuses it
  pub reads-request : (q : Request) → ((s : List ℕ) (k : ℕ) (z : Refusal) → reads q s k ≡ bad z → z ≡ refusal 1 k) → Reads reads (request q) (reads q)
  unfolding Reads request run outcome
  reads-request q h s k = go (reads q s k) refl
    where
      go : (o : Outcome (ℕ × ℕ)) → reads q s k ≡ o → outcome (continued q k o (λ v n. run reads (done v) s n)) ≡ o
      go (ok x) e = refl
      go (bad z) e = rw (h s k z e)
