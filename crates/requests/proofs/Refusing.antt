-- Laws of trees that can refuse (specs/Refusing.antt): those that refuse nothing are run as they stand; the values before a refusal; and trees whose refusals have
-- numbers. Assumes nothing.
use Prim.Native.Nat.{ℕ}
use native.Mathlib.Omega.{arith}
use mathlib.Core.Bool.{Bool, true, false, cond}
use mathlib.Core.List.{List, [], ◌∷◌, ◌++◌, append-nil}
use mathlib.Core.Option.{Option, none, some}
use mathlib.Core.Path.{◌≡◌, refl, ap, sym, ◌∙◌}
use Rattle.reading.specs.Outcome.{refusal, Outcome, ok, bad}
use Rattle.reading.specs.Reader.{Reader}
use Rattle.reading.proofs.Outcomes.{Numbered, value, number}
use Rattle.requests.specs.Requests.{Request, Requests, done, ask, bind, each}
use Rattle.requests.specs.Run.{Item, Run, ended, continued, run, whole_or, outcome}
use Rattle.requests.specs.Values.{unless_cut, whole_values}
use Rattle.requests.specs.Refusing.{lifted, onward, and_then, in_turn, values_of, came_or, came_to}
use Rattle.requests.specs.Inner.Parts.{after, joined}
use Rattle.requests.proofs.Laws.{bind-bind, bind_same, run_bind}

-- TREES THAT REFUSE NOTHING: what follows them follows their value
module _ {A B : Type 0} where
  pub lifted_then : (x : Requests A) (f : A → Requests (Outcome B)) → and_then (lifted x) f ≡ bind x f
  unfolding and_then lifted bind
  lifted_then x f = bind-bind x (λ a. done (ok a)) (λ o. onward o f)

  pub lifted-bind : (x : Requests A) (f : A → Requests B) → lifted (bind x f) ≡ bind x (λ a. lifted (f a))
  unfolding lifted
  lifted-bind x f = bind-bind x f (λ b. done (ok b))

-- one after the other
module _ {A B : Type 0} (g : B → Requests A) where
  pub lifted-each : (bs : List B) → in_turn (λ b. lifted (g b)) bs ≡ lifted (each g bs)
  unfolding in_turn each lifted bind
  lifted-each [] = refl
  lifted-each (b ∷ bs) =
      lifted_then (g b) (λ a. and_then (in_turn (λ d. lifted (g d)) bs) (λ l. done (ok (a ∷ l))))
      ∙ bind_same (g b) (λ a. and_then (in_turn (λ d. lifted (g d)) bs) (λ l. done (ok (a ∷ l)))) (λ a. lifted (bind (each g bs) (λ l. done (a ∷ l)))) (next (lifted-each bs))
      ∙ sym (lifted-bind (g b) (λ a. bind (each g bs) (λ l. done (a ∷ l))))
    where
      next : in_turn (λ d. lifted (g d)) bs ≡ lifted (each g bs)
          → (a : A) → and_then (in_turn (λ d. lifted (g d)) bs) (λ l. done (ok (a ∷ l))) ≡ lifted (bind (each g bs) (λ l. done (a ∷ l)))
      next e a =
          ap (λ (x : Requests (Outcome (List A))). and_then x (λ l. done (ok (a ∷ l)))) e
          ∙ lifted_then (each g bs) (λ l. done (ok (a ∷ l)))
          ∙ sym (lifted-bind (each g bs) (λ l. done (a ∷ l)))

-- their runs: the same items, position and outcome
module _ {A : Type 0} where
  abbrev lifted_value : Option A → Option (Outcome A)
  lifted_value (some a) = some (ok a)
  lifted_value none = none

module _ {A : Type 0} (reads : Request → Reader ℕ) (s : List ℕ) where
  run-lifted : (x : Requests A) (k : ℕ) → run reads (lifted x) s k ≡ ended (run reads x s k).items (run reads x s k).position (lifted_value (run reads x s k).value)
  unfolding lifted joined run
  run-lifted x k = run_bind reads s x (λ a. done (ok a)) k ∙ go (run reads x s k).items (run reads x s k).position (run reads x s k).value
    where
      go : (l : List Item) (n : ℕ) (v : Option A) → after l n v (λ a i. run reads (done (ok a)) s i) ≡ ended l n (lifted_value v)
      go l n (some a) = ap (λ (m : List Item). ended m n (some (ok a))) (append-nil l)
      go l n none = refl

  pub lifted-items : (x : Requests A) (k : ℕ) → (run reads (lifted x) s k).items ≡ (run reads x s k).items
  lifted-items x k = ap (λ (r : Run (Outcome A)). r.items) (run-lifted x k)

  pub lifted-position : (x : Requests A) (k : ℕ) → (run reads (lifted x) s k).position ≡ (run reads x s k).position
  lifted-position x k = ap (λ (r : Run (Outcome A)). r.position) (run-lifted x k)

  pub lifted-outcome : (x : Requests A) (k : ℕ) → came_to (run reads (lifted x) s k) ≡ outcome (run reads x s k)
  unfolding came_to outcome
  lifted-outcome x k = ap came_to (run-lifted x k) ∙ go (run reads x s k).value (run reads x s k).position
    where
      go : (v : Option A) (n : ℕ) → came_or (lifted_value v) n ≡ whole_or v n
      go (some a) n = refl
      go none n = refl

-- their values
module _ {A B : Type 0} (reads : Request → Reader ℕ) (s : List ℕ) (g : B → Requests A) where
  pub lifted_values : (bs : List B) (k : ℕ) → values_of (whole_values reads (λ b. lifted (g b)) bs s k) ≡ whole_values reads g bs s k
  unfolding whole_values values_of
  lifted_values [] k = refl
  lifted_values (b ∷ bs) k =
      rw (run-lifted reads s (g b) k)
      (go (run reads (g b) s k).value (run reads (g b) s k).position (lifted_values bs (run reads (g b) s k).position))
    where
      go : (v : Option A) (n : ℕ) → values_of (whole_values reads (λ d. lifted (g d)) bs s n) ≡ whole_values reads g bs s n
          → values_of (unless_cut (lifted_value v) (whole_values reads (λ d. lifted (g d)) bs s n)) ≡ unless_cut v (whole_values reads g bs s n)
      go (some a) n e = ap (λ (l : List A). a ∷ l) e
      go none n e = refl

-- VALUES BEFORE A REFUSAL, of a list that begins another
module _ {A : Type 0} where
  pub values_begin : (l m : List (Outcome A)) → (rest : List A) × (values_of (l ++ m) ≡ values_of l ++ rest)
  unfolding values_of
  values_begin [] m = (values_of m, refl)
  values_begin (ok a ∷ l) m = let r = values_begin l m in (r.0, ap (λ (t : List A). a ∷ t) r.1)
  values_begin (bad z ∷ l) m = ([], refl)

-- NUMBERS: a tree whose refusals have one
module _ {A : Type 0} where
  unfoldable pub EndsNumbered : Requests (Outcome A) → Type 0
  EndsNumbered (done o) = Numbered o
  EndsNumbered (ask q f) = (v : ℕ) → EndsNumbered (f v)

  pub either_ends : (t : Bool) (x y : Requests (Outcome A)) → EndsNumbered x → EndsNumbered y → EndsNumbered (cond t x y)
  either_ends true x y n m = n
  either_ends false x y n m = m

module _ {A B : Type 0} where
  pub bind_ends : (x : Requests A) (f : A → Requests (Outcome B)) → ((a : A) → EndsNumbered (f a)) → EndsNumbered (bind x f)
  unfolding bind EndsNumbered
  bind_ends (done a) f n = n a
  bind_ends (ask q g) f n = λ v. bind_ends (g v) f n

  onward_ends : {o : Outcome A} (f : A → Requests (Outcome B)) → Numbered o → ((a : A) → EndsNumbered (f a)) → EndsNumbered (onward o f)
  unfolding EndsNumbered
  onward_ends f (value a) n = n a
  onward_ends f (number z h) n = number z h

  pub then_ends : (x : Requests (Outcome A)) (f : A → Requests (Outcome B)) → EndsNumbered x → ((a : A) → EndsNumbered (f a)) → EndsNumbered (and_then x f)
  unfolding and_then bind EndsNumbered
  then_ends (done o) f e n = onward_ends f e n
  then_ends (ask q g) f e n = λ v. then_ends (g v) f (e v) n

pub lifted_ends : {A : Type 0} (x : Requests A) → EndsNumbered (lifted x)
unfolding lifted EndsNumbered
lifted_ends x = bind_ends x (λ a. done (ok a)) (λ a. value a)

pub turn_ends : {A B : Type 0} (g : B → Requests (Outcome A)) → ((b : B) → EndsNumbered (g b)) → (bs : List B) → EndsNumbered (in_turn g bs)
unfolding in_turn EndsNumbered
turn_ends g n [] = value []
turn_ends g n (b ∷ bs) = then_ends (g b) _ (n b) (λ a. then_ends (in_turn g bs) _ (turn_ends g n bs) (λ l. value (a ∷ l)))

-- a run of it: a cut is refusal 1
module _ {A : Type 0} (reads : Request → Reader ℕ) (s : List ℕ) where
  continued_numbered : (q : Request) (k : ℕ) (f : ℕ → ℕ → Run (Outcome A)) → ((v n : ℕ) → Numbered (came_to (f v n))) → (o : Outcome (ℕ × ℕ))
      → Numbered (came_to (continued q k o f))
  unfolding came_to
  continued_numbered q k f h (ok x) = h x.0 x.1
  continued_numbered q k f h (bad z) = number (refusal 1 k) (omega arith)

  done_numbered : (k : ℕ) {o : Outcome A} → Numbered o → Numbered (came_or (some o) k)
  done_numbered k (value a) = value (a, k)
  done_numbered k (number z w) = number z w

  pub run_numbered : (x : Requests (Outcome A)) → EndsNumbered x → (k : ℕ) → Numbered (came_to (run reads x s k))
  unfolding came_to run EndsNumbered
  run_numbered (done o) e k = done_numbered k e
  run_numbered (ask q f) e k = continued_numbered q k (λ v n. run reads (f v) s n) (λ v n. run_numbered (f v) (e v) n) (reads q s k)
