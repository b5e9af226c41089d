-- TREES THAT CAN REFUSE: the value of such a tree is an outcome. A refusal ends what follows, as a cut does (01, "Order"). Assumes nothing: these are definitions.
use Rattle.std.specs.Prelude.{ℕ, List, [], ◌∷◌}
use Rattle.std.proofs.Math.Option.{Option, none, some}
use Rattle.reading.specs.Outcome.{refusal, Outcome, ok, bad}
use Rattle.requests.specs.Requests.{Requests, done, bind}
use Rattle.requests.specs.Run.{Run}

module _ {A : Type 0} where
  -- a tree that refuses nothing, as one that can
  unfoldable pub lifted : Requests A → Requests (Outcome A)
  lifted x = bind x (λ a. done (ok a))

module _ {A B : Type 0} where
  -- what follows a value; nothing follows a refusal
  abbrev pub onward : Outcome A → (A → Requests (Outcome B)) → Requests (Outcome B)
  onward (ok a) f = f a
  onward (bad z) f = done (bad z)

  -- x, and then f with the value of x
  unfoldable pub and_then : Requests (Outcome A) → (A → Requests (Outcome B)) → Requests (Outcome B)
  and_then x f = bind x (λ o. onward o f)

module _ {A B : Type 0} where
  -- g of each item of a list, one after the other, up to the first refusal
  unfoldable pub in_turn : (B → Requests (Outcome A)) → List B → Requests (Outcome (List A))
  in_turn g [] = done (ok [])
  in_turn g (b ∷ bs) = and_then (g b) (λ a. and_then (in_turn g bs) (λ l. done (ok (a ∷ l))))

module _ {A : Type 0} where
  -- the values before the first refusal
  unfoldable pub values_of : List (Outcome A) → List A
  values_of [] = []
  values_of (ok a ∷ l) = a ∷ values_of l
  values_of (bad z ∷ l) = []

  abbrev pub came_or : Option (Outcome A) → ℕ → Outcome (A × ℕ)
  came_or (some (ok a)) k = ok (a, k)
  came_or (some (bad z)) k = bad z
  came_or none k = bad (refusal 1 k)

  -- what a run came to, with the position behind it; a cut is refusal 1 at the first bit of what is cut
  unfoldable pub came_to : Run (Outcome A) → Outcome (A × ℕ)
  came_to r = came_or r.value r.position
