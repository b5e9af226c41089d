-- READING AS A TREE OF REQUESTS: what is asked of an audio packet next depends on what was answered before (in the literature an interaction tree).
-- One kind of request serves a whole packet. Assumes nothing: these are definitions.
use Rattle.std.specs.Prelude.{ℕ, zero, suc, List, [], ◌∷◌}

-- where a codeword of a residue belongs (001): the submap that the residue is of, which of its live vectors, which partition of that vector, and which of
-- the partition's codewords; each counted from 0
pub record Place : Type 0 where
  pub submap : ℕ
  pub vector : ℕ
  pub partition : ℕ
  pub index : ℕ

-- what a codeword is for: a value of a floor or its class value (004), a class word of a residue, a vector of a residue (001)
pub data Role : Type 0 where
  floor : Role
  class : Role
  vector : Place → Role

-- a field of so many bits (000, 2.1); a codeword of the book with this number (002, "Using a codebook"). The answer is a number: the field's value, or the entry
pub data Request : Type 0 where
  number : ℕ → Request
  word : ℕ → Role → Request

-- a tree ends with a value, or makes a request and goes on by its answer
pub data Requests (A : Type 0) : Type 0 where
  done : A → Requests A
  ask : Request → (ℕ → Requests A) → Requests A

-- one request, whose answer is the value
unfoldable pub request : Request → Requests ℕ
request q = ask q (λ v. done v)

module _ {A B : Type 0} where
  -- x, and then f with the value of x
  unfoldable pub bind : Requests A → (A → Requests B) → Requests B
  bind (done a) f = f a
  bind (ask q g) f = ask q (λ v. bind (g v) f)

module _ {A : Type 0} where
  -- n times x, one after the other
  unfoldable pub many : Requests A → ℕ → Requests (List A)
  many x zero = done []
  many x (suc n) = bind x (λ a. bind (many x n) (λ l. done (a ∷ l)))

module _ {A B : Type 0} where
  -- g of each item of a list, one after the other
  unfoldable pub each : (B → Requests A) → List B → Requests (List A)
  each g [] = done []
  each g (b ∷ bs) = bind (g b) (λ a. bind (each g bs) (λ l. done (a ∷ l)))
