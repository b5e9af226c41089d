-- Readers of content: from a packet and a bit position to what stands there with the position after it, or a refusal.
-- A loop that writes what it reads into buffers is `into write (many reader n ..)`: content and layout stay the specification.
use Rattle.std.specs.Prelude.{ℕ, zero, suc, Bool, List, [], ◌∷◌}
use Rattle.reading.specs.Outcome.{refusal, Outcome, ok, bad, then, need}

abbrev pub Reader : Type 0 → Type 0
Reader A = List ℕ → ℕ → Outcome (A × ℕ)

-- a number, judged as soon as it is read: the refusal's place is the first bit of what was read (01, "Order")
abbrev pub judged : (ℕ → Bool) → ℕ → Reader ℕ → Reader ℕ
judged test number r p k = then (r p k) (λ x. need (test x.0) (refusal number k) (ok x))

module _ {A : Type 0} where
  -- n times what r reads, one after the other
  unfoldable pub many : Reader A → ℕ → Reader (List A)
  many r zero p k = ok ([], k)
  many r (suc n) p k = then (r p k) (λ x. then (many r n p x.1) (λ y. ok (x.0 ∷ y.0, y.1)))

module _ {A B : Type 0} where
  -- for each item of a list what r reads with it, one after the other
  unfoldable pub each : (B → Reader A) → List B → Reader (List A)
  each r [] p k = ok ([], k)
  each r (b ∷ l) p k = then (r b p k) (λ x. then (each r l p x.1) (λ y. ok (x.0 ∷ y.0, y.1)))

  -- what was read, under f; the position stays
  unfoldable pub mapped : (A → B) → Outcome (A × ℕ) → Outcome (B × ℕ)
  mapped f (ok x) = ok (f x.0, x.1)
  mapped f (bad z) = bad z

-- T stands for the buffers, w for writing one item into them
module _ {A T : Type 0} where
  -- items written into the buffers one after the other
  unfoldable pub puts : (A → T → T) → List A → T → T
  puts w [] t = t
  puts w (a ∷ l) t = puts w l (w a t)

  -- a list that was read, written into the buffers
  unfoldable pub into : (A → T → T) → Outcome (List A × ℕ) → T → Outcome (T × ℕ)
  into w o t = mapped (λ l. puts w l t) o

  -- one item that was read, written into the buffers
  unfoldable pub into1 : (A → T → T) → Outcome (A × ℕ) → T → Outcome (T × ℕ)
  into1 w o t = mapped (λ a. w a t) o
