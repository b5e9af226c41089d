-- What reading comes to: a value, or ONE refusal of a number and a place (01, "When the packet is sent back").
-- 01 wants the number alone at the front door; inside, a refusal also knows its place: the first bit of the judged field.
use Rattle.std.specs.Prelude.{ℕ, Bool, true, false}

pub record Refusal : Type 0 where
  pub number : ℕ
  pub place : ℕ

abbrev pub refusal : ℕ → ℕ → Refusal
refusal n k = record { number = n; place = k }

pub data Outcome (A : Type 0) : Type 0 where
  ok : A → Outcome A
  bad : Refusal → Outcome A

-- a step, and then the next one with what it gave; the first fault in reading order decides (01, "Order")
module _ {A B : Type 0} where
  abbrev pub then : Outcome A → (A → Outcome B) → Outcome B
  then (ok a) f = f a
  then (bad z) f = bad z

-- what follows where the test holds, else the refusal
module _ {A : Type 0} where
  abbrev pub need : Bool → Refusal → Outcome A → Outcome A
  need true z o = o
  need false z o = bad z
