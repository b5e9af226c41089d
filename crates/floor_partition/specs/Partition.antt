-- The values of one partition of a floor, by 004's steps ("packet decode"; 01, "Audio order" 2). The numbers in comments are 004's steps. `lengths_of` gives the entry
-- lengths of a codebook by its number. A missing bit is refusal 1 at the first bit of what is cut. Assumes nothing: these are definitions.
use Rattle.std.specs.Prelude.{ℕ, zero, suc, ◌-◌, ◌/◌, ◌%◌, ◌^◌, cond, List, [], ◌∷◌, eqb, get_or}
use Rattle.reading.specs.Outcome.{ok, then}
use Rattle.reading.specs.Reader.{Reader, each}
use Rattle.codeword.specs.Codeword.{codeword}
use Rattle.floor.specs.Content.{Class}

-- 10 to 12: the class value, read with the master book; 0 where the class has no subclass bits. A place for a book holds its number plus one
unfoldable pub class_value : (ℕ → List ℕ) → Class → Reader ℕ
class_value lengths_of c s k = cond (eqb c.subclasses 0) (ok (0, k)) (codeword (lengths_of (c.master - 1)) s k)

-- 13 to 15: the places of the n books that a class value chooses: its lowest digit to the base 2 ^ subclasses chooses the first
unfoldable pub chosen : Class → ℕ → ℕ → List ℕ
chosen c v zero = []
chosen c v (suc n) = get_or c.books (v % 2 ^ c.subclasses) 0 ∷ chosen c (v / 2 ^ c.subclasses) n

-- 16 to 18: a value, read with the book of a place; 0 where the place holds none
unfoldable pub value : (ℕ → List ℕ) → ℕ → Reader ℕ
value lengths_of place s k = cond (eqb place 0) (ok (0, k)) (codeword (lengths_of (place - 1)) s k)

-- 7 to 18: the values of a partition of class c
unfoldable pub partition : (ℕ → List ℕ) → Class → Reader (List ℕ)
partition lengths_of c s k = then (class_value lengths_of c s k) (λ v. each (value lengths_of) (chosen c v.0 c.dimensions) s v.1)

-- the values of a partition stand one after the other
unfoldable pub whole : List ℕ → List ℕ
whole ys = ys
