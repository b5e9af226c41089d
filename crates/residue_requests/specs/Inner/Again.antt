-- The classes of passes 1 to 7, found again in the list of codewords: the class words stand there, each twice its entry, and every other codeword of pass 0 is
-- odd. So the program keeps no classes. proofs/AgainLaws.antt shows that they are the classes of pass 0.
use Rattle.std.specs.Prelude.{ℕ, zero, suc, ◌+◌, ◌-◌, ◌/◌, ◌%◌, ◌≤◌, cond, List, [], ◌∷◌, ◌++◌, eqb, get_or, drop}
use Rattle.residue.specs.Content.{Residue}
use Rattle.residue_requests.specs.Requests.{classes_of}

-- how many codewords at the front of a list name vectors
unfoldable pub odd_front : List ℕ → ℕ
odd_front [] = 0
odd_front (w ∷ l) = cond (eqb (w % 2) 1) (suc (odd_front l)) 0

-- the entries of the n codewords from place `at` on
unfoldable pub entries_from : List ℕ → ℕ → ℕ → List ℕ
entries_from l at zero = []
entries_from l at (suc n) = get_or l at 0 / 2 ∷ entries_from l (suc at) n

-- the place of the next class word, from a place on
unfoldable pub next_class : List ℕ → ℕ → ℕ
next_class l at = at + odd_front (drop at l)

-- the classes of `left` partitions of `live` vectors, where each of the class words `es` has `unused` digits left and the next ones stand from place `at` on;
-- dims is the dimensions of the class book
unfoldable pub again : ℕ → Residue → ℕ → List ℕ → ℕ → ℕ → List ℕ → ℕ → List ℕ
again dims r live l zero unused es at = []
again dims r live l (suc left) zero es at =
    classes_of r (dims - 1) (entries_from l (next_class l at) live) ++ again dims r live l left (dims - 1) (entries_from l (next_class l at) live) (next_class l at + live)
again dims r live l (suc left) (suc unused) es at = classes_of r unused es ++ again dims r live l left unused es at

-- the class words of `left` partitions stand before place `end`
unfoldable pub ClassWordsBefore : ℕ → ℕ → ℕ → List ℕ → ℕ → ℕ → ℕ → Type 0
ClassWordsBefore dims live end l zero unused at = Unit {0}
ClassWordsBefore dims live end l (suc left) zero at = (next_class l at + live ≤ end) × ClassWordsBefore dims live end l left (dims - 1) (next_class l at + live)
ClassWordsBefore dims live end l (suc left) (suc unused) at = ClassWordsBefore dims live end l left unused at
