-- THE CODEWORDS OF THE RESIDUES among the items of a packet, and how each stands in the lent list (01, "What the reader takes and gives"). Assumes nothing:
-- these are definitions.
use Rattle.std.specs.Prelude.{ℕ, ◌+◌, ◌*◌, Bool, true, false, cond, List, [], ◌∷◌, map}
use Rattle.reading.specs.Least.{one}
use Rattle.requests.specs.Requests.{Role, floor, class, vector, Request, number, word}
use Rattle.requests.specs.Run.{Item}

-- whether a codeword is a residue's, and whether it names a vector
abbrev pub of_residue : Role → Bool
of_residue floor = false
of_residue class = true
of_residue (vector p) = true

abbrev pub names_vector : Role → Bool
names_vector floor = false
names_vector class = false
names_vector (vector p) = true

-- whether a request is for a codeword of a residue
abbrev pub is_residue : Request → Bool
is_residue (number width) = false
is_residue (word book role) = of_residue role

abbrev pub is_vector : Request → Bool
is_vector (number width) = false
is_vector (word book role) = names_vector role

-- the codewords of the residues, in reading order
unfoldable pub residue_words : List Item → List Item
residue_words [] = []
residue_words (i ∷ l) = cond (is_residue i.request) (i ∷ residue_words l) (residue_words l)

-- a codeword in the list: twice the entry, plus 1 where it names a vector and not a class word
unfoldable pub listed : Item → ℕ
listed i = 2 * i.answer + one (is_vector i.request)
