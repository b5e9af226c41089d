-- The runs that functions here are held to: of any tree with the books that lie in the tables, and of the codewords of one book whose lengths are lent.
use Rattle.std.specs.Prelude.{ℕ, Bool, true, false, List}
use Rattle.book_codeword.specs.Inner.Stored.{lengths_in}
use Rattle.requests.specs.Requests.{Role, class, vector, word, Requests, request}
use Rattle.requests.specs.Run.{read, Run, run}
use Rattle.residue_requests.specs.Inner.Unplaced.{nowhere, flat_vectors}

-- a tree, run from bit `at` of a packet on
abbrev pub words_run : {A : Type 0} → List ℕ → List ℕ → Requests A → List ℕ → ℕ → Run A
words_run books lengths tree packet at = run (read (lengths_in books lengths)) tree packet at

-- what a codeword of a residue is for: it names a vector, whose place the program does not keep, or it is a class word
abbrev pub role_by : Bool → Role
role_by true = vector nowhere
role_by false = class

-- one codeword: its entry
abbrev pub one_word : ℕ → Bool → Requests ℕ
one_word book names-vector = request (word book (role_by names-vector))

-- n codewords of the book with these lengths, each naming a vector. Which number the book has the lent list does not show
abbrev pub vectors_run : List ℕ → ℕ → List ℕ → ℕ → Run Unit
vectors_run lengths n packet at = run (read (λ _. lengths)) (flat_vectors 0 n) packet at
