-- DEMAND 3: code space balances like a quota. What is claimed of a list of lengths and the answers to them. The shares and the codewords
-- handed out are those of the lengths entered and of the answers; nothing is taken from the program's space (01, "Bits and books").
use Rattle.std.specs.Prelude.{List, [], ◌∷◌, ◌++◌, ◌↔◌, ◌≡◌, ℕ, suc, ◌+◌, ◌^◌, ◌≤◌, ◌<◌, length, get_or, take, drop}
use Rattle.std.proofs.Math.Option.{Option, none, some}
use Rattle.reading.specs.Least.{one, Least}
use Rattle.codespace.specs.Ledger.{Codeword, codeword, share, begins, free_strings, free_codeword, enlist, answers, IsLength}

-- the list of codewords that these lengths with these answers come to
unfoldable pub handed_out : List Codeword → List ℕ → List (Option ℕ) → List Codeword
handed_out ws [] os = ws
handed_out ws (l ∷ ls) [] = ws
handed_out ws (l ∷ ls) (o ∷ os) = handed_out (enlist ws l o) ls os

abbrev pub accepted_share : ℕ → Option ℕ → ℕ
accepted_share l (some v) = share l
accepted_share l none = 0

-- the shares of the lengths that were accepted, in all
unfoldable pub accepted : List ℕ → List (Option ℕ) → ℕ
accepted [] os = 0
accepted (l ∷ ls) [] = 0
accepted (l ∷ ls) (o ∷ os) = accepted_share l o + accepted ls os

abbrev pub starts_with : ℕ → ℕ → Option ℕ → ℕ
starts_with s l (some v) = one (begins s (codeword l v))
starts_with s l none = 0

-- how many entries' codewords the string s starts with
unfoldable pub starts : ℕ → List ℕ → List (Option ℕ) → ℕ
starts s [] os = 0
starts s (l ∷ ls) [] = 0
starts s (l ∷ ls) (o ∷ os) = starts_with s l o + starts s ls os

-- the codewords handed out by the first i enterings
abbrev pub handed_out_by : ℕ → List ℕ → List (Option ℕ) → List Codeword
handed_out_by i ls os = handed_out [] (take i ls) (take i os)

-- the list without its element at place i
unfoldable pub without : {A : Type 0} → ℕ → List A → List A
without i l = take i l ++ drop (suc i) l

-- THE CLAIM about a whole list of lengths ls, entered one by one from an empty space, and the answers os, refusals included
pub record Balanced (ls : List ℕ) (os : List (Option ℕ)) : Type 0 where
  -- each answer is the ledger's
  pub ledger : os ≡ answers [] ls
  -- after each entering the shares accepted and the free strings add up to all the strings
  pub balance : (i : ℕ) → i ≤ length ls → accepted (take i ls) (take i os) + free_strings (handed_out_by i ls os) ≡ 4294967296
  -- each accepted entry took the lowest free codeword of its length
  pub lowest : (i v : ℕ) → i < length ls → get_or os i none ≡ some v
      → Least (free_codeword (handed_out_by i ls os) (get_or ls i 0)) (2 ^ get_or ls i 0) v
  -- an entry was refused exactly when its share exceeded what was free; one that is no length, always
  pub refused : (i : ℕ) → i < length ls → IsLength (get_or ls i 0)
      → (get_or os i none ≡ none) ↔ (free_strings (handed_out_by i ls os) < share (get_or ls i 0))
  pub outside : (i : ℕ) → i < length ls → (IsLength (get_or ls i 0) → ⊥) → get_or os i none ≡ none
  -- a refused one changed nothing: the other answers are those to the other lengths alone
  pub unchanged : (i : ℕ) → i < length ls → get_or os i none ≡ none → without i os ≡ answers [] (without i ls)
  -- where nothing is left, every string starts with exactly one entry's codeword
  pub complete : (i : ℕ) → i ≤ length ls → free_strings (handed_out_by i ls os) ≡ 0
      → (s : ℕ) → s < 4294967296 → starts s (take i ls) (take i os) ≡ 1
