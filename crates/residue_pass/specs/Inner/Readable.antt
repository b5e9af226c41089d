-- A residue and its books as they lie in the tables of a setup (docs/TABLES.md), and what is known of them where the tables are sound.
use Rattle.std.specs.Prelude.{ℕ, zero, suc, ◌+◌, ◌-◌, ◌*◌, ◌^◌, ◌≤◌, ◌<◌, List, [], ◌++◌, ◌≡◌, get_or, drop}
use Rattle.book_codeword.specs.Inner.Stored.{dimensions_in, BookStored}
use Rattle.residue.specs.Content.{Residue}
use Rattle.residue.specs.Layout.{plan_width}
use Rattle.residue.specs.Reading.{with_plan}
use Rattle.residue.specs.Inner.Decode.{head_at, chunks}
use Rattle.residue.specs.Inner.Heads.{head_of}
use Rattle.residue.specs.declared.head.Head.{Head}
use Rattle.residue_requests.specs.Requests.{classes_of}

-- residue number n
unfoldable pub residue_in : List ℕ → List ℕ → ℕ → Residue
residue_in residues plans n = with_plan (head_at residues n) (chunks (head_at residues n).classifications (drop (plan_width * n) plans))

-- the same, where its fields before the plan were read as h
unfoldable pub residue_by : Head → List ℕ → ℕ → Residue
residue_by h plans n = with_plan (head_of h) (chunks h.classifications (drop (plan_width * n) plans))

-- the place of its plan for a class in a pass
abbrev pub place_in : List ℕ → ℕ → ℕ → ℕ → ℕ
place_in plans n class pass = get_or plans (plan_width * n + (8 * class + pass)) 0

-- residue number n, whose fields before the plan are h, can be read: the books that it names lie in the tables and have dimensions, and a class word's digits
-- can be told apart by dividing (refusal 13)
pub record ResidueReadable (books lengths codewords plans : List ℕ) (n : ℕ) (h : Head) : Type 0 where
  pub size_low : 1 ≤ h.size
  pub classes_low : 1 ≤ h.classifications
  pub classes_high : h.classifications ≤ 64
  pub class_book : BookStored books lengths codewords h.classbook
  pub class_dimensions : 1 ≤ dimensions_in books h.classbook
  pub power : h.classifications ^ (dimensions_in books h.classbook - 1) < 2 ^ 32
  pub places : (class pass : ℕ) → class < h.classifications → pass < 8 → (place_in plans n class pass ≡ 0 → ⊥)
      → BookStored books lengths codewords (place_in plans n class pass - 1) × (1 ≤ dimensions_in books (place_in plans n class pass - 1))

-- the same, with the digits of a class word and what the first of them is divided by
pub record PassReadable (books lengths codewords plans : List ℕ) (n : ℕ) (h : Head) (digits top : ℕ) : Type 0 where
  pub readable : ResidueReadable books lengths codewords plans n h
  pub digits_are : digits ≡ dimensions_in books h.classbook
  pub top_is : top ≡ h.classifications ^ (digits - 1)

-- the classes of n partitions under class words of so many digits that are not used yet, by partition, then vector
unfoldable pub group_classes : Residue → ℕ → List ℕ → ℕ → List ℕ
group_classes r unused es zero = []
group_classes r zero es (suc n) = []
group_classes r (suc unused) es (suc n) = classes_of r unused es ++ group_classes r unused es n
