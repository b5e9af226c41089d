-- The residue whose rows begin two lists: one content for one row, so that no two residues share their rows.
use Rattle.std.specs.Prelude.{ℕ, zero, suc, ◌+◌, ◌*◌, List, [], ◌∷◌, get_or, take, drop}
use Rattle.residue.specs.Content.{Residue}
use Rattle.residue.specs.Layout.{head_width, plan_width}
use Rattle.residue.specs.Reading.{Head, with_plan}

-- n rows of 8
unfoldable pub chunks : ℕ → List ℕ → List (List ℕ)
chunks zero l = []
chunks (suc n) l = take 8 l ∷ chunks n (drop 8 l)

-- the fields before the plan, of residue i of a table
abbrev pub head_at : List ℕ → ℕ → Head
head_at t i =
    record {
      type = get_or t (head_width * i + 0) 0;
      begin = get_or t (head_width * i + 1) 0;
      end = get_or t (head_width * i + 2) 0;
      size = get_or t (head_width * i + 3) 0;
      classifications = get_or t (head_width * i + 4) 0;
      classbook = get_or t (head_width * i + 5) 0;
    }

unfoldable pub decode_residue : List ℕ → List ℕ → Residue
decode_residue h p = with_plan (head_at h 0) (chunks (head_at h 0).classifications p)

-- n residues
unfoldable pub decode_residues : ℕ → List ℕ → List ℕ → List Residue
decode_residues zero h p = []
decode_residues (suc n) h p = decode_residue h p ∷ decode_residues n (drop head_width h) (drop plan_width p)
