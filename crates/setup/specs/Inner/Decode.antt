-- THE CONTENT OF TABLES, as a function of them alone: `layout` the other way round. Total: of tables that are no content's writing-out it gives some
-- content, of which nothing is claimed.
use Rattle.std.specs.Prelude.{ℕ, zero, suc, List, [], ◌∷◌, get_or, take, drop}
use Rattle.book.specs.Rows.{decode_books}
use Rattle.floor.specs.Inner.Decode.{decode_floor}
use Rattle.residue.specs.Inner.Decode.{decode_residues}
use Rattle.mapping.specs.Inner.Decode.{decode_mapping}
use Rattle.mode.specs.Inner.Decode.{decode_mode}
use Rattle.setup.specs.Content.{Setup}
use Rattle.setup.specs.Layout.{Tables}
use Rattle.floor.specs.Layout.{floor_width}
use Rattle.mapping.specs.Layout.{mapping_width}
use Rattle.mode.specs.Layout.{mode_width}

-- n items, each from a row of w numbers
module _ {A : Type 0} where
  unfoldable pub decode_rows : ℕ → (List ℕ → A) → ℕ → List ℕ → List A
  decode_rows w decode zero cells = []
  decode_rows w decode (suc n) cells = decode (take w cells) ∷ decode_rows w decode n (drop w cells)

unfoldable pub decode_setup : Tables → Setup
decode_setup t =
    record {
      books = decode_books (get_or t.counts 0 0) t.books t.lengths t.multiplicands;
      floors = decode_rows floor_width decode_floor (get_or t.counts 1 0) t.floors;
      residues = decode_residues (get_or t.counts 2 0) t.residues t.plans;
      mappings = decode_rows mapping_width decode_mapping (get_or t.counts 3 0) t.mappings;
      modes = decode_rows mode_width decode_mode (get_or t.counts 4 0) t.modes;
    }
