-- A law of tables of mappings that other crates cite: one content for one table. Assumes nothing.
use Prim.Native.Nat.{ℕ, ◌≤◌}
use mathlib.Core.List.{List}
use mathlib.Core.Path.{◌≡◌}
use Rattle.reading.proofs.Encodes.{encodes_same}
use Rattle.mapping.specs.declared.Known.{Known}
use Rattle.mapping.specs.Inner.Decode.{decode_mapping}
use Rattle.mapping.specs.Layout.{mapping_row, mapping_width}
use Rattle.mapping.specs.Inner.Valid.{ValidMapping}
use Rattle.mapping.proofs.Laws.{decode_mapping_lem}
use Rattle.mapping.proofs.RowLaws.{mapping_wide}
use Rattle.mapping_tables.specs.Inner.Recognised.{MappingsRecognised}

-- no other mappings share a table
pub one_content : (known : Known) (n : ℕ) (cells : List ℕ) → known.channels ≤ 256 → (a b : MappingsRecognised known n cells) → a.items ≡ b.items
one_content known n cells h a b = encodes_same mapping_row (ValidMapping known) mapping_width mapping_wide decode_mapping (λ m v. decode_mapping_lem known m h v) n cells a b
