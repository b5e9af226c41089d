-- The setup packet as 003's steps (section 4.2.4): the first fault in reading order decides (01, "Order").
use Rattle.std.specs.Prelude.{ℕ, ◌+◌, List, length}
use Rattle.reading.specs.Outcome.{Outcome, ok, then}
use Rattle.reading.specs.Reader.{Reader, judged, many}
use Rattle.bits.specs.Field.{field}
use Rattle.rules.specs.Rules as Rule
use Rattle.header.specs.Header.{common_header, framing}
use Rattle.limits.specs.declared.Limits.{Limits}
use Rattle.book.specs.Content.{Book}
use Rattle.book.specs.Reading.{books}
use Rattle.floor.specs.Reading.{floor}
use Rattle.residue.specs.Reading.{residue}
use Rattle.mapping.specs.Reading.{mapping}
use Rattle.mode.specs.Reading.{mode}
use Rattle.setup.specs.Content.{Setup, books_known, known}

-- 8 bits plus one books
unfoldable pub book_section : Limits → Reader (List Book)
book_section limits s k = then (field 8 s k) (λ n. books limits (record { entries = 0; values = 0 }) (n.0 + 1) s n.1)

-- 6 bits plus one items
module _ {A : Type 0} where
  unfoldable pub section : Reader A → Reader (List A)
  section r s k = then (field 6 s k) (λ n. many r (n.0 + 1) s n.1)

-- the time domain transforms: each value is 0 (9). They are no content
unfoldable pub time_value : Reader ℕ
time_value = judged (λ v. Rule.meets9 (Rule.time_value v)) 9 (field 16)

-- the sections one after the other, behind the header that ends at k
unfoldable pub sections : Limits → ℕ → Reader Setup
sections limits channels s k =
    then (book_section limits s k) (λ bs.
    then (section time_value s bs.1) (λ times.
    then (section (floor (length bs.0)) s times.1) (λ fs.
    then (section (residue (books_known bs.0)) s fs.1) (λ rs.
    then (section (mapping (known channels fs.0 rs.0)) s rs.1) (λ ms.
    then (section (mode (length ms.0)) s ms.1) (λ modes.
    ok (record { books = bs.0; floors = fs.0; residues = rs.0; mappings = ms.0; modes = modes.0 }, modes.1)))))))

-- THE SETUP PACKET, for an identity's channels: type 5 and name, the sections, the framing bit. What follows it is ignored
unfoldable pub setup : Limits → ℕ → List ℕ → Outcome Setup
setup limits channels s =
    then (common_header 5 s) (λ k.
    then (sections limits channels s k) (λ x.
    then (framing s x.1) (λ _.
    ok x.0)))
