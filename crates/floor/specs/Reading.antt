-- A floor in a setup packet as 004's steps, each field judged as soon as it is read (01, "Order").
use Rattle.std.specs.Prelude.{ℕ, List, map}
use Rattle.reading.specs.Outcome.{ok, then}
use Rattle.reading.specs.Reader.{Reader, judged, many}
use Rattle.bits.specs.Field.{field}
use Rattle.rules.specs.Rules as Rule
use Rattle.floor.specs.ClassReading.{class}
use Rattle.floor.specs.XListReading.{ends}
use Rattle.floor.specs.Content.{Floor, class_count, value_count}

-- the type: 0 is 14, above 1 is 10
unfoldable pub floor_type : Reader ℕ
floor_type = judged (λ v. Rule.meets10 (Rule.floor_type v)) 10 (judged (λ v. Rule.meets14 (Rule.no_floor_type0 v)) 14 (field 16))

-- what follows the partitions of a floor of type 1, whose type stands at `place`
unfoldable pub floor_from : ℕ → ℕ → List ℕ → Reader Floor
floor_from books place partitions s k =
    then (many (class books) (class_count partitions) s k) (λ classes.
    then (ends place (value_count (map (λ c. c.dimensions) classes.0) partitions) s classes.1) (λ e.
    ok (record { partitions = partitions; classes = classes.0; multiplier = e.0.multiplier; rangebits = e.0.rangebits; xs = e.0.xs }, e.1)))

-- floor type 1 behind its type, which stands at `place`
unfoldable pub floor1 : ℕ → ℕ → Reader Floor
floor1 books place s k =
    then (field 5 s k) (λ count.
    then (many (field 4) count.0 s count.1) (λ partitions.
    floor_from books place partitions.0 s partitions.1))

-- a floor of the setup packet (003, 4.2.4, "Floors")
unfoldable pub floor : ℕ → Reader Floor
floor books s k = then (floor_type s k) (λ t. floor1 books k s t.1)
