-- What opens and closes every header packet (003, section 4.2.1; 01, "What the reader takes and gives").
use Rattle.std.specs.Prelude.{ℕ, not, List, [], ◌∷◌, eqb}
use Rattle.reading.specs.Outcome.{Outcome, ok, then}
use Rattle.reading.specs.Reader.{Reader, judged}
use Rattle.bits.specs.Field.{field}

-- these bytes, each judged as soon as it is read: refusal 2 at the first that differs (01: "the name byte by byte"). Gives the position after them
unfoldable pub exactly : List ℕ → List ℕ → ℕ → Outcome ℕ
exactly [] s k = ok k
exactly (b ∷ bs) s k = then (judged (λ v. eqb v b) 2 (field 8) s k) (λ x. exactly bs s x.1)

-- the type byte, then "vorbis" (003, 4.2.1)
abbrev pub opening : ℕ → List ℕ
opening kind = kind ∷ 0x76 ∷ 0x6F ∷ 0x72 ∷ 0x62 ∷ 0x69 ∷ 0x73 ∷ []

unfoldable pub common_header : ℕ → List ℕ → Outcome ℕ
common_header kind s = exactly (opening kind) s 0

-- the framing bit must not be 0 (003, 4.2.2 and 4.2.4)
unfoldable pub framing : Reader ℕ
framing = judged (λ v. not (eqb v 0)) 5 (field 1)
