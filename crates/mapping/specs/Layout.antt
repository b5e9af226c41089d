-- A mapping's row in the table of mappings: 804 numbers of 8 bits. docs/TABLES.md draws it.
-- The number of coupling steps, 0 to 256, takes two places. A multiplex number stands plus one, so that 0 is none and one content has one
-- row; the channels themselves are not in it.
use Rattle.std.specs.Prelude.{ℕ, suc, ◌*◌, ◌/◌, ◌%◌, List, [], ◌∷◌, ◌++◌, map, length}
use Rattle.std.proofs.lemmas.List.Edits.{sets}
use Rattle.reading.specs.Pad.{pad}
use Rattle.reading.specs.Lists.{rows}
use Rattle.mapping.specs.Content.{Coupling, Submap, Mapping}

-- the width of a row; the fixed need of the table, of 64 rows; where its coupling steps, its multiplex and its submaps begin; how many places each of these has
abbrev pub mapping_width : ℕ
mapping_width = 804

abbrev pub mappings_need : ℕ
mappings_need = 64 * mapping_width

abbrev pub couplings_place : ℕ
couplings_place = 4

abbrev pub multiplex_place : ℕ
multiplex_place = 516

abbrev pub submaps_place : ℕ
submaps_place = 772

abbrev pub couplings_room : ℕ
couplings_room = 512

abbrev pub multiplex_room : ℕ
multiplex_room = 256

abbrev pub submaps_room : ℕ
submaps_room = 32

unfoldable pub coupling_row : Coupling → List ℕ
coupling_row c = c.magnitude ∷ c.angle ∷ []

-- a channel's submap, plus one
unfoldable pub multiplex_row : ℕ → List ℕ
multiplex_row v = suc v ∷ []

unfoldable pub submap_row : Submap → List ℕ
submap_row m = m.floor ∷ m.residue ∷ []

-- 4 counts (the last is a place of zero, so that the parts begin at even places), then coupling steps, multiplex, submaps
unfoldable pub mapping_row : Mapping → List ℕ
mapping_row m =
    (length m.couplings % 256 ∷ length m.couplings / 256 ∷ length m.submaps ∷ 0 ∷ [])
    ++ (pad couplings_room (rows coupling_row m.couplings) ++ (pad multiplex_room (map suc m.multiplex) ++ pad submaps_room (rows submap_row m.submaps)))

-- where the parts of a mapping go in a row whose counts stand already
unfoldable pub parts_into : List ℕ → Mapping → List ℕ
parts_into row m = sets (sets (sets row couplings_place (rows coupling_row m.couplings)) multiplex_place (rows multiplex_row m.multiplex)) submaps_place (rows submap_row m.submaps)
