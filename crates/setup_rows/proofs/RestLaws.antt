-- The floors, mappings and modes of sound tables: each row is the content's, and what it names is set up. Assumes nothing.
use Prim.Native.Nat.{ℕ, zero, suc, ◌+◌, ◌*◌, ◌≤◌, ◌<◌}
use native.Mathlib.Omega.{arith}
use borrow.Author.Tests.{ltb-true, leb-true}
use mathlib.Core.List.{List}
use mathlib.Core.Logic.{⊎_elim}
use mathlib.Core.Path.{◌≡◌, refl, sym, ap, ◌∙◌}
use lib.ListN.{length, get_or, take, drop}
use lib.Seq.{slice, drop-drop}
use Rattle.reading.proofs.EachLaws.{each_at}
use Rattle.reading.proofs.Least.{lt_or_le}
use Rattle.reading.proofs.Stored.{Stored}
use Rattle.limits.specs.declared.Limits.{Limits}
use Rattle.floor.specs.Content.{x_list, Floor, no_floor}
use Rattle.floor.specs.Layout.{floor_row, floor_width}
use Rattle.floor.specs.Inner.Valid.{ValidFloor}
use Rattle.floor.proofs.Decoded.{floor_long, floor_stored, floor_decoded_at}
use Rattle.floor.proofs.Laws.{floors_row}
use Rattle.floor_row.proofs.Laws.{x_list_is}
use Rattle.floor_values.specs.Inner.Stored.{floor_in}
use Rattle.mapping.specs.Content.{no_coupling, no_submap, Mapping, no_mapping}
use Rattle.mapping.specs.Rules.{Coupling11, Submap11}
use Rattle.mapping.specs.Inner.Decode.{decode_mapping}
use Rattle.mapping.specs.Inner.Valid.{ValidMultiplex, ValidMapping}
use Rattle.mapping.proofs.Laws.{all_each}
use Rattle.mapping_row.specs.Inner.Readable.{mapping_in, MappingIs}
use Rattle.mapping_row.proofs.Laws as Row
use Rattle.mode.specs.Content.{Mode, no_mode}
use Rattle.mode.specs.Layout.{mode_row}
use Rattle.mode.specs.Inner.Valid.{ValidMode}
use Rattle.mode.proofs.Laws.{modes_stored, blockflag_is, mapping_is}
use Rattle.setup.specs.Content.{Setup, known}
use Rattle.setup.specs.Layout.{Tables}
use Rattle.setup.specs.Sound.{Sound}
use Rattle.setup.specs.Inner.Decode.{decode_rows, decode_setup}
use Rattle.setup.proofs.DecodeLaws.{content_decoded}
use Rattle.setup.proofs.WrittenLaws.{SoundFacts, sound_facts}
use Rattle.setup_rows.specs.Inner.Rows.{FloorSound, MappingSound, ModeSound}
use Rattle.setup_rows.proofs.BookLaws.{book_readable}
use Rattle.mapping.specs.Layout.{mapping_width}

-- mapping n of those that a table decodes to, whatever it holds; d stands for a mapping past the last
mapping_at : (m n : ℕ) (t : List ℕ) (d : Mapping) → n < m → get_or (decode_rows mapping_width decode_mapping m t) n d ≡ mapping_in t n
unfolding decode_rows mapping_in
mapping_at zero n t d h = absurd (omega arith)
mapping_at (suc m) zero t d h = refl
mapping_at (suc m) (suc n) t d h =
    let e : mapping_width + mapping_width * n ≡ mapping_width * suc n = omega arith in
    mapping_at m n (drop mapping_width t) d (omega arith)
    ∙ ap (λ (l : List ℕ). decode_mapping (take mapping_width l)) (drop-drop (mapping_width * n) mapping_width t)
    ∙ ap (λ (k : ℕ). decode_mapping (take mapping_width (drop k t))) e

module _ {limits : Limits} {channels : ℕ} {t : Tables} (x : Sound limits channels t) where
  facts : SoundFacts limits channels t x.content
  facts = sound_facts x

  -- FLOOR n
  module _ (n : ℕ) (h : n < length x.content.floors) where
    abbrev own_floor : Floor
    own_floor = get_or x.content.floors n no_floor

    floor_valid : ValidFloor (length x.content.books) own_floor
    floor_valid = each_at (ValidFloor (length x.content.books)) no_floor x.content.floors facts.valid.floors n h

    floor_row_lem : Stored t.floors (floor_width * n) (floor_row own_floor)
    floor_row_lem =
        let few = facts.valid.floor_count.high in
        let room = facts.room.floors in
        floors_row x.content.floors t.floors facts.written.floors (omega arith) n h

    floor_is : floor_in t.floors n ≡ own_floor
    unfolding floor_in
    floor_is = floor_decoded_at (floor_width * n) (length x.content.books) own_floor floor_valid floor_row_lem

    -- its row holds the whole X list
    list_count : get_or t.floors (floor_width * n + 4) 0 ≡ 2 + length own_floor.xs
    list_count = (floor_stored own_floor floor_row_lem).values

    list_is : slice (floor_width * n + 212) (floor_width * n + 212 + get_or t.floors (floor_width * n + 4) 0) t.floors ≡ x_list own_floor.rangebits own_floor.xs
    list_is =
        let few = leb-true (length own_floor.xs) 63 floor_valid.rules.count in
        rw list_count (x_list_is (floor_stored own_floor floor_row_lem) (omega arith))

    pub floor_sound : limits.book_entries ≤ 65536 → FloorSound t x.content n
    floor_sound few =
        let l = floor_long own_floor in
        let m = floor_row_lem.room in
        let most = facts.valid.floor_count.high in
        record {
          stored = record {
            few = omega arith;
            room = omega arith;
            count = length x.content.books;
            valid = rw floor_is floor_valid;
            readable = λ b g. book_readable x b g few;
          };
          content = floor_is;
          x_count = rw floor_is (list_count ∙ omega arith);
          x_list_there = rw floor_is list_is;
        }

  -- MAPPING n
  module _ (n : ℕ) (h : n < length x.content.mappings) where
    abbrev own_mapping : Mapping
    own_mapping = get_or x.content.mappings n no_mapping

    mapping_valid : ValidMapping (known channels x.content.floors x.content.residues) own_mapping
    mapping_valid = each_at (ValidMapping (known channels x.content.floors x.content.residues)) no_mapping x.content.mappings facts.valid.mappings n h

    mapping_row_lem : Row.MappingStored t.mappings (mapping_width * n) own_mapping
    mapping_row_lem =
        let few = facts.valid.mapping_count.high in
        let room = facts.room.mappings in
        Row.mappings_stored x.content.mappings t.mappings facts.written.mappings (omega arith) n h no_mapping

    mapping_content : mapping_in t.mappings n ≡ own_mapping
    unfolding decode_setup
    mapping_content =
        let m = facts.written.counts.fourth in
        sym (mapping_at (get_or t.counts 3 0) n t.mappings no_mapping (omega arith))
        ∙ ap (λ (c : Setup). get_or c.mappings n no_mapping) (sym (content_decoded x))

    coupling : (j : ℕ) → j < length own_mapping.couplings → Coupling11 channels (get_or own_mapping.couplings j no_coupling)
    unfolding known
    coupling j g = each_at (Coupling11 channels) no_coupling own_mapping.couplings mapping_valid.rule11.couplings j g

    submap : (j : ℕ) → j < length own_mapping.submaps → Submap11 (length x.content.floors) (length x.content.residues) (get_or own_mapping.submaps j no_submap)
    unfolding known
    submap j g =
        each_at (Submap11 (length x.content.floors) (length x.content.residues)) no_submap own_mapping.submaps mapping_valid.rule11.submaps j g

    -- the submap of a channel: the sole one, or one of several
    channel_submap : (k : ℕ) → k < channels → get_or own_mapping.multiplex k 0 < length own_mapping.submaps
    unfolding known
    channel_submap k g =
        let v = mapping_valid.carried in
        let low = v.submaps.low in
        ⊎_elim
        (λ (a : length own_mapping.submaps < 2).
        let z : get_or own_mapping.multiplex k 0 ≡ 0 = ap (λ (l : List ℕ). get_or l k 0) (v.no_multiplex (omega arith)) in
        omega arith)
        (λ (a : 2 ≤ length own_mapping.submaps).
        let e = v.some_multiplex a in
        let each = all_each (length own_mapping.submaps) own_mapping.multiplex mapping_valid.rule11.multiplex in
        ltb-true _ _ (each_at (ValidMultiplex (length own_mapping.submaps)) 0 own_mapping.multiplex each k (omega arith)))
        (lt_or_le (length own_mapping.submaps) 2)

    mapping_is_own : MappingIs channels t.mappings n own_mapping
    mapping_is_own =
        let v = mapping_valid.carried in
        let few = facts.valid.mapping_count.high in
        record {
          few = omega arith;
          steps = Row.coupling_steps_is mapping_row_lem;
          steps_few = v.couplings;
          magnitude = λ j g. Row.magnitude_is mapping_row_lem j g v.couplings no_coupling;
          angle = λ j g. Row.angle_is mapping_row_lem j g v.couplings no_coupling;
          magnitude_set_up = λ j g. ltb-true _ _ (coupling j g).magnitude;
          angle_set_up = λ j g. ltb-true _ _ (coupling j g).angle;
          submaps = Row.submaps_is mapping_row_lem;
          submaps_few = v.submaps.high;
          channel_submap = Row.channel_submap_is mapping_row_lem;
          submap_set_up = channel_submap;
          floor = λ j g. Row.submap_floor_is mapping_row_lem j g v.submaps.high no_submap;
          residue = λ j g. Row.submap_residue_is mapping_row_lem j g v.submaps.high no_submap;
        }

    pub mapping_sound : MappingSound channels t x.content n (get_or x.content.mappings n no_mapping)
    mapping_sound =
        record {
          is = mapping_is_own;
          content = mapping_content;
          floor_set_up = λ j g. ltb-true _ _ (submap j g).floor;
          residue_set_up = λ j g. ltb-true _ _ (submap j g).residue;
        }

  -- MODE n
  module _ (n : ℕ) (h : n < length x.content.modes) where
    abbrev own_mode : Mode
    own_mode = get_or x.content.modes n no_mode

    mode_row_lem : Stored t.modes (2 * n) (mode_row own_mode)
    mode_row_lem =
        let few = facts.valid.mode_count.high in
        let room = facts.room.modes in
        modes_stored x.content.modes t.modes facts.written.modes (omega arith) n h no_mode

    pub mode_sound : ModeSound t x.content n (get_or x.content.modes n no_mode)
    mode_sound =
        let v = each_at (ValidMode (length x.content.mappings)) no_mode x.content.modes facts.valid.modes n h in
        let low = v.carried in
        record {
          blockflag = blockflag_is own_mode mode_row_lem;
          mapping = mapping_is own_mode mode_row_lem;
          blockflag_low = omega arith;
          mapping_set_up = ltb-true _ _ v.rule11;
        }
