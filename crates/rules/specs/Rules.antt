-- THE RULES OF A SETUP PACKET: 01's refusals 6 to 14 ("When the packet is sent back"), one predicate for each number, true where that number is not given.
-- Its cases are what the number judges, in 01's order; what it is judged against stands first. Reading judges each field by its case, and a content meets
-- the rules when all that it holds does (crates/setup/specs/Rules.antt).
use Rattle.std.specs.Prelude.{ℕ, ◌+◌, ◌%◌, ◌^◌, Bool, true, false, not, ◌||◌, List, eqb, leb, ltb}
use Rattle.std.proofs.Math.Option.{Option, none, some}
use Rattle.reading.specs.Lists.{distinct}

-- 6, of a book: pattern not 0x564342, dimensions 0, entries 0, ordered run past the entries, ordered length above 32 while entries remain, lookup type above 2
pub data Of6 : Type 0 where
  pattern : ℕ → Of6
  dimensions : ℕ → Of6
  entries : ℕ → Of6
  -- a run, of so many entries that remain
  run : ℕ → ℕ → Of6
  -- a length, while so many remain
  ordered_length : ℕ → ℕ → Of6
  lookup_type : ℕ → Of6

abbrev pub meets6 : Of6 → Bool
meets6 (pattern v) = eqb v 0x564342
meets6 (dimensions v) = not (eqb v 0)
meets6 (entries v) = not (eqb v 0)
meets6 (run remain v) = leb v remain
meets6 (ordered_length remain v) = leb v 32 || eqb remain 0
meets6 (lookup_type v) = leb v 2

-- 7: a length's share exceeds the free code space. Of the first entry of a book whose length the ledger refuses, none where it refuses none
abbrev pub meets7 : Option ℕ → Bool
meets7 none = true
meets7 (some entry) = false

-- 8: space left over (no used entry included), but not for a sole used entry of length 1. Of how many strings are free once all lengths are entered, and
-- whether there is such a sole entry
abbrev pub meets8 : ℕ → Bool → Bool
meets8 free lone_of_length1 = eqb free 0 || lone_of_length1

-- 9: a time value, mapping type, reserved field, window type or transform type not 0
pub data Of9 : Type 0 where
  time_value : ℕ → Of9
  mapping_type : ℕ → Of9
  reserved : ℕ → Of9
  window_type : ℕ → Of9
  transform_type : ℕ → Of9

abbrev pub meets9 : Of9 → Bool
meets9 (time_value v) = eqb v 0
meets9 (mapping_type v) = eqb v 0
meets9 (reserved v) = eqb v 0
meets9 (window_type v) = eqb v 0
meets9 (transform_type v) = eqb v 0

-- 10: floor type above 1, residue type above 2
pub data Of10 : Type 0 where
  floor_type : ℕ → Of10
  residue_type : ℕ → Of10

abbrev pub meets10 : Of10 → Bool
meets10 (floor_type v) = leb v 1
meets10 (residue_type v) = leb v 2

-- 11: a book, floor, residue, mapping, submap or channel number that is not set up, of so many that are; coupling of a channel with itself
pub data Of11 : Type 0 where
  book : ℕ → ℕ → Of11
  -- a place for a book: its number plus one, or 0 for none
  book_or_none : ℕ → ℕ → Of11
  floor : ℕ → ℕ → Of11
  residue : ℕ → ℕ → Of11
  mapping : ℕ → ℕ → Of11
  submap : ℕ → ℕ → Of11
  channel : ℕ → ℕ → Of11
  -- magnitude and angle
  coupled : ℕ → ℕ → Of11

abbrev pub meets11 : Of11 → Bool
meets11 (book count v) = ltb v count
meets11 (book_or_none count v) = leb v count
meets11 (floor count v) = ltb v count
meets11 (residue count v) = ltb v count
meets11 (mapping count v) = ltb v count
meets11 (submap count v) = ltb v count
meets11 (channel count v) = ltb v count
meets11 (coupled magnitude angle) = not (eqb angle magnitude)

-- 12, of floor 1: more than 65 X values, or two equal
pub data Of12 : Type 0 where
  -- how many are read: two more are implied (004)
  explicit : ℕ → Of12
  values : List ℕ → Of12

abbrev pub meets12 : Of12 → Bool
meets12 (explicit n) = leb n 63
meets12 (values list) = distinct list

-- 13, of a residue: begin above end; classifications to the power of the class book's dimensions exceeds its entries; a vector book without values; a
-- partition size that a vector book's dimensions don't divide
pub data Of13 : Type 0 where
  begin_end : ℕ → ℕ → Of13
  -- the class book's entries and dimensions, and the classifications
  class_words : ℕ → ℕ → ℕ → Of13
  -- a vector book's lookup type
  lookup : ℕ → Of13
  -- its dimensions, and the partition size
  partition : ℕ → ℕ → Of13

abbrev pub meets13 : Of13 → Bool
meets13 (begin_end begin end) = leb begin end
meets13 (class_words e d c) = leb (c ^ d) e
meets13 (lookup type) = not (eqb type 0)
meets13 (partition d size) = eqb (size % d) 0

-- 14: more than 8 channels, 8,192 entries in a book, 16,384 entries or 16,384 multiplicands in all, the limit of each first; floor type 0. Of those in all the
-- books before have so many
pub data Of14 : Type 0 where
  channels : ℕ → ℕ → Of14
  book_entries : ℕ → ℕ → Of14
  all_entries : ℕ → ℕ → ℕ → Of14
  multiplicands : ℕ → ℕ → ℕ → Of14
  no_floor_type0 : ℕ → Of14

abbrev pub meets14 : Of14 → Bool
meets14 (channels most v) = leb v most
meets14 (book_entries most v) = leb v most
meets14 (all_entries most before v) = leb (before + v) most
meets14 (multiplicands most before v) = leb (before + v) most
meets14 (no_floor_type0 v) = not (eqb v 0)
