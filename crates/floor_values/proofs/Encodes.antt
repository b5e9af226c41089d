-- For callers: in tables that hold floors, each floor lies as reading its values asks, and it is the floor of the content. Assumes nothing.
use Prim.Native.Nat.{ℕ, ◌*◌, ◌≤◌, ◌<◌}
use native.Mathlib.Omega.{arith}
use mathlib.Core.List.{List}
use mathlib.Core.Path.{◌≡◌}
use lib.ListN.{get_or}
use Rattle.floor.specs.Content.{no_floor}
use Rattle.floor.specs.Layout.{floor_row, floor_width}
use Rattle.floor.specs.Inner.Valid.{ValidFloor}
use Rattle.floor_tables.specs.Inner.Recognised.{FloorsRecognised}
use Rattle.floor.proofs.Decoded.{floor_long, floor_decoded_at}
use Rattle.reading.proofs.Stored.{Stored}
use Rattle.reading.proofs.EachLaws.{each_at}
use Rattle.floor.proofs.Laws.{floors_row}
use Rattle.floor_partition.specs.Inner.Stored.{Readable}
use Rattle.floor_values.specs.Inner.Stored.{floor_in, FloorStored}

module _ {set_up count : ℕ} {floors : List ℕ} (st : FloorsRecognised set_up count floors) (few : count ≤ 64) (n : ℕ) (h : n < count) where
  row : Stored floors (floor_width * n) (floor_row (get_or st.content n no_floor))
  row = let c = st.counted in let r = st.room in floors_row st.content floors st.written (omega arith) n (omega arith)

  valid : ValidFloor set_up (get_or st.content n no_floor)
  valid = let c = st.counted in each_at (ValidFloor set_up) no_floor st.content st.valid n (omega arith)

  pub floor_is : floor_in floors n ≡ get_or st.content n no_floor
  unfolding floor_in
  floor_is = floor_decoded_at (floor_width * n) set_up (get_or st.content n no_floor) valid row

  pub floor_encodes : {books lengths codewords : List ℕ} → ((b : ℕ) → b < set_up → Readable books lengths codewords b) → FloorStored floors books lengths codewords n
  floor_encodes r =
      let l = floor_long (get_or st.content n no_floor) in
      let m = row.room in
      record { few = omega arith; room = omega arith; count = set_up; valid = rw floor_is valid; readable = r }
