-- The floors of an audio packet's channels as the program reads and draws them (01, "Audio order" 2 and 3): what has to be known of the tables, and what one
-- channel and all of them come to.
use Rattle.std.specs.Prelude.{ℕ, ◌+◌, ◌*◌, ◌≤◌, ◌<◌, Bool, true, false, List, map, ◌≡◌, length, get_or, Result, Ok, Err}
use Rattle.std.proofs.Math.Option.{Option, none, some}
use Rattle.std.proofs.Math.Seq.{slice}
use Rattle.std.proofs.lemmas.List.Edits.{sets}
use Rattle.reading.specs.Least.{one}
use Rattle.reading.specs.Pad.{pad}
use Rattle.bits.specs.declared.Cursor.{Cursor}
use Rattle.bits.specs.Inner.Cursors.{position}
use Rattle.floor.specs.Content.{x_list, x_list_room, Floor}
use Rattle.floor.specs.Layout.{floor_width, x_list_place}
use Rattle.floor_points.specs.FinalY.{final_ys}
use Rattle.floor_curve.specs.Curve.{curve}
use Rattle.floor_values.specs.Inner.Stored.{floor_in, FloorStored}
use Rattle.mapping_row.specs.Inner.Readable.{mapping_in, MappingReadable}
use Rattle.requests.specs.Requests.{each}
use Rattle.requests.specs.Run.{Run, read, run}
use Rattle.requests.specs.Values.{whole_values}
use Rattle.floor_requests.specs.Requests.{FloorRead, unused, floor_requests}
use Rattle.audio.specs.Channels.{floor_number, is_used}
use Rattle.audio.specs.Packet.{by_channel}
use Rattle.audio.specs.Curves.{curve_of, curves_of}
use Rattle.audio_floors.specs.declared.channel.Cut.{Cut}
use Rattle.audio_floors.specs.declared.FloorsRead.{FloorsRead}

-- a run was ended by a cut
unfoldable pub is_cut : {A : Type 0} → Option A → Bool
is_cut none = true
is_cut (some a) = false

-- a floor cut short is unused
unfoldable pub or_unused : Option FloorRead → FloorRead
or_unused none = unused
or_unused (some f) = f

-- the first n places of the curve of X and the values read for them (01, "Audio order" 3)
unfoldable pub values_curve : List ℕ → List ℕ → ℕ → ℕ → List ℕ
values_curve xs ys m n =
    (curve xs (final_ys xs ys m (length ys) (length ys)).final_y (final_ys xs ys m (length ys) (length ys)).flags m n).out

-- the row of floor number n holds the whole X list, the two implied X included, and its length
pub record XListStored (floors : List ℕ) (n : ℕ) : Type 0 where
  pub count : get_or floors (floor_width * n + 4) 0 ≡ length (x_list (floor_in floors n).rangebits (floor_in floors n).xs)
  pub list : slice (floor_width * n + x_list_place) (floor_width * n + x_list_place + get_or floors (floor_width * n + 4) 0) floors
      ≡ x_list (floor_in floors n).rangebits (floor_in floors n).xs

-- floor number n and so many values of it can be drawn
pub record Drawable (floors : List ℕ) (n count : ℕ) : Type 0 where
  pub few : n < 64
  pub room : floor_width * n + floor_width ≤ length floors
  pub multiplier : (floor_in floors n).multiplier < 256
  pub x_list_there : XListStored floors n
  pub counted : count ≡ length (x_list (floor_in floors n).rangebits (floor_in floors n).xs)
  pub values_few : count ≤ x_list_room

-- mapping number `mapping` and the floor of each channel can be read
pub record FloorsReadable (channels mapping : ℕ) (mappings floors books lengths codewords : List ℕ) : Type 0 where
  pub mapping_readable : MappingReadable channels mappings mapping
  pub floor : (c : ℕ) → c < channels → FloorStored floors books lengths codewords (floor_number (mapping_in mappings mapping) c)
  pub x_list_there : (c : ℕ) → c < channels → XListStored floors (floor_number (mapping_in mappings mapping) c)

-- what an answer says: where reading goes on, or the first bit of what is cut
module _ {A : Type 0} where
  abbrev pub has_cut : Result A Cut → Bool
  has_cut (Ok a) = false
  has_cut (Err z) = true

abbrev pub floors_end : Result Cursor Cut → ℕ
floors_end (Ok c) = position c
floors_end (Err z) = position z.place

abbrev pub channel_end : Result (Bool × Cursor) Cut → ℕ
channel_end (Ok x) = position x.1
channel_end (Err z) = position z.place

-- a floor that is cut is not used
abbrev pub channel_used : Result (Bool × Cursor) Cut → Bool
channel_used (Ok x) = x.0
channel_used (Err z) = false

-- the run of a floor from bit k of packet s on
abbrev pub floor_run : (ℕ → List ℕ) → Floor → List ℕ → ℕ → Run FloorRead
floor_run lengths_of f s k = run (read lengths_of) (floor_requests f) s k

-- ONE CHANNEL, whose floor is f: what was answered, and the bytes of its curve. A floor cut short gives zeros, as an unused one
pub record ChannelIs (lengths_of : ℕ → List ℕ) (f : Floor) (s : List ℕ) (k half : ℕ) (r : Result (Bool × Cursor) Cut) (bytes : List ℕ) : Type 0 where
  pub position : channel_end r ≡ (floor_run lengths_of f s k).position
  pub cut : has_cut r ≡ is_cut (floor_run lengths_of f s k).value
  pub used : channel_used r ≡ is_used (or_unused (floor_run lengths_of f s k).value)
  pub curve : bytes ≡ curve_of half f (or_unused (floor_run lengths_of f s k).value)

-- ALL CHANNELS, which have the floors fs: what was answered, and the lent bytes, `entry` before and `exit` after
pub record FloorsAre (lengths_of : ℕ → List ℕ) (channels half : ℕ) (fs : List Floor) (s : List ℕ) (k : ℕ) (r : FloorsRead)
    (entry exit : List ℕ) : Type 0 where
  pub position : floors_end r.end ≡ (run (read lengths_of) (each floor_requests fs) s k).position
  pub cut : has_cut r.end ≡ is_cut (run (read lengths_of) (each floor_requests fs) s k).value
  pub used : r.used ≡ pad 255 (map (λ f. one (is_used f)) (whole_values (read lengths_of) floor_requests fs s k))
  pub curves : exit ≡ sets entry 0 (curves_of half fs (by_channel channels (whole_values (read lengths_of) floor_requests fs s k)))
