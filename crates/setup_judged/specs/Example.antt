-- ONE SETUP PACKET THAT IS ACCEPTED, with its content written out: a call that refuses everything is not the setup call (01, "How an entry is closed"). And two packets
-- that go as far as a book's lengths, which the ledger does not take: one is refused with 7, one with 8. All lengths are 01's ("Figures to check against").
use Rattle.std.specs.Prelude.{ℕ, true, List, [], ◌∷◌, ◌++◌, ◌≡◌, pos}
use Rattle.reading.specs.Outcome.{ok}
use Rattle.limits.specs.Standard.{standard}
use Rattle.identification.specs.declared.Identity.{Identity}
use Rattle.setup.specs.Content.{Setup}
use Rattle.setup.specs.Layout.{Tables, has_room, written_out, cleared}
use Rattle.setup.specs.Call.{setup_of, left, setup_call}
use Rattle.setup_judged.specs.Judged.{LengthsRead}

-- the identity of 01's last figure
abbrev pub identity : Identity
identity =
    record {
      channels = 1;
      rate = 8000;
      bitrate_maximum = pos 0;
      bitrate_nominal = pos 0;
      bitrate_minimum = pos 0;
      blocksize0 = 256;
      blocksize1 = 2048;
    }

-- up to bit 128: type 5 and "vorbis"; how many books, less one; from bit 64 the book's pattern, its 1 dimension, and how many entries it has
abbrev pub opening : ℕ → List ℕ
opening entries = 5 ∷ 0x76 ∷ 0x6F ∷ 0x72 ∷ 0x62 ∷ 0x69 ∷ 0x73 ∷ 0 ∷ 0x42 ∷ 0x43 ∷ 0x56 ∷ 1 ∷ 0 ∷ entries ∷ 0 ∷ 0 ∷ []

-- THE PACKET. Where a field ends within a byte, the next one begins there
abbrev pub packet : List ℕ
packet =
    opening 3
    -- from bit 128: the ordered and the sparse flag, not set; the lengths 2, 1 and 2, each less one in 5 bits
    ++ 0x04 ∷ 0x10
    -- from bit 145: lookup type 0; from bit 149 how many time values, less one, and the only one, 0
    ∷ 0 ∷ 0 ∷ 0
    -- from bit 171: how many floors, less one; type 1, no partition, multiplier 1, less one, 7 range bits
    ∷ 0 ∷ 0x02 ∷ 0 ∷ 0 ∷ 0x07
    -- from bit 204: how many residues, less one; type 0, begin 0, end 128, partition size 32 and one class, each less one, class book 0, a class without vector books
    ∷ 0 ∷ 0 ∷ 0 ∷ 0 ∷ 0 ∷ 0 ∷ 0x02 ∷ 0 ∷ 0x7C ∷ 0 ∷ 0 ∷ 0 ∷ 0
    -- from bit 316: how many mappings, less one; type 0, one submap, no coupling, the reserved field, a byte that is discarded, floor 0, residue 0
    ∷ 0 ∷ 0 ∷ 0 ∷ 0 ∷ 0 ∷ 0
    -- from bit 366: how many modes, less one; a short block, window 0, transform 0, mapping 0
    ∷ 0x40 ∷ 0 ∷ 0 ∷ 0 ∷ 0 ∷ 0
    -- from bit 413: a long block, window 0, transform 0, mapping 0; bit 454, the framing bit
    ∷ 0x20 ∷ 0 ∷ 0 ∷ 0 ∷ 0 ∷ 0x40 ∷ []

-- ITS CONTENT
abbrev pub content : Setup
content =
    record {
      books =
          record { dimensions = 1; lengths = 2 ∷ 1 ∷ 2 ∷ []; lookup = 0; minimum = 0; delta = 0; width = 0; sequence = 0; multiplicands = [] }
          ∷ [];
      floors = record { partitions = []; classes = []; multiplier = 1; rangebits = 7; xs = [] } ∷ [];
      residues =
          record { type = 0; begin = 0; end = 128; size = 32; classifications = 1; classbook = 0; plan = (0 ∷ 0 ∷ 0 ∷ 0 ∷ 0 ∷ 0 ∷ 0 ∷ 0 ∷ []) ∷ [] }
          ∷ [];
      mappings = record { couplings = []; multiplex = []; submaps = record { floor = 0; residue = 0 } ∷ [] } ∷ [];
      modes = record { blockflag = 0; mapping = 0 } ∷ record { blockflag = 1; mapping = 0 } ∷ [];
    }

-- a packet up to its book's lengths 2, 4, 4, 4, 4, 2, 3, 3 and 1, of which the ledger refuses the last; and one up to 1 and 2, which leave space
abbrev pub refused7 : List ℕ
refused7 = opening 9 ++ 0x84 ∷ 0x31 ∷ 0xC6 ∷ 0x08 ∷ 0x42 ∷ 0 ∷ []

abbrev pub refused8 : List ℕ
refused8 = opening 2 ++ 0x80 ∷ 0 ∷ []

-- THE CLAIM, whatever tables with room are lent
pub record AcceptsExample : Type 0 where
  pub accepted : (t : Tables) → has_room standard t ≡ true → setup_of standard identity packet t ≡ ok content
  -- so the call answers 0 and leaves the content written out
  pub answers : (t : Tables) → has_room standard t ≡ true → setup_call standard identity packet t ≡ left 0 (written_out content t)
  -- on the way it has read all lengths of the book
  pub lengths : (t : Tables) → has_room standard t ≡ true → LengthsRead standard identity packet t 64 (2 ∷ 1 ∷ 2 ∷ [])
  -- both other packets are refused there
  pub answers7 : (t : Tables) → has_room standard t ≡ true → setup_call standard identity refused7 t ≡ left 7 (cleared t)
  pub answers8 : (t : Tables) → has_room standard t ≡ true → setup_call standard identity refused8 t ≡ left 8 (cleared t)
