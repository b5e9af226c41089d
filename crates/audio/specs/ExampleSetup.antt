-- A small setup for worked packets (specs/ExamplePackets.antt). A sole used entry takes one bit, of either value, so packets stay short and no ledger has to be worked out.
use Rattle.std.specs.Prelude.{ℕ, List, [], ◌∷◌, pos, replicate}
use Rattle.identification.specs.declared.Identity.{Identity}
use Rattle.book.specs.Content.{Book}
use Rattle.floor.specs.Content.{Floor}
use Rattle.residue.specs.Content.{Residue}
use Rattle.mapping.specs.Content.{Coupling, Mapping}
use Rattle.mode.specs.Content.{Mode}
use Rattle.setup.specs.Content.{Setup}

abbrev identity_with : ℕ → Identity
identity_with channels =
    record {
      channels = channels;
      rate = 8000;
      bitrate_maximum = pos 0;
      bitrate_nominal = pos 0;
      bitrate_minimum = pos 0;
      blocksize0 = 64;
      blocksize1 = 128;
    }

abbrev pub mono : Identity
mono = identity_with 1

abbrev pub stereo : Identity
stereo = identity_with 2

-- a book with values, so many to each dimension
abbrev book_of : ℕ → ℕ → List ℕ → Book
book_of dimensions values lengths =
    record { dimensions = dimensions; lengths = lengths; lookup = 1; minimum = 0; delta = 0; width = 1; sequence = 0; multiplicands = replicate values 0 }

-- book 0 gives entry 1, and book 1 entry 2, by one bit each; then book 2
abbrev books : Book → List Book
books book = book_of 1 2 (0 ∷ 1 ∷ []) ∷ book_of 2 2 (0 ∷ 0 ∷ 1 ∷ 0 ∷ []) ∷ book ∷ []

-- for book 2: every codeword has 8 bits; the codewords are 000, 1, 001 and 01
abbrev eight_bits : Book
eight_bits = book_of 2 16 (replicate 256 8)

abbrev pub lengths_coded : List ℕ
lengths_coded = 3 ∷ 1 ∷ 3 ∷ 2 ∷ []

abbrev coded_book : Book
coded_book = book_of 2 2 lengths_coded

-- X 0, 32 and 16; the first two values have 6 bits each, the third is read with book 0
abbrev floors : List Floor
floors =
    record {
      partitions = 0 ∷ [];
      classes = record { dimensions = 1; subclasses = 0; master = 0; books = 1 ∷ [] } ∷ [];
      multiplier = 4;
      rangebits = 5;
      xs = 16 ∷ [];
    }
    ∷ []

-- three partitions of 2 values, two classes: class 1 has book `first` in pass 0, class 0 has book `third` in pass 2, each as its number plus one, 0 for none
abbrev residue_of : ℕ → ℕ → ℕ → Residue
residue_of classbook first third =
    record {
      type = 1;
      begin = 0;
      end = 6;
      size = 2;
      classifications = 2;
      classbook = classbook;
      plan = (0 ∷ 0 ∷ third ∷ 0 ∷ 0 ∷ 0 ∷ 0 ∷ 0 ∷ []) ∷ (first ∷ 0 ∷ 0 ∷ 0 ∷ 0 ∷ 0 ∷ 0 ∷ 0 ∷ []) ∷ [];
    }

-- the first has sole entries alone; the second has the vectors of book 2, the third its class words
abbrev residues : List Residue
residues = residue_of 1 1 1 ∷ residue_of 1 3 0 ∷ residue_of 2 1 0 ∷ []

-- these couplings are of the first
abbrev mappings : List Coupling → List Mapping
mappings couplings =
    record { couplings = couplings; multiplex = []; submaps = record { floor = 0; residue = 0 } ∷ [] }
    ∷ record { couplings = []; multiplex = []; submaps = record { floor = 0; residue = 1 } ∷ [] }
    ∷ record { couplings = []; multiplex = []; submaps = record { floor = 0; residue = 2 } ∷ [] }
    ∷ []

-- short, long, short; a mode has 2 bits, and mode 3 is not set up
abbrev modes : List Mode
modes = record { blockflag = 0; mapping = 0 } ∷ record { blockflag = 1; mapping = 2 } ∷ record { blockflag = 0; mapping = 1 } ∷ []

abbrev setup_of : Book → List Coupling → Setup
setup_of book couplings = record { books = books book; floors = floors; residues = residues; mappings = mappings couplings; modes = modes }

-- for two channels, which the first mapping couples; and for one
abbrev pub small : Setup
small = setup_of eight_bits (record { magnitude = 0; angle = 1 } ∷ [])

abbrev pub coded_mono : Setup
coded_mono = setup_of coded_book []
