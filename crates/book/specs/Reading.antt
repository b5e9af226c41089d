-- A codebook in a setup packet as 002's steps, in 01's order ("Order"): its head, its lengths, all read and then entered, then its lookup; and books one
-- after the other. Some refusals of the lengths and of the lookup have their place at the book's first bit, which each is given.
use Rattle.std.specs.Prelude.{ℕ, zero, suc, ◌+◌, List, [], ◌∷◌, length}
use Rattle.reading.specs.Outcome.{ok, then}
use Rattle.reading.specs.Reader.{Reader}
use Rattle.limits.specs.declared.Limits.{Limits}
use Rattle.book.specs.Content.{Book}
use Rattle.book.specs.HeadReading.{Before, head}
use Rattle.book.specs.LengthsReading.{lengths, entered}
use Rattle.book.specs.LookupReading.{lookup}

-- a book of the setup packet
unfoldable pub book : Limits → Before → Reader Book
book limits before s k =
    then (head limits before s k) (λ h.
    then (then (lengths k h.0.entries s h.1) (λ ls. entered k ls.0 (ok ls))) (λ ls.
    then (lookup k h.0.entries h.0.dimensions limits.multiplicands before.values s ls.1) (λ l.
    ok (
      record {
        dimensions = h.0.dimensions;
        lengths = ls.0;
        lookup = l.0.lookup;
        minimum = l.0.minimum;
        delta = l.0.delta;
        width = l.0.width;
        sequence = l.0.sequence;
        multiplicands = l.0.multiplicands;
      },
      l.1,
    ))))

abbrev pub and_this : Before → Book → Before
and_this before b = record { entries = before.entries + length b.lengths; values = before.values + length b.multiplicands }

-- n books one after the other
unfoldable pub books : Limits → Before → ℕ → Reader (List Book)
books limits before zero s k = ok ([], k)
books limits before (suc n) s k =
    then (book limits before s k) (λ b. then (books limits (and_this before b.0) n s b.1) (λ rest. ok (b.0 ∷ rest.0, rest.1)))
