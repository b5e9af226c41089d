-- THE RECORDS of the tool's input (01, the tool): four bytes of length and two of kind, low byte first, then a body of that length. Each definition is of the
-- bytes from a record on to the input's end. Assumes nothing.
use Rattle.std.specs.Prelude.{ℕ, ◌+◌, ◌*◌, Bool, ◌||◌, List, ltb, length, get_or, take, drop}

-- how many bytes its body has
unfoldable pub body_length : List ℕ → ℕ
body_length s = get_or s 0 0 + 256 * get_or s 1 0 + 65536 * get_or s 2 0 + 16777216 * get_or s 3 0

-- 1 identification, 2 setup, 3 audio
unfoldable pub kind : List ℕ → ℕ
kind s = get_or s 4 0 + 256 * get_or s 5 0

unfoldable pub body : List ℕ → List ℕ
body s = take (body_length s) (drop 6 s)

-- the records behind it
unfoldable pub following : List ℕ → List ℕ
following s = drop (6 + body_length s) s

-- the input ends inside it
unfoldable pub is_torn : List ℕ → Bool
is_torn s = ltb (length s) 6 || ltb (length s) (6 + body_length s)

-- its body has over 49,152 bytes, of whatever kind
unfoldable pub is_too_long : List ℕ → Bool
is_too_long s = ltb 49152 (body_length s)
