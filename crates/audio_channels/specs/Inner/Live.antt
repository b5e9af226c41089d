-- Live channels as the program holds them: a number for each, 0 where it is not live. Assumes nothing: these are definitions.
use Rattle.std.specs.Prelude.{ℕ, Bool, not, cond, ◌||◌, List, map, eqb, get_or, set, take}
use Rattle.reading.specs.Least.{one}
use Rattle.reading.specs.Pad.{pad}

abbrev pub is_live : ℕ → Bool
is_live v = not (eqb v 0)

-- which of so many channels are live
unfoldable pub used_bools : ℕ → List ℕ → List Bool
used_bools channels live = map is_live (take channels live)

-- 1 for each live channel, in 255 places
unfoldable pub live_bytes : List Bool → List ℕ
live_bytes live = pad 255 (map one live)

-- one coupling step
unfoldable pub coupled_bytes : ℕ → ℕ → List ℕ → List ℕ
coupled_bytes magnitude angle live = cond (is_live (get_or live magnitude 0) || is_live (get_or live angle 0)) (set (set live magnitude 1) angle 1) live
