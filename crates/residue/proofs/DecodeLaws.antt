-- A residue's fields before its plan, of its row in a table and of the table from that row on: the same. Assumes nothing.
use Prim.Native.Nat.{ℕ, ◌*◌}
use mathlib.Core.List.{List}
use mathlib.Core.Path.{◌≡◌}
use lib.ListN.{drop}
use lib.Seq.{get_or-drop}
use Rattle.residue.specs.Inner.Decode.{head_at}

pub head_dropped : (l : List ℕ) (i : ℕ) → head_at (drop (6 * i) l) 0 ≡ head_at l i
head_dropped l i =
    λ j. record {
      type = get_or-drop (6 * i) l 0 0 j;
      begin = get_or-drop (6 * i) l 1 0 j;
      end = get_or-drop (6 * i) l 2 0 j;
      size = get_or-drop (6 * i) l 3 0 j;
      classifications = get_or-drop (6 * i) l 4 0 j;
      classbook = get_or-drop (6 * i) l 5 0 j;
    }
