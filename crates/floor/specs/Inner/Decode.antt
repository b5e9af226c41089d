-- From numbers in a table back to the class and the floor whose row they are: the other way round of Layout. Total: of numbers that are no such row
-- it gives some class, some floor.
use Rattle.std.specs.Prelude.{ℕ, ◌+◌, zero, suc, ◌^◌, List, [], ◌∷◌, get_or}
use Rattle.std.proofs.Math.Seq.{slice}
use Rattle.floor.specs.Content.{Floor, Class}
use Rattle.floor.specs.Layout.{partitions_place, classes_place, x_list_place, x_values_place, class_width}

-- the class whose row begins at place `at`
unfoldable pub class_at : List ℕ → ℕ → Class
class_at t at =
    record {
      dimensions = get_or t at 0;
      subclasses = get_or t (at + 1) 0;
      master = get_or t (at + 2) 0;
      books = slice (at + 3) (at + 3 + 2 ^ get_or t (at + 1) 0) t;
    }

-- n classes from place `at` on
unfoldable pub classes_at : List ℕ → ℕ → ℕ → List Class
classes_at t at zero = []
classes_at t at (suc n) = class_at t at ∷ classes_at t (at + class_width) n

-- the floor whose row begins at place `at`
unfoldable pub floor_at : List ℕ → ℕ → Floor
floor_at t at =
    record {
      partitions = slice (at + partitions_place) (at + partitions_place + get_or t at 0) t;
      classes = classes_at t (at + classes_place) (get_or t (at + 1) 0);
      multiplier = get_or t (at + 2) 0;
      rangebits = get_or t (at + 3) 0;
      xs = slice (at + x_values_place) (at + x_list_place + get_or t (at + 4) 0) t;
    }

-- the floor of a row
unfoldable pub decode_floor : List ℕ → Floor
decode_floor row = floor_at row 0
