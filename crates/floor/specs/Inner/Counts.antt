-- How many classes and X values a floor has, counted from the front of its partitions, as far as a place, which is what a loop has counted; and a buffer or a
-- part of a row that holds partitions.
use Rattle.std.specs.Prelude.{ℕ, zero, suc, ◌+◌, ◌*◌, max, ◌≤◌, List, true, ◌≡◌, get_or, length, take}
use Rattle.reading.specs.Lists.{all}
use Rattle.reading.specs.Pad.{pad}
use Rattle.floor.specs.Carried.{most_partitions, is_class_number}
use Rattle.floor.specs.Layout.{class_width, partitions_room}

-- the count of classes that the first n partitions name
unfoldable pub classes_to : List ℕ → ℕ → ℕ
classes_to partitions zero = 0
classes_to partitions (suc n) = max (classes_to partitions n) (suc (get_or partitions n 0))

-- the count of X values of the first n partitions, where `classes` holds the rows of the classes
unfoldable pub values_to : List ℕ → List ℕ → ℕ → ℕ
values_to classes partitions zero = 0
values_to classes partitions (suc n) = values_to classes partitions n + get_or classes (class_width * get_or partitions n 0) 0

-- a buffer that holds `count` partitions, as many as a packet can carry and of classes that it can name
pub record Partitions (count : ℕ) (buffer : List ℕ) : Type 0 where
  pub few : count ≤ most_partitions
  pub long : length (take count buffer) ≡ count
  pub holds : buffer ≡ pad partitions_room (take count buffer)
  pub named : all is_class_number (take count buffer) ≡ true
