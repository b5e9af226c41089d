-- FLOOR TYPE 1 in an audio packet as a tree of requests, by 004's steps ("packet decode"; 01, "Audio order" 2). The numbers in comments are 004's steps. Every
-- number that is read is an item of its run: the flag "nonzero", the first two values, each partition's class value and values. Assumes nothing: these are definitions.
use Rattle.std.specs.Prelude.{ℕ, ◌-◌, cond, List, ◌++◌, eqb, get_or}
use Rattle.reading.specs.Lists.{rows}
use Rattle.floor.specs.Content.{Class, no_class, Floor}
use Rattle.floor_partition.specs.Partition.{chosen, whole}
use Rattle.floor_values.specs.Values.{first_bits}
use Rattle.requests.specs.Requests.{number, word, floor, Requests, done, request, bind, many, each}

-- 10 to 12: the class value, read with the master book; 0 where the class has no subclass bits. A place for a book holds its number plus one
unfoldable pub class_requests : Class → Requests ℕ
class_requests c = cond (eqb c.subclasses 0) (done 0) (request (word (c.master - 1) floor))

-- 16 to 18: a value, read with the book of a place; 0 where the place holds none
unfoldable pub value_requests : ℕ → Requests ℕ
value_requests place = cond (eqb place 0) (done 0) (request (word (place - 1) floor))

-- 7 to 18: the values of a partition of class c
unfoldable pub partition_requests : Class → Requests (List ℕ)
partition_requests c = bind (class_requests c) (λ v. each value_requests (chosen c v c.dimensions))

-- 1 to 20: the values of a floor that is used
unfoldable pub used_requests : Floor → Requests (List ℕ)
used_requests f =
    bind (many (request (number (first_bits f.multiplier))) 2) (λ first.
    bind (each (λ p. partition_requests (get_or f.classes p no_class)) f.partitions) (λ later.
    done (first ++ rows whole later)))

-- what a channel's floor comes to in a packet: unused, or the values of a floor of type 1
pub data FloorRead : Type 0 where
  unused : FloorRead
  values : List ℕ → FloorRead

-- A FLOOR: its values; unused where the flag "nonzero" is unset
unfoldable pub floor_requests : Floor → Requests FloorRead
floor_requests f =
    bind (request (number 1)) (λ nonzero.
    cond (eqb nonzero 0) (done unused) (bind (used_requests f) (λ ys. done (values ys))))
