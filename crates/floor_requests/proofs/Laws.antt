-- A floor's requests, run on any packet, give what the reader of floors gives (specs/Claims.antt). Assumes nothing.
use Prim.Native.Nat.{ℕ, ◌-◌}
use mathlib.Core.Bool.{Bool, true, false, cond}
use mathlib.Core.List.{List, ◌++◌}
use mathlib.Core.Option.{none, some}
use mathlib.Core.Path.{◌≡◌, refl, ◌∙◌}
use lib.Dec.{eqb}
use lib.ListN.{get_or}
use Rattle.reading.specs.Lists.{rows}
use Rattle.reading.specs.Outcome.{Outcome, ok, bad, then}
use Rattle.reading.specs.Reader as reader
use Rattle.bits.specs.Field.{field}
use Rattle.codeword.specs.Codeword.{codeword}
use Rattle.floor.specs.Content.{Class, no_class, Floor}
use Rattle.floor_partition.specs.Partition.{class_value, chosen, value, partition, whole}
use Rattle.floor_values.specs.Values.{first_bits, partition_of, used_values, floor_values}
use Rattle.requests.specs.Requests.{Request, number, word, floor, Requests, done, request, bind, many, each}
use Rattle.requests.specs.Run.{read}
use Rattle.requests.specs.Inner.Parts.{Reads}
use Rattle.requests.proofs.Laws.{reads-done, reads-bind, reads-many, reads-each, reads_if, reads-request}
use Rattle.requests.proofs.Single.{read_refused}
use Rattle.floor_requests.specs.Requests.{class_requests, value_requests, partition_requests, used_requests, unused, values, floor_requests}
use Rattle.floor_requests.specs.Claims.{floor_read, ReadsFloor}

module _ (lengths_of : ℕ → List ℕ) where
  reads_one : (q : Request) → Reads (read lengths_of) (request q) (read lengths_of q)
  reads_one q = reads-request (read lengths_of) q (read_refused lengths_of q)

  -- with a book, or 0 where there is none
  reads_class : (c : Class) → Reads (read lengths_of) (class_requests c) (class_value lengths_of c)
  unfolding class_requests class_value read
  reads_class c =
      reads_if (read lengths_of) (eqb c.subclasses 0) (done 0) (request (word (c.master - 1) floor)) (λ s k. ok (0, k)) (codeword (lengths_of (c.master - 1)))
      (reads-done (read lengths_of) 0) (reads_one (word (c.master - 1) floor))

  reads_value : (place : ℕ) → Reads (read lengths_of) (value_requests place) (value lengths_of place)
  unfolding value_requests value read
  reads_value place =
      reads_if (read lengths_of) (eqb place 0) (done 0) (request (word (place - 1) floor)) (λ s k. ok (0, k)) (codeword (lengths_of (place - 1)))
      (reads-done (read lengths_of) 0) (reads_one (word (place - 1) floor))

  reads_partition : (c : Class) → Reads (read lengths_of) (partition_requests c) (partition lengths_of c)
  unfolding partition_requests partition
  reads_partition c =
      reads-bind (read lengths_of) (class_requests c) (λ v. each value_requests (chosen c v c.dimensions)) (class_value lengths_of c)
      (λ v. reader.each (value lengths_of) (chosen c v c.dimensions)) (reads_class c)
      (λ v. reads-each (read lengths_of) value_requests (value lengths_of) reads_value (chosen c v c.dimensions))

  module _ (f : Floor) where
    abbrev first : Requests (List ℕ)
    first = many (request (number (first_bits f.multiplier))) 2

    abbrev later : Requests (List (List ℕ))
    later = each (λ p. partition_requests (get_or f.classes p no_class)) f.partitions

    reads_first : Reads (read lengths_of) first (reader.many (field (first_bits f.multiplier)) 2)
    unfolding read
    reads_first = reads-many (read lengths_of) (request (number (first_bits f.multiplier))) (field (first_bits f.multiplier)) (reads_one (number (first_bits f.multiplier))) 2

    reads_later : Reads (read lengths_of) later (reader.each (partition_of lengths_of f) f.partitions)
    unfolding partition_of
    reads_later =
        reads-each (read lengths_of) (λ p. partition_requests (get_or f.classes p no_class)) (partition_of lengths_of f) (λ p. reads_partition (get_or f.classes p no_class)) f.partitions

    reads_used : Reads (read lengths_of) (used_requests f) (used_values lengths_of f)
    unfolding used_requests used_values
    reads_used =
        reads-bind (read lengths_of) first (λ a. bind later (λ b. done (a ++ rows whole b))) (reader.many (field (first_bits f.multiplier)) 2)
        (λ a s n. then (reader.each (partition_of lengths_of f) f.partitions s n) (λ y. ok (a ++ rows whole y.0, y.1)))
        reads_first
        (λ a. reads-bind (read lengths_of) later (λ b. done (a ++ rows whole b)) (reader.each (partition_of lengths_of f) f.partitions)
        (λ b s n. ok (a ++ rows whole b, n)) reads_later (λ b. reads-done (read lengths_of) (a ++ rows whole b)))

    reads_used_floor : Reads (read lengths_of) (bind (used_requests f) (λ ys. done (values ys))) (λ s k. then (used_values lengths_of f s k) (λ y. ok (values y.0, y.1)))
    reads_used_floor =
        reads-bind (read lengths_of) (used_requests f) (λ ys. done (values ys)) (used_values lengths_of f) (λ ys s n. ok (values ys, n)) reads_used
        (λ ys. reads-done (read lengths_of) (values ys))

    reads_floor : Reads (read lengths_of) (floor_requests f)
        (λ s k. then (field 1 s k) (λ v. cond (eqb v.0 0) (ok (unused, v.1)) (then (used_values lengths_of f s v.1) (λ y. ok (values y.0, y.1)))))
    unfolding floor_requests read
    reads_floor =
        reads-bind (read lengths_of) (request (number 1)) (λ v. cond (eqb v 0) (done unused) (bind (used_requests f) (λ ys. done (values ys)))) (field 1)
        (λ v s n. cond (eqb v 0) (ok (unused, n)) (then (used_values lengths_of f s n) (λ y. ok (values y.0, y.1)))) (reads_one (number 1))
        (λ v. reads_if (read lengths_of) (eqb v 0) (done unused) (bind (used_requests f) (λ ys. done (values ys))) (λ s n. ok (unused, n))
        (λ s n. then (used_values lengths_of f s n) (λ y. ok (values y.0, y.1))) (reads-done (read lengths_of) unused) reads_used_floor)

    -- A FLOOR'S REQUESTS ARE ITS READER
    pub reads_as_floor : ReadsFloor lengths_of f
    unfolding Reads floor_values reader.mapped
    reads_as_floor = record { same = λ s k. reads_floor s k ∙ go s (field 1 s k) }
      where
        told : (o : Outcome (List ℕ × ℕ)) → then o (λ y. ok (values y.0, y.1)) ≡ reader.mapped floor_read (reader.mapped some o)
        told (ok y) = refl
        told (bad z) = refl

        chosen_by : (s : List ℕ) (t : Bool) (n : ℕ)
            → cond t (ok (unused, n)) (then (used_values lengths_of f s n) (λ y. ok (values y.0, y.1)))
            ≡ reader.mapped floor_read (cond t (ok (none, n)) (reader.mapped some (used_values lengths_of f s n)))
        chosen_by s true n = refl
        chosen_by s false n = told (used_values lengths_of f s n)

        go : (s : List ℕ) (o : Outcome (ℕ × ℕ))
            → then o (λ v. cond (eqb v.0 0) (ok (unused, v.1)) (then (used_values lengths_of f s v.1) (λ y. ok (values y.0, y.1))))
            ≡ reader.mapped floor_read (then o (λ nonzero. cond (eqb nonzero.0 0) (ok (none, nonzero.1)) (reader.mapped some (used_values lengths_of f s nonzero.1))))
        go s (ok v) = chosen_by s (eqb v.0 0) v.1
        go s (bad z) = refl
