-- A class of a floor in a setup packet as 004's steps, each field judged as soon as it is read (01, "Order").
use Rattle.std.specs.Prelude.{ℕ, suc, ◌+◌, ◌^◌, cond, eqb}
use Rattle.reading.specs.Outcome.{ok, then}
use Rattle.reading.specs.Reader.{Reader, judged, mapped, many}
use Rattle.bits.specs.Field.{field}
use Rattle.rules.specs.Rules as Rule
use Rattle.floor.specs.Content.{Class}

-- the master book, read only where there are subclass bits (004, steps 9 and 10); 11 where it is not set up. `books` is how many are
unfoldable pub master_book : ℕ → ℕ → Reader ℕ
master_book books subclasses s k = cond (eqb subclasses 0) (ok (0, k)) (mapped suc (judged (λ v. Rule.meets11 (Rule.book books v)) 11 (field 8) s k))

-- a subclass book: the field less one is its number, so 0 is none (004, step 12); 11 where it is not set up
unfoldable pub subclass_book : ℕ → Reader ℕ
subclass_book books = judged (λ v. Rule.meets11 (Rule.book_or_none books v)) 11 (field 8)

-- a class (004, steps 7 to 12)
unfoldable pub class : ℕ → Reader Class
class books s k =
    then (field 3 s k) (λ dimensions.
    then (field 2 s dimensions.1) (λ subclasses.
    then (master_book books subclasses.0 s subclasses.1) (λ master.
    then (many (subclass_book books) (2 ^ subclasses.0) s master.1) (λ list.
    ok (record { dimensions = dimensions.0 + 1; subclasses = subclasses.0; master = master.0; books = list.0 }, list.1)))))
