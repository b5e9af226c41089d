-- What stands at the front of the bytes that were read so far, as the program sees it: a whole record, the head of one that is too long, or less than a record.
use Rattle.std.specs.Prelude.{ℕ, ◌+◌, cond, List, ltb, length}
use Rattle.records.specs.Records.{body_length, kind, is_too_long}
use Rattle.records.specs.declared.Front.{Front}
use Rattle.records.specs.declared.Front.TheVariants.{Partial, TooLong, Whole}

unfoldable pub front : List ℕ → Front
front s =
    cond (ltb (length s) 6) Partial
    (cond (is_too_long s) (TooLong (body_length s))
    (cond (ltb (length s) (6 + body_length s)) Partial
    (Whole (kind s) (body_length s))))
