-- What a caller lends for books: the four tables, each with room for what the limits allow.
use Rattle.std.specs.Prelude.{ℕ, ◌+◌, ◌≤◌, ◌<◌, List, length}
use Rattle.limits.specs.declared.Limits.{Limits}
use Rattle.book.specs.Layout.{books_need}

pub record BookBuffers (limits : Limits) (books lengths codewords multiplicands : List ℕ) : Type 0 where
  pub books_long : books_need ≤ length books
  pub lengths_long : limits.entries ≤ length lengths
  pub codewords_long : limits.entries ≤ length codewords
  pub multiplicands_long : limits.multiplicands ≤ length multiplicands
  pub few_entries : limits.entries ≤ 16777216
  pub few_values : limits.multiplicands ≤ 16777216

-- where book number index begins: within the limits
pub record Begins (limits : Limits) (index entries values : ℕ) : Type 0 where
  pub few_books : index < 256
  pub entries_within : entries ≤ limits.entries
  pub values_within : values ≤ limits.multiplicands

-- a book of count entries fits behind the entries and values before it; most is the limit on multiplicands
pub record BookAt (count most index entries values : ℕ) (lengths codewords multiplicands : List ℕ) : Type 0 where
  pub few_books : index < 256
  pub lengths_fit : entries + count ≤ length lengths
  pub codewords_fit : entries + count ≤ length codewords
  pub few_entries : entries + count ≤ 16777216
  pub values_within : values ≤ most
  pub values_fit : most ≤ length multiplicands
  pub few_values : most ≤ 16777216
