-- The memory that the tool's run is lent. A statement that its contract and its proof share.
use Rattle.std.specs.Prelude.{ℕ, true, List, ◌≡◌, length}
use Rattle.limits.specs.Standard.{standard}
use Rattle.setup.specs.Layout.{Tables, has_room}

-- the memory that the tool lends
pub record Buffers (t : Tables) (curves words input lines : List ℕ) : Type 0 where
  pub tables : has_room standard t ≡ true
  pub of_curves_is : length curves ≡ 32768
  pub of_words : length words ≡ 16384
  pub of_input : length input ≡ 65536
  pub of_lines : length lines ≡ 65536
