-- What the program holds of a floor's multiplier, range bits and X list while it reads them. Nothing is added to what is read.
use Rattle.std.specs.Prelude.{ℕ, List}
use Rattle.reading.specs.Pad.{pad}
use Rattle.floor.specs.Content.{x_list_room, x_list}
use Rattle.floor.specs.XListReading.{Ends}
use Rattle.floor_x_list.specs.declared.Ends as Program

-- the ends of a floor as the program holds them: the X list in a buffer
pub record EndsRead : Type 0 where
  pub multiplier : ℕ
  pub rangebits : ℕ
  pub list : List ℕ

abbrev pub ends_read : ℕ → ℕ → List ℕ → EndsRead
ends_read multiplier rangebits list = record { multiplier = multiplier; rangebits = rangebits; list = list }

-- what the program answers, with the X list beside it
abbrev pub with_list : List ℕ → Program.Ends → EndsRead
with_list list e = ends_read e.multiplier e.rangebits list

unfoldable pub ends_in_buffer : Ends → EndsRead
ends_in_buffer e = ends_read e.multiplier e.rangebits (pad x_list_room (x_list e.rangebits e.xs))
