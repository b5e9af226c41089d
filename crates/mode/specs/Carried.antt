-- Which modes a packet can carry, whatever the rules say of them (003): a number that fits its field.
use Rattle.std.specs.Prelude.{◌≤◌}
use Rattle.mode.specs.Content.{Mode}

abbrev pub CarriedMode : Mode → Type 0
CarriedMode m = m.blockflag ≤ 1
