-- Laws of recognising a table of modes as the code asks them. Assumes nothing.
use mathlib.Core.Path.{refl}
use Rattle.reading.proofs.PairRows.{PairRow, pair_laws}
use Rattle.mode.specs.Layout.{mode_row}
use Rattle.mode.specs.Inner.Decode.{mode_of}

pub mode_pairs : PairRow mode_row mode_of
unfolding mode_row
mode_pairs = record { of = λ a b. refl; back = λ m. refl; wide = λ m. refl }

pub ruleset recognise_laws = (pair_laws, mode_pairs)
