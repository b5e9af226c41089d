-- `residue::fits::place_fits` meets its contract, by FitsLaws. Assumes nothing.
use Rattle.residue.proofs.FitsLaws.{empty_place, no_values, divides}
use Rattle.residue.proofs.fits.place_fits.Goals as goal

pub returns-then-place-eq0 : goal.returns-then-place-eq0
returns-then-place-eq0 c = empty_place _ _ _ c.if-place-eq0.true

pub returns-then-lookup-ne0 : goal.returns-then-lookup-ne0
returns-then-lookup-ne0 c = divides _ _ _ c.if-place-eq0.false c.lookup.ensures c.if-lookup-ne0.true c.dimensions.ensures c.is_multiple_of.ensures

pub returns-else-lookup-ne0 : goal.returns-else-lookup-ne0
returns-else-lookup-ne0 c = no_values _ _ _ c.if-place-eq0.false c.lookup.ensures c.if-lookup-ne0.false
