-- `setup_sections::parts::read_floor_part` meets its contract, by PartLaws. Assumes nothing.
use Rattle.setup.proofs.ReadIntoLaws.{read_counted_back}
use Rattle.setup_sections.proofs.PartLaws.{floors_refused, residues_refused, floor_part_read}
use Rattle.setup_sections.proofs.parts.read_floor_part.Goals as goal

pub returns-in_err-floor_count : goal.returns-in_err-floor_count
returns-in_err-floor_count c = read_counted_back c.from_residual.result _ c.from_residual.ensures.1 (floors_refused _ _ _ c.in_err-floor_count.ensures.read_into)

pub returns-in_err-residue_count : goal.returns-in_err-residue_count
returns-in_err-residue_count c =
    let r = c.from_residual-in_err-residue_count in
    read_counted_back r.result _ r.ensures.1 (residues_refused _ _ _ c.in_ok-floor_count.ensures.read_into c.in_err-residue_count.ensures.read_into)

pub returns : goal.returns
returns c = floor_part_read _ _ _ c.in_ok-floor_count.ensures.read_into c.in_ok-residue_count.ensures.read_into
