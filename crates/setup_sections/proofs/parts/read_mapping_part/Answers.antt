-- `setup_sections::parts::read_mapping_part` meets its contract, by PartLaws. Assumes nothing.
use Rattle.setup.proofs.ReadIntoLaws.{read_counted_back}
use Rattle.setup_sections.proofs.PartLaws.{mappings_refused, modes_refused, mapping_part_read}
use Rattle.setup_sections.proofs.parts.read_mapping_part.Goals as goal

pub returns-in_err-mapping_count : goal.returns-in_err-mapping_count
returns-in_err-mapping_count c = read_counted_back c.from_residual.result _ c.from_residual.ensures.1 (mappings_refused _ _ _ c.in_err-mapping_count.ensures.read_into)

pub returns-in_err-mode_count : goal.returns-in_err-mode_count
returns-in_err-mode_count c =
    let r = c.from_residual-in_err-mode_count in
    read_counted_back r.result _ r.ensures.1 (modes_refused _ _ _ c.in_ok-mapping_count.ensures.read_into c.in_err-mode_count.ensures.read_into)

pub returns : goal.returns
returns c = mapping_part_read _ _ _ c.in_ok-mapping_count.ensures.read_into c.in_ok-mode_count.ensures.read_into
