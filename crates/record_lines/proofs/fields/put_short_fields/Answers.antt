-- `record_lines::fields::put_short_fields` meets its contract: one field, then the other. Assumes nothing.
use Rattle.record_lines.proofs.Laws.{join}
use Rattle.record_lines.proofs.fields.put_short_fields.Goals as goal

pub returns : goal.returns
returns c = join c.put_short_field-at_other.ensures c.put_short_field.ensures
