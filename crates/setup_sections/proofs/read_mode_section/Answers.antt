-- `setup_sections::read_mode_section` meets its contract, by SectionLaws. Assumes nothing.
use mathlib.Core.Path.{refl}
use Rattle.std.proofs.lemmas.Result.{IfOk-from_err}
use Rattle.setup.proofs.ReadIntoLaws.{read_counted_back, counted, counted_stop}
use Rattle.setup_sections.proofs.SectionLaws.{count_few, count_fits, section_cut, section_read}
use Rattle.setup_sections.proofs.read_mode_section.Goals as goal

pub overflow_add-count : goal.overflow_add-count
overflow_add-count c = record { fits = count_fits _ _ c.field.ensures c.in_ok-less_one.was }

pub read_modes-requires : goal.read_modes-requires
read_modes-requires c = count_few _ _ c.field.ensures c.in_ok-less_one.was

pub returns-in_err-less_one : goal.returns-in_err-less_one
returns-in_err-less_one c = record {
  read_into = read_counted_back c.from_residual.result _ c.from_residual.ensures.1 (section_cut _ _ _ _ c.field.ensures c.in_err-less_one.was);
  count_bound = IfOk-from_err _ _ c.from_residual.ensures.0;
}

pub returns-in_err-next : goal.returns-in_err-next
returns-in_err-next c =
    let r = c.from_residual-in_err-next in
    record {
      read_into = read_counted_back r.result _ r.ensures.1 (counted_stop (section_read _ _ _ _ c.field.ensures c.in_ok-less_one.was refl c.requires c.in_err-next.ensures));
      count_bound = IfOk-from_err _ _ r.ensures.0;
    }

pub returns : goal.returns
returns c = record {
  read_into = counted _ (section_read _ _ _ _ c.field.ensures c.in_ok-less_one.was refl c.requires c.in_ok-next.ensures);
  count_bound = count_few _ _ c.field.ensures c.in_ok-less_one.was;
}
