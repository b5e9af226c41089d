-- `floor_values::values::read_values` meets its contract (proofs/FloorLaws; what is known of the values: proofs/Known). Assumes nothing.
use Rattle.numbers.proofs.Beside.{beside_back}
use Rattle.floor_values.proofs.FloorLaws.{floor_cut, floor_unused, floor_stopped, floor_used}
use Rattle.floor_values.proofs.Known.{values_known}
use Rattle.floor_values.proofs.values.read_values.Goals as goal

pub returns-in_err-nonzero : goal.returns-in_err-nonzero
returns-in_err-nonzero c =
    record {
      wrote = beside_back _ c.from_residual.result _ c.from_residual.ensures.1 (floor_cut _ _ _ _ _ c.bit.ensures _ c.in_err-nonzero.was);
      floor_values = values_known c.requires;
    }

pub returns-then-nonzero-eq0 : goal.returns-then-nonzero-eq0
returns-then-nonzero-eq0 c = record { wrote = floor_unused _ _ _ _ _ c.bit.ensures _ c.in_ok-nonzero.was c.if-nonzero-eq0.true; floor_values = values_known c.requires }

pub returns-in_err-after : goal.returns-in_err-after
returns-in_err-after c =
    record {
      wrote = beside_back _ c.from_residual-in_err-after.result _ c.from_residual-in_err-after.ensures.1
          (floor_stopped _ _ _ _ _ c.bit.ensures _ c.in_ok-nonzero.was c.if-nonzero-eq0.false c.read_used.ensures c.in_err-after.was);
      floor_values = values_known c.requires;
    }

pub returns : goal.returns
returns c =
    record {
      wrote = floor_used _ _ _ _ _ c.bit.ensures _ c.in_ok-nonzero.was c.if-nonzero-eq0.false c.read_used.ensures c.in_ok-after.was;
      floor_values = values_known c.requires;
    }
