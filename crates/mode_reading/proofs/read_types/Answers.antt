-- `mode_reading::read_types` meets its contract, by ReadLaws. Assumes nothing.
use Rattle.bits.proofs.Answers.{stepped_back}
use Rattle.mode_reading.proofs.ReadLaws.{window_cut, window_wrong, transform_cut, transform_wrong, types_whole}
use Rattle.mode_reading.proofs.read_types.Goals as goal

pub returns-in_err-window : goal.returns-in_err-window
returns-in_err-window c = stepped_back _ _ c.from_residual.ensures.1 (window_cut _ _ c.field.ensures c.in_err-window.was)

pub returns-then-window-ne0 : goal.returns-then-window-ne0
returns-then-window-ne0 c = window_wrong _ _ c.field.ensures c.in_ok-window.was c.if-window-ne0.true

pub returns-in_err-transform : goal.returns-in_err-transform
returns-in_err-transform c = stepped_back _ _ c.from_residual-in_err-transform.ensures.1 (transform_cut _ _ c.field.ensures c.in_ok-window.was c.if-window-ne0.false c.field-2.ensures c.in_err-transform.was)

pub returns-then-transform-ne0 : goal.returns-then-transform-ne0
returns-then-transform-ne0 c = transform_wrong _ _ c.field.ensures c.in_ok-window.was c.if-window-ne0.false c.field-2.ensures c.in_ok-transform.was c.if-transform-ne0.true

pub returns : goal.returns
returns c = types_whole _ _ c.field.ensures c.in_ok-window.was c.if-window-ne0.false c.field-2.ensures c.in_ok-transform.was c.if-transform-ne0.false
