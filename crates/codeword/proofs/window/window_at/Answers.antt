-- `codeword::window::window_at` meets its contract, by Windows. Assumes nothing.
use mathlib.Core.Path.{refl}
use native.Mathlib.Omega.{arith}
use Rattle.codeword.proofs.Windows.{whole_window, last_window}
use Rattle.codeword.proofs.window.window_at.Goals as goal

pub returns-then-left-lt8 : goal.returns-then-left-lt8
returns-then-left-lt8 c = last_window _ _ _ _ _ c.last_bytes.ensures _ _ refl refl c.if-packet-at.false c.min.ensures

pub returns : goal.returns
returns c = whole_window _ _ _ _ _ c.eight_bytes.ensures refl (omega arith)
