-- `audio_settle::clear::clear_between` meets its contract, by ClearLaws. Assumes nothing.
use Prim.Native.Nat.{◌-◌, min}
use native.Mathlib.Omega.{arith}
use mathlib.Core.Path.{◌≡◌}
use lib.ListN.{length}
use Rattle.reading.proofs.Tables.{sets_past}
use Rattle.audio_settle.proofs.ClearLaws.{part_cleared}
use Rattle.audio_settle.proofs.clear.clear_between.Goals as goal

pub returns-then-buffer-from : goal.returns-then-buffer-from
returns-then-buffer-from g c = search sets_past

pub returns : goal.returns
returns g c =
    let e : c.min-count.result ≡ min (c.args.to - c.args.from) (length c.args.buffer.now - c.args.from) = omega (arith, c.min-count.ensures, c.saturating_sub.ensures) in
    part_cleared g.T.Number.ZERO c.args.buffer.now c.args.from c.args.to _ _ _ (omega arith) e (omega arith) c.clear.ensures
