-- `audio_tally::count` meets its contract: the samples are counted where their sum fits. Assumes nothing.
use Prim.Native.Nat.{ℕ, ◌+◌, ◌<◌, ◌≤◌}
use native.Mathlib.Omega.{arith}
use borrow.Author.Tests.{lt-ltb, le-ltb}
use mathlib.Core.Path.{◌≡◌}
use Rattle.audio.specs.Tally.{finished, counted}
use Rattle.audio_tally.specs.Inner.Answers.{counted_as}
use Rattle.audio_tally.proofs.count.Goals as goal

pub returns-in_err-all : goal.returns-in_err-all
unfolding counted_as counted
returns-in_err-all c = λ stop.
    let s : ℕ = c.args.tally.samples + finished c.args.tally c.args.blocksize in
    let same : c.args.tally.samples + c.finished-samples.result ≡ s = rw c.finished-samples.ensures in
    let past : 18446744073709551616 ≤ s = omega (arith, same, c.in_err-all.ensures) in
    rw (c.from_residual.ensures, le-ltb s 18446744073709551616 past)

pub returns : goal.returns
unfolding counted_as counted
returns c = λ stop.
    let s : ℕ = c.args.tally.samples + finished c.args.tally c.args.blocksize in
    let same : c.args.tally.samples + c.finished-samples.result ≡ s = rw c.finished-samples.ensures in
    let sum : c.in_ok-all.all ≡ s = omega (arith, same, c.in_ok-all.ensures) in
    let within : s < 18446744073709551616 = omega (arith, same, c.in_ok-all.ensures) in
    rw (lt-ltb s 18446744073709551616 within, sum, c.finished-samples.ensures)
