-- Tables that are ready, and a head that was read by them: what the functions of this crate ask of each other. Assumes nothing.
use Prim.Native.Nat.{ℕ, ◌+◌, ◌*◌, ◌≤◌, ◌<◌}
use native.Mathlib.Omega.{arith}
use mathlib.Core.List.{List}
use mathlib.Core.Path.{◌≡◌}
use lib.ListN.{length, get_or}
use Rattle.identification.specs.declared.Identity.{Identity}
use Rattle.identification.specs.Sound as I
use Rattle.mode.specs.Layout.{mode_width}
use Rattle.setup.specs.Content.{Setup, lengths_of}
use Rattle.setup.specs.Layout.{Tables}
use Rattle.setup.specs.Inner.Decode.{decode_setup}
use Rattle.setup.proofs.TestLaws.{test_tells}
use Rattle.setup_rows.specs.Inner.Rows.{RowsReadable}
use Rattle.setup_rows.proofs.RowsLaws.{rows_readable}
use Rattle.audio.specs.declared.Head.{Head}
use Rattle.audio.specs.Head.{block_size, mode_at}
use Rattle.audio_head.specs.Inner.Known.{HeadKnown}
use Rattle.audio_head.proofs.KnownLaws.{head_known}
use Rattle.audio_judge.specs.Inner.Ready.{Ready}
use Rattle.audio_settle.specs.Inner.Judged.{HeadIs}
use Rattle.audio_judge.proofs.HeadLaws.{block_high}

module _ (i : Identity) (t : Tables) (x : Ready i t) where
  abbrev content : Setup
  content = decode_setup t

  pub rows : RowsReadable x.limits i.channels t content
  rows = rows_readable x.limits i t x.sound

  pub identity_sound : I.Sound x.limits.channels i
  identity_sound = (test_tells.0 x.sound).identity

  pub channels_few : i.channels ≤ 255
  channels_few = let a = identity_sound.few_channels in let b = x.small.few_channels in omega arith

  pub first_high : i.blocksize0 ≤ 8192
  unfolding block_size
  first_high = block_high i identity_sound 0

  pub modes_counted : (1 ≤ get_or t.counts 4 0) × (get_or t.counts 4 0 ≤ 64)
  modes_counted =
      let n = rows.counts.modes in
      let low = rows.counts.mode_count.low in
      let high = rows.counts.mode_count.high in
      (omega arith, omega arith)

  module _ (s : List ℕ) (h : Head) (k : ℕ) (e : HeadIs i content s h k) where
    known : HeadKnown i content.modes h
    known = head_known i content.modes s (lengths_of content) e

    pub mode_set_up : h.mode < length content.modes
    mode_set_up = known.mode

    pub mode_few : h.mode < 64
    mode_few = let a = mode_set_up in let b = rows.counts.mode_count.high in omega arith

    pub size_high : h.blocksize ≤ 8192
    size_high = rw known.blocksize (block_high i identity_sound h.blockflag)

    pub mapping_number : get_or t.modes (mode_width * h.mode + 1) 0 ≡ (mode_at content.modes h.mode).mapping
    unfolding mode_at
    mapping_number = (rows.modes h.mode mode_set_up).mapping
