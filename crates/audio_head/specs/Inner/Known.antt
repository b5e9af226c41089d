-- What is known of a head that was read: its mode is set up, its block flag and block size are that mode's, its window flags are bits.
use Rattle.std.specs.Prelude.{◌≤◌, ◌<◌, List, ◌≡◌, length}
use Rattle.identification.specs.declared.Identity.{Identity}
use Rattle.mode.specs.Content.{Mode}
use Rattle.audio.specs.declared.Head.{Head}
use Rattle.audio.specs.Head.{mode_at, block_size}

pub record HeadKnown (i : Identity) (modes : List Mode) (h : Head) : Type 0 where
  pub mode : h.mode < length modes
  pub blockflag : h.blockflag ≡ (mode_at modes h.mode).blockflag
  pub blocksize : h.blocksize ≡ block_size i h.blockflag
  pub previous : h.previous ≤ 1
  pub next : h.next ≤ 1
