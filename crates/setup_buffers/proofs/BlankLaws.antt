-- What a cleared table is, and what lies in it. Assumes nothing.
use Prim.Native.Nat.{ℕ}
use mathlib.Core.List.{List}
use mathlib.Core.Path.{◌≡◌, sym, ap, ◌∙◌}
use lib.ListN.{length, replicate, length-replicate}
use Rattle.reading.specs.Pad.{pad}
use Rattle.reading.specs.Encoding.{Zeros}
use Rattle.setup_buffers.specs.Inner.Blank.{Blank}

-- it is as long as it was, and all zero
pub cleared_long : {l m : List ℕ} → Blank l m → length m ≡ length l
cleared_long {l} e = ap length e.zeros ∙ length-replicate (length l) 0

pub cleared_zeros : {l m : List ℕ} → Blank l m → Zeros m
cleared_zeros e = e.zeros ∙ ap (λ (k : ℕ). replicate k 0) (sym (cleared_long e))

-- what lies in it lies in the table that was lent
pub pad_to_buffer : {l m exit : List ℕ} (cells : List ℕ) → Blank l m → exit ≡ pad (length m) cells → exit ≡ pad (length l) cells
pad_to_buffer cells e q = q ∙ ap (λ (k : ℕ). pad k cells) (cleared_long e)
