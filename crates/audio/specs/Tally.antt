-- THE TALLY of a stream: the last accepted block size and the samples so far, when it is sound, and its step (01, "What the reader takes and gives"; "Audio
-- order" 6; refusals 18 and 19). Assumes nothing: these are definitions.
use Rattle.std.specs.Prelude.{ℕ, ◌+◌, ◌/◌, ◌^◌, Bool, cond, ◌&&◌, ◌||◌, eqb, ltb}
use Rattle.reading.specs.Outcome.{refusal, Outcome, ok, need}
use Rattle.identification.specs.declared.Identity.{Identity}
use Rattle.audio.specs.declared.Tally.{Tally}

-- both numbers are 0, or the size is one of the identity's two
unfoldable pub tally_sound : Identity → Tally → Bool
tally_sound i t = (eqb t.blocksize 0 && eqb t.samples 0) || (eqb t.blocksize i.blocksize0 || eqb t.blocksize i.blocksize1)

-- the samples that a block of n finishes: 0 for a stream's first, then a quarter of the block before and a quarter of this one
unfoldable pub finished : Tally → ℕ → ℕ
finished t n = cond (eqb t.blocksize 0) 0 (t.blocksize / 4 + n / 4)

-- THE STEP, by a block of n whose packet was read up to bit `stop`: the tally after it and the samples finished; 19 where their sum would pass 2^64 - 1
unfoldable pub counted : Tally → ℕ → ℕ → Outcome (Tally × ℕ)
counted t n stop =
    need (ltb (t.samples + finished t n) (2 ^ 64)) (refusal 19 0) (ok (record { blocksize = n; samples = t.samples + finished t n }, finished t n))
