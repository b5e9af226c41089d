-- THE HEAD of an audio packet: type bit, mode, window flags (003, 4.3.1; 01, "Audio order" 1), and the window's points. A missing bit here refuses the packet
-- (01, refusal 1). Assumes nothing: these are definitions.
use Rattle.std.specs.Prelude.{ℕ, ◌+◌, ◌-◌, ◌*◌, ◌/◌, Bool, cond, ◌&&◌, List, eqb, ltb, length, get_or}
use Rattle.reading.specs.Outcome.{refusal, Outcome, ok, bad}
use Rattle.bits.specs.Ilog.{ilog}
use Rattle.identification.specs.declared.Identity.{Identity}
use Rattle.mode.specs.Content.{Mode, no_mode}
use Rattle.requests.specs.Requests.{number, Requests, done, request, bind}
use Rattle.audio.specs.declared.Head.{Head}
use Rattle.audio.specs.declared.Window.{Window}

unfoldable pub mode_at : List Mode → ℕ → Mode
mode_at modes n = get_or modes n no_mode

-- the block size that goes with a block flag
unfoldable pub block_size : Identity → ℕ → ℕ
block_size i blockflag = cond (eqb blockflag 0) i.blocksize0 i.blocksize1

abbrev pub head_with : Identity → ℕ → ℕ → ℕ → ℕ → Head
head_with i mode blockflag previous next =
    record { mode = mode; blockflag = blockflag; blocksize = block_size i blockflag; previous = previous; next = next }

-- a long block has a previous and a next flag
unfoldable pub flag_requests : Identity → ℕ → ℕ → Requests (Outcome Head)
flag_requests i mode blockflag =
    cond (eqb blockflag 0) (done (ok (head_with i mode 0 0 0)))
    (bind (request (number 1)) (λ previous.
    bind (request (number 1)) (λ next.
    done (ok (head_with i mode blockflag previous next)))))

-- the mode, in as many bits as its greatest number needs; 16 where it is not set up, at bit 1
unfoldable pub mode_requests : Identity → List Mode → Requests (Outcome Head)
mode_requests i modes =
    bind (request (number (ilog (length modes - 1)))) (λ mode.
    cond (ltb mode (length modes)) (flag_requests i mode (mode_at modes mode).blockflag) (done (bad (refusal 16 1))))

-- THE HEAD: the type bit, 15 where it is 1, at bit 0; then the mode and the flags
unfoldable pub head_requests : Identity → List Mode → Requests (Outcome Head)
head_requests i modes = bind (request (number 1)) (λ type. cond (eqb type 0) (mode_requests i modes) (done (bad (refusal 15 0))))

-- THE WINDOW'S POINTS (003, 4.3.1). A side of a long block whose flag is not set laps with a short block
abbrev pub laps_short : Head → ℕ → Bool
laps_short h flag = eqb h.blockflag 1 && eqb flag 0

unfoldable pub window : ℕ → Head → Window
window short h =
    record {
      left_start = cond (laps_short h h.previous) (h.blocksize / 4 - short / 4) 0;
      left_end = cond (laps_short h h.previous) (h.blocksize / 4 + short / 4) (h.blocksize / 2);
      right_start = cond (laps_short h h.next) (h.blocksize * 3 / 4 - short / 4) (h.blocksize / 2);
      right_end = cond (laps_short h h.next) (h.blocksize * 3 / 4 + short / 4) h.blocksize;
    }
