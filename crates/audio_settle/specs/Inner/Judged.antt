-- What judging an audio packet comes to in the program, and what it leaves in the lent outputs. Assumes nothing: these are definitions.
use Rattle.std.specs.Prelude.{ℕ, ◌*◌, ◌-◌, ◌/◌, ◌≤◌, Bool, true, false, cond, List, map, ◌≡◌, length, get_or, replicate, Result, Ok, Err, IfOk}
use Rattle.std.proofs.lemmas.List.Edits.{sets}
use Rattle.reading.specs.Least.{one}
use Rattle.reading.specs.Outcome.{Outcome, ok, bad}
use Rattle.reading.specs.Pad.{pad}
use Rattle.identification.specs.declared.Identity.{Identity}
use Rattle.setup.specs.Content.{Setup}
use Rattle.requests.specs.Refusing.{came_to}
use Rattle.residue_requests.specs.Listed.{residue_words, listed}
use Rattle.audio.specs.declared.Head.{Head}
use Rattle.audio.specs.declared.Tally.{Tally}
use Rattle.audio.specs.declared.AudioAnswer.{AudioAnswer}
use Rattle.audio.specs.Head.{window}
use Rattle.audio.specs.Channels.{is_used}
use Rattle.audio.specs.Packet.{channel_floors, head_run}
use Rattle.audio.specs.Curves.{curves_of}
use Rattle.audio.specs.Call.{Room, Accepted, judged, refused, Left}
use Rattle.audio.specs.Inner.Plain.{plain_at}
use Rattle.audio_settle.specs.declared.Judged.{Judged}
use Rattle.audio_settle.specs.declared.Rejected.{Rejected}

-- an acceptance as the program holds it
abbrev pub accepted_by : Head → List ℕ → ℕ → ℕ → Tally → Judged
accepted_by h used words samples t = record { head = h; used = used; words = words; samples = samples; tally = t }

-- an answer with the number of its refusal
abbrev pub numbered : Result Judged Rejected → Result Judged ℕ
numbered (Ok r) = Ok r
numbered (Err z) = Err z.refusal

-- whether anything was written to the outputs; a refusal may come before that
abbrev pub was_written : Result Judged Rejected → Bool
was_written (Ok r) = true
was_written (Err z) = z.written

-- a packet that was read, with the tally's step
abbrev pub finished_by : Outcome (Tally × ℕ) → Head → List ℕ → ℕ → Result Judged ℕ
finished_by (ok x) h used words = Ok (accepted_by h used words x.1 x.0)
finished_by (bad z) h used words = Err z.number

abbrev pub judgement : Outcome Accepted → Result Judged ℕ
judgement (ok x) =
    Ok (accepted_by x.packet.head (pad 255 (map (λ f. one (is_used f)) x.packet.floors)) (length (residue_words x.packet.items)) x.samples x.tally)
judgement (bad z) = Err z.number

-- its curves and its codewords, for so many channels by a content
abbrev pub curves_by : ℕ → Setup → Accepted → List ℕ
curves_by channels c x = curves_of (x.packet.head.blocksize / 2) (channel_floors channels c x.packet.head) x.packet.floors

abbrev pub words_by : Accepted → List ℕ
words_by x = map listed (residue_words x.packet.items)

-- a packet that came to o, read into lent outputs: accepted, its curves and codewords stand at their fronts. A refusal before anything was written leaves them as
-- they were, another says nothing of what they hold
pub record JudgedIs (channels : ℕ) (c : Setup) (o : Outcome Accepted) (r : Result Judged Rejected) (entry exit : List ℕ) (list list' : List ℕ) : Type 0 where
  pub answer : numbered r ≡ judgement o
  -- Vorbis I's greatest block
  pub size : IfOk r (λ x. x.head.blocksize ≤ 8192)
  pub curves_long : length exit ≡ length entry
  pub words_long : length list' ≡ length list
  pub curves : (x : Accepted) → o ≡ ok x → exit ≡ sets entry 0 (curves_by channels c x)
  pub bytes : (x : Accepted) → o ≡ ok x → length (curves_by channels c x) ≡ channels * (x.packet.head.blocksize / 2)
  pub words : (x : Accepted) → o ≡ ok x → list' ≡ sets list 0 (words_by x)
  pub unwritten : was_written r ≡ false → (exit ≡ entry) × (list' ≡ list)

-- what follows a head that was read up to bit k
abbrev pub after_head : Identity → Setup → Tally → List ℕ → Head → ℕ → Room → Outcome Accepted
after_head i c t s h k room = judged i.channels t room (plain_at i.channels c s (head_run i c s).items h k)

-- a head that was read, with the position behind it
abbrev pub HeadIs : Identity → Setup → List ℕ → Head → ℕ → Type 0
HeadIs i c s h k = came_to (head_run i c s) ≡ ok (h, k)

-- the places of an output from one on hold nothing
pub record ZeroFrom (place : ℕ) (l : List ℕ) : Type 0 where
  pub zero : (j : ℕ) → place ≤ j → get_or l j 0 ≡ 0

-- the answer to an accepted packet
abbrev pub answer_by : Identity → Judged → AudioAnswer
answer_by i r =
    record {
      refusal = 0;
      mode = r.head.mode;
      blocksize = r.head.blocksize;
      previous = r.head.previous;
      next = r.head.next;
      window = window i.blocksize0 r.head;
      samples = r.samples;
      codewords = r.words;
      used = r.used;
    }

-- an accepted packet's outputs with what was left behind them cleared, up to a place each
abbrev pub accepted_left : Identity → Judged → List ℕ → List ℕ → ℕ → ℕ → Left
accepted_left i r curves words curves_end words_end =
    record {
      answer = answer_by i r;
      curves = sets curves (i.channels * (r.head.blocksize / 2)) (replicate (curves_end - i.channels * (r.head.blocksize / 2)) 0);
      codewords = sets words r.words (replicate (words_end - r.words) 0);
      tally = r.tally;
    }

-- a refusal's, all zero
abbrev pub refused_left : ℕ → Tally → List ℕ → List ℕ → Left
refused_left n t curves words =
    record { answer = refused n; curves = replicate (length curves) 0; codewords = replicate (length words) 0; tally = t }

-- that of a refusal before anything was written, cleared up to a place each
abbrev pub early_left : ℕ → Tally → List ℕ → List ℕ → ℕ → ℕ → Left
early_left n t curves words curves_end words_end =
    record { answer = refused n; curves = sets curves 0 (replicate (curves_end - 0) 0); codewords = sets words 0 (replicate (words_end - 0) 0); tally = t }

unfoldable pub settled : Identity → Tally → Result Judged Rejected → List ℕ → List ℕ → ℕ → ℕ → Left
settled i t (Ok r) curves words curves_end words_end = accepted_left i r curves words curves_end words_end
settled i t (Err z) curves words curves_end words_end =
    cond z.written (refused_left z.refusal t curves words) (early_left z.refusal t curves words curves_end words_end)
