-- An audio record, as the code asks it: what the audio call's equation comes to for the stream and for the outputs. Assumes nothing.
use Prim.Native.Nat.{ℕ, ◌*◌, ◌/◌, ◌≤◌, ◌<◌}
use native.Mathlib.Omega.{arith}
use borrow.Author.Tests.{eq-eqb, ne_eqb, not-true, not-false}
use mathlib.Core.Bool.{Bool, true, false, not, cond}
use mathlib.Core.List.{List}
use mathlib.Core.Logic.{⊎_elim}
use mathlib.Core.Path.{◌≡◌, refl, ap, subst, ◌∙◌}
use lib.Dec.{eqb}
use lib.ListN.{length, replicate, length-map, length-replicate, get_or-eq_default}
use Rattle.reading.specs.Outcome.{Refusal, Outcome, ok, bad}
use Rattle.reading.specs.Pad.{pad}
use Rattle.reading.proofs.Least.{lt_or_le}
use Rattle.reading.proofs.Outcomes.{Numbered, number}
use Rattle.reading.proofs.Pads.{pad_nil, length-pad, pad_get}
use Rattle.std.specs.Prelude.{Option, None, Some}
use Rattle.limits.specs.Standard.{standard}
use Rattle.identification.specs.declared.Identity.{Identity}
use Rattle.setup.specs.Content.{Setup}
use Rattle.setup.specs.Layout.{Tables}
use Rattle.setup.specs.Inner.Decode.{decode_setup}
use Rattle.residue_requests.specs.Listed.{residue_words, listed}
use Rattle.audio.specs.declared.AudioAnswer.{AudioAnswer}
use Rattle.audio.specs.declared.Tally.{Tally}
use Rattle.audio.specs.Call.{Accepted, accepted, refused, Left, answer_of, answered, audio_by, room_of, left_of}
use Rattle.audio_settle.specs.Inner.Judged.{curves_by, words_by, ZeroFrom}
use Rattle.audio_judge.specs.Inner.Ready.{Ready}
use Rattle.audio_judge.proofs.ReadyLaws.{channels_few}
use Rattle.records.specs.declared.Answer.TheVariants.{AudioRead, Refused}
use Rattle.record_step.specs.declared.Kept.{Kept}
use Rattle.record_step.specs.declared.Stepped.{Stepped}
use Rattle.record_step.specs.Step.{room, audio_step}
use Rattle.record_step.specs.Inner.Kept.{stream_of, KeptTables, KeptOutputs, unchanged, packet_read, packet_answered, AudioStep}
use Rattle.record_step.proofs.SetupLaws.{small_standard}
use Rattle.audio.proofs.Numbers.{accepted_numbered}
use Rattle.record_step.proofs.PacketLaws.{block_high, bytes_few}

-- THE OUTPUTS: behind a list there is nothing
zero_after : (n place : ℕ) (l : List ℕ) → length l ≤ place → ZeroFrom place (pad n l)
zero_after n place l few =
    record {
      zero = λ j h.
          ⊎_elim (λ (a : j < n). pad_get n l j a ∙ get_or-eq_default l 0 (omega arith))
          (λ (a : n ≤ j). let long = length-pad n l in get_or-eq_default (pad n l) 0 (omega arith)) (lt_or_le j n);
    }

zero_all : (n : ℕ) → ZeroFrom 0 (replicate n 0)
zero_all n = subst (λ (l : List ℕ). ZeroFrom 0 l) (pad_nil n) (zero_after n 0 _ (omega arith))

-- the audio call's answer
module _ (k : Kept) (i : Identity) (t : Tally) (a : AudioAnswer) {r : Stepped} where
  pub answer_refused : (a.refusal ≡ 0 → ⊥) → r ≡ packet_read k t 0 0 (Refused a.refusal) → r ≡ packet_answered k i t a
  answer_refused e q = rw (ne_eqb a.refusal 0 e) q

  pub answer_accepted : {bytes : ℕ} → a.refusal ≡ 0 → bytes ≡ i.channels * (a.blocksize / 2)
      → r ≡ packet_read k t bytes a.codewords (AudioRead a.blocksize a.samples a.codewords) → r ≡ packet_answered k i t a
  answer_accepted {bytes} e b q = rw (eq-eqb a.refusal 0 e) (q ∙ ap (λ (n : ℕ). packet_read k t n a.codewords (AudioRead a.blocksize a.samples a.codewords)) b)

-- WITHOUT AN IDENTITY
pub no_identity : (k : Kept) (s : List ℕ) (t : Tables) (curves words : List ℕ) {r : Stepped} {number : ℕ} → KeptTables k t × KeptOutputs k curves words → k.identity ≡ None
    → number ≡ 18 → r ≡ unchanged k (Refused number) → AudioStep k s t r curves words
unfolding stream_of
no_identity k s t curves words x n e a = rw (a, e) (record { stream = rw n refl; tables = x.0; outputs = x.1 })

-- WITHOUT TABLES, with an identity or not
without : (k : Kept) (s : List ℕ) (t : Tables) (i : Option Identity) (c : Option Setup) → c ≡ None → (stream_of k t, Refused 18) ≡ audio_step (stream_of k t) i c s
without k s t (Some i) c e = rw e refl
without k s t None c e = refl

pub no_tables : (k : Kept) (s : List ℕ) (t : Tables) (curves words : List ℕ) {r : Stepped} {number : ℕ} → KeptTables k t × KeptOutputs k curves words → not k.has_tables ≡ true
    → number ≡ 18 → r ≡ unchanged k (Refused number) → AudioStep k s t r curves words
unfolding stream_of
no_tables k s t curves words x n e a =
    let no : k.has_tables ≡ false = not-true k.has_tables n in
    let none_kept : (stream_of k t).setup ≡ None = ap (λ (b : Bool). cond b (Some (decode_setup t)) None) no in
    rw (a, e) (record { stream = without k s t (stream_of k t).identity (stream_of k t).setup none_kept; tables = x.0; outputs = x.1 })

-- WITH THEM: what the inner call asks for, and what it left
module _ (k : Kept) (s : List ℕ) (t : Tables) (curves words : List ℕ) (x : KeptTables k t × KeptOutputs k curves words)
    {i : Identity} (first : k.identity ≡ Some i) (n : not k.has_tables ≡ false) where
  has : k.has_tables ≡ true
  has = not-false k.has_tables n

  ready : Ready i t
  ready = record { limits = standard; sound = rw first at x.0.tables_sound has; small = small_standard; few_entries = omega arith }

  pub packet_asked : Ready i t × ZeroFrom k.curves_end curves × ZeroFrom k.words_end words
  packet_asked = (ready, x.1.curves_zero, x.1.words_zero)

  abbrev outcome : Outcome Accepted
  outcome = accepted i k.tally room s (decode_setup t)

  -- the outputs have the tool's lengths
  own_room : {l : Left} → l ≡ audio_by (decode_setup t) i k.tally s (room_of curves words) → l ≡ answered i k.tally room (decode_setup t) outcome
  unfolding audio_by
  own_room q = q ∙ (λ j. audio_by (decode_setup t) i k.tally s (record { curves = x.1.curves_long j; codewords = x.1.words_long j }))

  -- an accepted packet
  good : (z : Accepted) → outcome ≡ ok z
      → AudioStep k s t (packet_answered k i z.tally (answer_of i z)) (pad 32768 (curves_by i.channels (decode_setup t) z)) (pad 16384 (words_by z))
  unfolding stream_of
  good z e =
      let listed-long = length-map (residue_words z.packet.items) listed in
      record {
        stream = rw (first, has, e) refl;
        tables = record { identity_sound = x.0.identity_sound; identity_first = x.0.identity_first; tables_sound = x.0.tables_sound; tables_long = x.0.tables_long };
        outputs =
            record {
              curves_long = length-pad 32768 _;
              words_long = length-pad 16384 _;
              curves_zero = zero_after 32768 _ _ (bytes_few i.channels (decode_setup t) z);
              words_zero = zero_after 16384 _ _ (omega arith);
            };
      }

  -- a refused one
  bad_packet : (z : Refusal) → outcome ≡ bad z → AudioStep k s t (packet_read k k.tally 0 0 (Refused z.number)) (replicate 32768 0) (replicate 16384 0)
  unfolding stream_of
  bad_packet z e =
      record {
        stream = rw (first, has, e) refl;
        tables = record { identity_sound = x.0.identity_sound; identity_first = x.0.identity_first; tables_sound = x.0.tables_sound; tables_long = x.0.tables_long };
        outputs =
            record {
              curves_long = length-replicate {A = ℕ} 32768 0;
              words_long = length-replicate {A = ℕ} 16384 0;
              curves_zero = zero_all 32768;
              words_zero = zero_all 16384;
            };
      }

  -- what the call left, by the outcome
  by_outcome : (o : Outcome Accepted) → outcome ≡ o → Numbered o → (a : AudioAnswer) (tally : Tally) (curves' words' : List ℕ)
      → left_of a tally curves' words' ≡ answered i k.tally room (decode_setup t) o → AudioStep k s t (packet_answered k i tally a) curves' words'
  unfolding answered
  by_outcome (ok z) e m a tally curves' words' q =
      let answer : a ≡ answer_of i z = ap (λ (l : Left). l.answer) q in
      let after : tally ≡ z.tally = ap (λ (l : Left). l.tally) q in
      let drawn : curves' ≡ pad 32768 (curves_by i.channels (decode_setup t) z) = ap (λ (l : Left). l.curves) q in
      let list : words' ≡ pad 16384 (words_by z) = ap (λ (l : Left). l.codewords) q in
      rw (answer, after, drawn, list) (good z e)
  by_outcome (bad z) e (number w low) a tally curves' words' q =
      let answer : a ≡ refused z.number = ap (λ (l : Left). l.answer) q in
      let after : tally ≡ k.tally = ap (λ (l : Left). l.tally) q in
      let drawn : curves' ≡ replicate 32768 0 = ap (λ (l : Left). l.curves) q in
      let list : words' ≡ replicate 16384 0 = ap (λ (l : Left). l.codewords) q in
      let no : eqb z.number 0 ≡ false = ne_eqb z.number 0 (λ (h : z.number ≡ 0). omega arith) in
      rw (answer, after, drawn, list, no) (bad_packet z e)

  size_by : (o : Outcome Accepted) → outcome ≡ o → (a : AudioAnswer) (tally : Tally) (curves' words' : List ℕ)
      → left_of a tally curves' words' ≡ answered i k.tally room (decode_setup t) o → a.blocksize ≤ 8192
  unfolding answered
  size_by (ok z) e a tally curves' words' q =
      let size : a.blocksize ≡ z.packet.head.blocksize = ap (λ (l : Left). l.answer.blocksize) q in
      let high = block_high i t ready k.tally room s z e in
      omega arith
  size_by (bad z) e a tally curves' words' q = let size : a.blocksize ≡ 0 = ap (λ (l : Left). l.answer.blocksize) q in omega arith

  -- and as the program has it
  module _ {a : AudioAnswer} {tally : Tally} {curves' words' : List ℕ}
      (q : left_of a tally curves' words' ≡ audio_by (decode_setup t) i k.tally s (room_of curves words)) where
    pub answer_asked : (i.channels ≤ 255) × (a.blocksize ≤ 8192)
    answer_asked = (channels_few i t ready, size_by outcome refl a tally curves' words' (own_room q))

    pub audio_settled : {r : Stepped} → r ≡ packet_answered k i tally a → AudioStep k s t r curves' words'
    audio_settled e =
        rw e (by_outcome outcome refl (accepted_numbered i k.tally room s (decode_setup t)) a tally curves' words' (own_room q))
