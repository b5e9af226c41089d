-- What a call leaves, as the code asks it; and that it is what the definition of the call says. Assumes nothing.
use Rattle.std.specs.Prelude.{Result, Ok, Err}
use Prim.Native.Nat.{ℕ, ◌-◌, ◌*◌, ◌/◌, ◌≤◌, ◌<◌}
use native.Mathlib.Omega.{arith}
use native.Mathlib.Nat.{mul-le-mul_right}
use mathlib.Core.Bool.{Bool, true, false}
use mathlib.Core.List.{List}
use mathlib.Core.Path.{◌≡◌, refl, ap, sym, ◌∙◌}
use lib.ListN.{length, replicate, length-map, get_or-eq_default}
use lib.Seq.{sets}
use Rattle.reading.specs.Outcome.{Outcome, ok, bad}
use Rattle.reading.specs.Pad.{pad}
use Rattle.identification.specs.declared.Identity.{Identity}
use Rattle.setup.specs.Content.{Setup}
use Rattle.residue_requests.specs.Listed.{residue_words, listed}
use Rattle.audio.specs.declared.Tally.{Tally}
use Rattle.audio.specs.declared.AudioAnswer.{AudioAnswer}
use Rattle.audio.specs.declared.Window.{Window}
use Rattle.audio.specs.Head.{window}
use Rattle.audio.specs.Call.{Accepted, refused, Left, answer_of, answered, room_of, left_of}
use Rattle.audio_settle.specs.declared.Judged.{Judged}
use Rattle.audio_settle.specs.declared.Rejected.{Rejected}
use Rattle.audio_settle.specs.Inner.Judged.{curves_by, words_by, JudgedIs, ZeroFrom, answer_by, accepted_left, early_left, refused_left, settled}
use Rattle.audio_settle.proofs.ClearLaws.{front_cleared, front_padded}

-- what two answers that are the same say
module _ {A E : Type 0} where
  ok_is : {a b : A} → ◌≡◌ {A = Result A E} (Ok a) (Ok b) → a ≡ b
  ok_is e = cc

  err_is : {a b : E} → ◌≡◌ {A = Result A E} (Err a) (Err b) → a ≡ b
  err_is e = cc

  ok_not_err : {a : A} {b : E} → ◌≡◌ {A = Result A E} (Ok a) (Err b) → ⊥
  ok_not_err e = cc

-- channels times half a block are few
pub bytes_fit : {a b : ℕ} → a ≤ 255 → b ≤ 8192 → a * (b / 2) < 18446744073709551616
bytes_fit {a} {b} h g = let m = mul-le-mul_right (b / 2) h in omega arith

pub answer_made : (i : Identity) (r : Judged) {w : Window} → w ≡ window i.blocksize0 r.head
    → record {
      refusal = 0;
      mode = r.head.mode;
      blocksize = r.head.blocksize;
      previous = r.head.previous;
      next = r.head.next;
      window = w;
      samples = r.samples;
      codewords = r.words;
      used = r.used;
    } ≡ answer_by i r
answer_made i r e = ap (λ (w : Window). record { refusal = 0; mode = r.head.mode; blocksize = r.head.blocksize; previous = r.head.previous; next = r.head.next; window = w; samples = r.samples; codewords = r.words; used = r.used }) e

pub refuse_made : {n : ℕ} {t : Tally} (curves words : List ℕ) {curves' words' : List ℕ} {a : AudioAnswer} → curves' ≡ replicate (length curves) 0 → words' ≡ replicate (length words) 0 → a ≡ refused n
    → left_of a t curves' words' ≡ refused_left n t curves words
refuse_made {n} {t} curves words e f g = λ j. record { answer = g j; curves = e j; codewords = f j; tally = t }

pub early_made : {n : ℕ} {t : Tally} (curves words : List ℕ) (curves_end words_end : ℕ) {curves' words' : List ℕ} {a : AudioAnswer} → curves' ≡ sets curves 0 (replicate (curves_end - 0) 0)
    → words' ≡ sets words 0 (replicate (words_end - 0) 0) → a ≡ refused n → left_of a t curves' words' ≡ early_left n t curves words curves_end words_end
early_made {n} {t} curves words curves_end words_end e f g = λ j. record { answer = g j; curves = e j; codewords = f j; tally = t }

pub accept_made : (i : Identity) (r : Judged) (curves words : List ℕ) (curves_end words_end : ℕ) {curves' words' : List ℕ} {a : AudioAnswer} {bytes : ℕ} → bytes ≡ i.channels * (r.head.blocksize / 2)
    → curves' ≡ sets curves bytes (replicate (curves_end - bytes) 0) → words' ≡ sets words r.words (replicate (words_end - r.words) 0) → a ≡ answer_by i r
    → left_of a r.tally curves' words' ≡ accepted_left i r curves words curves_end words_end
accept_made i r curves words curves_end words_end {curves'} {words'} {a} {bytes} b e f g =
    let c : curves' ≡ sets curves (i.channels * (r.head.blocksize / 2)) (replicate (curves_end - i.channels * (r.head.blocksize / 2)) 0) = e ∙ ap (λ (n : ℕ). sets curves n (replicate (curves_end - n) 0)) b in
    λ j. record { answer = g j; curves = c j; codewords = f j; tally = r.tally }

-- by the answer that judging gave
module _ (i : Identity) (t : Tally) (curves words : List ℕ) (curves_end words_end : ℕ) {l : Left} where
  pub settle_accepted : {r : Result Judged Rejected} {x : Judged} → r ≡ Ok x → l ≡ accepted_left i x curves words curves_end words_end
      → l ≡ settled i t r curves words curves_end words_end
  unfolding settled
  settle_accepted e a = rw e a

  module _ {r : Result Judged Rejected} {z : Rejected} (e : r ≡ Err z) where
    pub settle_refused : z.written ≡ true → l ≡ refused_left z.refusal t curves words → l ≡ settled i t r curves words curves_end words_end
    unfolding settled
    settle_refused f a = rw (e, f) a

    pub settle_early : z.written ≡ false → l ≡ early_left z.refusal t curves words curves_end words_end → l ≡ settled i t r curves words curves_end words_end
    unfolding settled
    settle_early f a = rw (e, f) a

-- WHAT IS LEFT IS WHAT THE CALL'S DEFINITION SAYS, where both outputs held nothing from a place on
module _ (i : Identity) (c : Setup) (t : Tally) (entry list : List ℕ) (curves_end words_end : ℕ) (zc : ZeroFrom curves_end entry) (zw : ZeroFrom words_end list) where
  pub settled_is : (o : Outcome Accepted) {r : Result Judged Rejected} {exit list' : List ℕ} → JudgedIs i.channels c o r entry exit list list'
      → settled i t r exit list' curves_end words_end ≡ answered i t (room_of entry list) c o
  unfolding settled answered
  settled_is (ok x) {r = Ok a} {exit} {list'} j =
      let bytes = j.bytes x refl in
      let cs = curves_by i.channels c x in
      let ws = words_by x in
      let long : length ws ≡ length (residue_words x.packet.items) = length-map (residue_words x.packet.items) listed in
      let curves : sets exit (i.channels * (x.packet.head.blocksize / 2)) (replicate (curves_end - i.channels * (x.packet.head.blocksize / 2)) 0) ≡ pad (length entry) cs =
      ap (λ (l : List ℕ). sets l (i.channels * (x.packet.head.blocksize / 2)) (replicate (curves_end - i.channels * (x.packet.head.blocksize / 2)) 0)) (j.curves x refl)
      ∙ ap (λ (n : ℕ). sets (sets entry 0 cs) n (replicate (curves_end - n) 0)) (sym bytes)
      ∙ front_padded entry cs curves_end zc.zero in
      let words : sets list' (length (residue_words x.packet.items)) (replicate (words_end - length (residue_words x.packet.items)) 0) ≡ pad (length list) ws =
      ap (λ (l : List ℕ). sets l (length (residue_words x.packet.items)) (replicate (words_end - length (residue_words x.packet.items)) 0)) (j.words x refl)
      ∙ ap (λ (n : ℕ). sets (sets list 0 ws) n (replicate (words_end - n) 0)) (sym long)
      ∙ front_padded list ws words_end zw.zero in
      rw (ok_is j.answer) (λ k. record { answer = answer_of i x; curves = curves k; codewords = words k; tally = x.tally })
  settled_is (ok x) {r = Err z} j = absurd (ok_not_err (sym j.answer))
  settled_is (bad w) {r = Ok a} j = absurd (ok_not_err j.answer)
  settled_is (bad w) {r = Err z} {exit} {list'} j = pick z.written refl
    where
      same : z.refusal ≡ w.number
      same = err_is j.answer

      pick : (b : Bool) → z.written ≡ b → settled i t (Err z) exit list' curves_end words_end ≡ refused_left w.number t entry list
      pick false e =
          let kept = j.unwritten e in
          let curves : sets exit 0 (replicate (curves_end - 0) 0) ≡ replicate (length entry) 0 = rw kept.0 (front_cleared entry curves_end zc.zero) in
          let words : sets list' 0 (replicate (words_end - 0) 0) ≡ replicate (length list) 0 = rw kept.1 (front_cleared list words_end zw.zero) in
          rw (e, same) (λ k. record { answer = refused w.number; curves = curves k; codewords = words k; tally = t })
      pick true e =
          let curves = j.curves_long in
          let words = j.words_long in
          rw (e, same) (λ k. record { answer = refused w.number; curves = replicate (curves k) 0; codewords = replicate (words k) 0; tally = t })

-- nothing lies past an output's end
pub zero_past : (l : List ℕ) → ZeroFrom (length l) l
zero_past l = record { zero = λ j h. get_or-eq_default l 0 h }
