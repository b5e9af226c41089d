-- A whole packet judged: 18 for the tally, the head, then what follows it. Assumes nothing.
use Rattle.std.specs.Prelude.{Result, Err}
use Prim.Native.Nat.{ℕ}
use mathlib.Core.Bool.{Bool, true, false}
use mathlib.Core.List.{List}
use mathlib.Core.Path.{◌≡◌, refl, ap, sym, subst, ◌∙◌}
use lib.ListN.{length}
use Rattle.reading.specs.Outcome.{Refusal, refusal, Outcome, ok, bad, then, need}
use Rattle.identification.specs.declared.Identity.{Identity}
use Rattle.setup.specs.Content.{Setup}
use Rattle.requests.specs.Refusing.{came_to}
use Rattle.audio.specs.declared.Head.{Head}
use Rattle.audio.specs.declared.Tally.{Tally}
use Rattle.audio.specs.Packet.{Audio, head_run, audio}
use Rattle.audio.specs.Tally.{tally_sound}
use Rattle.audio.specs.Call.{Room, Accepted, judged, accepted}
use Rattle.audio.specs.Inner.Plain.{plain_at}
use Rattle.audio.proofs.Plain.{audio_plain}
use Rattle.audio_settle.specs.declared.Judged.{Judged}
use Rattle.audio_settle.specs.declared.Rejected.{Rejected}
use Rattle.audio_settle.specs.Inner.Judged.{JudgedIs}
use Rattle.audio_judge.proofs.PacketLaws.{refused_is}

module _ (i : Identity) (c : Setup) (t : Tally) (s : List ℕ) (entry list : List ℕ) where
  abbrev room : Room
  room = record { curves = length entry; codewords = length list }

  -- nothing was written
  untouched : {z : Refusal} {x : Rejected} → accepted i t room s c ≡ bad z → x.refusal ≡ z.number → JudgedIs i.channels c (accepted i t room s c) (Err x) entry entry list list
  untouched e a = refused_is i.channels c entry entry list list e a refl refl (λ _. (refl, refl))

  pub tally_refused : {n : ℕ} → n ≡ 18 → tally_sound i t ≡ false → JudgedIs i.channels c (accepted i t room s c) (Err (record { refusal = n; written = false })) entry entry list list
  unfolding accepted
  tally_refused a e = untouched (ap (λ (b : Bool). need b (refusal 18 0) (then (audio i c s) (λ x. judged i.channels t room x))) e) a

  module _ (sound : tally_sound i t ≡ true) where
    by_head : (o : Outcome (Head × ℕ)) → came_to (head_run i c s) ≡ o
        → accepted i t room s c ≡ then (then o (λ h. ok (plain_at i.channels c s (head_run i c s).items h.0 h.1))) (λ x. judged i.channels t room x)
    unfolding accepted
    by_head o e =
        ap (λ (b : Bool). need b (refusal 18 0) (then (audio i c s) (λ x. judged i.channels t room x))) sound
        ∙ ap (λ (q : Outcome Audio). then q (λ x. judged i.channels t room x)) (audio_plain i c s)
        ∙ ap (λ (q : Outcome (Head × ℕ)). then (then q (λ h. ok (plain_at i.channels c s (head_run i c s).items h.0 h.1))) (λ x. judged i.channels t room x)) e

    pub head_refused : {z : Refusal} {x : Rejected} → came_to (head_run i c s) ≡ bad z → x.refusal ≡ z.number → JudgedIs i.channels c (accepted i t room s c) (Err x) entry entry list list
    head_refused {z} e a = untouched (by_head (bad z) e) a

    pub head_read_lem : {h : Head} {k : ℕ} {r : Result Judged Rejected} {exit list' : List ℕ} → came_to (head_run i c s) ≡ ok (h, k)
        → JudgedIs i.channels c (judged i.channels t room (plain_at i.channels c s (head_run i c s).items h k)) r entry exit list list'
        → JudgedIs i.channels c (accepted i t room s c) r entry exit list list'
    head_read_lem {h} {k} {r} {exit} {list'} e j = subst (λ (o : Outcome Accepted). JudgedIs i.channels c o r entry exit list list') (sym (by_head (ok (h, k)) e)) j
