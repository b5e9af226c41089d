-- A whole packet by tables that are ready, as the code asks it: one law for each way out. Assumes nothing.
use Rattle.std.specs.Prelude.{Result, Ok, Err}
use Prim.Native.Nat.{ℕ, ◌≤◌}
use mathlib.Core.Bool.{Bool, true, false, not}
use mathlib.Core.List.{List}
use mathlib.Core.Path.{◌≡◌, ap, sym, ◌∙◌}
use borrow.Author.Tests.{not-true, not-false}
use lib.ListN.{get_or}
use Rattle.bits.specs.declared.Cursor.{Cursor}
use Rattle.bits.specs.declared.refusal.Refusal.{Refusal}
use Rattle.bits.specs.Reasons.{number}
use Rattle.bits.specs.Inner.Cursors.{position, outcome}
use Rattle.bits.proofs.Answers.{value_is, refused_is}
use Rattle.identification.specs.declared.Identity.{Identity}
use Rattle.mode.specs.Content.{Mode}
use Rattle.setup.specs.Content.{Setup, lengths_of}
use Rattle.setup.specs.Layout.{Tables}
use Rattle.setup.specs.Inner.Decode.{decode_setup}
use Rattle.requests.specs.Run.{read, run}
use Rattle.requests.specs.Refusing.{came_to}
use Rattle.audio.specs.declared.Head.{Head}
use Rattle.audio.specs.declared.Tally.{Tally}
use Rattle.audio.specs.Head.{head_requests}
use Rattle.audio.specs.Packet.{head_run}
use Rattle.audio.specs.Tally.{tally_sound}
use Rattle.audio.specs.Call.{accepted, room_of}
use Rattle.audio_head.specs.Inner.Readers.{modes_in}
use Rattle.audio_head.proofs.RunLaws.{modes_decoded}
use Rattle.audio_settle.specs.declared.Judged.{Judged}
use Rattle.audio_settle.specs.declared.Rejected.{Rejected}
use Rattle.audio_judge.specs.Inner.Ready.{Ready}
use Rattle.audio_settle.specs.Inner.Judged.{JudgedIs, after_head, HeadIs}
use Rattle.audio_judge.proofs.AcceptedLaws.{tally_refused, head_refused, head_read_lem}
use Rattle.audio_judge.proofs.ReadyLaws.{modes_counted}

module _ (i : Identity) (t : Tables) (x : Ready i t) where
  -- how many modes there are
  pub modes_asked : {n : ℕ} → n ≡ get_or t.counts 4 0 → (1 ≤ n) × (n ≤ 64)
  modes_asked e = let m = modes_counted i t x in rw e m

  abbrev c : Setup
  c = decode_setup t

  -- the head that was read, by as many modes as there are
  module _ (s : List ℕ) {n : ℕ} (m : n ≡ get_or t.counts 4 0) (q : Result (Head × Cursor) Refusal) (f : (lens : ℕ → List ℕ) → outcome q ≡ came_to (run (read lens) (head_requests i (modes_in t.modes n)) s 0)) where
    head_is : outcome q ≡ came_to (head_run i c s)
    head_is = f (lengths_of c) ∙ ap (λ (l : List Mode). came_to (run (read (lengths_of c)) (head_requests i l) s 0)) (ap (modes_in t.modes) m ∙ sym (modes_decoded t))

    pub head_asked : {h : Head} {k : Cursor} → q ≡ Ok (h, k) → HeadIs i c s h (position k)
    head_asked w = value_is head_is w

    module _ (tally : Tally) (entry list : List ℕ) {b : Bool} (sound : b ≡ tally_sound i tally) (left : not b ≡ false) where
      is_sound_lem : tally_sound i tally ≡ true
      is_sound_lem = sym sound ∙ not-false b left

      pub judged_head_refused : {z : Refusal} {n : ℕ} → q ≡ Err z → n ≡ number z.reason
          → JudgedIs i.channels c (accepted i tally (room_of entry list) s c) (Err (record { refusal = n; written = false })) entry entry list list
      judged_head_refused w a = head_refused i c tally s entry list is_sound_lem (refused_is head_is w) a

      pub judged_head_read : {h : Head} {k : Cursor} {r : Result Judged Rejected} {exit list' : List ℕ} → q ≡ Ok (h, k) → JudgedIs i.channels c (after_head i c tally s h (position k) (room_of entry list)) r entry exit list list'
          → JudgedIs i.channels c (accepted i tally (room_of entry list) s c) r entry exit list list'
      judged_head_read w j = head_read_lem i c tally s entry list is_sound_lem (head_asked w) j

  pub judged_unsound : (tally : Tally) (s entry list : List ℕ) {b : Bool} {number : ℕ} → b ≡ tally_sound i tally → not b ≡ true → number ≡ 18
      → JudgedIs i.channels c (accepted i tally (room_of entry list) s c) (Err (record { refusal = number; written = false })) entry entry list list
  judged_unsound tally s entry list {b} e n a = tally_refused i c tally s entry list a (sym e ∙ not-true b n)
