-- What follows a head that was read by tables that are ready, as the code asks it: one law for each way out. Assumes nothing.
use Rattle.std.specs.Prelude.{Result, Ok, Err}
use Prim.Native.Nat.{ℕ, ◌+◌, ◌*◌, ◌/◌, ◌≤◌, ◌<◌}
use native.Mathlib.Omega.{arith}
use mathlib.Core.Bool.{true, false}
use mathlib.Core.List.{List}
use mathlib.Core.Path.{◌≡◌, ap, sym, subst, ◌∙◌}
use lib.ListN.{length, get_or}
use Rattle.identification.specs.declared.Identity.{Identity}
use Rattle.book_codeword.specs.Inner.Stored.{lengths_in}
use Rattle.mode.specs.Layout.{mode_width}
use Rattle.setup.specs.Content.{Setup, lengths_of}
use Rattle.setup.specs.Layout.{Tables}
use Rattle.setup.specs.Inner.Decode.{decode_setup}
use Rattle.requests.specs.Run.{read, run}
use Rattle.requests.specs.Values.{whole_values}
use Rattle.floor_requests.specs.Requests.{floor_requests}
use Rattle.codeword_list.specs.declared.Stop.{Stop}
use Rattle.codeword_list.specs.declared.Stop.TheVariants.{Cut, Full}
use Rattle.codeword_list.specs.declared.Progress.{Progress}
use Rattle.audio.specs.declared.Head.{Head}
use Rattle.audio.specs.declared.Tally.{Tally}
use Rattle.audio.specs.Head.{mode_at}
use Rattle.audio.specs.Packet.{channel_floors}
use Rattle.audio.specs.Tally.{counted}
use Rattle.audio.specs.Call.{room_of}
use Rattle.audio.specs.Inner.Plain.{plain_body}
use Rattle.audio_body.specs.declared.BodyRead.{BodyRead}
use Rattle.audio_settle.specs.declared.Judged.{Judged}
use Rattle.audio_settle.specs.declared.Rejected.{Rejected}
use Rattle.audio_judge.specs.Inner.Ready.{Ready}
use Rattle.audio_body.specs.Inner.Body.{floors_in, body_in, BodyIs, BodyReadable}
use Rattle.audio_settle.specs.Inner.Judged.{numbered, was_written, finished_by, JudgedIs, after_head, HeadIs}
use Rattle.audio_judge.proofs.ContentLaws.{body_readable, body_content}
use Rattle.audio_judge.proofs.PacketLaws.{no_curves_is, full_is, whole_is, cut_is}
use Rattle.audio_judge.proofs.ReadyLaws.{rows, channels_few, mode_set_up, mode_few, size_high, mapping_number}

module _ (i : Identity) (t : Tables) (x : Ready i t) (s : List ℕ) (h : Head) (k : ℕ) (e : HeadIs i (decode_setup t) s h k) where
  abbrev c : Setup
  c = decode_setup t

  pub sizes_asked : (i.channels ≤ 255) × (h.blocksize ≤ 8192)
  sizes_asked = (channels_few i t x, size_high i t x s h k e)

  pub mode_asked : h.mode < 64
  mode_asked = mode_few i t x s h k e

  module _ {bytes : ℕ} (size : bytes ≡ i.channels * (h.blocksize / 2)) {n : ℕ} (m : n ≡ get_or t.modes (mode_width * h.mode + 1) 0) where
    number_is : n ≡ (mode_at c.modes h.mode).mapping
    number_is = m ∙ mapping_number i t x s h k e

    pub body_asked : {room : ℕ} → bytes ≤ room → BodyReadable t.mappings t.floors t.residues t.plans t.books t.lengths t.codewords n i.channels (h.blocksize / 2)
        × (i.channels * (h.blocksize / 2) ≤ room)
    body_asked fits = (
      subst (λ (q : ℕ). BodyReadable t.mappings t.floors t.residues t.plans t.books t.lengths t.codewords q i.channels (h.blocksize / 2)) (sym number_is)
          (body_readable (rows i t x) x.few_entries h (mode_set_up i t x s h k e) (channels_few i t x) (size_high i t x s h k e)),
      omega arith,
    )

  module _ (tally : Tally) (entry list : List ℕ) {bytes : ℕ} (size : bytes ≡ i.channels * (h.blocksize / 2)) where
    pub judged_no_room : {n : ℕ} → length entry < bytes → n ≡ 17
        → JudgedIs i.channels c (after_head i c tally s h k (room_of entry list)) (Err (record { refusal = n; written = false })) entry entry list list
    judged_no_room few a = no_curves_is i c tally s h k entry list a (omega arith)

    module _ (fits : bytes ≤ length entry) {n : ℕ} (m : n ≡ get_or t.modes (mode_width * h.mode + 1) 0) where
      module _ {y : BodyRead} {exit list' : List ℕ} (b : BodyIs
          (run (read (lengths_in t.books t.lengths)) (body_in t.books t.floors t.residues t.plans t.mappings n i.channels (h.blocksize / 2)) s k)
          (floors_in t.mappings t.floors n i.channels)
          (whole_values (read (lengths_in t.books t.lengths)) floor_requests (floors_in t.mappings t.floors n i.channels) s k)
          i.channels (h.blocksize / 2) y entry exit list list') where
        own : BodyIs (run (read (lengths_of c)) (plain_body i.channels c h) s k) (channel_floors i.channels c h)
            (whole_values (read (lengths_of c)) floor_requests (channel_floors i.channels c h) s k) i.channels (h.blocksize / 2) y entry exit list list'
        own =
            body_content (rows i t x) x.few_entries h (mode_set_up i t x s h k e) s k
            (subst (λ (q : ℕ). BodyIs
            (run (read (lengths_in t.books t.lengths)) (body_in t.books t.floors t.residues t.plans t.mappings q i.channels (h.blocksize / 2)) s k)
            (floors_in t.mappings t.floors q i.channels)
            (whole_values (read (lengths_in t.books t.lengths)) floor_requests (floors_in t.mappings t.floors q i.channels) s k)
            i.channels (h.blocksize / 2) y entry exit list list') (number_is size m) b)

        room : i.channels * (h.blocksize / 2) ≤ length entry
        room = omega arith

        pub judged_full : {n : ℕ} → y.words ≡ Err Full → n ≡ 17
            → JudgedIs i.channels c (after_head i c tally s h k (room_of entry list)) (Err (record { refusal = n; written = true })) entry exit list list'
        judged_full w a = full_is i c tally s h k entry list (size_high i t x s h k e) room own a w

        pub judged_whole : {r : Result Judged Rejected} {p : Progress} → y.words ≡ Ok p
            → ((stop : ℕ) → numbered r ≡ finished_by (counted tally h.blocksize stop) h y.used p.count) × (was_written r ≡ true)
            → JudgedIs i.channels c (after_head i c tally s h k (room_of entry list)) r entry exit list list'
        judged_whole w a = whole_is i c tally s h k entry list (size_high i t x s h k e) room own w a.0 a.1

        pub judged_cut : {r : Result Judged Rejected} {e : Stop} {p : Progress} → y.words ≡ Err e → e ≡ Cut p
            → ((stop : ℕ) → numbered r ≡ finished_by (counted tally h.blocksize stop) h y.used p.count) × (was_written r ≡ true)
            → JudgedIs i.channels c (after_head i c tally s h k (room_of entry list)) r entry exit list list'
        judged_cut w g a = cut_is i c tally s h k entry list (size_high i t x s h k e) room own (w ∙ ap Err g) a.0 a.1
