-- A packet behind its head, judged: 17 for the curves, the body, 17 for the codewords, the tally's step. Assumes nothing.
use Rattle.std.specs.Prelude.{Result, Ok, Err}
use Prim.Native.Nat.{ℕ, suc, ◌+◌, ◌*◌, ◌/◌, ◌≤◌, ◌<◌}
use native.Mathlib.Nat.{zero-mul, suc-mul}
use native.Mathlib.Omega.{arith}
use borrow.Author.Tests.{lt-leb, le-leb}
use mathlib.Core.Bool.{Bool, true, false, cond}
use mathlib.Core.List.{List, [], ◌∷◌, ◌++◌, map}
use mathlib.Core.Option.{Option, none, some}
use mathlib.Core.Path.{◌≡◌, refl, ap, sym, ◌∙◌}
use lib.Dec.{eqb, ltb, leb}
use lib.ListN.{length, get_or, length-map, length-append}
use lib.Seq.{sets, length-sets}
use Rattle.reading.specs.Least.{one}
use Rattle.reading.specs.Outcome.{Refusal, refusal, Outcome, ok, bad, then, need}
use Rattle.reading.specs.Pad.{pad}
use Rattle.reading.specs.Tabulate.{tabulate}
use Rattle.reading.proofs.Outcomes.{ok_is}
use Rattle.reading.proofs.Tabulate.{tabulate-length}
use Rattle.identification.specs.declared.Identity.{Identity}
use Rattle.floor.specs.Content.{Floor, no_floor}
use Rattle.mode.specs.Content.{Mode}
use Rattle.setup.specs.Content.{Setup, lengths_of}
use Rattle.requests.specs.Requests.{number, done, request}
use Rattle.requests.specs.Run.{read, Item, Run, run}
use Rattle.requests.specs.Values.{whole_values}
use Rattle.floor_requests.specs.Requests.{FloorRead, floor_requests}
use Rattle.residue_requests.specs.Listed.{residue_words, listed}
use Rattle.residue_requests.proofs.ListedLaws.{words_append}
use Rattle.codeword_list.specs.Inner.ListRead.{all, cut, full, ending_of, ending_by}
use Rattle.codeword_list.specs.declared.Stop.TheVariants.{Cut, Full}
use Rattle.codeword_list.specs.declared.Progress.{Progress}
use Rattle.audio.specs.declared.Head.{Head}
use Rattle.audio.specs.declared.Tally.{Tally}
use Rattle.audio.specs.Head.{flag_requests, mode_requests, head_requests}
use Rattle.audio.specs.Channels.{floor_number, floors_of, is_used}
use Rattle.audio.specs.Packet.{Audio, mapping_of, by_channel, channel_floors, head_run}
use Rattle.audio.specs.Tally.{counted}
use Rattle.audio.specs.Curves.{curve_of, curves_of}
use Rattle.audio.specs.Call.{Room, Accepted, judged}
use Rattle.audio.specs.Inner.Plain.{plain_body, plain_at}
use Rattle.audio.proofs.Cuts.{by_channel_long}
use Rattle.audio_floors.proofs.Agreement.{flags_agree, whole_few}
use Rattle.audio_floors.proofs.FloorsLaws.{curve_long}
use Rattle.audio_body.specs.declared.BodyRead.{BodyRead}
use Rattle.audio_settle.specs.declared.Judged.{Judged}
use Rattle.audio_settle.specs.declared.Rejected.{Rejected}
use Rattle.audio_body.specs.Inner.Body.{ending_words, BodyIs}
use Rattle.audio_settle.specs.Inner.Judged.{numbered, was_written, accepted_by, finished_by, judgement, curves_by, JudgedIs}
use Rattle.audio_body.proofs.BodyWords.{Asks, asks_bind, asks_done, asks_if, asks_request, run_kept}

-- no field of the head is a codeword
flags_ask : (i : Identity) (mode blockflag : ℕ) → Asks false (flag_requests i mode blockflag)
unfolding flag_requests
flags_ask i mode blockflag =
    asks_if false (eqb blockflag 0) (done _) _ (asks_done false _)
    (asks_bind false (request (number 1)) _ (asks_request false (number 1) refl) (λ previous.
    asks_bind false (request (number 1)) _ (asks_request false (number 1) refl) (λ next. asks_done false _)))

mode_asks : (i : Identity) (modes : List Mode) → Asks false (mode_requests i modes)
unfolding mode_requests
mode_asks i modes =
    asks_bind false (request (number _)) _ (asks_request false (number _) refl)
    (λ mode. asks_if false (ltb mode (length modes)) _ (done (bad (refusal 16 1))) (flags_ask i mode _) (asks_done false (bad (refusal 16 1))))

head_asks : (i : Identity) (modes : List Mode) → Asks false (head_requests i modes)
unfolding head_requests
head_asks i modes =
    asks_bind false (request (number 1)) _ (asks_request false (number 1) refl)
    (λ type. asks_if false (eqb type 0) (mode_requests i modes) (done (bad (refusal 15 0))) (mode_asks i modes) (asks_done false (bad (refusal 15 0))))

-- how a list of so many places was read
module _ (room : ℕ) (r : Run Unit) where
  abbrev words : ℕ
  words = length (residue_words r.items)

  module _ {k n : ℕ} where
    pub whole_fits : all k n ≡ ending_words room r → (leb words room ≡ true) × (n ≡ words)
    unfolding ending_words
    whole_fits e = go (leb words room) refl r.value e
      where
        go : (t : Bool) → leb words room ≡ t → (v : Option Unit) → all k n ≡ cond t (ending_by v r.position words) full → (leb words room ≡ true) × (n ≡ words)
        go true q (some a) h = (q, cc)
        go true q none h = absurd (cc)
        go false q v h = absurd (cc)

    pub cut_fits : cut k n ≡ ending_words room r → (leb words room ≡ true) × (n ≡ words)
    unfolding ending_words
    cut_fits e = go (leb words room) refl r.value e
      where
        go : (t : Bool) → leb words room ≡ t → (v : Option Unit) → cut k n ≡ cond t (ending_by v r.position words) full → (leb words room ≡ true) × (n ≡ words)
        go true q (some a) h = absurd (cc)
        go true q none h = (q, cc)
        go false q v h = absurd (cc)

  pub full_fits_not : full ≡ ending_words room r → leb words room ≡ false
  unfolding ending_words
  full_fits_not e = go (leb words room) refl r.value e
    where
      go : (t : Bool) → leb words room ≡ t → (v : Option Unit) → full ≡ cond t (ending_by v r.position words) full → leb words room ≡ false
      go true q (some a) h = absurd (cc)
      go true q none h = absurd (cc)
      go false q v h = q

bad-ok : {A : Type 0} {z : Refusal} {a : A} → bad z ≡ ok a → ⊥
bad-ok e = cc

-- a refusal: what is known of the outputs, whose lengths are the same, and which are the same where nothing was written
pub refused_is : (channels : ℕ) (c : Setup) {o : Outcome Accepted} {z : Refusal} {x : Rejected} (entry exit list list' : List ℕ) → o ≡ bad z → x.refusal ≡ z.number
    → length exit ≡ length entry → length list' ≡ length list → (x.written ≡ false → (exit ≡ entry) × (list' ≡ list)) → JudgedIs channels c o (Err x) entry exit list list'
refused_is channels c entry exit list list' e a l m same =
    record {
      answer = rw e (ap Err a);
      size = tt;
      curves_long = l;
      words_long = m;
      curves = λ y g. absurd (bad-ok (sym e ∙ g));
      bytes = λ y g. absurd (bad-ok (sym e ∙ g));
      words = λ y g. absurd (bad-ok (sym e ∙ g));
      unwritten = same;
    }

ok-err : {A E : Type 0} {a : A} {b : E} → ◌≡◌ {A = Result A E} (Ok a) (Err b) → ⊥
ok-err e = cc

true-false : true ≡ false → ⊥
true-false e = cc

-- how many there are of each
curves_bytes : (half : ℕ) (fs : List Floor) (vs : List FloorRead) → length vs ≡ length fs → length (curves_of half fs vs) ≡ length fs * half
unfolding curves_of
curves_bytes half [] [] e = sym (zero-mul half)
curves_bytes half [] (v ∷ vs) e = absurd (omega arith)
curves_bytes half (f ∷ fs) [] e = absurd (omega arith)
curves_bytes half (f ∷ fs) (v ∷ vs) e =
    let a = length-append (curve_of half f v) (curves_of half fs vs) in
    let b = curve_long half f v in
    let d = curves_bytes half fs vs (omega arith) in
    let m : suc (length fs) * half ≡ length fs * half + half = suc-mul (length fs) half in
    omega arith

module _ (i : Identity) (c : Setup) (t : Tally) (s : List ℕ) (h : Head) (k : ℕ) where
  abbrev whole : Audio
  whole = plain_at i.channels c s (head_run i c s).items h k

  abbrev body : Run Unit
  body = run (read (lengths_of c)) (plain_body i.channels c h) s k

  abbrev floors : List FloorRead
  floors = whole_values (read (lengths_of c)) floor_requests (channel_floors i.channels c h) s k

  packet_words : residue_words whole.items ≡ residue_words body.items
  unfolding plain_at
  packet_words =
      words_append (head_run i c s).items body.items
      ∙ ap (λ (l : List Item). l ++ residue_words body.items) (run_kept (read (lengths_of c)) s false (head_requests i c.modes) 0 (head_asks i c.modes))

  all_floors : length (channel_floors i.channels c h) ≡ i.channels
  unfolding channel_floors floors_of
  all_floors =
      length-map (tabulate (floor_number (mapping_of c h)) i.channels) (λ (n : ℕ). get_or c.floors n no_floor)
      ∙ tabulate-length (floor_number (mapping_of c h)) i.channels

  -- channels times n/2 curve bytes
  whole_bytes : length (curves_of (h.blocksize / 2) (channel_floors i.channels c h) (by_channel i.channels floors)) ≡ i.channels * (h.blocksize / 2)
  whole_bytes =
      curves_bytes (h.blocksize / 2) (channel_floors i.channels c h) (by_channel i.channels floors) (by_channel_long i.channels floors ∙ sym all_floors)
      ∙ ap (λ (n : ℕ). n * (h.blocksize / 2)) all_floors

  few_floors : length floors ≤ i.channels
  few_floors =
      let few = whole_few (read (lengths_of c)) s (channel_floors i.channels c h) k in
      let all = all_floors in
      omega arith

  module _ (entry list : List ℕ) where
    abbrev room : Room
    room = record { curves = length entry; codewords = length list }

    -- what judging the packet comes to
    abbrev outcome : Outcome Accepted
    outcome = judged i.channels t room whole

    -- the step of the tally behind both rooms
    abbrev stepped : Outcome Accepted
    stepped = then (counted t h.blocksize body.position) (λ x. ok (record { packet = whole; tally = x.0; samples = x.1 }))

    no_curves : length entry < i.channels * (h.blocksize / 2) → outcome ≡ bad (refusal 17 0)
    unfolding judged plain_at
    no_curves few = rw (lt-leb (i.channels * (h.blocksize / 2)) (length entry) few) refl

    module _ (fits : i.channels * (h.blocksize / 2) ≤ length entry) where
      by_room : outcome ≡ need (leb (length (residue_words body.items)) (length list)) (refusal 17 0) stepped
      unfolding judged plain_at
      by_room = rw (le-leb (i.channels * (h.blocksize / 2)) (length entry) fits) (ap (λ (l : List Item). need (leb (length l) (length list)) (refusal 17 0) stepped) packet_words)

      no_words : leb (length (residue_words body.items)) (length list) ≡ false → outcome ≡ bad (refusal 17 0)
      no_words e = by_room ∙ ap (λ (b : Bool). need b (refusal 17 0) stepped) e

      all_words : leb (length (residue_words body.items)) (length list) ≡ true → outcome ≡ stepped
      all_words e = by_room ∙ ap (λ (b : Bool). need b (refusal 17 0) stepped) e

    pub no_curves_is : {n : ℕ} → n ≡ 17 → length entry < i.channels * (h.blocksize / 2) → JudgedIs i.channels c outcome (Err (record { refusal = n; written = false })) entry entry list list
    no_curves_is a few = refused_is i.channels c entry entry list list (no_curves few) a refl refl (λ _. (refl, refl))

    module _ (high : h.blocksize ≤ 8192) (fits : i.channels * (h.blocksize / 2) ≤ length entry) {exit list' : List ℕ} {x : BodyRead}
        (b : BodyIs body (channel_floors i.channels c h) floors i.channels (h.blocksize / 2) x entry exit list list') where
      curves_long : length exit ≡ length entry
      curves_long = ap length b.curves ∙ length-sets entry 0 (curves_of (h.blocksize / 2) (channel_floors i.channels c h) (by_channel i.channels floors))

      words_long : length list' ≡ length list
      words_long = ap length b.words ∙ length-sets list 0 (map listed (residue_words body.items))

      -- a refusal behind the body settles nothing of the outputs but their lengths
      after_body_is : {z : Refusal} {y : Rejected} → outcome ≡ bad z → y.refusal ≡ z.number → y.written ≡ true → JudgedIs i.channels c outcome (Err y) entry exit list list'
      after_body_is e a b = refused_is i.channels c entry exit list list' e a curves_long words_long (λ g. absurd (true-false (sym b ∙ g)))

      pub full_is : {n : ℕ} → n ≡ 17 → x.words ≡ Err Full → JudgedIs i.channels c outcome (Err (record { refusal = n; written = true })) entry exit list list'
      unfolding ending_of
      full_is a e = after_body_is (no_words fits (full_fits_not (length list) body (ap ending_of (sym e) ∙ b.ending))) a refl

      -- so many codewords, all of which have room
      read_is : {r : Result Judged Rejected} {n : ℕ} → (leb (length (residue_words body.items)) (length list) ≡ true) × (n ≡ length (residue_words body.items))
          → ((stop : ℕ) → numbered r ≡ finished_by (counted t h.blocksize stop) h x.used n) → was_written r ≡ true → JudgedIs i.channels c outcome r entry exit list list'
      unfolding plain_at
      read_is {r} {n} f a written = go r (counted t h.blocksize body.position) (all_words fits f.0) (a body.position) written
        where
          used_are : x.used ≡ pad 255 (map (λ g. one (is_used g)) (by_channel i.channels floors))
          used_are = b.used ∙ sym (flags_agree 255 i.channels floors few_floors)

          same : (y : Accepted) → whole ≡ y.packet → curves_of (h.blocksize / 2) (channel_floors i.channels c h) (by_channel i.channels floors) ≡ curves_by i.channels c y
          same y e = ap (λ (q : Audio). curves_of (q.head.blocksize / 2) (channel_floors i.channels c q.head) q.floors) e

          go : (r : Result Judged Rejected) (o : Outcome (Tally × ℕ)) → outcome ≡ then o (λ y. ok (record { packet = whole; tally = y.0; samples = y.1 }))
              → numbered r ≡ finished_by o h x.used n → was_written r ≡ true → JudgedIs i.channels c outcome r entry exit list list'
          go (Err y) (bad z) e d g = after_body_is e (cc) g
          go (Ok y) (bad z) e d g = absurd (ok-err d)
          go (Err y) (ok z) e d g = absurd (ok-err (sym d))
          go (Ok z) (ok y) e d g =
              let is : z ≡ accepted_by h x.used n y.1 y.0 = cc in
              record {
                answer = d ∙ (λ j. Ok (accepted_by h (used_are j) ((f.1 ∙ ap length (sym packet_words)) j) y.1 y.0)) ∙ ap judgement (sym e);
                size = rw is high;
                curves_long = curves_long;
                words_long = words_long;
                curves = λ v g. b.curves ∙ ap (sets entry 0) (same v (ap (λ (q : Accepted). q.packet) (ok_is (sym e ∙ g))));
                bytes = λ v g. ap (λ (q : Audio). length (curves_of (q.head.blocksize / 2) (channel_floors i.channels c q.head) q.floors)) (sym (ap (λ (q : Accepted). q.packet) (ok_is (sym e ∙ g)))) ∙ whole_bytes ∙ ap (λ (q : Accepted). i.channels * (q.packet.head.blocksize / 2)) (ok_is (sym e ∙ g));
                words = λ v g. b.words ∙ ap (λ (l : List Item). sets list 0 (map listed l)) (sym packet_words ∙ ap (λ (q : Accepted). residue_words q.packet.items) (ok_is (sym e ∙ g)));
                unwritten = λ g. absurd (true-false g);
              }

      pub whole_is : {r : Result Judged Rejected} {p : Progress} → x.words ≡ Ok p → ((stop : ℕ) → numbered r ≡ finished_by (counted t h.blocksize stop) h x.used p.count)
          → was_written r ≡ true → JudgedIs i.channels c outcome r entry exit list list'
      unfolding ending_of
      whole_is {r} {p} e a = read_is (whole_fits (length list) body (ap ending_of (sym e) ∙ b.ending)) a

      pub cut_is : {r : Result Judged Rejected} {p : Progress} → x.words ≡ Err (Cut p) → ((stop : ℕ) → numbered r ≡ finished_by (counted t h.blocksize stop) h x.used p.count)
          → was_written r ≡ true → JudgedIs i.channels c outcome r entry exit list list'
      unfolding ending_of
      cut_is {r} {p} e a = read_is (cut_fits (length list) body (ap ending_of (sym e) ∙ b.ending)) a
