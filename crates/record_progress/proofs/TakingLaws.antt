-- Each way that a record is taken adds its line to the lines, and leaves the rest to write; takings one after the other are one. Assumes nothing.
use Prim.Native.Nat.{ℕ, ◌+◌, ◌-◌, ◌≤◌, ◌<◌}
use native.Mathlib.Nat.{add-zero}
use native.Mathlib.Omega.{arith}
use mathlib.Core.Bool.{true, false}
use mathlib.Core.List.{List, [], ◌++◌, append_assoc}
use mathlib.Core.Path.{◌≡◌, refl, sym, ◌∙◌, ap}
use lib.ListN.{length, take, drop, length-append, length-drop}
use lib.Seq.{sets, drop-drop, drop-length, take_all}
use Rattle.reading.proofs.Least.{true_not_false}
use Rattle.reading.proofs.Tables.{sets_append}
use Rattle.setup.specs.Layout.{Tables}
use Rattle.records.specs.Records.{body_length, kind}
use Rattle.records.specs.declared.Answer.{Answer}
use Rattle.records.specs.declared.Answer.TheVariants as answers
use Rattle.records.specs.declared.Front.{Front}
use Rattle.records.specs.declared.Front.TheVariants.{TooLong, Whole}
use Rattle.records.specs.Inner.Fronts.{front}
use Rattle.record_lines.specs.Lines.{line}
use Rattle.record_step.specs.declared.Kept.{Kept}
use Rattle.record_step.specs.Step.{Stream, step}
use Rattle.record_step.specs.Inner.Kept.{stream_of}
use Rattle.record_progress.specs.Report.{lines_after}
use Rattle.record_progress.specs.Inner.Progress.{lines_left, lines_skipping}
use Rattle.record_progress.specs.Inner.Taken.{Room, Taken, Within, Moves, MayGoOn, skips}
use Rattle.record_progress.specs.declared.Progress.{Progress}
use Rattle.record_progress.proofs.ReportLaws.{whole_read, too_long_read, skip_some, skip_all, left_skipping, left_after}
use Rattle.record_progress.proofs.FrontLaws.{HeadTooLong, IsWhole, too_long_of, whole_of}

-- the progress where all that was read is of the body that is passed over; where that body ends; and behind a whole record
abbrev pub passed : Progress → List ℕ → Progress
passed p input =
    record { kept = p.kept; number = p.number; skip = p.skip - (length input - p.from); from = length input; lines_end = p.lines_end; waiting = true }

abbrev pub passed_over : Progress → ℕ → Progress
passed_over p end = record { kept = p.kept; number = p.number + 1; skip = 0; from = p.from + p.skip; lines_end = end; waiting = false }

abbrev pub whole_taken : Progress → Kept → ℕ → ℕ → Progress
whole_taken p kept n end = record { kept = kept; number = p.number + 1; skip = 0; from = p.from + 6 + n; lines_end = end; waiting = false }

-- one taking after another
pub taken_then : {p q r : Progress} {t u v : Tables} {input l m n : List ℕ} → Taken p t input l q u m → Taken q u input m r v n → Taken p t input l r v n
taken_then {p} {q} {r} {t} {u} {v} {input} {l} {m} {n} a b =
    let e = length-append a.text b.text in
    let f = a.ends in
    let g = b.ends in
    record {
      text = a.text ++ b.text;
      put = b.put ∙ (λ j. sets (a.put j) (a.ends j) b.text) ∙ sym (sets_append a.text b.text l p.lines_end);
      ends = omega (arith, e, f, g);
      left = λ rest. a.left rest ∙ ap (λ (w : List ℕ). a.text ++ w) (b.left rest) ∙ sym (append_assoc a.text b.text _);
    }

module _ {p : Progress} {input lines : List ℕ} (room : Room p input lines) where
  -- behind the head of a record that is too long
  module _ {r : Progress} {n : ℕ} (e : r ≡ skips p n) (h : TooLong n ≡ front (drop p.from input)) where
    w : HeadTooLong (drop p.from input) n
    w = too_long_of (drop p.from input) h

    pub skips_taken : (t : Tables) → p.skip ≡ 0 → Taken p t input lines r t lines
    skips_taken t z =
        let x = stream_of p.kept t in
        let s = drop p.from input in
        let a = w.many in
        let b = w.length_is in
        rw e (record {
          text = [];
          put = refl;
          ends = sym (add-zero _);
          left = λ rest. ap (λ (k : ℕ). lines_left k x p.number (s ++ rest)) z ∙ left_after x p.number (s ++ rest)
              ∙ too_long_read s rest w.head x p.number w.many
              ∙ (λ j. lines_skipping (sym w.length_is j) x p.number (drop-drop 6 p.from input j ++ rest))
              ∙ sym (left_skipping x p.number n (drop (p.from + 6) input ++ rest) [] (omega (arith, a, b)));
        })

    pub skips_within : Within r input lines
    skips_within =
        let a = room.line in
        let b = room.number in
        let c = w.head in
        let d = length-drop p.from input in
        rw e (record { inside = omega (arith, c, d); ends = omega (arith, a); number = omega (arith, b); needs = λ f. absurd (true_not_false false f refl) })

    pub skips_moves : Moves p r
    skips_moves = rw e (λ f. omega arith)

  -- bytes of a body that is passed over
  module _ (positive : 0 < p.skip) where
    pub some_taken : (t : Tables) → length input - p.from < p.skip → Taken p t input lines (passed p input) t lines
    some_taken t h =
        let x = stream_of p.kept t in
        let s = drop p.from input in
        let l = length-drop p.from input in
        record {
          text = [];
          put = refl;
          ends = sym (add-zero _);
          left = λ rest. left_skipping x p.number p.skip (s ++ rest) [] positive
              ∙ skip_some x p.number p.skip s rest (omega (arith, l, h))
              ∙ ap (λ (k : ℕ). lines_skipping (p.skip - k) x p.number rest) l
              ∙ sym (left_skipping x p.number (p.skip - (length input - p.from)) rest [] (omega (arith, h)))
              ∙ ap (λ (w : List ℕ). lines_left (p.skip - (length input - p.from)) x p.number (w ++ rest)) (sym (drop-length input));
        }

    module _ (h : p.skip ≤ length input - p.from) where
      pub all_taken : {lines' : List ℕ} {n : ℕ} (t : Tables) → lines' ≡ sets lines p.lines_end (line (p.number + 1) answers.TooLong)
          → n ≡ p.lines_end + length (line (p.number + 1) answers.TooLong) → Taken p t input lines (passed_over p n) t lines'
      all_taken t u v =
          let x = stream_of p.kept t in
          let s = drop p.from input in
          let l = length-drop p.from input in
          record {
            text = line (p.number + 1) answers.TooLong;
            put = u;
            ends = v;
            left = λ rest. left_skipping x p.number p.skip (s ++ rest) [] positive
                ∙ skip_all x p.number p.skip s rest (omega (arith, l, h))
                ∙ ap (λ (w : List ℕ). line (p.number + 1) answers.TooLong ++ lines_after x (p.number + 1) (w ++ rest)) (drop-drop p.skip p.from input)
                ∙ ap (λ (w : List ℕ). line (p.number + 1) answers.TooLong ++ w) (sym (left_after x (p.number + 1) (drop (p.from + p.skip) input ++ rest)));
          }

  -- a whole record
  module _ (z : p.skip ≡ 0) {k n : ℕ} (h : Whole k n ≡ front (drop p.from input)) where
    whole : IsWhole (drop p.from input) k n
    whole = whole_of (drop p.from input) h

    -- its bytes are there
    pub whole_there : p.from + 6 + n ≤ length input
    whole_there =
        let a = whole.there in
        let b = whole.length_is in
        let l = length-drop p.from input in
        omega (arith, a, b, l)

    pub whole_taken_lem : {t u : Tables} {kept : Kept} {a : Answer} {lines' : List ℕ} {end : ℕ}
        → (stream_of kept u, a) ≡ step (stream_of p.kept t) k (take (p.from + 6 + n - (p.from + 6)) (drop (p.from + 6) input)) → lines' ≡ sets lines p.lines_end (line (p.number + 1) a)
        → end ≡ p.lines_end + length (line (p.number + 1) a) → Taken p t input lines (whole_taken p kept n end) u lines'
    whole_taken_lem {t} {u} {kept} {a} {lines'} {end} st v w =
        let x = stream_of p.kept t in
        let s = drop p.from input in
        let m = body_length s in
        record {
          text = line (p.number + 1) a;
          put = v;
          ends = w;
          left = λ rest. ap (λ (j : ℕ). lines_left j x p.number (s ++ rest)) z ∙ left_after x p.number (s ++ rest)
              ∙ whole_read s rest whole.head whole.there x p.number whole.few
              ∙ ap (λ (q : Stream × Answer). line (p.number + 1) q.1 ++ lines_after q.0 (p.number + 1) (drop (6 + m) s ++ rest)) (same ∙ sym st)
              ∙ ap (λ (l : List ℕ). line (p.number + 1) a ++ lines_after (stream_of kept u) (p.number + 1) (l ++ rest)) rest_after
              ∙ ap (λ (l : List ℕ). line (p.number + 1) a ++ l) (sym (left_after (stream_of kept u) (p.number + 1) (drop (p.from + 6 + n) input ++ rest)));
        }
      where
        same : step (stream_of p.kept t) (kind (drop p.from input)) (take (body_length (drop p.from input)) (drop 6 (drop p.from input)))
            ≡ step (stream_of p.kept t) k (take (p.from + 6 + n - (p.from + 6)) (drop (p.from + 6) input))
        same =
            let b : p.from + 6 + n - (p.from + 6) ≡ n = omega arith in
            (λ j. step (stream_of p.kept t) (sym whole.kind_is j) (take (sym whole.length_is j) (drop-drop 6 p.from input j)))
            ∙ ap (λ (m : ℕ). step (stream_of p.kept t) k (take m (drop (p.from + 6) input))) (sym b)

        rest_after : drop (6 + body_length (drop p.from input)) (drop p.from input) ≡ drop (p.from + 6 + n) input
        rest_after =
            let e = whole.length_is in
            let f : p.from + (6 + body_length (drop p.from input)) ≡ p.from + 6 + n = omega (arith, e) in
            drop-drop (6 + body_length (drop p.from input)) p.from input ∙ ap (λ (j : ℕ). drop j input) f

    pub whole_within : {kept : Kept} {end : ℕ} → end ≤ p.lines_end + 128 → Within (whole_taken p kept n end) input lines
    whole_within g =
        let a = room.line in
        let b = room.number in
        record { inside = whole_there; ends = omega (arith, a, g); number = omega (arith, b); needs = λ f. absurd (true_not_false false f refl) }

-- a record may be taken where the progress allows another
pub turn_room : {r : Progress} {input lines lines' : List ℕ} → Within r input lines → MayGoOn r (length lines') → Room r input lines'
turn_room w g = record { inside = w.inside; line = g.line; number = g.number }

-- all that is left from a place on, as the program hands it on
pub front_rest : (n : ℕ) (s : List ℕ) {f : Front} → f ≡ front (take (length s - n) (drop n s)) → f ≡ front (drop n s)
front_rest n s e = let l = length-drop n s in e ∙ ap front (take_all (length s - n) (drop n s) (omega (arith, l)))
