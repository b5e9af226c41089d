-- Laws of a book's lengths as the code asks them. Assumes nothing.
use Rattle.std.specs.Prelude.{Result, Ok, Err}
use Prim.Native.Nat.{ℕ, zero, suc, ◌+◌, ◌-◌, ◌≤◌, ◌<◌}
use native.Mathlib.Numerals.{add-one}
use native.Mathlib.Omega.{arith}
use borrow.Author.Tests.{le-leb, lt-leb, eq-eqb, ne_eqb, leb-true}
use mathlib.Core.Bool.{Bool, true, false, cond, ◌||◌}
use mathlib.Core.List.{List, [], ◌++◌}
use mathlib.Core.Path.{◌≡◌, refl, sym, ap, ◌∙◌}
use lib.Dec.{eqb, leb}
use lib.ListN.{length, take, drop, replicate, length-drop}
use lib.Seq.{sets, length-sets, take_all, length-take-le}
use Rattle.reading.specs.Outcome.{Outcome, ok, bad, then, need, refusal}
use Rattle.reading.specs.Reader.{judged, many, mapped}
use Rattle.reading.proofs.Outcomes.{judged-ok}
use Rattle.bits.specs.declared.Cursor.{Cursor}
use Rattle.bits.specs.declared.refusal.Refusal.{Refusal}
use Rattle.bits.specs.declared.refusal.Reason.{Reason}
use Rattle.bits.specs.declared.refusal.Reason.TheVariants as R
use Rattle.bits.specs.Inner.Cursors.{position, outcome, Wrote}
use Rattle.bits.specs.Field.{field}
use Rattle.bits.specs.Ilog.{ilog}
use Rattle.bits.proofs.Answers.{value_is, refused_is, value_below}
use Rattle.bits.proofs.Ilogs.{ilog_places}
use Rattle.bits.proofs.Steps.{wrote_refused, wrote_next}
use Rattle.bits.proofs.Parts.{part_back}
use Rattle.bits.proofs.Filling.{after, after_nil, after_append, after_bad, after_none, take-sets}
use Rattle.book.specs.LengthsReading.{entry_length, runs, lengths}
use Rattle.book.specs.Inner.LengthsParts.{run_number, unordered, ordered}
use Rattle.book.proofs.LengthsAccepted.{entry_small, length_run}

abbrev at : Reason → Cursor → Refusal
at r c = record { reason = r; place = c }

-- five bits plus one
module _ (s : List ℕ) (k : Cursor) {r : Result (ℕ × Cursor) Refusal} (p : outcome r ≡ field 5 s (position k)) where
  pub used_cut : {z : Refusal} → r ≡ Err z → outcome (Err z) ≡ mapped suc (field 5 s (position k))
  unfolding mapped outcome
  used_cut q = rw (refused_is p q)

  module _ {v : ℕ} {n : Cursor} (q : r ≡ Ok (v, n)) where
    pub used_fits : v + 1 < 4294967296
    used_fits = let b = value_below 5 s (position k) p q in omega arith

    pub used_whole : outcome (Ok ((v + 1), n)) ≡ mapped suc (field 5 s (position k))
    unfolding mapped outcome
    used_whole = rw (value_is p q, add-one)

-- one entry
module _ (sparse : ℕ) (s : List ℕ) (k : Cursor) where
  pub entry_dense : (r : Result (ℕ × Cursor) Refusal) → sparse ≡ 0 → outcome r ≡ mapped suc (field 5 s (position k)) → outcome r ≡ entry_length sparse s (position k)
  unfolding entry_length
  entry_dense r n e = rw (eq-eqb _ _ n) e

  module _ (after-flag : sparse ≡ 0 → ⊥) {r : Result (ℕ × Cursor) Refusal} (p : outcome r ≡ field 1 s (position k)) where
    pub flag_cut : {z : Refusal} → r ≡ Err z → outcome (Err z) ≡ entry_length sparse s (position k)
    unfolding entry_length outcome
    flag_cut q = rw (ne_eqb _ _ after-flag, refused_is p q)

    module _ {flag : ℕ} {n : Cursor} (q : r ≡ Ok (flag, n)) where
      pub flag_unused : flag ≡ 0 → outcome (Ok (0, n)) ≡ entry_length sparse s (position k)
      unfolding entry_length outcome
      flag_unused e = rw (ne_eqb _ _ after-flag, value_is p q, eq-eqb _ _ e)

      pub flag_used : (flag ≡ 0 → ⊥) → (r₁ : Result (ℕ × Cursor) Refusal) → outcome r₁ ≡ mapped suc (field 5 s (position n)) → outcome r₁ ≡ entry_length sparse s (position k)
      unfolding entry_length
      flag_used e r₁ p₁ = rw (ne_eqb _ _ after-flag, value_is p q, ne_eqb _ _ e) p₁

pub entry_fits : {r : Result (ℕ × Cursor) Refusal} (sparse : ℕ) (s : List ℕ) (k : ℕ) {v : ℕ} {n : Cursor} → outcome r ≡ entry_length sparse s k → r ≡ Ok (v, n) → v < 256
entry_fits sparse s k p q = let b = entry_small sparse s k (value_is p q) in omega arith

-- a run's number
module _ (left : ℕ) where
  pub run_width : {w : ℕ} → left < 4294967296 → w ≡ ilog left → w ≤ 32
  run_width h e = let i = (ilog_places left h).1 in omega arith

  read_as : {w : ℕ} → w ≡ ilog left → (s : List ℕ) (k : ℕ) (r : Result (ℕ × Cursor) Refusal) → outcome r ≡ field w s k → outcome r ≡ field (ilog left) s k
  read_as e s k r p = rw (← e) p

  module _ {w : ℕ} (e : w ≡ ilog left) (s : List ℕ) (k : Cursor) {r : Result (ℕ × Cursor) Refusal} (p : outcome r ≡ field w s (position k)) where
    pub run_cut : {z : Refusal} → r ≡ Err z → outcome (Err z) ≡ run_number left s (position k)
    unfolding run_number outcome
    run_cut q = rw (refused_is (read_as e s (position k) r p) q)

    module _ {n : ℕ} {c : Cursor} (q : r ≡ Ok (n, c)) where
      pub run_past : left < n → outcome (Err (at R.Codebook k)) ≡ run_number left s (position k)
      unfolding run_number outcome
      run_past h = rw (value_is (read_as e s (position k) r p) q, lt-leb _ _ h)

      pub run_whole : n ≤ left → outcome (Ok (n, c)) ≡ run_number left s (position k)
      unfolding run_number outcome
      run_whole h = rw (value_is (read_as e s (position k) r p) q, le-leb _ _ h)

  pub run_within : (s : List ℕ) (k : ℕ) {n j : ℕ} → run_number left s k ≡ ok (n, j) → n ≤ left
  unfolding run_number
  run_within s k {n} e = leb-true n left (judged-ok (λ n. leb n left) 6 (field (ilog left)) s k e).1

-- a run of m places that was filled, written back
pub run_filled : (part filled : List ℕ) (i n m bits : ℕ) → i + n ≤ length part → m ≡ n → filled ≡ replicate (length (take m (drop i part))) bits
    → take i part ++ (filled ++ drop m (drop i part)) ≡ sets part i (replicate n bits)
run_filled part filled i n m bits h e f =
    let l = length_run n bits in
    let d = length-drop i part in
    let t : length (take n (drop i part)) ≡ n = length-take-le n (drop i part) (omega arith) in
    rw (f, e, t) (ap (λ (x : ℕ). take i part ++ (replicate n bits ++ drop x (drop i part))) (sym l) ∙ sym (part_back part i (replicate n bits) (omega arith)))

-- the ways out of `runs`, each of the next turn
module _ (place : ℕ) (s : List ℕ) (turns u : ℕ) (next : turns ≡ suc u) (bits left k : ℕ) where
  runs_none : left ≡ 0 → runs place turns bits left s k ≡ ok ([], k)
  unfolding runs
  runs_none e = rw (next, eq-eqb left 0 e)

  module _ (e : left ≡ 0 → ⊥) where
    runs_long : 32 < bits → runs place turns bits left s k ≡ bad (record { number = 6; place = place })
    unfolding runs
    runs_long l = rw (next, ne_eqb left 0 e, lt-leb bits 32 l)

    module _ (l : bits ≤ 32) where
      runs_refused : {z : _} → run_number left s k ≡ bad z → runs place turns bits left s k ≡ bad z
      unfolding runs run_number
      runs_refused q = rw (next, ne_eqb left 0 e, le-leb bits 32 l, q)

      runs_more : {n j : ℕ} → run_number left s k ≡ ok (n, j) → runs place turns bits left s k ≡ after (replicate n bits) (runs place u (bits + 1) (left - n) s j)
      unfolding runs run_number after
      runs_more q = rw (next, ne_eqb left 0 e, le-leb bits 32 l, q)

-- THE TURNS ARE ENOUGH: one turn more changes nothing, where as many are left as it takes to pass 32
pub runs_end : (place turns bits left : ℕ) (s : List ℕ) (k : ℕ) → bits ≤ 33 → 34 ≤ bits + turns → runs place turns bits left s k ≡ runs place (suc turns) bits left s k
unfolding runs
runs_end place zero bits left s k h g = absurd (omega arith)
runs_end place (suc turns) bits left s k h g = go (λ l m i. runs_end place turns (bits + 1) m s i (omega arith) (omega arith)) (eqb left 0) (leb bits 32) refl
  where
    turn : (turns : ℕ) (a b : Bool) → Outcome (List ℕ × ℕ)
    turn turns a b =
        cond a
        (ok ([], k))
        (need (b || a) (refusal 6 place)
        (then (judged (λ n. leb n left) 6 (field (ilog left)) s k) (λ n.
        then (runs place turns (bits + 1) (left - n.0) s n.1) (λ rest.
        ok (replicate n.0 bits ++ rest.0, rest.1)))))

    go : (bits ≤ 32 → (m i : ℕ) → runs place turns (bits + 1) m s i ≡ runs place (suc turns) (bits + 1) m s i) → (a b : Bool) → leb bits 32 ≡ b → turn turns a b ≡ turn (suc turns) a b
    go again true b p = refl
    go again false false p = refl
    go again false true p =
        λ j. then (judged (λ n. leb n left) 6 (field (ilog left)) s k) (λ n.
        then (again (leb-true bits 32 p) (left - n.0) n.1 j) (λ rest.
        ok (replicate n.0 bits ++ rest.0, rest.1)))

-- the loop over runs
module _ (place : Cursor) (first : ℕ) (s : List ℕ) (k : ℕ) (entry : List ℕ) where
  abbrev whole : Outcome (List ℕ × ℕ)
  whole = runs (position place) 33 (first + 1) (length entry) s k

  -- i entries have their lengths; the next run's length is bits
  pub record Running (c : Cursor) (bits : ℕ) (part : List ℕ) (i : ℕ) : Type 0 where
    pub within : i ≤ length entry
    pub long : length part ≡ length entry
    pub high : bits ≤ 33
    pub rest : after (take i part) (runs (position place) (34 + first - bits) bits (length entry - i) s (position c)) ≡ whole

  module _ {c : Cursor} {bits : ℕ} {part : List ℕ} {i : ℕ} (w : Running c bits part i) where
    here : (r : Result (ℕ × Cursor) Refusal) → outcome r ≡ run_number (length part - i) s (position c) → outcome r ≡ run_number (length entry - i) s (position c)
    here r p = rw (← w.long) p

    turn : 34 + first - bits ≡ suc (33 + first - bits)
    turn = let h = w.high in omega arith

    pub running_done : length entry ≤ i → Wrote whole (Ok c) part
    running_done h =
        let e = w.long in
        wrote_next
        (sym w.rest
        ∙ after_none (take i part) (runs_none (position place) s (34 + first - bits) (33 + first - bits) turn bits (length entry - i) (position c) (omega arith))
        ∙ ap (λ (l : List ℕ). ok (l, position c)) (take_all i part (omega arith)))

    module _ (h : i < length entry) where
      some_left : length entry - i ≡ 0 → ⊥
      some_left q = omega arith

      pub running_long : 32 < bits → (u : List ℕ) → Wrote whole (Err (at R.Codebook place)) u
      running_long l u =
          wrote_refused u
          (sym w.rest
          ∙ after_bad (take i part) (runs_long (position place) s (34 + first - bits) (33 + first - bits) turn bits (length entry - i) (position c) some_left l))

      module _ (l : bits ≤ 32) {r : Result (ℕ × Cursor) Refusal} (p : outcome r ≡ run_number (length part - i) s (position c)) where
        pub running_refused : {z : Refusal} → r ≡ Err z → (u : List ℕ) → Wrote whole (Err z) u
        running_refused q u =
            wrote_refused u
            (sym w.rest
            ∙ after_bad (take i part)
            (runs_refused (position place) s (34 + first - bits) (33 + first - bits) turn bits (length entry - i) (position c) some_left l (refused_is (here r p) q)))

        module _ {n : ℕ} {c' : Cursor} (q : r ≡ Ok (n, c')) where
          pub running_fits : i + n ≤ length part
          running_fits = let b = run_within (length part - i) s (position c) (value_is p q) in let e = w.long in omega arith

          pub running_next : (part' : List ℕ) → part' ≡ sets part i (replicate n bits) → Running c' (bits + 1) part' (i + n)
          running_next part' e =
              let b = running_fits in
              let g = w.long in
              let m = length_run n bits in
              let t : take (i + n) (sets part i (replicate n bits)) ≡ take i part ++ replicate n bits
              = ap (λ (x : ℕ). take (i + x) (sets part i (replicate n bits))) (sym m) ∙ take-sets part (replicate n bits) i (omega arith) in
              let f : 34 + first - (bits + 1) ≡ 33 + first - bits = omega arith in
              let d : length entry - (i + n) ≡ length entry - i - n = omega arith in
              record {
                within = omega arith;
                long = rw e (length-sets part i (replicate n bits) ∙ w.long);
                high = omega arith;
                rest =
                    rw (e, t, f, d)
                    (sym (after_append (take i part) (replicate n bits) (runs (position place) (33 + first - bits) (bits + 1) (length entry - i - n) s (position c')))
                    ∙ ap (after (take i part))
                    (sym (runs_more (position place) s (34 + first - bits) (33 + first - bits) turn bits (length entry - i) (position c) some_left l (value_is (here r p) q)))
                    ∙ w.rest);
              }

pub running_start : (place : Cursor) (first : ℕ) (s : List ℕ) (c : Cursor) (entry : List ℕ) → first < 32 → Running place first s (position c) entry c (first + 1) entry 0
running_start place first s c entry h =
    let e : 34 + first - (first + 1) ≡ 33 = omega arith in
    let f : length entry - 0 ≡ length entry = omega arith in
    record { within = omega arith; long = refl; high = omega arith; rest = rw (e, f) (after_nil _) }

-- the flags in front
module _ (n : ℕ) (s : List ℕ) (k : Cursor) {r : Result (ℕ × Cursor) Refusal} (p : outcome r ≡ field 1 s (position k)) where
  pub unordered_cut : {z : Refusal} → r ≡ Err z → (u : List ℕ) → Wrote (unordered n s (position k)) (Err z) u
  unfolding unordered
  unordered_cut q u = wrote_refused u (rw (refused_is p q))

  pub unordered_rest : {v : ℕ} {c : Cursor} → r ≡ Ok (v, c) → {st : Result Cursor Refusal} {t : List ℕ} → Wrote (many (entry_length v) n s (position c)) st t
      → Wrote (unordered n s (position k)) st t
  unfolding unordered
  unordered_rest q w = rw (value_is p q) w

module _ (place n : ℕ) (s : List ℕ) (k : Cursor) where
  module _ {r : Result (ℕ × Cursor) Refusal} (p : outcome r ≡ field 5 s (position k)) where
    pub ordered_cut : {z : Refusal} → r ≡ Err z → (u : List ℕ) → Wrote (ordered place n s (position k)) (Err z) u
    unfolding ordered
    ordered_cut q u = wrote_refused u (rw (refused_is p q))

    module _ {v : ℕ} {c : Cursor} (q : r ≡ Ok (v, c)) where
      pub first_below : v < 32
      first_below = let b = value_below 5 s (position k) p q in omega arith

      pub ordered_rest : {st : Result Cursor Refusal} {t : List ℕ} → Wrote (runs place 33 (v + 1) n s (position c)) st t → Wrote (ordered place n s (position k)) st t
      unfolding ordered
      ordered_rest w = rw (value_is p q) w

  module _ {r : Result (ℕ × Cursor) Refusal} (p : outcome r ≡ field 1 s (position k)) where
    pub lengths_cut : {z : Refusal} → r ≡ Err z → (u : List ℕ) → Wrote (lengths place n s (position k)) (Err z) u
    unfolding lengths
    lengths_cut q u = wrote_refused u (rw (refused_is p q))

    module _ {v : ℕ} {c : Cursor} (q : r ≡ Ok (v, c)) {st : Result Cursor Refusal} {t : List ℕ} where
      pub lengths-unordered : v ≡ 0 → Wrote (unordered n s (position c)) st t → Wrote (lengths place n s (position k)) st t
      unfolding lengths unordered
      lengths-unordered e w = rw (value_is p q, eq-eqb _ _ e) w

      pub lengths-ordered : (v ≡ 0 → ⊥) → Wrote (ordered place n s (position c)) st t → Wrote (lengths place n s (position k)) st t
      unfolding lengths ordered
      lengths-ordered e w = rw (value_is p q, ne_eqb _ _ e) w
