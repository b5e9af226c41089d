-- Laws of reading multiplier, range bits and X list, as the code asks them: one for each way out of a function. Assumes nothing.
use Rattle.std.specs.Prelude.{Result, Ok, Err}
use Prim.Native.Nat.{ℕ, ◌+◌, ◌*◌, ◌^◌, ◌%◌, ◌≤◌, ◌<◌}
use native.Mathlib.Omega.{arith}
use borrow.Author.Tests.{le-leb, lt-leb}
use mathlib.Core.Bool.{Bool, true, false}
use mathlib.Core.List.{List, [], ◌∷◌}
use mathlib.Core.Path.{◌≡◌, refl, sym, ap, ◌∙◌}
use lib.ListN.{length, set, replicate, take}
use Rattle.reading.specs.Outcome.{Outcome, ok, bad}
use Rattle.reading.specs.Reader.{many, mapped, into}
use Rattle.reading.specs.Lists.{distinct}
use Rattle.reading.specs.Pad.{pad}
use Rattle.reading.specs.Inner.Table.{Table, table, put_row}
use Rattle.reading.proofs.Pads.{length-pad}
use Rattle.reading.proofs.Readers.{mapped_ok, mapped_bad}
use Rattle.reading.proofs.Accepted.{many_number}
use Rattle.bits.specs.declared.Cursor.{Cursor}
use Rattle.bits.specs.declared.refusal.Refusal.{Refusal}
use Rattle.bits.specs.declared.refusal.Reason.TheVariants as R
use Rattle.bits.specs.Inner.Cursors.{position, refusal_of, outcome, Wrote}
use Rattle.bits.specs.Field.{field}
use Rattle.bits.proofs.Answers.{value_is, refused_is, value_below}
use Rattle.bits.proofs.Steps.{wrote_refused, wrote_bad, wrote_ok}
use Rattle.numbers.specs.Inner.Cell.{cell}
use Rattle.numbers.proofs.Collected.{Collected, gathered, rows_cell}
use Rattle.numbers.proofs.ListLaws.{take-pad}
use Rattle.numbers.proofs.NumberLaws.{one_shifted}
use Rattle.floor.specs.XListReading.{x_values, ends, ends_from}
use Rattle.floor.proofs.XListAccepted.{values_ok}
use Rattle.floor_x_list.specs.Inner.Pieces.{EndsRead, with_list, ends_in_buffer}

abbrev x_list_wrong : Cursor → Refusal
x_list_wrong c = record { reason = R.XList; place = c }

-- the X values
module _ (place : Cursor) (b n : ℕ) (s : List ℕ) (k : Cursor) (l : List ℕ) where
  pub x_few : n ≤ 63 → {st : Result Cursor Refusal} {u : Table} → Wrote (into (put_row cell) (many (field b) n s (position k)) (table l 2)) st u
      → Wrote (into (put_row cell) (x_values (position place) b n s (position k)) (table l 2)) st u
  unfolding x_values
  x_few h w = rw (le-leb _ _ h) w

  module _ (h : 63 < n) {st : Result Cursor Refusal} {u : Table} (w : Wrote (into (put_row cell) (many (field b) 63 s (position k)) (table l 2)) st u) where
    pub x_cut : {z : Refusal} → st ≡ Err z → (t : Table) → Wrote (into (put_row cell) (x_values (position place) b n s (position k)) (table l 2)) (Err z) t
    unfolding x_values into mapped
    x_cut q t = wrote_refused t (rw (lt-leb _ _ h, mapped_bad _ (many (field b) 63 s (position k)) (wrote_bad w q)))

    pub x_many : {c : Cursor} → st ≡ Ok c → (t : Table) → Wrote (into (put_row cell) (x_values (position place) b n s (position k)) (table l 2)) (Err (x_list_wrong place)) t
    unfolding x_values into mapped
    x_many q t = wrote_refused t (rw (lt-leb _ _ h, (mapped_ok _ (many (field b) 63 s (position k)) (wrote_ok w q)).1))

-- a complete X list, judged
module _ (place n m b : ℕ) (s : List ℕ) (k : ℕ) (xs : List ℕ) {l : List ℕ} where
  list_plain : length xs ≡ n → n ≤ 63 → l ≡ pad 65 (0 ∷ 2 ^ b ∷ xs) → take (2 + n) l ≡ 0 ∷ 2 ^ b ∷ xs
  list_plain e h g = rw g (take-pad 65 (0 ∷ 2 ^ b ∷ xs) {n = 2 + n} (omega arith) (omega arith))

  list_twice : (j : ℕ) → x_values place b n s k ≡ ok (xs, j) → length xs ≡ n → n ≤ 63 → l ≡ pad 65 (0 ∷ 2 ^ b ∷ xs) → distinct (take (2 + n) l) ≡ false
      → (c : Cursor) → position c ≡ place → mapped (with_list l) (outcome (Err (x_list_wrong c))) ≡ mapped ends_in_buffer (ends_from place n m b s k)
  unfolding ends_from mapped outcome
  list_twice j e f h g d c p = rw (e, sym (ap distinct (list_plain f h g)) ∙ d, p)

  list_once : (c : Cursor) → x_values place b n s k ≡ ok (xs, position c) → length xs ≡ n → n ≤ 63 → l ≡ pad 65 (0 ∷ 2 ^ b ∷ xs) → distinct (take (2 + n) l) ≡ true
      → mapped (with_list l) (outcome (Ok (record { multiplier = m; rangebits = b }, c))) ≡ mapped ends_in_buffer (ends_from place n m b s k)
  unfolding ends_from mapped outcome ends_in_buffer
  list_once c e f h g d = rw (e, sym (ap distinct (list_plain f h g)) ∙ d, g)

-- the X list
module _ (place : Cursor) (n m b : ℕ) (s : List ℕ) (k : Cursor) (entry : List ℕ) (clear : entry ≡ replicate 65 0) (few : b ≤ 15) (l₁ : List ℕ) (put : l₁ ≡ set entry 1 ((1 * 2 ^ b) % 65536))
    {st : Result Cursor Refusal} {l : List ℕ} {q : ℕ} (w : Wrote (into (put_row cell) (x_values (position place) b n s (position k)) (table l₁ 2)) st (table l q)) where
  pub list_cut : {z : Refusal} → st ≡ Err z → bad (refusal_of z) ≡ mapped ends_in_buffer (ends_from (position place) n m b s (position k))
  unfolding into mapped ends_from
  list_cut t = rw (mapped_bad _ (x_values (position place) b n s (position k)) (wrote_bad w t))

  two : l₁ ≡ pad 65 (0 ∷ 2 ^ b ∷ [])
  unfolding pad
  two = rw (put, clear, one_shifted 16 b (omega arith))

  whole : {c : Cursor} → st ≡ Ok c → Collected cell (x_values (position place) b n s (position k)) n c 65 (0 ∷ 2 ^ b ∷ []) l
  whole t = gathered cell (x_values (position place) b n s (position k)) n l₁ 2 65 (0 ∷ 2 ^ b ∷ []) two refl w
      (λ items j g. many_number (field b) s n (position k) (values_ok (position place) b n s (position k) g).1) t

  pub list_few : {c : Cursor} → st ≡ Ok c → n ≤ 63
  list_few t = let g = whole t in (values_ok (position place) b n s (position k) g.read).0

  pub list_room : {c : Cursor} → st ≡ Ok c → 2 + n ≤ length l
  list_room t =
      let g = whole t in
      let h = list_few t in
      let f : length l ≡ 65 = ap length g.holds ∙ length-pad 65 _ in
      omega arith

  module _ {c : Cursor} (t : st ≡ Ok c) {d : Bool} (tested : d ≡ distinct (take (2 + n) l)) where
    pub list_equal : d ≡ false → mapped (with_list l) (outcome (Err (x_list_wrong place))) ≡ mapped ends_in_buffer (ends_from (position place) n m b s (position k))
    list_equal f =
        let g = whole t in
        list_twice (position place) n m b s (position k) g.items (position c) g.read g.long (list_few t)
        (g.holds ∙ ap (λ (y : List ℕ). pad 65 (0 ∷ 2 ^ b ∷ y)) (rows_cell g.items)) (sym tested ∙ f) place refl

    pub list_read : d ≡ true
        → mapped (with_list l) (outcome (Ok (record { multiplier = m; rangebits = b }, c))) ≡ mapped ends_in_buffer (ends_from (position place) n m b s (position k))
    list_read f =
        let g = whole t in
        list_once (position place) n m b s (position k) g.items c g.read g.long (list_few t)
        (g.holds ∙ ap (λ (y : List ℕ). pad 65 (0 ∷ 2 ^ b ∷ y)) (rows_cell g.items)) (sym tested ∙ f)

-- multiplier and range bits
module _ (place : Cursor) (n : ℕ) (s : List ℕ) (k : Cursor) {r₁ : Result (ℕ × Cursor) Refusal} (p₁ : outcome r₁ ≡ field 2 s (position k)) where
  pub ends_cut₁ : {z : Refusal} → r₁ ≡ Err z → bad (refusal_of z) ≡ mapped ends_in_buffer (ends (position place) n s (position k))
  unfolding ends mapped
  ends_cut₁ q = rw (refused_is p₁ q)

  module _ {v : ℕ} {k₁ : Cursor} (q₁ : r₁ ≡ Ok (v, k₁)) {r₂ : Result (ℕ × Cursor) Refusal} (p₂ : outcome r₂ ≡ field 4 s (position k₁)) where
    pub ends_cut₂ : {z : Refusal} → r₂ ≡ Err z → bad (refusal_of z) ≡ mapped ends_in_buffer (ends (position place) n s (position k))
    unfolding ends mapped
    ends_cut₂ q = rw (value_is p₁ q₁, refused_is p₂ q)

    module _ {b : ℕ} {k₂ : Cursor} (q₂ : r₂ ≡ Ok (b, k₂)) where
      pub rangebits_most : b ≤ 15
      rangebits_most = let h = value_below 4 s (position k₁) p₂ q₂ in omega arith

      pub ends_read_lem : {o : Outcome (EndsRead × ℕ)} → o ≡ mapped ends_in_buffer (ends_from (position place) n (v + 1) b s (position k₂))
          → o ≡ mapped ends_in_buffer (ends (position place) n s (position k))
      unfolding ends
      ends_read_lem w = rw (value_is p₁ q₁, value_is p₂ q₂) w
