-- Laws of the loop that reads a value for each dimension of a class: what is left to read, written into the list as it is, is the whole.
-- Assumes nothing.
use Rattle.std.specs.Prelude.{Result, Ok, Err}
use Prim.Native.Nat.{ℕ, zero, suc, ◌+◌, ◌-◌, ◌*◌, ◌/◌, ◌%◌, ◌^◌, ◌≤◌, ◌<◌}
use native.Mathlib.Nat.{add-zero, sub-zero, mod-lt}
use native.Mathlib.Omega.{arith}
use borrow.Author.Tests.{leb-true}
use mathlib.Core.List.{List, [], ◌∷◌}
use mathlib.Core.Path.{◌≡◌, refl, sym, ap, ◌∙◌}
use lib.Dec.{leb}
use lib.ListN.{length, get_or, take}
use lib.Pow.{pow_mono, pow_pos}
use lib.Seq.{get_or-take, get_or-drop}
use Rattle.reading.specs.Outcome.{ok, bad}
use Rattle.reading.specs.Outcome as O
use Rattle.reading.specs.Reader.{each, into, into1}
use Rattle.reading.specs.Inner.Table.{Table, table, put_row}
use Rattle.reading.proofs.Readers.{each_done, each-bad, each_next, mapped_ok, mapped_bad}
use Rattle.reading.proofs.EachLaws.{all_at}
use Rattle.bits.specs.declared.Cursor.{Cursor}
use Rattle.bits.specs.declared.refusal.Refusal.{Refusal}
use Rattle.bits.specs.Inner.Cursors.{position, refusal_of, Wrote}
use Rattle.bits.proofs.Steps.{wrote_refused, wrote_next, wrote_bad, wrote_ok}
use Rattle.numbers.specs.Inner.Cell.{cell}
use Rattle.numbers.proofs.NumberLaws.{one_shifted}
use Rattle.floor.specs.Content.{Class}
use Rattle.floor.specs.Inner.Decode.{class_at}
use Rattle.floor_partition.specs.Partition.{chosen, value}
use Rattle.book_codeword.specs.Inner.Stored.{lengths_in}
use Rattle.floor_partition.specs.Inner.Stored.{class_in, PlaceStored, ClassStored}
use Rattle.floor.specs.Layout.{floor_width}

-- one turn, m more of them to come
module _ (lengths_of : ℕ → List ℕ) (c : Class) (s : List ℕ) (left m k : ℕ) (t : Table) where
  turn_bad : (z : O.Refusal) → value lengths_of (get_or c.books (left % 2 ^ c.subclasses) 0) s k ≡ bad z → into (put_row cell) (each (value lengths_of) (chosen c left (suc m)) s k) t ≡ bad z
  unfolding chosen
  turn_bad z e =
      each-bad 0 (put_row cell) (value lengths_of) (get_or c.books (left % 2 ^ c.subclasses) 0 ∷ chosen c (left / 2 ^ c.subclasses) m) 0 s k t (omega arith) z e

  turn_next : (x : ℕ × ℕ) → value lengths_of (get_or c.books (left % 2 ^ c.subclasses) 0) s k ≡ ok x
      → into (put_row cell) (each (value lengths_of) (chosen c left (suc m)) s k) t ≡ into (put_row cell) (each (value lengths_of) (chosen c (left / 2 ^ c.subclasses) m) s x.1) (put_row cell x.0 t)
  unfolding chosen
  turn_next x e =
      each_next 0 (put_row cell) (value lengths_of) (get_or c.books (left % 2 ^ c.subclasses) 0 ∷ chosen c (left / 2 ^ c.subclasses) m) 0 s k t (omega arith) x e

no_turn : (lengths_of : ℕ → List ℕ) (c : Class) (s : List ℕ) (left k : ℕ) (t : Table) → into (put_row cell) (each (value lengths_of) (chosen c left 0) s k) t ≡ ok (t, k)
unfolding chosen
no_turn lengths_of c s left k t = each_done 0 (put_row cell) (value lengths_of) [] 0 s k t (omega arith)

-- the books of a class, as they lie in the table
module _ {floors books lengths codewords : List ℕ} {n c : ℕ} (l : ClassStored floors books lengths codewords n c) where
  pub subclasses_few : {sub : ℕ} → sub ≡ get_or floors (floor_width * n + 36 + 11 * c + 1) 0 → sub ≤ 3
  unfolding class_in class_at
  subclasses_few e = rw e l.valid.carried.subclasses

  book_is : (j : ℕ) → j < 2 ^ (class_in floors n c).subclasses → get_or (class_in floors n c).books j 0 ≡ get_or floors (floor_width * n + 36 + 11 * c + 3 + j) 0
  unfolding class_in class_at
  book_is j h = let at = floor_width * n + 36 + 11 * c + 3 in get_or-drop at (take (at + 2 ^ get_or floors (floor_width * n + 36 + 11 * c + 1) 0) floors) j 0 ∙ get_or-take (at + 2 ^ get_or floors (floor_width * n + 36 + 11 * c + 1) 0) floors (at + j) 0 (omega arith)

  book_stored : (j : ℕ) → j < 2 ^ (class_in floors n c).subclasses → PlaceStored books lengths codewords (get_or (class_in floors n c).books j 0)
  book_stored j h =
      let long = l.valid.carried.count in
      let most = leb-true _ _ (all_at (λ b. leb b l.count) (class_in floors n c).books l.valid.rules.subclasses j (omega arith)) in
      record { readable = λ some. l.readable (get_or (class_in floors n c).books j 0 - 1) (below (get_or (class_in floors n c).books j 0) some most) }
    where
      below : (p : ℕ) → (p ≡ 0 → ⊥) → p ≤ l.count → p - 1 < l.count
      below zero some h = absurd (some refl)
      below (suc p) some h = omega arith

-- i of the values are read, and `left` is what is left of the class value
pub record Choosing (s floors books lengths codewords : List ℕ) (n c v : ℕ) (entry : List ℕ) (at : ℕ) (from : Cursor) (count base : ℕ) (now : List ℕ) (next : Cursor) (left i : ℕ) : Type 0 where
  pub place_few : at ≤ 65535
  pub stored : ClassStored floors books lengths codewords n c
  pub counted : count ≡ (class_in floors n c).dimensions
  pub based : base ≡ 2 ^ (class_in floors n c).subclasses
  pub long : length now ≡ length entry
  pub rest : into (put_row cell) (each (value (lengths_in books lengths)) (chosen (class_in floors n c) left (count - i)) s (position next)) (table now (at + i))
      ≡ into (put_row cell) (each (value (lengths_in books lengths)) (chosen (class_in floors n c) v (class_in floors n c).dimensions) s (position from)) (table entry at)

module _ {s floors books lengths codewords : List ℕ} {n c v : ℕ} {entry : List ℕ} {at : ℕ} {from : Cursor} {count base : ℕ} where
  pub choose_start : at ≤ 65535 → ClassStored floors books lengths codewords n c → {sub : ℕ} → count ≡ get_or floors (floor_width * n + 36 + 11 * c) 0
      → sub ≡ get_or floors (floor_width * n + 36 + 11 * c + 1) 0 → base ≡ (1 * 2 ^ sub) % 4294967296 → Choosing s floors books lengths codewords n c v entry at from count base entry from v 0
  choose_start h l {sub} e₁ e₃ e₄ =
      let f : count ≡ (class_in floors n c).dimensions = unfold class_in class_at in e₁ in
      let g : base ≡ 2 ^ (class_in floors n c).subclasses = unfold class_in class_at in (e₄ ∙ one_shifted 32 sub (let few = subclasses_few l e₃ in omega arith) ∙ ap (λ (x : ℕ). 2 ^ x) e₃) in
      record { place_few = h; stored = l; counted = f; based = g; long = refl; rest = rw (sub-zero, add-zero, f) }

  module _ {now : List ℕ} {next : Cursor} {left i : ℕ} (w : Choosing s floors books lengths codewords n c v entry at from count base now next left i) where
    pub base_low : 0 < base
    base_low = rw w.based (pow_pos (class_in floors n c).subclasses)

    digit_low : left % base < base
    digit_low = mod-lt left base_low

    module _ {j : ℕ} (digit : j ≡ left % base) where
      pub digit_few : j < 8
      digit_few =
          let h : 2 ^ (class_in floors n c).subclasses ≤ 8 = pow_mono w.stored.valid.carried.subclasses in
          let b = w.based in
          let d = digit_low in
          omega arith

      j_low : j < 2 ^ (class_in floors n c).subclasses
      j_low = let b = w.based in let d = digit_low in omega arith

      module _ {p : ℕ} (place : p ≡ get_or floors (floor_width * n + 36 + 11 * c + 3 + j) 0) where
        place_is : p ≡ get_or (class_in floors n c).books (left % 2 ^ (class_in floors n c).subclasses) 0
        place_is = place ∙ sym (book_is w.stored j j_low) ∙ ap (λ (x : ℕ). get_or (class_in floors n c).books x 0) (digit ∙ ap (λ (x : ℕ). left % x) w.based)

        pub place_stored : PlaceStored books lengths codewords p
        place_stored = rw (place, ← book_is w.stored j j_low) (book_stored w.stored j j_low)

        module _ (h : i < count) {st : Result Cursor Refusal} {now' : List ℕ} (one : Wrote (into1 (put_row cell) (value (lengths_in books lengths) p s (position next)) (table now (at + i))) st (table now' (at + i + 1))) where
          more : count - i ≡ suc (count - (i + 1))
          more = omega arith

          pub choose_refused : {z : Refusal} → st ≡ Err z → (u : Table)
              → Wrote (into (put_row cell) (each (value (lengths_in books lengths)) (chosen (class_in floors n c) v (class_in floors n c).dimensions) s (position from)) (table entry at)) (Err z) u
          unfolding into1
          choose_refused {z} q u =
              let b = mapped_bad (λ a. put_row cell a (table now (at + i))) (value (lengths_in books lengths) p s (position next)) (wrote_bad one q) in
              wrote_refused u (sym w.rest ∙ rw more (turn_bad (lengths_in books lengths) (class_in floors n c) s left (count - (i + 1)) (position next) (table now (at + i)) (refusal_of z) (rw (← place_is) b)))

          pub choose_next : {after : Cursor} → st ≡ Ok after → length now' ≡ length now
              → Choosing s floors books lengths codewords n c v entry at from count base now' after (left / base) (i + 1)
          unfolding into1
          choose_next {after} q e =
              let m = mapped_ok (λ a. put_row cell a (table now (at + i))) (value (lengths_in books lengths) p s (position next)) (wrote_ok one q) in
              let t = turn_next (lengths_in books lengths) (class_in floors n c) s left (count - (i + 1)) (position next) (table now (at + i)) (m.0, position after) (rw (← place_is) m.1) in
              let f : at + (i + 1) ≡ at + i + 1 = omega arith in
              record {
                place_few = w.place_few;
                stored = w.stored;
                counted = w.counted;
                based = w.based;
                long = e ∙ w.long;
                rest = rw (w.based, f, ← m.2) (sym t ∙ rw (← more) w.rest);
              }

    pub choose_done : i ≤ count → count ≤ i
        → Wrote (into (put_row cell) (each (value (lengths_in books lengths)) (chosen (class_in floors n c) v (class_in floors n c).dimensions) s (position from)) (table entry at))
        (Ok next) (table now (at + (class_in floors n c).dimensions))
    choose_done within h =
        let z : count - i ≡ 0 = omega arith in
        let e : i ≡ (class_in floors n c).dimensions = let f = w.counted in omega arith in
        let d = no_turn (lengths_in books lengths) (class_in floors n c) s left (position next) (table now (at + i)) in
        wrote_next (sym w.rest ∙ rw z d ∙ ap (λ (j : ℕ). ok (table now (at + j), position next)) e)
