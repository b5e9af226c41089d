-- A run of numbers that lies in a table at a place: its parts; and the rows of a table that is the writing-out of items. This is the premise of every law of
-- what is read of a row. Assumes nothing.
use Prim.Native.Nat.{ℕ, ◌+◌, ◌-◌, ◌*◌, ◌≤◌, ◌<◌}
use native.Mathlib.Nat.{add_assoc, add-zero, mul-suc, mul-le-mul_left}
use native.Mathlib.Numerals.{add-one}
use native.Mathlib.Decide.{dec_lt}
use native.Mathlib.Omega.{arith}
use mathlib.Core.List.{List, [], ◌∷◌, ◌++◌}
use mathlib.Core.Path.{◌≡◌, refl, sym, ap, ◌∙◌}
use lib.ListN.{length, get_or, take, length-append, get_or-append}
use lib.Seq.{slice, length-slice, get_or-drop, get_or-take, ext_get_or, get_or-append-add}
use Rattle.reading.specs.Lists.{rows}
use Rattle.reading.specs.Pad.{pad}
use Rattle.reading.specs.Encoding.{Encodes}
use Rattle.reading.proofs.Pads.{pad_get, length-pad}
use Rattle.reading.proofs.Encodes.{rows_length, row_place}

pub record Stored (t : List ℕ) (at : ℕ) (run : List ℕ) : Type 0 where
  pub room : at + length run ≤ length t
  pub same : (i : ℕ) → i < length run → get_or t (at + i) 0 ≡ get_or run i 0

module _ {t : List ℕ} {at : ℕ} where
  -- at a place that is written in another way
  pub stored_at : {at' : ℕ} {run : List ℕ} → at ≡ at' → Stored t at run → Stored t at' run
  stored_at e l = rw e at l

  pub stored_left : (a b : List ℕ) → Stored t at (a ++ b) → Stored t at a
  stored_left a b l =
      let e = length-append a b in
      let r = l.room in
      record { room = omega arith; same = λ i h. l.same i (omega arith) ∙ get_or-append a b 0 i h }

  pub stored_right : (a b : List ℕ) → Stored t at (a ++ b) → Stored t (at + length a) b
  stored_right a b l =
      let e = length-append a b in
      let r = l.room in
      record {
        room = omega arith;
        same = λ i h. ap (λ (j : ℕ). get_or t j 0) (add_assoc at (length a) i) ∙ l.same (length a + i) (omega arith) ∙ get_or-append-add a b i 0;
      }

  pub stored_both : (a b : List ℕ) → Stored t at a → Stored t (at + length a) b → Stored t at (a ++ b)
  stored_both a b l m =
      let e = length-append a b in
      let r = l.room in
      let q = m.room in
      record { room = omega arith; same = λ i h. both i h (dec_lt i (length a)) }
    where
      both : (i : ℕ) → i < length (a ++ b) → Dec (i < length a) → get_or t (at + i) 0 ≡ get_or (a ++ b) i 0
      both i h (yes k) = l.same i k ∙ sym (get_or-append a b 0 i k)
      both i h (no k) =
          let e = length-append a b in
          let s : at + i ≡ at + length a + (i - length a) = omega arith in
          let u : length a + (i - length a) ≡ i = omega arith in
          ap (λ (j : ℕ). get_or t j 0) s ∙ m.same (i - length a) (omega arith) ∙ sym (get_or-append-add a b (i - length a) 0) ∙ ap (λ (j : ℕ). get_or (a ++ b) j 0) u

  -- the first number of a run
  pub stored_first : {x : ℕ} {run : List ℕ} → Stored t at (x ∷ run) → get_or t at 0 ≡ x
  stored_first l = ap (λ (j : ℕ). get_or t j 0) (sym (add-zero at)) ∙ l.same 0 (omega arith)

  pub stored_rest : {x : ℕ} {run : List ℕ} → Stored t at (x ∷ run) → Stored t (at + 1) run
  stored_rest {x} {run} l = stored_right (x ∷ []) run l

  -- a number of a list that lies padded
  pub stored_number : (room : ℕ) (xs : List ℕ) → Stored t at (pad room xs) → (i : ℕ) → i < room → get_or t (at + i) 0 ≡ get_or xs i 0
  stored_number room xs l i h = let p = length-pad room xs in l.same i (omega arith) ∙ pad_get room xs i h

  -- a list that lies padded, read back
  pub stored_slice : (room c : ℕ) (xs : List ℕ) → Stored t at (pad room xs) → length xs ≡ c → c ≤ room → slice at (at + c) t ≡ xs
  stored_slice room c xs l e h =
      let p = length-pad room xs in
      let r = l.room in
      let n : length (slice at (at + c) t) ≡ length xs = length-slice at (at + c) t (omega arith) ∙ omega arith in
      ext_get_or 0 (slice at (at + c) t) xs n
      (λ i k.
      get_or-drop at (take (at + c) t) i 0 ∙ get_or-take (at + c) t (at + i) 0 (omega arith) ∙ l.same i (omega arith) ∙ pad_get room xs i (omega arith))

-- a run lies in itself
pub stored_self : (run : List ℕ) → Stored run 0 run
stored_self run = record { room = omega arith; same = λ i h. ap (λ (j : ℕ). get_or run j 0) (omega arith) }

pub stored_of : (t run : List ℕ) → t ≡ run → Stored t 0 run
stored_of t run e = rw e (stored_self run)

-- rows of one width, one after the other; d stands for an item past the last
module _ {A : Type 0} (row : A → List ℕ) (w : ℕ) (wide : (a : A) → length (row a) ≡ w) (d : A) where
  -- in a part of a table
  pub rows_stored_in : {t : List ℕ} {at : ℕ} (room : ℕ) (items : List A) → Stored t at (pad room (rows row items)) → w * length items ≤ room → (i : ℕ) → i < length items → Stored t (at + w * i) (row (get_or items i d))
  rows_stored_in {t} {at} room items l f i h =
      let m : w * (i + 1) ≤ w * length items = mul-le-mul_left w (omega arith) in
      let e : w * (i + 1) ≡ w * i + w = rw (add-one, mul-suc) refl in
      let p = length-pad room (rows row items) in
      let r = l.room in
      let g = wide (get_or items i d) in
      record {
        room = omega arith;
        same = λ j k. ap (λ (x : ℕ). get_or t x 0) (add_assoc at (w * i) j) ∙ l.same (w * i + j) (omega arith) ∙ row_place row (λ _. Unit {0}) w wide items room i j d h (omega arith) f;
      }

  -- IN A TABLE THAT IS THE WRITING-OUT OF ITEMS, THE ROW OF ITEM i LIES AT i TIMES THE WIDTH
  pub rows_stored : (items : List A) (t : List ℕ) → t ≡ pad (length t) (rows row items) → w * length items ≤ length t → (i : ℕ) → i < length items → Stored t (w * i) (row (get_or items i d))
  rows_stored items t e f i h = stored_at (omega arith) (rows_stored_in (length t) items (stored_of t (pad (length t) (rows row items)) e) f i h)

  pub encodes_stored : {Valid : A → Type 0} {n : ℕ} {t : List ℕ} (s : Encodes row Valid n t) (i : ℕ) → i < n → Stored t (w * i) (row (get_or s.items i d))
  encodes_stored {Valid} {n} {t} s i h =
      let a = s.number in
      let f = s.fits in
      let l = rows_length row Valid w wide s.items in
      rows_stored s.items t s.written (omega arith) i (omega arith)
