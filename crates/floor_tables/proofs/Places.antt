-- Parts of a table: a part as it is cut and walked, a run that lies there, a test of every number, zeros behind what fills a part, rows of items one after the
-- other. Assumes nothing.
use Prim.Native.Nat.{ℕ, zero, suc, ◌+◌, ◌-◌, ◌*◌, ◌≤◌, ◌<◌}
use native.Mathlib.Numerals.{add-one}
use native.Mathlib.Omega.{arith}
use borrow.Author.Tests.{ltb-true}
use mathlib.Core.Bool.{Bool, true, false, not, ◌&&◌}
use mathlib.Core.List.{List, [], ◌∷◌, ◌++◌}
use mathlib.Core.Logic.{◌↔◌}
use mathlib.Core.Path.{◌≡◌, refl, sym, ap, ◌∙◌}
use lib.Dec.{ltb}
use lib.ListN.{length, get_or, take, drop, replicate, take-append-drop}
use lib.Seq.{slice, slice-cons, length-slice, take-take, drop-drop, get_or-drop, get_or-take, ext_get_or}
use Rattle.std.specs.List.{list_all}
use Rattle.reading.specs.Lists.{all}
use Rattle.reading.specs.Pad.{pad}
use Rattle.reading.specs.Encoding.{Zeros, RowOf, Encodes}
use Rattle.reading.proofs.Least.{and_split, true_not_false}
use Rattle.reading.proofs.Pads.{pad_nil}
use Rattle.reading.proofs.Parts.{part_slice}
use Rattle.reading.proofs.Stored.{Stored}
use Rattle.reading.proofs.Encodes.{refuted, shown, Left, rows_next, rows_stop, rows_end}

-- ---- parts of a part

module _ (t : List ℕ) where
  pub slice_rest : (at n to : ℕ) → drop n (slice at to t) ≡ slice (at + n) to t
  slice_rest at n to = drop-drop n at (take to t)

  pub slice_of : (at n : ℕ) → take n (drop at t) ≡ slice at (at + n) t
  slice_of at n = let e : n ≡ at + n - at = omega arith in ap (λ (k : ℕ). take k (drop at t)) e ∙ part_slice at (at + n) t

  pub slice_front : (at n to : ℕ) → at + n ≤ to → take n (slice at to t) ≡ slice at (at + n) t
  slice_front at n to h = ap (take n) (sym (part_slice at to t)) ∙ take-take n (to - at) (drop at t) (omega arith) ∙ slice_of at n

  pub slice_within : (at i n to : ℕ) → at + i + n ≤ to → take n (drop i (slice at to t)) ≡ slice (at + i) (at + i + n) t
  slice_within at i n to h = ap (take n) (slice_rest at i to) ∙ slice_front (at + i) n to h

  pub slice_long : (at n to : ℕ) → to ≡ at + n → to ≤ length t → length (slice at to t) ≡ n
  slice_long at n to e h = length-slice at to t h ∙ omega arith

  -- its first number, and its numbers up to a place
  pub slice-next : (at next to : ℕ) → next ≡ at + 1 → at < to → to ≤ length t → slice at to t ≡ get_or t at 0 ∷ slice next to t
  slice-next at next to e h k = rw (e, add-one) (slice-cons at to t 0 h k)

  pub slice_both : (at middle to : ℕ) → at ≤ middle → middle ≤ to → slice at to t ≡ slice at middle t ++ slice middle to t
  slice_both at middle to h k =
      let e : at + (middle - at) ≡ middle = omega arith in
      sym (take-append-drop (middle - at) (slice at to t))
      ∙ (λ j. slice_front at (middle - at) to (omega arith) j ++ slice_rest at (middle - at) to j)
      ∙ ap (λ (m : ℕ). slice at m t ++ slice m to t) e

  -- a run that lies there
  pub slice_stored : (at to : ℕ) {run : List ℕ} → slice at to t ≡ run → to ≡ at + length run → to ≤ length t → Stored t at run
  slice_stored at to {run} e n h =
      record { room = omega arith; same = λ i k. sym (get_or-drop at (take to t) i 0 ∙ get_or-take to t (at + i) 0 (omega arith)) ∙ ap (λ (l : List ℕ). get_or l i 0) e }

  pub stored_whole : (at to : ℕ) {run : List ℕ} → Stored t at run → to ≡ at + length run → slice at to t ≡ run
  stored_whole at to {run} l n =
      let r = l.room in
      let long = slice_long at (length run) to n (omega arith) in
      ext_get_or 0 (slice at to t) run long (λ i k. get_or-drop at (take to t) i 0 ∙ get_or-take to t (at + i) 0 (omega arith) ∙ l.same i (omega arith))

-- ---- numbers below a limit

-- the library's test of every number
pub list_all-all : (f : ℕ → Bool) (l : List ℕ) → list_all f l ≡ all f l
unfolding all
list_all-all f [] = refl
list_all-all f (x ∷ l) = ap (λ (b : Bool). f x && b) (list_all-all f l)

-- a part, as the code cuts it, and the test of its numbers
abbrev pub part : ℕ → ℕ → List ℕ → List ℕ
part at to t = take (to - at) (drop at t)

pub below_part : (limit at to : ℕ) (t : List ℕ) {b : Bool} → b ≡ all (λ v. ltb v limit) (part at to t) → b ≡ all (λ v. ltb v limit) (slice at to t)
below_part limit at to t e = e ∙ ap (all (λ v. ltb v limit)) (part_slice at to t)

-- ---- zeros behind what fills a part

pub all_zeros : (f : ℕ → Bool) → f 0 ≡ true → (n : ℕ) → all f (replicate n 0) ≡ true
unfolding all
all_zeros f e zero = refl
all_zeros f e (suc n) = rw (e, all_zeros f e n)

below_one : (l : List ℕ) → all (λ v. ltb v 1) l ≡ true → Zeros l
unfolding all
below_one [] a = refl
below_one (x ∷ l) a =
    let b = and_split (ltb x 1) (all (λ v. ltb v 1) l) a in
    let k = ltb-true x 1 b.0 in
    let z : x ≡ 0 = omega arith in
    λ j. z j ∷ below_one l b.1 j

zeros_after : (n : ℕ) (l : List ℕ) → Zeros (drop n l) ↔ (l ≡ pad (length l) (take n l))
unfolding pad
zeros_after zero l = ((λ z. z ∙ sym (pad_nil (length l))), (λ e. e ∙ pad_nil (length l)))
zeros_after (suc n) [] = ((λ z. refl), (λ e. refl))
zeros_after (suc n) (x ∷ l) = let b = zeros_after n l in ((λ z. ap (λ (r : List ℕ). x ∷ r) (b.0 z)), (λ e. b.1 (ap (drop 1) e)))

-- as the code tests it, n places behind `at`
module _ (t : List ℕ) (at n to : ℕ) {b : Bool} (p : b ≡ all (λ v. ltb v 1) (part (at + n) to t)) where
  q : b ≡ all (λ v. ltb v 1) (slice (at + n) to t)
  q = below_part 1 (at + n) to t p

  pub zeros_tested : (b ≡ true) ↔ Zeros (drop n (slice at to t))
  zeros_tested = (
    (λ s. rw (slice_rest t at n to) (below_one (slice (at + n) to t) (sym q ∙ s))),
    (λ s. let z : Zeros (slice (at + n) to t) = rw (slice_rest t at n to) at s in q ∙ ap (all (λ v. ltb v 1)) z ∙ all_zeros (λ v. ltb v 1) refl (length (slice (at + n) to t))),
  )

  pub padded_tested : (room : ℕ) → to ≡ at + room → to ≤ length t → (b ≡ true) ↔ (slice at to t ≡ pad room (take n (slice at to t)))
  padded_tested room e k =
      let z : Zeros (drop n (slice at to t)) ↔ (slice at to t ≡ pad room (take n (slice at to t))) = rw (slice_long t at room to e k) at (zeros_after n (slice at to t)) in
      let s = zeros_tested in
      ((λ x. z.0 (s.0 x)), (λ x. s.1 (z.1 x)))

-- ---- a loop over rows of items, as the code asks it: i of n are found right, and the next one is l

module _ {A : Type 0} (row : A → List ℕ) (Valid : A → Type 0) (w : ℕ) (wide : (a : A) → length (row a) ≡ w) (n : ℕ) (cells : List ℕ) (i : ℕ) (left : Left row Valid w wide n cells i) where
  pub rows_found : i ≤ n → n ≤ i → Encodes row Valid n cells ↔ ((true ≡ true) × Zeros (drop (w * n) cells))
  rows_found g h = let e = rows_end row Valid w wide n cells i left g h in ((λ s. (refl, e.0 s)), (λ z. e.1 z.1))

  module _ (h : i < n) {l : List ℕ} (here : take w (drop (w * i) cells) ≡ l) {b : Bool} (said : (b ≡ true) ↔ RowOf row Valid l) where
    pub rows_refuted : not b ≡ true → Encodes row Valid n cells ↔ ((false ≡ true) × Zeros (drop (w * n) cells))
    rows_refuted z = let e = rows_stop row Valid w wide n cells i left h (λ r. refuted said z (rw here at r)) in ((λ s. absurd (true_not_false false (e.1 s) refl)), (λ z. e.0 z.0))

    pub rows_shown : w * i + w ≤ length cells → not b ≡ false → Left row Valid w wide n cells (i + 1)
    rows_shown k z = rows_next row Valid w wide n cells i left h k (rw here (shown said z))
