-- Laws of buffers that are the writing-out of items: of a row of a given width, one row at a time, as a loop over the rows asks them; what a
-- place of such a buffer holds; that no other items share it. Assumes nothing.
use Prim.Native.Nat.{ℕ, zero, suc, ◌+◌, ◌-◌, ◌*◌, ◌≤◌, ◌<◌}
use native.Mathlib.Nat.{sub-zero, mul-zero, mul-suc, add_comm, mul-le-mul_left}
use native.Mathlib.Numerals.{add-one}
use native.Mathlib.Omega.{arith}
use borrow.Author.Tests.{not-true, not-false}
use mathlib.Core.Bool.{Bool, true, false, not}
use mathlib.Core.List.{List, [], ◌∷◌, ◌++◌}
use mathlib.Core.Logic.{◌↔◌}
use mathlib.Core.Path.{◌≡◌, refl, sym, ap, subst, ◌∙◌}
use lib.ListN.{length, get_or, take, drop, replicate, length-append, length-drop, take-append-drop, get_or-append}
use lib.Seq.{take_at, drop_at, drop-drop, get_or-append-add}
use Rattle.reading.specs.Lists.{rows}
use Rattle.reading.specs.Pad.{pad}
use Rattle.reading.specs.Encoding.{Zeros, Each, RowOf, Encodes}
use Rattle.reading.proofs.Pads.{pad_nil, pad_get, length-pad, pad_front}

-- what fits stands whole in front of what follows it
pub pad_append : (xs ys : List ℕ) (n : ℕ) → pad (length xs + n) (xs ++ ys) ≡ xs ++ pad n ys
unfolding pad
pad_append [] ys n = ap (λ (m : ℕ). pad m ys) (let e : 0 + n ≡ n = omega arith in e)
pad_append (x ∷ xs) ys n = let e : suc (length xs) + n ≡ suc (length xs + n) = omega arith in rw e (ap (λ (l : List ℕ). x ∷ l) (pad_append xs ys n))

-- an answer that is false, and one that says the same as another
pub iff_false : {P : Type 0} → (P → ⊥) → (false ≡ true) ↔ P
iff_false n = ((λ e. let z : ◌≡◌ {A = ℕ} 0 1 = cc in absurd (omega arith)), (λ p. absurd (n p)))

pub iff_true : {P : Type 0} → P → (true ≡ true) ↔ P
iff_true p = ((λ e. p), (λ q. refl))

pub not_said : {P : Type 0} {r : Bool} → (r ≡ true) ↔ P → r ≡ false → P → ⊥
not_said {P} {r} e f p = let t : r ≡ true = e.1 p in let z : ◌≡◌ {A = ℕ} 0 1 = cc in omega arith

-- a test whose answer is turned round: what it says where it failed, and where it passed
pub refuted : {b : Bool} {P : Type 0} → (b ≡ true) ↔ P → not b ≡ true → P → ⊥
refuted {b} f n = not_said f (not-true b n)

pub shown : {b : Bool} {P : Type 0} → (b ≡ true) ↔ P → not b ≡ false → P
shown {b} f n = f.0 (not-false b n)

module _ {A : Type 0} (row : A → List ℕ) (Valid : A → Type 0) where
  -- no item: zeros alone
  pub encodes_none : (cells : List ℕ) → Encodes row Valid 0 cells ↔ Zeros cells
  unfolding Each rows
  encodes_none cells = (
    (λ s. none s.items s.number s.written),
    (λ e. record { items = []; number = refl; valid = tt; fits = omega arith; written = e ∙ sym (pad_nil (length cells)) }),
  )
    where
      none : (l : List A) → length l ≡ 0 → cells ≡ pad (length cells) (rows row l) → cells ≡ replicate (length cells) 0
      none [] n w = w ∙ pad_nil (length cells)
      none (a ∷ l) n w = absurd (omega arith)

  -- a part of a buffer that is given by its items and its length
  pub encodes_pad : (n N : ℕ) (l : List A) (cells : List ℕ) → cells ≡ pad N (rows row l) → length l ≡ n → Each Valid l → length (rows row l) ≤ N → Encodes row Valid n cells
  encodes_pad n N l cells e k v f =
      let h : length cells ≡ N = ap length e ∙ length-pad N (rows row l) in
      record { items = l; number = k; valid = v; fits = omega arith; written = rw h e }

  module _ (w : ℕ) (wide : (a : A) → length (row a) ≡ w) where
    pub rows_length : (l : List A) → length (rows row l) ≡ w * length l
    unfolding rows
    rows_length [] = sym (mul-zero w)
    rows_length (a ∷ l) = rw (length-append, wide a, rows_length l, mul-suc) (add_comm _ _)

    -- where a row fits, the buffer is that row and what follows
    front : (a : A) (l : List A) (cells : List ℕ) → length (rows row (a ∷ l)) ≤ length cells → cells ≡ pad (length cells) (rows row (a ∷ l))
        → cells ≡ row a ++ pad (length cells - w) (rows row l)
    unfolding rows
    front a l cells f e =
        let la = wide a in
        let k = length-append (row a) (rows row l) in
        let n : length cells ≡ length (row a) + (length cells - w) = omega arith in
        e ∙ ap (λ (m : ℕ). pad m (row a ++ rows row l)) n ∙ pad_append (row a) (rows row l) (length cells - w)

    -- one item more: its row, and then the others'
    pub encodes_first : (n : ℕ) (cells : List ℕ) → Encodes row Valid (suc n) cells → RowOf row Valid (take w cells) × Encodes row Valid n (drop w cells)
    unfolding Each rows
    encodes_first n cells s = go s.items s.number s.valid s.fits s.written
      where
        go : (l : List A) → length l ≡ suc n → Each Valid l → length (rows row l) ≤ length cells → cells ≡ pad (length cells) (rows row l)
            → RowOf row Valid (take w cells) × Encodes row Valid n (drop w cells)
        go [] k v f e = absurd (omega arith)
        go (a ∷ l) k v f e =
            let p = front a l cells f e in
            let q : drop w cells ≡ pad (length cells - w) (rows row l) = ap (drop w) p ∙ drop_at (row a) _ w (wide a) in
            let la = wide a in
            let lr = length-append (row a) (rows row l) in
            let ld : length (drop w cells) ≡ length cells - w = length-drop w cells in (
              record { item = a; valid = v.0; written = ap (take w) p ∙ take_at (row a) _ w (wide a) },
              record { items = l; number = omega arith; valid = v.1; fits = omega arith; written = rw ld q },
            )

    pub encodes_cons : (n : ℕ) (cells : List ℕ) → w ≤ length cells → RowOf row Valid (take w cells) → Encodes row Valid n (drop w cells) → Encodes row Valid (suc n) cells
    unfolding Each rows
    encodes_cons n cells h r s =
        let ld : length (drop w cells) ≡ length cells - w = length-drop w cells in
        let la = wide r.item in
        let lr = length-append (row r.item) (rows row s.items) in
        let f = s.fits in
        let m : length (row r.item) + (length cells - w) ≡ length cells = omega arith in
        let d : drop w cells ≡ pad (length cells - w) (rows row s.items) = s.written ∙ ap (λ (k : ℕ). pad k (rows row s.items)) ld in
        record {
          items = r.item ∷ s.items;
          number = ap suc s.number;
          valid = (r.valid, s.valid);
          fits = omega arith;
          written =
              sym (take-append-drop w cells)
              ∙ (λ j. r.written j ++ d j)
              ∙ sym (pad_append (row r.item) (rows row s.items) (length cells - w))
              ∙ ap (λ (k : ℕ). pad k (row r.item ++ rows row s.items)) m;
        }

    pub encodes_long : (n : ℕ) (cells : List ℕ) → Encodes row Valid n cells → w * n ≤ length cells
    encodes_long n cells s =
        let f = s.fits in
        let e : length (rows row s.items) ≡ w * n = rows_length s.items ∙ ap (λ (k : ℕ). w * k) s.number in
        omega arith

    -- a loop over the rows of `cells`, of which there should be n: i are found right, so that all depends on the others
    unfoldable pub Left : ℕ → List ℕ → ℕ → Type 0
    Left n cells i = Encodes row Valid n cells ↔ Encodes row Valid (n - i) (drop (w * i) cells)

    module _ (n : ℕ) (cells : List ℕ) where
      pub rows_start : Left n cells 0
      unfolding Left
      rows_start = rw (sub-zero, mul-zero) ((λ s. s), (λ s. s))

      module _ (i : ℕ) (left : Left n cells i) where
        turn : i < n → n - i ≡ suc (n - (i + 1))
        turn h = omega arith

        after : drop w (drop (w * i) cells) ≡ drop (w * (i + 1)) cells
        after = let e : w * (i + 1) ≡ w * i + w = rw (add-one, mul-suc) refl in rw e (drop-drop w (w * i) cells)

        pub rows_next : i < n → w * i + w ≤ length cells → RowOf row Valid (take w (drop (w * i) cells)) → Left n cells (i + 1)
        unfolding Left
        rows_next h f r =
            let l : length (drop (w * i) cells) ≡ length cells - w * i = length-drop (w * i) cells in
            let s = subst (λ (k : ℕ). Encodes row Valid n cells ↔ Encodes row Valid k (drop (w * i) cells)) (turn h) left in (
              (λ a. subst (Encodes row Valid (n - (i + 1))) after (encodes_first (n - (i + 1)) (drop (w * i) cells) (s.0 a)).1),
              (λ b. s.1 (encodes_cons (n - (i + 1)) (drop (w * i) cells) (omega arith) r (subst (Encodes row Valid (n - (i + 1))) (sym after) b))),
            )

        pub rows_stop : i < n → (RowOf row Valid (take w (drop (w * i) cells)) → ⊥) → (false ≡ true) ↔ Encodes row Valid n cells
        unfolding Left
        rows_stop h fails =
            let s = subst (λ (k : ℕ). Encodes row Valid n cells ↔ Encodes row Valid k (drop (w * i) cells)) (turn h) left in
            iff_false (λ a. fails (encodes_first (n - (i + 1)) (drop (w * i) cells) (s.0 a)).0)

        pub rows_end : i ≤ n → n ≤ i → Encodes row Valid n cells ↔ Zeros (drop (w * n) cells)
        unfolding Left
        rows_end g h =
            let z : n - i ≡ 0 = omega arith in
            let e : i ≡ n = omega arith in
            let s : Encodes row Valid n cells ↔ Encodes row Valid 0 (drop (w * n) cells) = rw (z, e) at left in
            let t = encodes_none (drop (w * n) cells) in
            ((λ a. t.0 (s.0 a)), (λ b. s.1 (t.1 b)))

    -- what a place of the table holds: number j of row i
    pub row_place : (l : List A) (n i j : ℕ) (d : A) → i < length l → j < w → w * length l ≤ n → get_or (pad n (rows row l)) (w * i + j) 0 ≡ get_or (row (get_or l i d)) j 0
    unfolding rows
    row_place l n i j d h g f = pad_get n (rows row l) (w * i + j) (inside l i h f) ∙ go l i h
      where
        inside : (l : List A) (i : ℕ) → i < length l → w * length l ≤ n → w * i + j < n
        inside l i h f =
            let m : w * (i + 1) ≤ w * length l = mul-le-mul_left w (omega arith) in
            let e : w * (i + 1) ≡ w * i + w = rw (add-one, mul-suc) refl in
            omega arith

        go : (l : List A) (i : ℕ) → i < length l → get_or (rows row l) (w * i + j) 0 ≡ get_or (row (get_or l i d)) j 0
        go [] i h = absurd (omega arith)
        go (a ∷ l) zero h =
            let la = wide a in
            let e : w * 0 + j ≡ j = rw mul-zero (omega arith) in
            rw e (get_or-append (row a) (rows row l) 0 j (omega arith))
        go (a ∷ l) (suc i) h =
            let la = wide a in
            let m = mul-suc w i in
            let e : w * suc i + j ≡ length (row a) + (w * i + j) = omega arith in
            rw e (get_or-append-add (row a) (rows row l) (w * i + j) 0 ∙ go l i (omega arith))

    -- one table, one content: where a row can be read back, no other items share the table
    module _ (decode : List ℕ → A) (back : (a : A) → Valid a → decode (row a) ≡ a) where
      rows_same : (l l' : List A) → length l ≡ length l' → Each Valid l → Each Valid l' → rows row l ≡ rows row l' → l ≡ l'
      unfolding rows Each
      rows_same [] [] n v v' e = refl
      rows_same [] (b ∷ l') n v v' e = absurd (omega arith)
      rows_same (a ∷ l) [] n v v' e = absurd (omega arith)
      rows_same (a ∷ l) (b ∷ l') n v v' e =
          let f : row a ≡ row b = sym (take_at (row a) (rows row l) w (wide a)) ∙ ap (take w) e ∙ take_at (row b) (rows row l') w (wide b) in
          let g : rows row l ≡ rows row l' = sym (drop_at (row a) (rows row l) w (wide a)) ∙ ap (drop w) e ∙ drop_at (row b) (rows row l') w (wide b) in
          let h : a ≡ b = sym (back a v.0) ∙ ap decode f ∙ back b v'.0 in
          let i = rows_same l l' (omega arith) v.1 v'.1 g in
          λ j. h j ∷ i j

      pub encodes_same : (n : ℕ) (cells : List ℕ) (s s' : Encodes row Valid n cells) → s.items ≡ s'.items
      encodes_same n cells s s' =
          let a = s.number in
          let b = s'.number in
          rows_same s.items s'.items (omega arith) s.valid s'.valid (sym (whole s) ∙ whole s')
        where
          whole : (s : Encodes row Valid n cells) → take (w * n) cells ≡ rows row s.items
          whole s =
              let e : length (rows row s.items) ≡ w * n = rows_length s.items ∙ ap (λ (k : ℕ). w * k) s.number in
              ap (take (w * n)) s.written ∙ rw (← e) (pad_front (length cells) (rows row s.items) s.fits)
