-- Rows of two numbers: which pairs are rows, and the loop that recognises a table of such rows. Assumes nothing.
use Prim.Native.Nat.{ℕ, suc, ◌+◌, ◌*◌, ◌≤◌, ◌<◌}
use native.Mathlib.Omega.{arith}
use borrow.Author.Rules.{rules}
use borrow.Author.Tests.{not-true, not-false}
use mathlib.Core.Bool.{Bool, true, false, not}
use mathlib.Core.List.{List, [], ◌∷◌}
use mathlib.Core.Logic.{◌↔◌}
use mathlib.Core.Path.{◌≡◌, sym, ap, subst, ◌∙◌}
use lib.ListN.{length, get_or, take, drop}
use lib.Seq.{drop-cons}
use Rattle.reading.specs.Encoding.{Zeros, RowOf, Encodes}
use Rattle.reading.proofs.Encodes.{iff_false, not_said, Left, rows_start, rows_next, rows_stop, rows_end, encodes_long}

-- a row holds an item's two numbers, from which the item can be made again
pub record PairRow {A : Type 0} (row : A → List ℕ) (pair : ℕ → ℕ → A) : Type 0 where
  pub of : (a b : ℕ) → row (pair a b) ≡ a ∷ b ∷ []
  pub back : (x : A) → pair (get_or (row x) 0 0) (get_or (row x) 1 0) ≡ x
  pub wide : (x : A) → length (row x) ≡ 2

-- the two numbers of row i
pub two : (cells : List ℕ) (i : ℕ) → 2 * i + 2 ≤ length cells → take 2 (drop (2 * i) cells) ≡ get_or cells (2 * i) 0 ∷ get_or cells (2 * i + 1) 0 ∷ []
two cells i h =
    let a : 2 * i < length cells = omega arith in
    let b : 2 * i + 1 < length cells = omega arith in
    let s : suc (2 * i) ≡ 2 * i + 1 = omega arith in
    let e : drop (suc (2 * i)) cells ≡ get_or cells (2 * i + 1) 0 ∷ drop (suc (2 * i + 1)) cells = ap (λ (k : ℕ). drop k cells) s ∙ drop-cons cells (2 * i + 1) 0 b in
    ap (take 2) (drop-cons cells (2 * i) 0 a ∙ ap (λ (l : List ℕ). get_or cells (2 * i) 0 ∷ l) e)

module _ {A : Type 0} {row : A → List ℕ} {pair : ℕ → ℕ → A} (Valid : A → Type 0) (P : PairRow row pair) where
  -- two numbers are a row exactly where the item that they make is valid
  pub pair_row : (a b : ℕ) → RowOf row Valid (a ∷ b ∷ []) ↔ Valid (pair a b)
  pair_row a b = (
    (λ r. subst Valid (sym (P.back r.item) ∙ ap (λ (l : List ℕ). pair (get_or l 0 0) (get_or l 1 0)) (sym r.written)) r.valid),
    (λ v. record { item = pair a b; valid = v; written = sym (P.of a b) }),
  )

  -- the loop over the rows of `cells`, of which there should be n: i are found right
  pub record Finding (n : ℕ) (cells : List ℕ) (i : ℕ) : Type 0 where
    pub within : i ≤ n
    pub room : 2 * n ≤ length cells
    pub left : Left row Valid 2 P.wide n cells i

  module _ (n : ℕ) (cells : List ℕ) where
    pub too_short : length cells < 2 * n → (false ≡ true) ↔ Encodes row Valid n cells
    too_short h = iff_false (λ s. let l = encodes_long row Valid 2 P.wide n cells s in omega arith)

    pub find_start : 2 * n ≤ length cells → Finding n cells 0
    find_start h = record { within = omega arith; room = h; left = rows_start row Valid 2 P.wide n cells }

    module _ (i : ℕ) (f : Finding n cells i) where
      module _ (h : i < n) {r : Bool} (said : (r ≡ true) ↔ Valid (pair (get_or cells (2 * i) 0) (get_or cells (2 * i + 1) 0))) where
        here : 2 * i + 2 ≤ length cells
        here = let g = f.room in omega arith

        pub find_stop : not r ≡ true → (false ≡ true) ↔ Encodes row Valid n cells
        find_stop e =
            rows_stop row Valid 2 P.wide n cells i f.left h
            (λ x. not_said said (not-true r e) ((pair_row _ _).0 (subst (RowOf row Valid) (two cells i here) x)))

        pub find_next : not r ≡ false → Finding n cells (i + 1)
        find_next e =
            record {
              within = omega arith;
              room = f.room;
              left =
                  rows_next row Valid 2 P.wide n cells i f.left h here
                  (subst (RowOf row Valid) (sym (two cells i here)) ((pair_row _ _).1 (said.0 (not-false r e))));
            }

      pub find_end : n ≤ i → {r : Bool} → (r ≡ true) ↔ Zeros (drop (2 * n) cells) → (r ≡ true) ↔ Encodes row Valid n cells
      find_end h said =
          let s = rows_end row Valid 2 P.wide n cells i f.left f.within h in
          ((λ e. s.1 (said.0 e)), (λ a. said.1 (s.0 a)))

pub ruleset pair_laws = (rules, too_short, find_start, find_stop, find_next, find_end)
