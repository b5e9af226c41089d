-- The lines for the rest of an input, record by record: what a whole record, one that is too long and one that is torn add to them, whatever bytes follow those
-- that were read. Assumes nothing.
use Prim.Native.Nat.{ℕ, zero, suc, ◌+◌, ◌-◌, ◌≤◌, ◌<◌}
use native.Mathlib.Nat.{not-suc-le-zero, le_refl}
use native.Mathlib.Omega.{arith}
use mathlib.Core.Bool.{Bool, true, false, cond}
use mathlib.Core.List.{List, [], ◌∷◌, ◌++◌}
use mathlib.Core.Path.{◌≡◌, refl, sym, ◌∙◌, ap}
use lib.Dec.{ltb}
use borrow.Author.Tests.{ltb-true, ltb-false, lt-ltb, le-ltb, ne_eqb}
use lib.ListN.{length, get_or, take, drop, length-append, length-drop, get_or-append}
use lib.Seq.{drop-append-le, take-append-le, drop-drop, drop-append-add}
use Rattle.records.specs.Records.{body_length, kind, body, following, is_torn, is_too_long}
use Rattle.records.specs.declared.Answer.TheVariants.{TooLong}
use Rattle.record_lines.specs.Lines.{line, torn_line, end_line}
use Rattle.record_step.specs.Step.{Stream, step}
use Rattle.record_progress.specs.Report.{record_step, lines_from, lines_after}
use Rattle.record_progress.specs.Inner.Progress.{lines_skipping, lines_left}

-- what is behind a record is shorter than it and what is behind it
shorter : (b : ℕ) (l : List ℕ) (k : ℕ) → suc (length l) ≤ suc k → length (following (b ∷ l)) ≤ k
unfolding following
shorter b l k h = rw length-drop (omega arith)

-- any number of records from the input's length on gives the same lines
pub enough : (k : ℕ) (j : ℕ) (x : Stream) (n : ℕ) (s : List ℕ) → length s ≤ k → length s ≤ j → lines_from k x n s ≡ lines_from j x n s
unfolding lines_from
enough zero zero x n [] h g = refl
enough zero (suc j) x n [] h g = refl
enough (suc k) zero x n [] h g = refl
enough (suc k) (suc j) x n [] h g = refl
enough zero j x n (b ∷ l) h g = absurd (not-suc-le-zero h)
enough (suc k) zero x n (b ∷ l) h g = absurd (not-suc-le-zero g)
enough (suc k) (suc j) x n (b ∷ l) h g =
    ap (λ (r : List ℕ). cond (is_torn (b ∷ l)) (torn_line (n + 1) ++ end_line n) (line (n + 1) (record_step x (b ∷ l)).1 ++ r))
    (enough k j (record_step x (b ∷ l)).0 (n + 1) (following (b ∷ l)) (shorter b l k h) (shorter b l j g))

module _ (x : Stream) (n : ℕ) where
  -- nothing is left
  pub after_nil : lines_after x n [] ≡ end_line n
  unfolding lines_after lines_from
  after_nil = refl

  -- the input ends inside a record
  pub after_torn : (s : List ℕ) → 0 < length s → is_torn s ≡ true → lines_after x n s ≡ torn_line (n + 1) ++ end_line n
  unfolding lines_after lines_from
  after_torn [] p e = absurd (not-suc-le-zero p)
  after_torn (b ∷ l) p e = rw e refl

  -- a whole record
  pub after_whole : (s : List ℕ) → 0 < length s → is_torn s ≡ false
      → lines_after x n s ≡ line (n + 1) (record_step x s).1 ++ lines_after (record_step x s).0 (n + 1) (following s)
  unfolding lines_after lines_from
  after_whole [] p e = absurd (not-suc-le-zero p)
  after_whole (b ∷ l) p e =
      rw e (ap (λ (r : List ℕ). line (n + 1) (record_step x (b ∷ l)).1 ++ r)
      (enough (length l) (length (following (b ∷ l))) (record_step x (b ∷ l)).0 (n + 1) (following (b ∷ l)) (shorter b l (length l) (le_refl _)) (le_refl _)))

-- a record's head is the same, whatever follows it
module _ (s rest : List ℕ) (h : 6 ≤ length s) where
  at_front : (j : ℕ) → j < 6 → get_or (s ++ rest) j 0 ≡ get_or s j 0
  at_front j g = get_or-append s rest 0 j (omega arith)

  pub same_length : body_length (s ++ rest) ≡ body_length s
  unfolding body_length
  same_length = rw (at_front 0 (omega arith), at_front 1 (omega arith), at_front 2 (omega arith), at_front 3 (omega arith)) refl

  pub same_kind : kind (s ++ rest) ≡ kind s
  unfolding kind
  same_kind = rw (at_front 4 (omega arith), at_front 5 (omega arith)) refl

  whole_length : 6 ≤ length (s ++ rest)
  whole_length = rw length-append (omega arith)

  module _ (g : 6 + body_length s ≤ length s) where
    not_torn : is_torn (s ++ rest) ≡ false
    unfolding is_torn
    not_torn =
        let l = length-append s rest in
        let e = same_length in
        rw (le-ltb (length (s ++ rest)) 6 whole_length, le-ltb (length (s ++ rest)) (6 + body_length (s ++ rest)) (omega (arith, l, e))) refl

    same_following : following (s ++ rest) ≡ drop (6 + body_length s) s ++ rest
    unfolding following
    same_following = rw same_length (drop-append-le (6 + body_length s) s rest g)

    same_body : body (s ++ rest) ≡ take (body_length s) (drop 6 s)
    unfolding body
    same_body =
        let l = length-drop 6 s in
        rw (same_length, drop-append-le 6 s rest h) (take-append-le (body_length s) (drop 6 s) rest (omega (arith, l)))

    -- a record that is whole and not too long, among what was read
    pub whole_read : (x : Stream) (n : ℕ) → body_length s ≤ 49152
        → lines_after x n (s ++ rest)
        ≡ line (n + 1) (step x (kind s) (take (body_length s) (drop 6 s))).1
        ++ lines_after (step x (kind s) (take (body_length s) (drop 6 s))).0 (n + 1) (drop (6 + body_length s) s ++ rest)
    unfolding record_step is_too_long
    whole_read x n few =
        let w = whole_length in
        after_whole x n (s ++ rest) (omega arith) not_torn
        ∙ rw (same_following, same_length, le-ltb 49152 (body_length s) few, same_kind, same_body) refl

  -- the head of a record that is too long: from there on its body is passed over
  pub too_long_read : (x : Stream) (n : ℕ) → 49152 < body_length s → lines_after x n (s ++ rest) ≡ lines_skipping (body_length s) x n (drop 6 s ++ rest)
  unfolding lines_skipping following is_torn record_step is_too_long
  too_long_read x n many = cases (ltb (length (drop 6 s ++ rest)) (body_length s)) refl
    where
      w : 6 ≤ length (s ++ rest)
      w = whole_length

      left : length (drop 6 s ++ rest) ≡ length (s ++ rest) - 6
      left = ap length (sym (drop-append-le 6 s rest h)) ∙ length-drop 6 (s ++ rest)

      rest_after : following (s ++ rest) ≡ drop (body_length s) (drop 6 s ++ rest)
      rest_after = rw same_length (sym (drop-drop (body_length s) 6 (s ++ rest)) ∙ ap (drop (body_length s)) (drop-append-le 6 s rest h))

      cases : (b : Bool) → ltb (length (drop 6 s ++ rest)) (body_length s) ≡ b
          → lines_after x n (s ++ rest)
          ≡ cond (ltb (length (drop 6 s ++ rest)) (body_length s)) (torn_line (n + 1) ++ end_line n) (line (n + 1) TooLong ++ lines_after x (n + 1) (drop (body_length s) (drop 6 s ++ rest)))
      cases true e =
          let f = ltb-true (length (drop 6 s ++ rest)) (body_length s) e in
          rw e (after_torn x n (s ++ rest) (omega (arith, w))
          (rw (le-ltb (length (s ++ rest)) 6 w, lt-ltb (length (s ++ rest)) (6 + body_length (s ++ rest)) (omega (arith, f, left, same_length))) refl))
      cases false e =
          let f = ltb-false (length (drop 6 s ++ rest)) (body_length s) e in
          rw e (after_whole x n (s ++ rest) (omega (arith, w))
          (rw (le-ltb (length (s ++ rest)) 6 w, le-ltb (length (s ++ rest)) (6 + body_length (s ++ rest)) (omega (arith, f, left, same_length))) refl)
          ∙ rw (rest_after, same_length, lt-ltb 49152 (body_length s) many) refl)

module _ (x : Stream) (n : ℕ) (skip : ℕ) (s rest : List ℕ) where
  -- all that was read is of the body that is passed over
  pub skip_some : length s < skip → lines_skipping skip x n (s ++ rest) ≡ lines_skipping (skip - length s) x n rest
  unfolding lines_skipping
  skip_some h = rw (tests (ltb (length rest) (skip - length s)) refl, rest_after) refl
    where
      long : length (s ++ rest) ≡ length s + length rest
      long = length-append s rest

      tests : (b : Bool) → ltb (length rest) (skip - length s) ≡ b → ltb (length (s ++ rest)) skip ≡ ltb (length rest) (skip - length s)
      tests true e = let f = ltb-true (length rest) (skip - length s) e in lt-ltb (length (s ++ rest)) skip (omega (arith, f, long)) ∙ sym e
      tests false e = let f = ltb-false (length rest) (skip - length s) e in le-ltb (length (s ++ rest)) skip (omega (arith, f, long)) ∙ sym e

      there : length s + (skip - length s) ≡ skip
      there = omega arith

      rest_after : drop skip (s ++ rest) ≡ drop (skip - length s) rest
      rest_after = ap (λ (k : ℕ). drop k (s ++ rest)) (sym there) ∙ drop-append-add s rest (skip - length s)

  -- the body ends among what was read
  pub skip_all : skip ≤ length s → lines_skipping skip x n (s ++ rest) ≡ line (n + 1) TooLong ++ lines_after x (n + 1) (drop skip s ++ rest)
  unfolding lines_skipping
  skip_all h =
      let long = length-append s rest in
      rw (le-ltb (length (s ++ rest)) skip (omega (arith, long)), drop-append-le skip s rest h) refl

  pub left_skipping : 0 < skip → lines_left skip x n s ≡ lines_skipping skip x n s
  unfolding lines_left
  left_skipping h = rw (ne_eqb skip 0 (λ e. omega arith)) refl

pub left_after : (x : Stream) (n : ℕ) (s : List ℕ) → lines_left 0 x n s ≡ lines_after x n s
unfolding lines_left
left_after x n s = refl
