-- A loop that fills a lent part with numbers as they are read: what is done stands at its front, and with what is left to read it is the whole.
-- Assumes nothing.
use Rattle.std.specs.Prelude.{Ok, Err}
use Prim.Native.Nat.{ℕ, zero, suc, ◌+◌, ◌-◌, ◌≤◌, ◌<◌}
use native.Mathlib.Nat.{sub-zero}
use native.Mathlib.Numerals.{add-one}
use native.Mathlib.Omega.{arith}
use mathlib.Core.List.{List, [], ◌∷◌, ◌++◌, append-nil, append_assoc}
use mathlib.Core.Path.{◌≡◌, refl, sym, ap, ◌∙◌}
use lib.ListN.{length, set, take, drop, length-set, length-append}
use lib.Seq.{sets, sets-eq, take-suc-set, take_all, take_at, length-take-le}
use Rattle.reading.specs.Outcome.{Outcome, ok, bad, then}
use Rattle.reading.specs.Reader.{Reader, many}
use Rattle.bits.specs.declared.Cursor.{Cursor}
use Rattle.bits.specs.declared.refusal.Refusal.{Refusal}
use Rattle.bits.specs.Inner.Cursors.{position, refusal_of, Wrote}
use Rattle.bits.proofs.Steps.{wrote_refused, wrote_next}

-- what is done, and then what is read
unfoldable pub after : List ℕ → Outcome (List ℕ × ℕ) → Outcome (List ℕ × ℕ)
after done o = then o (λ y. ok (done ++ y.0, y.1))

pub after_nil : (o : Outcome (List ℕ × ℕ)) → after [] o ≡ o
unfolding after
after_nil (ok y) = refl
after_nil (bad z) = refl

pub after_append : (a b : List ℕ) (o : Outcome (List ℕ × ℕ)) → after a (after b o) ≡ after (a ++ b) o
unfolding after
after_append a b (ok y) = ap (λ (l : List ℕ). ok (l, y.1)) (sym (append_assoc a b y.0))
after_append a b (bad z) = refl

pub after_bad : (a : List ℕ) {o : Outcome (List ℕ × ℕ)} {z : _} → o ≡ bad z → after a o ≡ bad z
unfolding after
after_bad a e = rw e

pub after_none : (a : List ℕ) {o : Outcome (List ℕ × ℕ)} {k : ℕ} → o ≡ ok ([], k) → after a o ≡ ok (a, k)
unfolding after
after_none a {o} {k} e = rw (e, append-nil)

module _ (r : Reader ℕ) (s : List ℕ) where
  pub many_none : (n k : ℕ) → n ≡ 0 → many r n s k ≡ ok ([], k)
  unfolding many
  many_none n k e = rw e

  pub many_refused : (n : ℕ) {k : ℕ} {z : _} → 0 < n → r s k ≡ bad z → many r n s k ≡ bad z
  unfolding many
  many_refused zero h e = absurd (omega arith)
  many_refused (suc n) h e = rw e

  pub many_more : (n m : ℕ) {k v j : ℕ} → n ≡ suc m → r s k ≡ ok (v, j) → many r n s k ≡ after (v ∷ []) (many r m s j)
  unfolding many after
  many_more n m q e = rw (q, e)

-- the front of a list after a run of stores behind it
pub take-sets : (l vs : List ℕ) (i : ℕ) → i + length vs ≤ length l → take (i + length vs) (sets l i vs) ≡ take i l ++ vs
take-sets l vs i h =
    let e : length (take i l ++ vs) ≡ i + length vs = length-append (take i l) vs ∙ ap (λ (n : ℕ). n + length vs) (length-take-le i l (omega arith)) in
    ap (take (i + length vs)) (sets-eq vs l i h)
    ∙ take_at (take i l ++ vs) (drop (i + length vs) l) (i + length vs) e

module _ (r : Reader ℕ) (s : List ℕ) (k : ℕ) (entry : List ℕ) where
  -- i numbers are read into the part, and the cursor stands behind them
  pub record Filling (c : Cursor) (part : List ℕ) (i : ℕ) : Type 0 where
    pub within : i ≤ length entry
    pub long : length part ≡ length entry
    pub rest : after (take i part) (many r (length entry - i) s (position c)) ≡ many r (length entry) s k

  module _ {c : Cursor} {part : List ℕ} {i : ℕ} (w : Filling c part i) where
    pub filling_done : length entry ≤ i → Wrote (many r (length entry) s k) (Ok c) part
    filling_done h =
        let e = w.long in
        wrote_next
        (sym w.rest
        ∙ after_none (take i part) (many_none r s (length entry - i) (position c) (omega arith))
        ∙ ap (λ (l : List ℕ). ok (l, position c)) (take_all i part (omega arith)))

    module _ (h : i < length entry) where
      pub filling_refused : {z : Refusal} → r s (position c) ≡ bad (refusal_of z) → (u : List ℕ) → Wrote (many r (length entry) s k) (Err z) u
      filling_refused e u = wrote_refused u (sym w.rest ∙ after_bad (take i part) (many_refused r s (length entry - i) (omega arith) e))

      pub filling_next : {v : ℕ} {c' : Cursor} → r s (position c) ≡ ok (v, position c') → Filling c' (set part i v) (i + 1)
      filling_next {v} {c'} e =
          let g = w.long in
          record {
            within = omega arith;
            long = simp length-set w.long;
            rest =
                rw (add-one, take-suc-set part i v (omega arith))
                (sym (after_append (take i part) (v ∷ []) (many r (length entry - suc i) s (position c')))
                ∙ ap (after (take i part)) (sym (many_more r s (length entry - i) (length entry - suc i) (omega arith) e))
                ∙ w.rest);
          }

pub filling_start : (r : Reader ℕ) (s : List ℕ) (c : Cursor) (entry : List ℕ) → Filling r s (position c) entry c entry 0
filling_start r s c entry = record { within = omega arith; long = refl; rest = after_nil _ ∙ ap (λ (n : ℕ). many r n s (position c)) (sub-zero (length entry)) }
