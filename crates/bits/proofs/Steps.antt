-- Laws of functions that answer a step and write what they read: what an answer says of the definition, how an answer is shown, and the
-- loop that reads n items into buffers. Assumes nothing.
use Rattle.std.specs.Prelude.{Result, Ok, Err}
use Prim.Native.Nat.{ℕ, ◌+◌, ◌-◌, ◌≤◌, ◌<◌}
use native.Mathlib.Nat.{sub-zero}
use native.Mathlib.Omega.{arith}
use mathlib.Core.List.{List}
use lib.ListN.{length, get_or, drop}
use mathlib.Core.Path.{◌≡◌, refl, sym, ap, ◌∙◌}
use Rattle.reading.specs.Outcome.{Outcome, ok, bad, then}
use Rattle.reading.specs.Reader.{Reader, many, each, into, into1}
use Rattle.reading.proofs.Readers.{many_done, many-bad, many_next, each_done, each-bad, each_next, mapped_bad, mapped_ok}
use Rattle.bits.specs.declared.Cursor.{Cursor}
use Rattle.bits.specs.declared.refusal.Refusal.{Refusal}
use Rattle.bits.specs.Inner.Cursors.{position, refusal_of, stepped, Wrote}

-- what a step alone says
pub next_is : {r : Result Cursor Refusal} {o : Outcome ℕ} {c : Cursor} → stepped r ≡ o → r ≡ Ok c → o ≡ ok (position c)
unfolding stepped
next_is p q = sym p ∙ ap stepped q

pub stop_is : {r : Result Cursor Refusal} {o : Outcome ℕ} {z : Refusal} → stepped r ≡ o → r ≡ Err z → o ≡ bad (refusal_of z)
unfolding stepped
stop_is p q = sym p ∙ ap stepped q

module _ {T : Type 0} where
  -- what an answer says of the outcome
  pub wrote_bad : {o : Outcome (T × ℕ)} {r : Result Cursor Refusal} {t : T} {z : Refusal} → Wrote o r t → r ≡ Err z → o ≡ bad (refusal_of z)
  unfolding stepped
  wrote_bad {o} {r} {t} {z} w q = go o (ap stepped (sym q) ∙ w.step)
    where
      go : (o : Outcome (T × ℕ)) → bad (refusal_of z) ≡ then o (λ x. ok x.1) → o ≡ bad (refusal_of z)
      go (ok x) e = let n : ◌≡◌ {A = ℕ} 0 1 = cc in absurd (omega arith)
      go (bad y) e = sym (cc)

  pub wrote_ok : {o : Outcome (T × ℕ)} {r : Result Cursor Refusal} {t : T} {c : Cursor} → Wrote o r t → r ≡ Ok c → o ≡ ok (t, position c)
  unfolding stepped
  wrote_ok {o} {r} {t} {c} w q = go o (ap stepped (sym q) ∙ w.step) w.value
    where
      go : (o : Outcome (T × ℕ)) → ok (position c) ≡ then o (λ x. ok x.1) → ((x : T × ℕ) → o ≡ ok x → x.0 ≡ t) → o ≡ ok (t, position c)
      go (ok x) e v =
          let p : x.1 ≡ position c = cc in
          let q : x.0 ≡ t = v x refl in
          λ j. ok (q j, p j)
      go (bad y) e v = let n : ◌≡◌ {A = ℕ} 0 1 = cc in absurd (omega arith)

  -- how an answer is shown
  pub wrote_refused : {o : Outcome (T × ℕ)} {z : Refusal} (t : T) → o ≡ bad (refusal_of z) → Wrote o (Err z) t
  unfolding stepped
  wrote_refused t e = record { step = rw e; value = λ x f. let n : ◌≡◌ {A = ℕ} 0 1 = cc in absurd (omega arith) }

  pub wrote_next : {o : Outcome (T × ℕ)} {t : T} {c : Cursor} → o ≡ ok (t, position c) → Wrote o (Ok c) t
  unfolding stepped
  wrote_next {o} {t} {c} e =
      record { step = rw e; value = λ x f. let g : ◌≡◌ {A = Outcome (T × ℕ)} (ok x) (ok (t, position c)) = sym f ∙ e in let h : x ≡ (t, position c) = cc in ap (λ (y : T × ℕ). y.0) h }

-- a loop that reads n items with r and writes each with w. W is what the whole comes to
module _ {A T : Type 0} (w : A → T → T) (r : Reader A) (s : List ℕ) (n : ℕ) (W : Outcome (T × ℕ)) where
  -- i items are done: what is left to read from here, written into the buffers as they are, is the whole
  unfoldable pub Rest : ℕ → Cursor → T → Type 0
  Rest i c t = into w (many r (n - i) s (position c)) t ≡ W

  module _ (i : ℕ) (c : Cursor) (t : T) (rest : Rest i c t) where
    pub loop_done : n ≤ i → Wrote W (Ok c) t
    unfolding Rest
    loop_done h = wrote_next (sym rest ∙ many_done w r n i s (position c) t h)

    module _ (h : i < n) {st : Result Cursor Refusal} {t' : T} (one : Wrote (into1 w (r s (position c)) t) st t') where
      pub loop_refused : {z : Refusal} → st ≡ Err z → (u : T) → Wrote W (Err z) u
      unfolding Rest into1
      loop_refused {z} q u = wrote_refused u (sym rest ∙ many-bad w r n i s (position c) t h (refusal_of z) (mapped_bad (λ a. w a t) (r s (position c)) (wrote_bad one q)))

      pub loop_next : {c' : Cursor} → st ≡ Ok c' → Rest (i + 1) c' t'
      unfolding Rest into1
      loop_next {c'} q =
          let m = mapped_ok (λ a. w a t) (r s (position c)) (wrote_ok one q) in
          rw (← m.2) (sym (many_next w r n i s (position c) t h (m.0, position c') m.1) ∙ rest)

  pub loop_start : (c : Cursor) (t : T) → W ≡ into w (many r n s (position c)) t → Rest 0 c t
  unfolding Rest
  loop_start c t e = rw sub-zero (sym e)

-- the same for a loop over a list, of which i items are done. d stands for an item past its end
module _ {A B T : Type 0} (d : B) (w : A → T → T) (r : B → Reader A) (s : List ℕ) (l : List B) (W : Outcome (T × ℕ)) where
  unfoldable pub EachRest : ℕ → Cursor → T → Type 0
  EachRest i c t = into w (each r (drop i l) s (position c)) t ≡ W

  module _ (i : ℕ) (c : Cursor) (t : T) (rest : EachRest i c t) where
    pub each_loop_done : length l ≤ i → Wrote W (Ok c) t
    unfolding EachRest
    each_loop_done h = wrote_next (sym rest ∙ each_done d w r l i s (position c) t h)

    module _ (h : i < length l) {st : Result Cursor Refusal} {t' : T} (one : Wrote (into1 w (r (get_or l i d) s (position c)) t) st t') where
      pub each_loop_refused : {z : Refusal} → st ≡ Err z → (u : T) → Wrote W (Err z) u
      unfolding EachRest into1
      each_loop_refused {z} q u =
          wrote_refused u (sym rest ∙ each-bad d w r l i s (position c) t h (refusal_of z) (mapped_bad (λ a. w a t) (r (get_or l i d) s (position c)) (wrote_bad one q)))

      pub each_loop_next : {c' : Cursor} → st ≡ Ok c' → EachRest (i + 1) c' t'
      unfolding EachRest into1
      each_loop_next {c'} q =
          let m = mapped_ok (λ a. w a t) (r (get_or l i d) s (position c)) (wrote_ok one q) in
          rw (← m.2) (sym (each_next d w r l i s (position c) t h (m.0, position c') m.1) ∙ rest)

  pub each_loop_start : (c : Cursor) (t : T) → W ≡ into w (each r l s (position c)) t → EachRest 0 c t
  unfolding EachRest
  each_loop_start c t e = sym e
