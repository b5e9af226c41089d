-- The entry search: which entries' codewords begin with the bits taken so far, and what that says of `matching`. Assumes nothing.
use Prim.Native.Nat.{ℕ, zero, suc, ◌+◌, ◌-◌, ◌*◌, ◌/◌, ◌^◌, ◌≤◌, ◌<◌}
use native.Mathlib.Nat.{div-one}
use native.Mathlib.Numerals.{add-one}
use native.Mathlib.Omega.{arith}
use mathlib.Core.Bool.{Bool, true, false}
use mathlib.Core.List.{List}
use mathlib.Core.Logic.{⊎_elim}
use mathlib.Core.Option.{none, some}
use mathlib.Core.Path.{◌≡◌, refl, ap, sym, ◌∙◌}
use lib.Dec.{eqb, ltb}
use lib.ListN.{length, get_or}
use lib.Pow.{shr-shr}
use borrow.Author.Tests.{lt-ltb, le-ltb, eq-eqb, eqb-true}
use Rattle.reading.specs.Outcome.{refusal, Outcome, ok, bad, need}
use Rattle.reading.proofs.Least.{lt_or_le, lowest-none, lowest_is, and_split, no_true, below_suc}
use Rattle.codeword_assignment.specs.Book.{codeword_of, ledger_codewords, PrefixCode}
use Rattle.codeword_assignment.proofs.Laws.{codewords_at}
use Rattle.codeword.specs.Inner.Window.{Zeros}
use Rattle.codeword.specs.Codeword.{bits_at, is_codeword, entry_of, or_go_on, matching}
use Rattle.codeword.proofs.Bits.{bits_half}

-- entry e's codeword begins with the n bits w
pub record Starts (ls ws : List ℕ) (n w e : ℕ) : Type 0 where
  pub long : n ≤ get_or ls e 0
  pub same : get_or ws e 0 / 2 ^ (get_or ls e 0 - n) ≡ w

-- no entry before e does
abbrev pub NoneBefore : (ls ws : List ℕ) (n w e : ℕ) → Type 0
NoneBefore ls ws n w e = (f : ℕ) → f < e → Starts ls ws n w f → ⊥

module _ (ls ws : List ℕ) (s : List ℕ) (k : ℕ) where
  -- an entry that begins with more bits begins with fewer
  pub starts_fewer : (n e : ℕ) → Starts ls ws (suc n) (bits_at s k (suc n)) e → Starts ls ws n (bits_at s k n) e
  starts_fewer n e h =
      let l = h.long in
      let x : get_or ls e 0 - n ≡ (get_or ls e 0 - suc n) + 1 = omega arith in
      record {
        long = omega arith;
        same =
            ap (λ (d : ℕ). get_or ws e 0 / 2 ^ d) x
            ∙ sym (shr-shr (get_or ws e 0) (get_or ls e 0 - suc n) 1)
            ∙ ap (λ (y : ℕ). y / 2) h.same
            ∙ bits_half s k n;
      }

  pub none_fewer : (n e : ℕ) → NoneBefore ls ws n (bits_at s k n) e → NoneBefore ls ws (suc n) (bits_at s k (suc n)) e
  none_fewer n e h f l st = h f l (starts_fewer n f st)

-- one entry more that does not
module _ (ls ws : List ℕ) (n w e : ℕ) (h : NoneBefore ls ws n w e) where
  step : (Starts ls ws n w e → ⊥) → NoneBefore ls ws n w (e + 1)
  step never f l st = ⊎_elim (λ (m : f < e). h f m st) (λ (q : f ≡ e). never (rw q at st)) (below_suc (rw add-one at l))

  pub passes_short : get_or ls e 0 < n → NoneBefore ls ws n w (e + 1)
  passes_short l = step (λ st. let m = st.long in omega arith)

  pub passes_unused : 1 ≤ n → (r : ℕ) → Zeros ls e r → NoneBefore ls ws n w r
  passes_unused p r z f l st =
      ⊎_elim (λ (m : f < e). h f m st) (λ (m : e ≤ f). let a = z.zero f m l in let b = st.long in omega arith) (lt_or_le f e)

  pub passes_other : (get_or ws e 0 / 2 ^ (get_or ls e 0 - n) ≡ w → ⊥) → NoneBefore ls ws n w (e + 1)
  passes_other d = step (λ st. d st.same)

-- what the search says of the definition, for a book's own codewords
module _ (ls : List ℕ) (code : PrefixCode ls (ledger_codewords ls)) where
  abbrev ws : List ℕ
  ws = ledger_codewords ls

  -- an entry whose codeword is the n bits w
  exact : (n w e : ℕ) → e < length ls → is_codeword ls n w e ≡ true → (get_or ls e 0 ≡ n) × (get_or ws e 0 ≡ w)
  unfolding is_codeword
  exact n w e h t =
      let p = and_split (eqb (get_or ls e 0) n) (eqb (codeword_of ls e) w) t in
      (eqb-true _ _ p.0, codewords_at ls e h ∙ eqb-true _ _ p.1)

  exact_starts : (n w e : ℕ) → e < length ls → is_codeword ls n w e ≡ true → Starts ls ws n w e
  exact_starts n w e h t =
      let x = exact n w e h t in
      let z : get_or ls e 0 - n ≡ 0 = omega arith in
      record { long = omega arith; same = rw z (div-one _ ∙ x.1) }

  not_before : (n w e : ℕ) → NoneBefore ls ws n w e → e ≤ length ls → (u : ℕ) → u < e → is_codeword ls n w u ≡ false
  not_before n w e h l u m = no_true (is_codeword ls n w u) (λ t. h u m (exact_starts n w u (omega arith) t))

  -- no entry begins with the bits: none is matched, now or later
  pub entry_none : (n w : ℕ) → NoneBefore ls ws n w (length ls) → entry_of ls n w ≡ none
  unfolding entry_of
  entry_none n w h = lowest-none (is_codeword ls n w) (length ls) (λ u m. not_before n w (length ls) h (omega arith) u m)

  -- a longer codeword begins with the bits: none is matched yet, since no codeword is the beginning of another
  pub entry_longer : (n w e : ℕ) → 1 ≤ n → Starts ls ws n w e → n < get_or ls e 0 → entry_of ls n w ≡ none
  unfolding entry_of
  entry_longer n w e p st l = lowest-none (is_codeword ls n w) (length ls) (λ u m. no_true (is_codeword ls n w u) (λ t.
      let x = exact n w u m t in
      let q : u ≡ e = code.not_prefix u e (omega arith) (omega arith) (omega arith) (rw (x.0, x.1) st.same) in
      let y : get_or ls e 0 ≡ n = rw q at x.0 in
      omega arith))

  -- the codeword is the bits
  pub entry_found : (n w e : ℕ) → NoneBefore ls ws n w e → e < length ls → Starts ls ws n w e → n ≡ get_or ls e 0 → entry_of ls n w ≡ some e
  unfolding entry_of is_codeword
  entry_found n w e h l st q =
      let z : get_or ls e 0 - n ≡ 0 = omega arith in
      let v : codeword_of ls e ≡ w = sym (codewords_at ls e l) ∙ sym (div-one _) ∙ (rw z at st.same) in
      lowest_is (is_codeword ls n w) (length ls) e l (rw (eq-eqb _ _ (sym q), eq-eqb _ _ v)) (λ u m. not_before n w e h (omega arith) u m)

  module _ (s : List ℕ) (k : ℕ) where
    -- nothing is matched ever after
    pub never : (m n : ℕ) → NoneBefore ls ws n (bits_at s k n) (length ls) → matching ls n m s k ≡ bad (refusal 1 k)
    unfolding matching
    never zero n h = refl
    never (suc m) n h =
        let h' = none_fewer ls ws s k n (length ls) h in
        let e = entry_none (suc n) (bits_at s k (suc n)) h' in
        rw e (same (ltb (k + n) (8 * length s)) (never m (suc n) h'))
      where
        same : (b : Bool) {o : Outcome (ℕ × ℕ)} → o ≡ bad (refusal 1 k) → need b (refusal 1 k) o ≡ bad (refusal 1 k)
        same true q = q
        same false q = refl

    -- a turn: a bit more that is there
    module _ (n : ℕ) (few : n < 32) (there : k + n < 8 * length s) where
      turn : matching ls n (32 - n) s k ≡ or_go_on (entry_of ls (n + 1) (bits_at s k (n + 1))) (k + (n + 1)) (matching ls (n + 1) (32 - (n + 1)) s k)
      unfolding matching
      turn = let e : 32 - n ≡ suc (32 - (n + 1)) = omega arith in rw (e, lt-ltb _ _ there, add-one)

      pub turn_never : NoneBefore ls ws (n + 1) (bits_at s k (n + 1)) (length ls) → matching ls n (32 - n) s k ≡ bad (refusal 1 k)
      turn_never h = turn ∙ rw (entry_none (n + 1) (bits_at s k (n + 1)) h) (never (32 - (n + 1)) (n + 1) h)

      pub turn_on : (e : ℕ) → Starts ls ws (n + 1) (bits_at s k (n + 1)) e → n + 1 < get_or ls e 0
          → matching ls n (32 - n) s k ≡ matching ls (n + 1) (32 - (n + 1)) s k
      turn_on e st l = turn ∙ rw (entry_longer (n + 1) (bits_at s k (n + 1)) e (omega arith) st l)

      pub turn_found : (e : ℕ) → NoneBefore ls ws (n + 1) (bits_at s k (n + 1)) e → e < length ls → Starts ls ws (n + 1) (bits_at s k (n + 1)) e
          → n + 1 ≡ get_or ls e 0 → matching ls n (32 - n) s k ≡ ok (e, k + (n + 1))
      turn_found e h l st q = turn ∙ rw (entry_found (n + 1) (bits_at s k (n + 1)) e h l st q)

-- no bit is left to take, or no bit is there
module _ (ls s : List ℕ) (k : ℕ) where
  pub turn_end : (n : ℕ) → n ≡ 32 → matching ls n (32 - n) s k ≡ bad (refusal 1 k)
  unfolding matching
  turn_end n e = let z : 32 - n ≡ 0 = omega arith in rw z

  pub turn_cut : (n : ℕ) → 8 * length s ≤ k + n → matching ls n (32 - n) s k ≡ bad (refusal 1 k)
  unfolding matching
  turn_cut n h = go (32 - n)
    where
      go : (m : ℕ) → matching ls n m s k ≡ bad (refusal 1 k)
      go zero = refl
      go (suc m) = rw (le-ltb (k + n) (8 * length s) h)
