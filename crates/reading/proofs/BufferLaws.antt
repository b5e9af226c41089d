-- Laws of clearing a list from the front, and of reading and storing past its end, stated once for numbers of every width:
-- proofs/buffers cites them. Assumes nothing.
use mathlib.Core.Path.{◌≡◌, refl, sym, ap, ◌∙◌}
use mathlib.Core.List.{List, [], ◌∷◌, ◌++◌, append-nil}
use Prim.Native.Nat.{ℕ, zero, suc, ◌+◌, ◌<◌, ◌≤◌}
use native.Mathlib.Nat.{not-suc-le-zero, le_of_suc-le-suc}
use native.Mathlib.Numerals.{add-one}
use native.Mathlib.Omega.{arith}
use lib.ListN.{length, get_or, set, drop, replicate, length-set, get_or-eq_default}
use lib.Seq.{drop-length, set_out}

module _ {A : Type 0} (z : A) where
  fill_suc : (n : ℕ) (d : List A) → n < length d → set (replicate n z ++ drop n d) n z ≡ replicate (suc n) z ++ drop (suc n) d
  fill_suc n [] l = absurd (not-suc-le-zero l)
  fill_suc zero (x ∷ d) l = refl
  fill_suc (suc n) (x ∷ d) l = ap (λ (t : List A). z ∷ t) (fill_suc n d (le_of_suc-le-suc l))

  -- the first i places of entry are cleared, the others as they were
  pub record Clearing (entry now : List A) (i : ℕ) : Type 0 where
    pub within : i ≤ length entry
    pub long : length now ≡ length entry
    pub rest : now ≡ replicate i z ++ drop i entry

  pub clear_start : (entry : List A) → Clearing entry entry 0
  clear_start entry = record { within = omega arith; long = refl; rest = refl }

  pub clear_turn : (entry now : List A) (i : ℕ) → i < length entry → Clearing entry now i → Clearing entry (set now i z) (i + 1)
  clear_turn entry now i h w =
      let long = w.long in
      record {
        within = omega arith;
        long = simp length-set w.long;
        rest = ap (λ (t : List A). set t i z) w.rest ∙ rw add-one (fill_suc i entry h);
      }

  pub clear_end : (entry now : List A) (i : ℕ) → length entry ≤ i → Clearing entry now i → now ≡ replicate (length entry) z
  clear_end entry now i h w =
      let within = w.within in
      let same : i ≡ length entry = omega arith in
      w.rest
      ∙ ap (λ (j : ℕ). replicate j z ++ drop j entry) same
      ∙ ap (λ (t : List A). replicate (length entry) z ++ t) (drop-length entry)
      ∙ append-nil (replicate (length entry) z)

  -- a store past the end stores nothing, a read past the end reads zero
  pub put_past : (entry : List A) (i : ℕ) (v : A) → length entry ≤ i → entry ≡ set entry i v
  put_past entry i v h = sym (set_out entry i v h)

  pub get_past : (entry : List A) (i : ℕ) → length entry ≤ i → z ≡ get_or entry i z
  get_past entry i h = sym (get_or-eq_default entry z h)
