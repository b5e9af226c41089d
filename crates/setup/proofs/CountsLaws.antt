-- The table of counts: five numbers and zeros behind them. Assumes nothing.
use Prim.Native.Nat.{ℕ, ◌+◌, ◌-◌, ◌≤◌}
use native.Mathlib.Omega.{arith}
use mathlib.Core.List.{List, [], ◌∷◌, ◌++◌, append-nil}
use mathlib.Core.Path.{◌≡◌, refl, sym, ap, subst, ◌∙◌}
use lib.ListN.{length, get_or, drop, replicate, length-replicate}
use Rattle.reading.specs.Pad.{pad}
use Rattle.reading.specs.Encoding.{Zeros}
use Rattle.reading.proofs.Pads.{pad_nil}
use Rattle.reading.proofs.Encodes.{pad_append}

-- the five numbers in front of zeros, as the writing-out has them
abbrev pub five : ℕ → ℕ → ℕ → ℕ → ℕ → List ℕ
five a b c d e = a ∷ b ∷ c ∷ d ∷ e ∷ []

pub five_written : (cs : List ℕ) → 5 ≤ length cs → Zeros (drop 5 cs)
    → cs ≡ pad (length cs) (five (get_or cs 0 0) (get_or cs 1 0) (get_or cs 2 0) (get_or cs 3 0) (get_or cs 4 0))
unfolding pad
five_written [] h z = absurd (omega arith)
five_written (a ∷ []) h z = absurd (omega arith)
five_written (a ∷ b ∷ []) h z = absurd (omega arith)
five_written (a ∷ b ∷ c ∷ []) h z = absurd (omega arith)
five_written (a ∷ b ∷ c ∷ d ∷ []) h z = absurd (omega arith)
five_written (a ∷ b ∷ c ∷ d ∷ e ∷ l) h z = ap (λ (k : List ℕ). a ∷ b ∷ c ∷ d ∷ e ∷ k) (z ∙ sym (pad_nil (length l)))

-- and back
pub record Five (cs : List ℕ) (a b c d e : ℕ) : Type 0 where
  pub first : get_or cs 0 0 ≡ a
  pub second : get_or cs 1 0 ≡ b
  pub third : get_or cs 2 0 ≡ c
  pub fourth : get_or cs 3 0 ≡ d
  pub fifth : get_or cs 4 0 ≡ e
  pub after : Zeros (drop 5 cs)

five_of : (n : ℕ) (a b c d e : ℕ) → Five (a ∷ b ∷ c ∷ d ∷ e ∷ replicate n 0) a b c d e
five_of n a b c d e =
    record { first = refl; second = refl; third = refl; fourth = refl; fifth = refl; after = ap (λ (k : ℕ). replicate k 0) (sym (length-replicate n 0)) }

pub written_five : (cs : List ℕ) (a b c d e : ℕ) → 5 ≤ length cs → cs ≡ pad (length cs) (five a b c d e) → Five cs a b c d e
written_five cs a b c d e h w = subst (λ (l : List ℕ). Five l a b c d e) (sym (w ∙ go (length cs) h)) (five_of (length cs - 5) a b c d e)
  where
    go : (n : ℕ) → 5 ≤ n → pad n (five a b c d e) ≡ a ∷ b ∷ c ∷ d ∷ e ∷ replicate (n - 5) 0
    go n h =
        let k : n ≡ length (five a b c d e) + (n - 5) = omega arith in
        ap (λ (m : ℕ). pad m (five a b c d e)) k ∙ ap (pad (length (five a b c d e) + (n - 5))) (sym (append-nil (five a b c d e)))
        ∙ pad_append (five a b c d e) [] (n - 5) ∙ ap (λ (l : List ℕ). five a b c d e ++ l) (pad_nil (n - 5))
