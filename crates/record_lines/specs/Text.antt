-- Text as bytes: a quoted text's ASCII codes, and a number's decimal digits. Assumes nothing.
use Prim.Native.Char.{code}
use Rattle.std.specs.Prelude.{ℕ, zero, suc, ◌+◌, ◌/◌, ◌%◌, cond, List, [], ◌∷◌, ◌++◌, ◌≡◌, refl, ltb}
use Prim.Native.String.{String, len, char_at}

-- the codes of so many characters from a place on
unfoldable pub codes_from : String → ℕ → ℕ → List ℕ
codes_from s k zero = []
codes_from s k (suc n) = code (char_at s k) ∷ codes_from s (k + 1) n

unfoldable pub text : String → List ℕ
text s = codes_from s 0 (len s)

-- the last digits of a number, so many at the most, without zeros in front
unfoldable pub last_digits_of : ℕ → ℕ → List ℕ
last_digits_of zero n = []
last_digits_of (suc k) n = cond (ltb n 10) ((48 + n) ∷ []) (last_digits_of k (n / 10) ++ ((48 + n % 10) ∷ []))

-- a number below 2^64, which has 20 digits at the most
unfoldable pub decimal : ℕ → List ℕ
decimal n = last_digits_of 20 n

-- 01's own figures as text
figures : (text "end " ++ decimal 2 ++ text "\n" ≡ 101 ∷ 110 ∷ 100 ∷ 32 ∷ 50 ∷ 10 ∷ []) × (decimal 18446744073709551615 ≡ text "18446744073709551615")
unfolding decimal last_digits_of text codes_from
figures = (refl, refl)
