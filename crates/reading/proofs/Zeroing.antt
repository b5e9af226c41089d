-- Whether a list holds zeros alone, by a loop that joins its numbers. Assumes nothing.
use Prim.Native.Nat.{ℕ, ◌+◌, ◌≤◌, ◌<◌}
use native.Mathlib.Numerals.{add-one}
use mathlib.Core.List.{List, ◌∷◌}
use mathlib.Core.Logic.{◌↔◌}
use mathlib.Core.Path.{◌≡◌, refl, sym, subst}
use lib.ListN.{length, get_or, drop, drop_of_length-le}
use lib.Seq.{drop-cons}
use Rattle.reading.specs.Numbers.{JoinLaws}
use Rattle.reading.specs.Encoding.{AllAre}

module _ {A : Type 0} (z : A) where
  first : {x : A} {l : List A} → AllAre z (x ∷ l) → x ≡ z
  first {x} {l} q = cc

  rest : {x : A} {l : List A} → AllAre z (x ∷ l) → AllAre z l
  rest {x} {l} q = cc

  whole : {x : A} {l : List A} → x ≡ z → AllAre z l → AllAre z (x ∷ l)
  whole {x} {l} e q = cc

  -- the numbers before i are zeros where `any` is, and all depends on the others
  pub record Zeroing (cells : List A) (i : ℕ) (any : A) : Type 0 where
    pub left : AllAre z cells ↔ ((any ≡ z) × AllAre z (drop i cells))

  pub zeros_start : (cells : List A) → Zeroing cells 0 z
  zeros_start cells = record { left = ((λ e. (refl, e)), (λ e. e.1)) }

  module _ (joined : A → A → A) (laws : JoinLaws z joined) (cells : List A) (i : ℕ) (any : A) (s : Zeroing cells i any) where
    pub zeros_next : (x : A) → i < length cells → get_or cells i x ≡ x → Zeroing cells (i + 1) (joined any x)
    zeros_next x h e =
        let d : drop i cells ≡ x ∷ drop (i + 1) cells = rw (drop-cons cells i x h, e, add-one) in
        record {
          left = (
            (λ a. let t = s.left.0 a in let q = subst (AllAre z) d t.1 in (both t.0 (first q), rest q)),
            (λ b. let n = laws.both any x b.0 in s.left.1 (n.0, subst (AllAre z) (sym d) (whole n.1 b.1))),
          );
        }
      where
        both : {a b : A} → a ≡ z → b ≡ z → joined a b ≡ z
        both {a} {b} p q = rw (p, q) laws.none

  pub zeros_end : (cells : List A) (i : ℕ) (any : A) → Zeroing cells i any → length cells ≤ i → (any ≡ z) ↔ AllAre z cells
  zeros_end cells i any s h = (
    (λ e. s.left.1 (e, rw (drop_of_length-le cells h) refl)),
    (λ a. (s.left.0 a).0),
  )

  -- nothing lies behind the end
  pub zeros_past : (cells : List A) (i : ℕ) → length cells ≤ i → AllAre z (drop i cells)
  zeros_past cells i h = rw (drop_of_length-le cells h) refl
