-- What is known of a multiplier, range bits and an X list that were accepted. Assumes nothing.
use Prim.Native.Nat.{ℕ, ◌+◌, ◌^◌, ◌≤◌}
use native.Mathlib.Omega.{arith}
use borrow.Author.Tests.{leb-true}
use mathlib.Core.Bool.{true, Bool, false, cond}
use mathlib.Core.List.{List}
use mathlib.Core.Path.{◌≡◌, subst, refl}
use lib.Dec.{ltb, leb}
use lib.ListN.{length}
use Rattle.reading.specs.Outcome.{ok, refusal, bad, then}
use Rattle.reading.specs.Lists.{distinct, all}
use Rattle.reading.specs.Reader.{many}
use Rattle.reading.proofs.Outcomes.{then_ok, need-ok, ok_is}
use Rattle.reading.proofs.Accepted.{many-all, many_number}
use Rattle.bits.specs.Field.{field}
use Rattle.bits.proofs.Fields.{field-ok}
use Rattle.numbers.proofs.Accepted.{field_below}
use Rattle.floor.specs.Content.{x_list}
use Rattle.floor.specs.XListReading.{x_values, Ends, ends_from, ends}

-- what accepted X values are
pub values_ok : (place b n : ℕ) (s : List ℕ) (k : ℕ) {xs : List ℕ} {j : ℕ} → x_values place b n s k ≡ ok (xs, j) → (n ≤ 63) × (many (field b) n s k ≡ ok (xs, j))
unfolding x_values
values_ok place b n s k {xs} {j} e = go (leb n 63) refl e
  where
    go : (t : Bool) → leb n 63 ≡ t → cond t (many (field b) n s k) (then (many (field b) 63 s k) (λ _. bad (refusal 12 place))) ≡ ok (xs, j) → (n ≤ 63) × (many (field b) n s k ≡ ok (xs, j))
    go true p q = (leb-true _ _ p, q)
    go false p q = let a = then_ok (many (field b) 63 s k) (λ _. bad (refusal 12 place)) q in let z : ◌≡◌ {A = ℕ} 0 1 = cc in absurd (omega arith)

pub record EndsFit (n : ℕ) (e : Ends) : Type 0 where
  pub multiplier_low : 1 ≤ e.multiplier
  pub multiplier_high : e.multiplier ≤ 4
  pub rangebits : e.rangebits ≤ 15
  pub long : length e.xs ≡ n
  pub few : n ≤ 63
  pub in_range : all (λ x. ltb x (2 ^ e.rangebits)) e.xs ≡ true
  pub different : distinct (x_list e.rangebits e.xs) ≡ true

pub ends_fit : (place n : ℕ) (s : List ℕ) (k : ℕ) {x : Ends × ℕ} → ends place n s k ≡ ok x → EndsFit n x.0
unfolding ends ends_from
ends_fit place n s k {x} e =
    let m = then_ok (field 2 s k) _ e in
    let b = then_ok (field 4 s m.0.1) _ m.2 in
    let v = then_ok (x_values place b.0.0 n s b.0.1) _ b.2 in
    let d = need-ok (distinct (x_list b.0.0 v.0.0)) (refusal 12 place) _ v.2 in
    let f = values_ok place b.0.0 n s b.0.1 v.1 in
    let mf = field-ok s k 2 m.1 in
    let bf = field-ok s m.0.1 4 b.1 in
    let ml = mf.below in
    let bl = bf.below in
    let same : ◌≡◌ {A = Ends × ℕ} (record { multiplier = m.0.0 + 1; rangebits = b.0.0; xs = v.0.0 }, v.0.1) x = ok_is d.1 in
    subst (λ (y : Ends × ℕ). EndsFit n y.0) same
    (record {
      multiplier_low = omega arith;
      multiplier_high = omega arith;
      rangebits = omega arith;
      long = many_number (field b.0.0) s n b.0.1 f.1;
      few = f.0;
      in_range = many-all (λ x. ltb x (2 ^ b.0.0)) (field b.0.0) s (field_below b.0.0 s) n b.0.1 f.1;
      different = d.0;
    })
