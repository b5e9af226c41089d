-- An accepted class meets every rule. Assumes nothing.
use Prim.Native.Nat.{ℕ, zero, suc, ◌+◌, ◌^◌, ◌<◌, ◌≤◌}
use native.Mathlib.Omega.{arith}
use borrow.Author.Tests.{le-leb, ltb-true, eqb-true, eqb-false}
use mathlib.Core.Bool.{true, Bool, false, cond}
use mathlib.Core.List.{List}
use mathlib.Core.Path.{◌≡◌, subst, refl, sym, ap}
use lib.Dec.{leb, eqb, ltb}
use Rattle.reading.specs.Outcome.{ok}
use Rattle.reading.specs.Reader.{many, judged, mapped}
use Rattle.reading.specs.Encoding.{Each}
use Rattle.reading.proofs.Outcomes.{then_ok, judged-ok, ok_is}
use Rattle.reading.proofs.Accepted.{many_cons, many-all, many_number}
use Rattle.reading.proofs.Readers.{mapped_ok}
use Rattle.bits.specs.Field.{field}
use Rattle.bits.proofs.Fields.{field-ok}
use Rattle.floor.specs.Content.{Class}
use Rattle.floor.specs.ClassReading.{master_book, subclass_book, class}
use Rattle.floor.specs.Inner.Valid.{ValidClass}

-- which master books are accepted: none without subclass bits, some with them, and one that is set up
pub master_ok : (books subclasses : ℕ) (s : List ℕ) (k : ℕ) {m n : ℕ} → master_book books subclasses s k ≡ ok (m, n)
    → (subclasses ≡ 0 → m ≡ 0) × ((subclasses ≡ 0 → ⊥) → 1 ≤ m) × (m ≤ books)
unfolding master_book
master_ok books subclasses s k {m} {n} e = go (eqb subclasses 0) refl e
  where
    go : (b : Bool) → eqb subclasses 0 ≡ b → cond b (ok (0, k)) (mapped suc (judged (λ v. ltb v books) 11 (field 8) s k)) ≡ ok (m, n)
        → (subclasses ≡ 0 → m ≡ 0) × ((subclasses ≡ 0 → ⊥) → 1 ≤ m) × (m ≤ books)
    go true p q =
        let t : ◌≡◌ {A = ℕ × ℕ} (0, k) (m, n) = cc in
        let z : 0 ≡ m = ap (λ (x : ℕ × ℕ). x.0) t in
        ((λ h. sym z), (λ h. absurd (h (eqb-true _ _ p))), omega arith)
    go false p q =
        let a = mapped_ok suc (judged (λ v. ltb v books) 11 (field 8) s k) q in
        let j = judged-ok (λ v. ltb v books) 11 (field 8) s k a.1 in
        let l : a.0 < books = ltb-true a.0 books j.1 in
        let x : suc a.0 ≡ m = a.2 in
        ((λ h. absurd (eqb-false _ _ p h)), (λ h. omega arith), omega arith)

pub class_valid : (books : ℕ) (s : List ℕ) (k : ℕ) {x : Class × ℕ} → class books s k ≡ ok x → ValidClass books x.0
unfolding class subclass_book
class_valid books s k {x} e =
    let d = then_ok (field 3 s k) _ e in
    let u = then_ok (field 2 s d.0.1) _ d.2 in
    let m = then_ok (master_book books u.0.0 s u.0.1) _ u.2 in
    let l = then_ok (many (subclass_book books) (2 ^ u.0.0) s m.0.1) _ m.2 in
    let df = field-ok s k 3 d.1 in
    let uf = field-ok s d.0.1 2 u.1 in
    let dl = df.below in
    let ul = uf.below in
    let mf = master_ok books u.0.0 s u.0.1 m.1 in
    let same : ◌≡◌ {A = Class × ℕ} (record { dimensions = d.0.0 + 1; subclasses = u.0.0; master = m.0.0; books = l.0.0 }, l.0.1) x = ok_is l.2 in
    subst (λ (y : Class × ℕ). ValidClass books y.0) same
    (record {
      carried = record {
        dimensions = record { low = omega arith; high = omega arith };
        subclasses = omega arith;
        no_master = mf.0;
        some_master = mf.1;
        count = many_number (subclass_book books) s (2 ^ u.0.0) m.0.1 l.1;
        books = many-all (λ b. leb b 255) (subclass_book books) s (λ j y g. below_256 j (judged-ok (λ b. leb b books) 11 (field 8) s j g).0) (2 ^ u.0.0) m.0.1 l.1;
      };
      rules = record {
        master = le-leb m.0.0 books mf.2;
        subclasses = many-all (λ b. leb b books) (subclass_book books) s (λ j y g. (judged-ok (λ b. leb b books) 11 (field 8) s j g).1) (2 ^ u.0.0) m.0.1 l.1;
      };
    })
  where
    below_256 : (j : ℕ) {y : ℕ × ℕ} → field 8 s j ≡ ok y → leb y.0 255 ≡ true
    below_256 j {y} g = let h = (field-ok s j 8 g).below in le-leb y.0 255 (omega arith)

pub classes_valid : (books : ℕ) (s : List ℕ) (n k : ℕ) {x : List Class × ℕ} → many (class books) n s k ≡ ok x → Each (ValidClass books) x.0
unfolding Each many
classes_valid books s zero k {x} e = subst (λ (y : List Class × ℕ). Each (ValidClass books) y.0) (ok_is e) tt
classes_valid books s (suc n) k {x} e =
    let c = many_cons (class books) n s k e in
    subst (λ (y : List Class × ℕ). Each (ValidClass books) y.0) c.4 (class_valid books s k c.2, classes_valid books s n c.0.1 c.3)
