-- A HEAD THAT WAS READ meets every rule: by the judgement of each field, and its width. Assumes nothing.
use Prim.Native.Nat.{ℕ, ◌+◌, ◌≤◌, ◌<◌}
use native.Mathlib.Omega.{arith}
use borrow.Author.Tests.{leb-true}
use mathlib.Core.Bool.{not}
use mathlib.Core.List.{List}
use mathlib.Core.Path.{◌≡◌, refl, ap}
use lib.Dec.{eqb, leb}
use Rattle.reading.specs.Outcome.{ok}
use Rattle.reading.specs.Reader.{Reader, judged}
use Rattle.reading.proofs.Outcomes.{then_ok, judged-ok, same_ok}
use Rattle.reading.proofs.Basics.{tested_above_zero}
use Rattle.bits.specs.Field.{field}
use Rattle.bits.proofs.Fields.{field-ok}
use Rattle.limits.specs.declared.Limits.{Limits}
use Rattle.book.specs.HeadReading.{Before, head}
use Rattle.book.specs.declared.Head.{Head}

pub record HeadKnown (l : Limits) (before : Before) (h : Head) : Type 0 where
  pub dimensions_low : 1 ≤ h.dimensions
  pub dimensions_high : h.dimensions < 65536
  pub entries_low : 1 ≤ h.entries
  pub entries_high : h.entries < 16777216
  pub entries_book : h.entries ≤ l.book_entries
  pub entries_all : before.entries + h.entries ≤ l.entries

pub head_ok : (l : Limits) (before : Before) (s : List ℕ) (k : ℕ) {h : Head} {n : ℕ} → head l before s k ≡ ok (h, n) → HeadKnown l before h
unfolding head
head_ok l before s k {h} {n} e =
    let a = then_ok (judged (λ v. eqb v 0x564342) 6 (field 24) s k) _ e in
    let b = then_ok (judged (λ v. not (eqb v 0)) 6 (field 16) s a.0.1) _ a.2 in
    let some : Reader ℕ = judged (λ v. not (eqb v 0)) 6 (field 24) in
    let few : Reader ℕ = judged (λ v. leb v l.book_entries) 14 some in
    let c = then_ok (judged (λ v. leb (before.entries + v) l.entries) 14 few s b.0.1) _ b.2 in
    let q : ◌≡◌ {A = Head × ℕ} (record { dimensions = b.0.0; entries = c.0.0 }, c.0.1) (h, n)
    = same_ok (ok (record { dimensions = b.0.0; entries = c.0.0 }, c.0.1)) refl c.2 in
    let d = judged-ok (λ v. not (eqb v 0)) 6 (field 16) s a.0.1 b.1 in
    let c₁ = judged-ok (λ v. leb (before.entries + v) l.entries) 14 few s b.0.1 c.1 in
    let c₂ = judged-ok (λ v. leb v l.book_entries) 14 some s b.0.1 c₁.0 in
    let c₃ = judged-ok (λ v. not (eqb v 0)) 6 (field 24) s b.0.1 c₂.0 in
    let d₁ = (field-ok s a.0.1 16 d.0).below in
    let c₄ = (field-ok s b.0.1 24 c₃.0).below in
    rw (← (ap (λ (x : Head × ℕ). x.0) q))
    (record {
      dimensions_low = tested_above_zero b.0.0 d.1;
      dimensions_high = omega arith;
      entries_low = tested_above_zero c.0.0 c₃.1;
      entries_high = omega arith;
      entries_book = leb-true _ _ c₂.1;
      entries_all = leb-true _ _ c₁.1;
    })
