-- What is known of the fields before the plan where they were accepted: the width of each field, refusals 10 and 11. Assumes nothing.
use Prim.Native.Nat.{ℕ, ◌+◌, ◌^◌, ◌<◌}
use native.Mathlib.Omega.{arith}
use mathlib.Core.Bool.{true}
use mathlib.Core.List.{List}
use mathlib.Core.Path.{◌≡◌, refl, sym, ap}
use lib.Dec.{leb, ltb}
use Rattle.reading.specs.Outcome.{Outcome, ok}
use Rattle.reading.specs.Reader.{judged}
use Rattle.reading.specs.Counted.{Counted}
use Rattle.reading.proofs.Outcomes.{same_ok, then_ok, judged-ok}
use Rattle.bits.specs.Field.{field}
use Rattle.bits.proofs.Fields.{field-ok}
use Rattle.rules.specs.Rules as Rule
use Rattle.residue.specs.Reading.{Head, head_from, head}

pub record HeadSound (count : ℕ) (h : Head) : Type 0 where
  pub type : Rule.meets10 (Rule.residue_type h.type) ≡ true
  pub begin : h.begin < 2 ^ 24
  pub end : h.end < 2 ^ 24
  pub size : Counted (2 ^ 24) h.size
  pub classifications : Counted 64 h.classifications
  pub classbook : Rule.meets11 (Rule.book count h.classbook) ≡ true

pub head_sound : (count : ℕ) (s : List ℕ) (k : ℕ) {h : Head} {n : ℕ} → head count s k ≡ ok (h, n) → HeadSound count h
unfolding head head_from
head_sound count s k {h} {n} e =
    let a = then_ok (judged (λ v. leb v 2) 10 (field 16) s k) _ e in
    let ja = judged-ok (λ v. leb v 2) 10 (field 16) s k a.1 in
    let b = then_ok (field 24 s a.0.1) _ a.2 in
    let c = then_ok (field 24 s b.0.1) _ b.2 in
    let d = then_ok (field 24 s c.0.1) _ c.2 in
    let f = then_ok (field 6 s d.0.1) _ d.2 in
    let g = then_ok (judged (λ v. ltb v count) 11 (field 8) s f.0.1) _ f.2 in
    let jg = judged-ok (λ v. ltb v count) 11 (field 8) s f.0.1 g.1 in
    let made : Head = record { type = a.0.0; begin = b.0.0; end = c.0.0; size = d.0.0 + 1; classifications = f.0.0 + 1; classbook = g.0.0 } in
    let p : ◌≡◌ {A = Outcome (Head × ℕ)} (ok (made, g.0.1)) (ok (h, n)) = g.2 in
    let same : ◌≡◌ {A = Head × ℕ} (made, g.0.1) (h, n) = same_ok (ok (made, g.0.1)) refl p in
    let u = (field-ok s a.0.1 24 {v = b.0.0} {n = b.0.1} b.1).below in
    let v = (field-ok s b.0.1 24 {v = c.0.0} {n = c.0.1} c.1).below in
    let w = (field-ok s c.0.1 24 {v = d.0.0} {n = d.0.1} d.1).below in
    let x = (field-ok s d.0.1 6 {v = f.0.0} {n = f.0.1} f.1).below in
    let sound : HeadSound count made =
    record {
      type = ja.1;
      begin = u;
      end = v;
      size = record { low = omega arith; high = omega arith };
      classifications = record { low = omega arith; high = omega arith };
      classbook = jg.1;
    } in
    rw (ap (λ (z : Head × ℕ). z.0) (sym same)) sound
