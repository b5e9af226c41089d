-- A LOOKUP THAT WAS READ meets every rule: its type, its numbers, how many multiplicands it has and how wide they are. By the way out that was taken.
-- Assumes nothing.
use Prim.Native.Nat.{ℕ, ◌+◌, ◌^◌, ◌≤◌, ◌<◌}
use native.Mathlib.Omega.{arith}
use borrow.Author.Tests.{leb-true, lt-ltb, eqb-false}
use mathlib.Core.Bool.{Bool, true, false, cond}
use mathlib.Core.List.{List}
use mathlib.Core.Path.{◌≡◌, refl, sym, ap, ◌∙◌}
use lib.Dec.{eqb, leb, ltb}
use lib.ListN.{length}
use Rattle.reading.specs.Outcome.{ok, then, refusal, Outcome, need}
use Rattle.reading.specs.Reader.{judged, many}
use Rattle.reading.specs.Lists.{all}
use Rattle.reading.proofs.Outcomes.{then_ok, need-ok, judged-ok, same_ok, then_into}
use Rattle.reading.proofs.Accepted.{many_number, many-all}
use Rattle.bits.specs.Field.{field}
use Rattle.bits.proofs.Fields.{field-ok}
use Rattle.book.specs.LookupReading.{Lookup, no_lookup, value_count, values, lookup}
use Rattle.book.specs.Inner.LookupParts.{parameters}
use Rattle.book.specs.declared.Parameters.{Parameters}

abbrev pub with_values : ℕ → Parameters → List ℕ → Lookup
with_values type p list =
    record { lookup = type; minimum = p.minimum; delta = p.delta; width = p.width; sequence = p.sequence; multiplicands = list }

abbrev pub after_parameters : ℕ → ℕ → ℕ → ℕ → ℕ → List ℕ → Parameters × ℕ → Outcome (Lookup × ℕ)
after_parameters place type count most before s p =
    need (leb (before + count) most) (refusal 14 place) (then (many (field p.0.width) count s p.1) (λ list. ok (with_values type p.0 list.0, list.1)))

pub values_as : (place type count most before : ℕ) (s : List ℕ) (k : ℕ) → values place type count most before s k ≡ then (parameters s k) (after_parameters place type count most before s)
unfolding values parameters
values_as place type count most before s k =
    let h = after_parameters place type count most before s in
    then_into h (field 32 s k) _ _ (λ minimum.
    then_into h (field 32 s minimum.1) _ _ (λ delta.
    then_into h (field 4 s delta.1) _ _ (λ width.
    then_into h (field 1 s width.1) _ _ (λ sequence. refl))))

-- what is known of the four numbers
pub record Narrow (p : Parameters) : Type 0 where
  pub minimum : p.minimum < 4294967296
  pub delta : p.delta < 4294967296
  pub width_low : 1 ≤ p.width
  pub width_high : p.width ≤ 16
  pub sequence : p.sequence ≤ 1

pub parameters-ok : (s : List ℕ) (k : ℕ) {p : Parameters} {n : ℕ} → parameters s k ≡ ok (p, n) → Narrow p
unfolding parameters
parameters-ok s k {p} {n} e =
    let a = then_ok (field 32 s k) _ e in
    let b = then_ok (field 32 s a.0.1) _ a.2 in
    let c = then_ok (field 4 s b.0.1) _ b.2 in
    let d = then_ok (field 1 s c.0.1) _ c.2 in
    let q : ◌≡◌ {A = Parameters × ℕ} (record { minimum = a.0.0; delta = b.0.0; width = c.0.0 + 1; sequence = d.0.0 }, d.0.1) (p, n)
    = same_ok (ok (record { minimum = a.0.0; delta = b.0.0; width = c.0.0 + 1; sequence = d.0.0 }, d.0.1)) refl d.2 in
    let p₁ = (field-ok s k 32 a.1).below in
    let p₂ = (field-ok s a.0.1 32 b.1).below in
    let p₃ = (field-ok s b.0.1 4 c.1).below in
    let p₄ = (field-ok s c.0.1 1 d.1).below in
    rw (← (ap (λ (x : Parameters × ℕ). x.0) q)) (record { minimum = omega arith; delta = omega arith; width_low = omega arith; width_high = omega arith; sequence = omega arith })

pub record LookupKnown (entries dimensions most before : ℕ) (l : Lookup) : Type 0 where
  pub lookup : l.lookup ≤ 2
  pub none : l.lookup ≡ 0 → l ≡ no_lookup
  pub some : (l.lookup ≡ 0 → ⊥) → Narrow (record { minimum = l.minimum; delta = l.delta; width = l.width; sequence = l.sequence })
      × (length l.multiplicands ≡ value_count l.lookup entries dimensions) × (all (λ v. ltb v (2 ^ l.width)) l.multiplicands ≡ true)
  pub within : before ≤ most → before + length l.multiplicands ≤ most

values_known : (place type count most before : ℕ) (s : List ℕ) (k : ℕ) {l : Lookup} {j : ℕ} → values place type count most before s k ≡ ok (l, j)
    → (l.lookup ≡ type) × Narrow (record { minimum = l.minimum; delta = l.delta; width = l.width; sequence = l.sequence })
    × (length l.multiplicands ≡ count) × (all (λ v. ltb v (2 ^ l.width)) l.multiplicands ≡ true) × (before + count ≤ most)
values_known place type count most before s k {l} {j} e =
    let a = then_ok (parameters s k) (after_parameters place type count most before s) (sym (values_as place type count most before s k) ∙ e) in
    let p : Parameters = a.0.0 in
    let n = need-ok (leb (before + count) most) (refusal 14 place) (then (many (field a.0.0.width) count s a.0.1) (λ list. ok (with_values type a.0.0 list.0, list.1))) a.2 in
    let b = then_ok (many (field a.0.0.width) count s a.0.1) _ n.1 in
    let q : ◌≡◌ {A = Lookup × ℕ} (with_values type a.0.0 b.0.0, b.0.1) (l, j) = same_ok (ok (with_values type a.0.0 b.0.0, b.0.1)) refl b.2 in
    let m = many_number (field a.0.0.width) s count a.0.1 b.1 in
    let t = many-all (λ v. ltb v (2 ^ a.0.0.width)) (field a.0.0.width) s (λ k x h. lt-ltb x.0 (2 ^ a.0.0.width) (field-ok s k a.0.0.width h).below) count a.0.1 b.1 in
    rw (← (ap (λ (x : Lookup × ℕ). x.0) q)) (refl, parameters-ok s k a.1, m, t, leb-true _ _ n.0)

pub lookup_known : (place entries dimensions most before : ℕ) (s : List ℕ) (k : ℕ) {l : Lookup} {j : ℕ} → lookup place entries dimensions most before s k ≡ ok (l, j)
    → LookupKnown entries dimensions most before l
unfolding lookup
lookup_known place entries dimensions most before s k {l} {j} e =
    let a = then_ok (judged (λ v. leb v 2) 6 (field 4) s k) _ e in
    let t : a.0.0 ≤ 2 = leb-true _ _ (judged-ok (λ v. leb v 2) 6 (field 4) s k a.1).1 in
    go a.0.0 a.0.1 t (eqb a.0.0 0) refl a.2
  where
    go : (type i : ℕ) → type ≤ 2 → (b : Bool) → eqb type 0 ≡ b → cond b (ok (no_lookup, i)) (values place type (value_count type entries dimensions) most before s i) ≡ ok (l, j)
        → LookupKnown entries dimensions most before l
    go type i t true p f =
        let q : ◌≡◌ {A = Lookup × ℕ} (no_lookup, i) (l, j) = same_ok (ok (no_lookup, i)) refl f in
        rw (← (ap (λ (x : Lookup × ℕ). x.0) q)) (record { lookup = omega arith; none = λ z. refl; some = λ n. absurd (n refl); within = λ h. omega arith })
    go type i t false p f =
        let v = values_known place type (value_count type entries dimensions) most before s i f in
        let v₀ : l.lookup ≡ type = v.0 in
        let v₂ = v.2 in
        let v₄ = v.4 in
        let n = eqb-false type 0 p in
        record {
          lookup = omega arith;
          none = λ z. absurd (n (sym v₀ ∙ z));
          some = λ z. (v.1, v.2 ∙ ap (λ (x : ℕ). value_count x entries dimensions) (sym v₀), v.3);
          within = λ h. omega arith;
        }
