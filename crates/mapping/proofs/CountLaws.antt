-- How large a mapping's two counts are. Assumes nothing.
use Prim.Native.Nat.{ℕ, suc, ◌^◌, ◌≤◌}
use native.Mathlib.Omega.{arith}
use mathlib.Core.Bool.{Bool, true, false, cond}
use mathlib.Core.List.{List}
use mathlib.Core.Path.{◌≡◌, ap}
use lib.Dec.{eqb}
use Rattle.reading.specs.Outcome.{ok}
use Rattle.reading.specs.Reader.{mapped}
use Rattle.reading.proofs.Outcomes.{then_ok}
use Rattle.reading.proofs.Readers.{mapped_ok}
use Rattle.bits.specs.Field.{field}
use Rattle.bits.proofs.Fields.{field-ok}
use Rattle.mapping.specs.Reading.{submap_count, coupling_count}

-- how large a count is that stands behind a flag: d where the flag is 0, else a field of w bits plus one
after : (w d m : ℕ) (s : List ℕ) (flag : ℕ × ℕ) (x : ℕ × ℕ) → d ≤ m → 2 ^ w ≤ m → cond (eqb flag.0 0) (ok (d, flag.1)) (mapped suc (field w s flag.1)) ≡ ok x → x.0 ≤ m
after w d m s flag x h g e = go (eqb flag.0 0) e
  where
    go : (t : Bool) → cond t (ok (d, flag.1)) (mapped suc (field w s flag.1)) ≡ ok x → x.0 ≤ m
    go true e = let p : (d, flag.1) ≡ x = cc in let q : d ≡ x.0 = ap (λ y. y.0) p in omega arith
    go false e =
        let a = mapped_ok suc (field w s flag.1) e in
        let b = (field-ok s flag.1 w a.1).below in
        let c = a.2 in
        omega arith

pub submaps_few : (s : List ℕ) (k : ℕ) {x : ℕ × ℕ} → submap_count s k ≡ ok x → x.0 ≤ 16
unfolding submap_count
submaps_few s k {x} e = let f = then_ok (field 1 s k) _ e in after 4 1 16 s f.0 x (omega arith) (omega arith) f.2

pub steps_few : (s : List ℕ) (k : ℕ) {x : ℕ × ℕ} → coupling_count s k ≡ ok x → x.0 ≤ 256
unfolding coupling_count
steps_few s k {x} e = let f = then_ok (field 1 s k) _ e in after 8 0 256 s f.0 x (omega arith) (omega arith) f.2

pub submaps_some_at_least : (s : List ℕ) (k : ℕ) {x : ℕ × ℕ} → submap_count s k ≡ ok x → 1 ≤ x.0
unfolding submap_count
submaps_some_at_least s k {x} e = let f = then_ok (field 1 s k) _ e in go f.0 (eqb f.0.0 0) f.2
  where
    go : (flag : ℕ × ℕ) (t : Bool) → cond t (ok (1, flag.1)) (mapped suc (field 4 s flag.1)) ≡ ok x → 1 ≤ x.0
    go flag true e = let p : (1, flag.1) ≡ x = cc in let q : 1 ≡ x.0 = ap (λ y. y.0) p in omega arith
    go flag false e = let a = mapped_ok suc (field 4 s flag.1) e in let c = a.2 in omega arith
