-- How many items each part of an accepted mapping has. Assumes nothing.
use Prim.Native.Nat.{ℕ}
use mathlib.Core.Bool.{Bool, true, false, cond}
use mathlib.Core.List.{List, []}
use mathlib.Core.Path.{◌≡◌, sym, ap, subst}
use lib.Dec.{eqb, leb}
use lib.ListN.{length}
use Rattle.reading.specs.Outcome.{ok}
use Rattle.reading.specs.Reader.{many, judged}
use Rattle.reading.proofs.Outcomes.{then_ok}
use Rattle.reading.proofs.Accepted.{many_number}
use Rattle.bits.specs.Field.{field}
use Rattle.mapping.specs.Content.{Mapping}
use Rattle.mapping.specs.declared.Known.{Known}
use Rattle.mapping.specs.Reading.{coupling, multiplex, multiplexes, submap, parts}

-- how many items each part has
pub record Sizes (known : Known) (few steps : ℕ) (m : Mapping) : Type 0 where
  pub couplings : length m.couplings ≡ steps
  pub multiplex : length m.multiplex ≡ cond (leb few 1) 0 known.channels
  pub submaps : length m.submaps ≡ few

multiplex_size : (channels submaps : ℕ) (s : List ℕ) (k : ℕ) (x : List ℕ × ℕ) → multiplexes channels submaps s k ≡ ok x → length x.0 ≡ cond (leb submaps 1) 0 channels
unfolding multiplexes
multiplex_size channels submaps s k x e = go (leb submaps 1) e
  where
    go : (t : Bool) → cond t (ok ([], k)) (many (multiplex submaps) channels s k) ≡ ok x → length x.0 ≡ cond t 0 channels
    go true e = let p : ([], k) ≡ x = cc in ap (λ (y : List ℕ × ℕ). length y.0) (sym p)
    go false e = many_number (multiplex submaps) s channels k e

module _ (known : Known) (submaps steps : ℕ) (s : List ℕ) (k : ℕ) where
  pub parts_sizes : {x : Mapping × ℕ} → parts known submaps steps s k ≡ ok x → Sizes known submaps steps x.0
  unfolding parts
  parts_sizes {x} e =
      let a = then_ok (many (coupling known.channels) steps s k) _ e in
      let b = then_ok (judged (λ v. eqb v 0) 9 (field 2) s a.0.1) _ a.2 in
      let c = then_ok (multiplexes known.channels submaps s b.0.1) _ b.2 in
      let d = then_ok (many (submap known) submaps s c.0.1) _ c.2 in
      let same : ◌≡◌ {A = Mapping × ℕ} (record { couplings = a.0.0; multiplex = c.0.0; submaps = d.0.0 }, d.0.1) x = cc in
      subst (λ (y : Mapping × ℕ). Sizes known submaps steps y.0) same
      (record {
        couplings = many_number (coupling known.channels) s steps k a.1;
        multiplex = multiplex_size known.channels submaps s b.0.1 c.0 c.1;
        submaps = many_number (submap known) s submaps c.0.1 d.1;
      })
