-- Laws of mappings that other crates cite: what is accepted is valid; one row for one mapping. Assumes nothing.
use Prim.Native.Nat.{ℕ, zero, suc, ◌+◌, ◌-◌, ◌*◌, ◌/◌, ◌%◌, ◌≤◌, ◌<◌}
use native.Mathlib.Nat.{le_of_suc-le-suc}
use native.Mathlib.Omega.{arith}
use borrow.Author.Tests.{ltb-true, le-leb, lt-leb, leb-true, leb-false}
use mathlib.Core.Bool.{Bool, true, false, not, cond, ◌&&◌}
use mathlib.Core.List.{List, [], ◌∷◌, ◌++◌, map}
use mathlib.Core.Path.{◌≡◌, refl, sym, ap, subst, ◌∙◌}
use lib.Dec.{eqb, leb, ltb}
use lib.ListN.{length, get_or, take, drop}
use lib.Seq.{take_all}
use Rattle.reading.specs.Lists.{all, rows}
use Rattle.reading.specs.Outcome.{ok}
use Rattle.reading.specs.Pad.{pad}
use Rattle.reading.specs.Reader.{many, judged}
use Rattle.reading.specs.Encoding.{Each}
use Rattle.reading.proofs.Pads.{length-pad}
use Rattle.reading.proofs.Outcomes.{then_ok, judged-ok}
use Rattle.reading.proofs.Accepted.{many_each, many_number}
use Rattle.reading.proofs.PairRows.{PairRow}
use Rattle.reading.proofs.Basics.{length_zero}
use Rattle.bits.specs.Field.{field}
use Rattle.bits.specs.Ilog.{ilog}
use Rattle.mapping.specs.Content.{Coupling, Submap, Mapping}
use Rattle.mapping.specs.Rules.{Coupling11}
use Rattle.mapping.specs.declared.Known.{Known}
use Rattle.mapping.specs.Reading.{submap_count, coupling_count, channel, coupling, multiplex, multiplexes, submap, parts, mapping}
use Rattle.mapping.specs.Layout.{coupling_row, submap_row, mapping_row, couplings_room}
use Rattle.mapping.specs.Inner.Valid.{ValidMultiplex, ValidSubmap, ValidMapping}
use Rattle.mapping.specs.Inner.Decode.{coupling_of, submap_of, pairs, less_one, decode_mapping}
use Rattle.mapping.proofs.CountLaws.{submaps_few, steps_few, submaps_some_at_least}
use Rattle.mapping.proofs.SizeLaws.{parts_sizes}
use Rattle.mapping.proofs.RowLaws.{part_couplings, part_multiplex, part_submaps}

-- an accepted number is below the number of channels
channel_meets : (channels : ℕ) (s : List ℕ) (k : ℕ) {x : ℕ × ℕ} → channel channels s k ≡ ok x → ltb x.0 channels ≡ true
unfolding channel
channel_meets channels s k e = (judged-ok (λ v. ltb v channels) 11 (field (ilog (channels - 1))) s k e).1

pub channel_below : (channels : ℕ) (s : List ℕ) (k : ℕ) {x : ℕ × ℕ} → channel channels s k ≡ ok x → x.0 < channels
channel_below channels s k e = ltb-true _ _ (channel_meets channels s k e)

pub coupling_valid : (channels : ℕ) (s : List ℕ) (k : ℕ) (x : Coupling × ℕ) → coupling channels s k ≡ ok x → Coupling11 channels x.0
unfolding coupling
coupling_valid channels s k x e =
    let a = then_ok (channel channels s k) _ e in
    let b = then_ok (judged (λ v. not (eqb v a.0.0)) 11 (channel channels) s a.0.1) _ a.2 in
    let j = judged-ok (λ v. not (eqb v a.0.0)) 11 (channel channels) s a.0.1 b.1 in
    let same : ◌≡◌ {A = Coupling × ℕ} (record { magnitude = a.0.0; angle = b.0.0 }, b.0.1) x = cc in
    let valid : Coupling11 channels (record { magnitude = a.0.0; angle = b.0.0 }) =
    record { magnitude = channel_meets channels s k a.1; angle = channel_meets channels s a.0.1 j.0; coupled = j.1 } in
    subst (λ (y : Coupling × ℕ). Coupling11 channels y.0) same valid

pub submap_valid : (known : Known) (s : List ℕ) (k : ℕ) (x : Submap × ℕ) → submap known s k ≡ ok x → ValidSubmap known x.0
unfolding submap
submap_valid known s k x e =
    let a = then_ok (field 8 s k) _ e in
    let b = then_ok (judged (λ v. ltb v known.floors) 11 (field 8) s a.0.1) _ a.2 in
    let c = then_ok (judged (λ v. ltb v known.residues) 11 (field 8) s b.0.1) _ b.2 in
    let i = judged-ok (λ v. ltb v known.floors) 11 (field 8) s a.0.1 b.1 in
    let j = judged-ok (λ v. ltb v known.residues) 11 (field 8) s b.0.1 c.1 in
    let same : ◌≡◌ {A = Submap × ℕ} (record { floor = b.0.0; residue = c.0.0 }, c.0.1) x = cc in
    let valid : ValidSubmap known (record { floor = b.0.0; residue = c.0.0 }) = record { floor = i.1; residue = j.1 } in
    subst (λ (y : Submap × ℕ). ValidSubmap known y.0) same valid

-- a test of all, and a fact of each
pub each_all : (n : ℕ) (l : List ℕ) → Each (ValidMultiplex n) l → all (λ v. ltb v n) l ≡ true
unfolding Each all
each_all n [] h = refl
each_all n (v ∷ l) h = rw h.0 (each_all n l h.1)

pub all_each : (n : ℕ) (l : List ℕ) → all (λ v. ltb v n) l ≡ true → Each (ValidMultiplex n) l
unfolding Each all
all_each n [] h = tt
all_each n (v ∷ l) h = go (ltb v n) refl h (λ f. all_each n l f)
  where
    go : (t : Bool) → ltb v n ≡ t → t && all (λ v. ltb v n) l ≡ true → (all (λ v. ltb v n) l ≡ true → Each (ValidMultiplex n) l) → ValidMultiplex n v × Each (ValidMultiplex n) l
    go true e f r = (e, r f)
    go false e f r = let z : ◌≡◌ {A = ℕ} 0 1 = cc in absurd (omega arith)

multiplexes_valid : (channels submaps : ℕ) (s : List ℕ) (k : ℕ) (x : List ℕ × ℕ) → multiplexes channels submaps s k ≡ ok x → all (λ v. ltb v submaps) x.0 ≡ true
unfolding multiplexes multiplex Each
multiplexes_valid channels submaps s k x e = go (leb submaps 1) e
  where
    below : (k : ℕ) (y : ℕ × ℕ) → judged (λ v. ltb v submaps) 11 (field 4) s k ≡ ok y → ValidMultiplex submaps y.0
    below k y e = (judged-ok (λ v. ltb v submaps) 11 (field 4) s k e).1

    go : (t : Bool) → cond t (ok ([], k)) (many (multiplex submaps) channels s k) ≡ ok x → all (λ v. ltb v submaps) x.0 ≡ true
    go true e = let p : ([], k) ≡ x = cc in subst (λ (y : List ℕ × ℕ). all (λ v. ltb v submaps) y.0 ≡ true) p (each_all submaps [] tt)
    go false e = each_all submaps x.0 (many_each (multiplex submaps) s (ValidMultiplex submaps) below channels k e)

-- a multiplex has the size that the rules give it
pub sized_none : (n channels : ℕ) (l : List ℕ) → length l ≡ cond (leb n 1) 0 channels → n ≡ 1 → l ≡ []
sized_none n channels l e h = length_zero l (e ∙ rw (le-leb n 1 (omega arith)))

pub sized_some : (n channels : ℕ) (l : List ℕ) → length l ≡ cond (leb n 1) 0 channels → 2 ≤ n → length l ≡ channels
sized_some n channels l e h = e ∙ rw (lt-leb n 1 (omega arith))

-- what is accepted in each part is valid
abbrev Pieces : Known → ℕ → Mapping → Type 0
Pieces known submaps m = Each (Coupling11 known.channels) m.couplings × (all (λ v. ltb v submaps) m.multiplex ≡ true) × Each (ValidSubmap known) m.submaps

pieces : (known : Known) (submaps steps : ℕ) (s : List ℕ) (k : ℕ) (x : Mapping × ℕ) → parts known submaps steps s k ≡ ok x → Pieces known submaps x.0
unfolding parts
pieces known submaps steps s k x e =
    let a = then_ok (many (coupling known.channels) steps s k) _ e in
    let b = then_ok (judged (λ v. eqb v 0) 9 (field 2) s a.0.1) _ a.2 in
    let c = then_ok (multiplexes known.channels submaps s b.0.1) _ b.2 in
    let d = then_ok (many (submap known) submaps s c.0.1) _ c.2 in
    let same : ◌≡◌ {A = Mapping × ℕ} (record { couplings = a.0.0; multiplex = c.0.0; submaps = d.0.0 }, d.0.1) x = cc in
    subst (λ (y : Mapping × ℕ). Pieces known submaps y.0) same (
      many_each (coupling known.channels) s (Coupling11 known.channels) (coupling_valid known.channels s) steps k a.1,
      multiplexes_valid known.channels submaps s b.0.1 c.0 c.1,
      many_each (submap known) s (ValidSubmap known) (submap_valid known s) submaps c.0.1 d.1,
    )

parts_valid : (known : Known) (submaps steps : ℕ) (s : List ℕ) (k : ℕ) (x : Mapping × ℕ) → 1 ≤ submaps → submaps ≤ 16 → steps ≤ 256
    → parts known submaps steps s k ≡ ok x → ValidMapping known x.0
parts_valid known submaps steps s k x low high few e =
    let z = parts_sizes known submaps steps s k e in
    let a = z.couplings in
    let b = z.submaps in
    let c = z.multiplex in
    let v = pieces known submaps steps s k x e in
    record {
      carried = record {
        couplings = omega arith;
        submaps = record { low = omega arith; high = omega arith };
        no_multiplex = λ h. sized_none submaps known.channels x.0.multiplex c (omega arith);
        some_multiplex = λ h. sized_some submaps known.channels x.0.multiplex c (omega arith);
      };
      rule11 = record { couplings = v.0; multiplex = rw z.submaps v.1; submaps = v.2 };
    }

-- an accepted mapping meets every rule
pub mapping_valid : (known : Known) (s : List ℕ) (k : ℕ) (x : Mapping × ℕ) → mapping known s k ≡ ok x → ValidMapping known x.0
unfolding mapping
mapping_valid known s k x e =
    let a = then_ok (judged (λ v. eqb v 0) 9 (field 16) s k) _ e in
    let b = then_ok (submap_count s a.0.1) _ a.2 in
    let c = then_ok (coupling_count s b.0.1) _ b.2 in
    parts_valid known b.0.0 c.0.0 s c.0.1 x (submaps_some_at_least s a.0.1 b.1) (submaps_few s a.0.1 b.1) (steps_few s b.0.1 c.1) c.2

pub mappings_valid : (known : Known) (s : List ℕ) (n k : ℕ) (x : List Mapping × ℕ) → many (mapping known) n s k ≡ ok x → (length x.0 ≡ n) × Each (ValidMapping known) x.0
mappings_valid known s n k x e = (many_number (mapping known) s n k e, many_each (mapping known) s (ValidMapping known) (mapping_valid known s) n k e)

-- rows of two numbers
pub coupling_pairs : PairRow coupling_row coupling_of
unfolding coupling_row
coupling_pairs = record { of = λ a b. refl; back = λ c. refl; wide = λ c. refl }

pub submap_pairs : PairRow submap_row submap_of
unfolding submap_row
submap_pairs = record { of = λ a b. refl; back = λ m. refl; wide = λ m. refl }

-- what is read back from each part
pub pairs_back : {A : Type 0} {row : A → List ℕ} {pair : ℕ → ℕ → A} → PairRow row pair → (l : List A) (n : ℕ) → 2 * length l ≤ n → pairs pair (length l) (pad n (rows row l)) ≡ l
unfolding pairs pad rows
pairs_back P [] n h = refl
pairs_back {A} {row} {pair} P (a ∷ l) n h =
    let e : n ≡ suc (suc (n - 2)) = omega arith in
    let f : row a ≡ get_or (row a) 0 0 ∷ get_or (row a) 1 0 ∷ [] = ap row (sym (P.back a)) ∙ P.of _ _ in
    let i = pairs_back P l (n - 2) (omega arith) in
    ap (λ (t : List ℕ). pairs pair (suc (length l)) (pad n (t ++ rows row l))) f
    ∙ ap (λ (m : ℕ). pairs pair (suc (length l)) (pad m (get_or (row a) 0 0 ∷ get_or (row a) 1 0 ∷ rows row l))) e
    ∙ (λ j. P.back a j ∷ i j)

less_one_back : (l : List ℕ) (n : ℕ) → length l ≤ n → less_one (pad n (map suc l)) ≡ l
unfolding less_one pad
less_one_back [] zero h = refl
less_one_back [] (suc n) h = refl
less_one_back (v ∷ l) zero h = absurd (omega arith)
less_one_back (v ∷ l) (suc n) h = ap (λ (t : List ℕ). v ∷ t) (less_one_back l n (le_of_suc-le-suc h))

-- how many multiplex numbers a valid mapping has
pub multiplex_number : (known : Known) (m : Mapping) → ValidMapping known m → length m.multiplex ≡ cond (leb (length m.submaps) 1) 0 known.channels
multiplex_number known m v = go (leb (length m.submaps) 1) refl
  where
    go : (t : Bool) → leb (length m.submaps) 1 ≡ t → length m.multiplex ≡ cond t 0 known.channels
    go true e = let a : length m.submaps ≤ 1 = leb-true (length m.submaps) 1 e in let b = v.carried.submaps.low in ap length (v.carried.no_multiplex (omega arith))
    go false e = let a : 1 < length m.submaps = leb-false (length m.submaps) 1 e in v.carried.some_multiplex (omega arith)

pub multiplex_most : (known : Known) (m : Mapping) → known.channels ≤ 256 → ValidMapping known m → length m.multiplex ≤ 256
multiplex_most known m h v = rw (multiplex_number known m v) (go (leb (length m.submaps) 1))
  where
    go : (t : Bool) → cond t 0 known.channels ≤ 256
    go true = omega arith
    go false = h

-- one row for one mapping
pub decode_mapping_lem : (known : Known) (m : Mapping) → known.channels ≤ 256 → ValidMapping known m → decode_mapping (mapping_row m) ≡ m
unfolding decode_mapping mapping_row
decode_mapping_lem known m h v =
    let x = rows coupling_row m.couplings in
    let y = map suc m.multiplex in
    let z = rows submap_row m.submaps in
    let n = length m.couplings in
    let a = v.carried.couplings in
    let b = v.carried.submaps.high in
    let c = multiplex_most known m h v in
    let e : n % 256 + 256 * (n / 256) ≡ n = omega arith in
    let cs : pairs coupling_of (n % 256 + 256 * (n / 256)) (take couplings_room (drop 4 (mapping_row m))) ≡ m.couplings =
    (λ j. pairs coupling_of (e j) (part_couplings (n % 256) (n / 256) (length m.submaps) 0 x y z j)) ∙ pairs_back coupling_pairs m.couplings couplings_room (omega arith) in
    let ms : less_one (take 256 (drop 516 (mapping_row m))) ≡ m.multiplex = ap less_one (part_multiplex (n % 256) (n / 256) (length m.submaps) 0 x y z) ∙ less_one_back m.multiplex 256 c in
    let ss : pairs submap_of (length m.submaps) (take 32 (drop 772 (mapping_row m))) ≡ m.submaps =
    ap (λ (t : List ℕ). pairs submap_of (length m.submaps) (take 32 t)) (part_submaps (n % 256) (n / 256) (length m.submaps) 0 x y z)
    ∙ ap (pairs submap_of (length m.submaps)) (take_all 32 (pad 32 z) (let l = length-pad 32 z in omega arith))
    ∙ pairs_back submap_pairs m.submaps 32 (omega arith) in
    λ j. record { couplings = cs j; multiplex = ms j; submaps = ss j }
