-- Laws of a mapping's row: its width, how it is made from its parts, and what stands in each part. Assumes nothing.
use Prim.Native.Nat.{ℕ, suc, ◌+◌, ◌*◌, ◌/◌, ◌%◌, ◌≤◌}
use native.Mathlib.Omega.{arith}
use mathlib.Core.List.{List, [], ◌∷◌, ◌++◌, map, append_assoc}
use mathlib.Core.Path.{◌≡◌, refl, sym, ap, ◌∙◌}
use lib.ListN.{length, set, take, drop, replicate, length-append, length-map}
use lib.Seq.{sets, take_at, drop_at}
use Rattle.reading.specs.Lists.{rows}
use Rattle.reading.specs.Pad.{pad}
use Rattle.reading.proofs.Pads.{pad_nil, length-pad}
use Rattle.reading.proofs.Tables.{sets-pad}
use Rattle.reading.proofs.Runs.{sets_after, sets_before, zeros_split}
use Rattle.reading.proofs.Encodes.{rows_length}
use Rattle.mapping.specs.Content.{Coupling, Submap, Mapping}
use Rattle.mapping.specs.Layout.{coupling_row, multiplex_row, submap_row, mapping_row, parts_into, mapping_width, couplings_room}

pub coupling_wide : (c : Coupling) → length (coupling_row c) ≡ 2
unfolding coupling_row
coupling_wide c = refl

pub multiplex_wide : (v : ℕ) → length (multiplex_row v) ≡ 1
unfolding multiplex_row
multiplex_wide v = refl

pub submap_wide : (m : Submap) → length (submap_row m) ≡ 2
unfolding submap_row
submap_wide m = refl

pub couplings_length : (l : List Coupling) → length (rows coupling_row l) ≡ 2 * length l
couplings_length l = rows_length coupling_row (λ _. Unit {0}) 2 coupling_wide l

pub submaps_length : (l : List Submap) → length (rows submap_row l) ≡ 2 * length l
submaps_length l = rows_length submap_row (λ _. Unit {0}) 2 submap_wide l

pub multiplex_rows : (l : List ℕ) → rows multiplex_row l ≡ map suc l
unfolding rows multiplex_row
multiplex_rows [] = refl
multiplex_rows (v ∷ l) = ap (λ (t : List ℕ). suc v ∷ t) (multiplex_rows l)

pub multiplex_length : (l : List ℕ) → length (map suc l) ≡ length l
multiplex_length l = length-map l suc

-- four counts and three parts
abbrev pub four_parts : ℕ → ℕ → ℕ → ℕ → List ℕ → List ℕ → List ℕ → List ℕ
four_parts a b c d x y z = (a ∷ b ∷ c ∷ d ∷ []) ++ (pad couplings_room x ++ (pad 256 y ++ pad 32 z))

pub four_wide : (a b c d : ℕ) (x y z : List ℕ) → length (four_parts a b c d x y z) ≡ mapping_width
four_wide a b c d x y z =
    let e = length-append (pad couplings_room x) (pad 256 y ++ pad 32 z) in
    let f = length-append (pad 256 y) (pad 32 z) in
    let p = length-pad couplings_room x in
    let q = length-pad 256 y in
    let r = length-pad 32 z in
    let g : length (pad couplings_room x ++ (pad 256 y ++ pad 32 z)) ≡ 800 = omega arith in
    ap (λ (n : ℕ). suc (suc (suc (suc n)))) g

pub mapping_wide : (m : Mapping) → length (mapping_row m) ≡ mapping_width
unfolding mapping_row
mapping_wide m = four_wide (length m.couplings % 256) (length m.couplings / 256) (length m.submaps) 0 (rows coupling_row m.couplings) (map suc m.multiplex) (rows submap_row m.submaps)

-- zeros, and the first three counts stored
zeros_parts : (a b c d : ℕ) → replicate (a + (b + (c + d))) 0 ≡ pad a [] ++ (pad b [] ++ (pad c [] ++ pad d []))
zeros_parts a b c d =
    sym (pad_nil (a + (b + (c + d))))
    ∙ zeros_split a (b + (c + d))
    ∙ ap (λ (l : List ℕ). pad a [] ++ l) (zeros_split b (c + d) ∙ ap (λ (l : List ℕ). pad b [] ++ l) (zeros_split c d))

counts_set : (a b c : ℕ) (rest : List ℕ) → set (set (set (pad 4 [] ++ rest) 0 a) 1 b) 2 c ≡ (a ∷ b ∷ c ∷ 0 ∷ []) ++ rest
unfolding pad
counts_set a b c rest = refl

pub counts_row : (a b c : ℕ) → set (set (set (replicate mapping_width 0) 0 a) 1 b) 2 c ≡ four_parts a b c 0 [] [] []
counts_row a b c = ap (λ (l : List ℕ). set (set (set l 0 a) 1 b) 2 c) (zeros_parts 4 couplings_room 256 32) ∙ counts_set a b c _

-- a part stored into its zeros
part_set : (n : ℕ) (vs rest : List ℕ) → length vs ≤ n → sets (pad n [] ++ rest) 0 vs ≡ pad n vs ++ rest
part_set n vs rest h =
    let l = length-pad n [] in
    sets_before (pad n []) rest 0 vs (omega arith) ∙ ap (λ (t : List ℕ). t ++ rest) (sets-pad n vs [] 0 refl)

couplings_set : (a b c d : ℕ) (x : List ℕ) → length x ≤ couplings_room → sets (four_parts a b c d [] [] []) 4 x ≡ four_parts a b c d x [] []
couplings_set a b c d x h =
    let rest : List ℕ = pad 256 [] ++ pad 32 [] in
    sets_after (a ∷ b ∷ c ∷ d ∷ []) (pad couplings_room [] ++ rest) 4 0 x refl
    ∙ ap (λ (l : List ℕ). (a ∷ b ∷ c ∷ d ∷ []) ++ l) (part_set couplings_room x rest h)

multiplex_set : (a b c d : ℕ) (x y : List ℕ) → length y ≤ 256 → sets (four_parts a b c d x [] []) 516 y ≡ four_parts a b c d x y []
multiplex_set a b c d x y h =
    let l = length-pad couplings_room x in
    sets_after (a ∷ b ∷ c ∷ d ∷ []) (pad couplings_room x ++ (pad 256 [] ++ pad 32 [])) 516 couplings_room y refl
    ∙ ap (λ (l : List ℕ). (a ∷ b ∷ c ∷ d ∷ []) ++ l)
    (sets_after (pad couplings_room x) (pad 256 [] ++ pad 32 []) couplings_room 0 y (omega arith) ∙ ap (λ (l : List ℕ). pad couplings_room x ++ l) (part_set 256 y (pad 32 []) h))

submaps_set : (a b c d : ℕ) (x y z : List ℕ) → sets (four_parts a b c d x y []) 772 z ≡ four_parts a b c d x y z
submaps_set a b c d x y z =
    let l = length-pad couplings_room x in
    let m = length-pad 256 y in
    sets_after (a ∷ b ∷ c ∷ d ∷ []) (pad couplings_room x ++ (pad 256 y ++ pad 32 [])) 772 768 z refl
    ∙ ap (λ (l : List ℕ). (a ∷ b ∷ c ∷ d ∷ []) ++ l)
    (sets_after (pad couplings_room x) (pad 256 y ++ pad 32 []) 768 256 z (omega arith)
    ∙ ap (λ (l : List ℕ). pad couplings_room x ++ l) (sets_after (pad 256 y) (pad 32 []) 256 0 z (omega arith) ∙ ap (λ (l : List ℕ). pad 256 y ++ l) (sets-pad 32 z [] 0 refl)))

-- the row that reading makes is the mapping's
pub row_made : (m : Mapping) (submaps steps : ℕ) → length m.couplings ≡ steps → length m.submaps ≡ submaps → steps ≤ 256 → length m.multiplex ≤ 256
    → parts_into (set (set (set (replicate mapping_width 0) 0 (steps % 256)) 1 (steps / 256)) 2 submaps) m ≡ mapping_row m
unfolding parts_into mapping_row
row_made m submaps steps e f h g =
    let a = couplings_length m.couplings in
    let b = multiplex_length m.multiplex in
    let r = counts_row (steps % 256) (steps / 256) submaps in
    let x = rows coupling_row m.couplings in
    let y = map suc m.multiplex in
    let z = rows submap_row m.submaps in
    (λ j. sets (sets (sets (r j) 4 x) 516 (multiplex_rows m.multiplex j)) 772 z)
    ∙ ap (λ (l : List ℕ). sets (sets l 516 y) 772 z) (couplings_set _ _ _ _ x (omega arith))
    ∙ ap (λ (l : List ℕ). sets l 772 z) (multiplex_set _ _ _ _ x y (omega arith))
    ∙ submaps_set _ _ _ _ x y z
    ∙ (λ j. four_parts (sym e j % 256) (sym e j / 256) (sym f j) 0 x y z)

-- what stands in each part
module _ (a b c d : ℕ) (x y z : List ℕ) where
  pub part_couplings : take couplings_room (drop 4 (four_parts a b c d x y z)) ≡ pad couplings_room x
  part_couplings = take_at (pad couplings_room x) _ couplings_room (length-pad couplings_room x)

  after_couplings : drop 516 (four_parts a b c d x y z) ≡ pad 256 y ++ pad 32 z
  after_couplings = drop_at ((a ∷ b ∷ c ∷ d ∷ []) ++ pad couplings_room x) (pad 256 y ++ pad 32 z) 516 (ap (λ (n : ℕ). suc (suc (suc (suc n)))) (length-pad couplings_room x))

  pub part_multiplex : take 256 (drop 516 (four_parts a b c d x y z)) ≡ pad 256 y
  part_multiplex = ap (take 256) after_couplings ∙ take_at (pad 256 y) _ 256 (length-pad 256 y)

  pub part_submaps : drop 772 (four_parts a b c d x y z) ≡ pad 32 z
  part_submaps =
      let l = length-pad couplings_room x in
      let m = length-pad 256 y in
      let n = length-append (pad couplings_room x) (pad 256 y) in
      let e : length ((a ∷ b ∷ c ∷ d ∷ []) ++ (pad couplings_room x ++ pad 256 y)) ≡ 772 = let g : length (pad couplings_room x ++ pad 256 y) ≡ 768 = omega arith in ap (λ (k : ℕ). suc (suc (suc (suc k)))) g in
      ap (drop 772) (ap (λ (t : List ℕ). a ∷ b ∷ c ∷ d ∷ t) (sym (append_assoc (pad couplings_room x) (pad 256 y) (pad 32 z))))
      ∙ drop_at ((a ∷ b ∷ c ∷ d ∷ []) ++ (pad couplings_room x ++ pad 256 y)) (pad 32 z) 772 e
