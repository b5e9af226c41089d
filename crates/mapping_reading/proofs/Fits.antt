-- What is read fits the type that it is cast to, or the width that it is read in. Assumes nothing.
use Prim.Native.Nat.{ℕ, ◌+◌, ◌-◌, ◌≤◌, ◌<◌, ◌^◌}
use Rattle.bits.proofs.Answers.{value_is, value_below}
use Rattle.bits.proofs.Ilogs.{ilog_places}
use Rattle.bits.specs.Field.{field}
use Rattle.bits.specs.Ilog.{ilog}
use Rattle.bits.specs.Inner.Cursors.{position, outcome}
use Rattle.bits.specs.declared.Cursor.{Cursor}
use Rattle.bits.specs.declared.refusal.Refusal.{Refusal}
use Rattle.mapping.proofs.CountLaws.{submaps_few, steps_few}
use Rattle.mapping.proofs.Laws.{channel_below}
use Rattle.mapping.specs.Reading.{channel, submap_count, coupling_count}
use Rattle.std.specs.Prelude.{Result, Ok}
use lib.Pow.{pow_mono}
use mathlib.Core.List.{List}
use mathlib.Core.Path.{◌≡◌}
use native.Mathlib.Omega.{arith}

-- a number that was read, plus one, fits 32 bits
pub one_more_fits : (w : ℕ) (s : List ℕ) (k : Cursor) {r : Result (ℕ × Cursor) Refusal} {v : ℕ} {k₁ : Cursor} → w ≤ 8 → outcome r ≡ field w s (position k) → r ≡ Ok (v, k₁) → v + 1 < 4294967296
one_more_fits w s k h p q =
    let b = value_below w s (position k) p q in
    let m : 2 ^ w ≤ 2 ^ 8 = pow_mono {i = w} {j = 8} h in
    omega arith

pub submaps_few_here : (s : List ℕ) (k : Cursor) {r : Result (ℕ × Cursor) Refusal} {v : ℕ} {k₁ : Cursor} → outcome r ≡ submap_count s (position k) → r ≡ Ok (v, k₁) → v ≤ 16
submaps_few_here s k p q = submaps_few s (position k) (value_is p q)

pub steps_few_here : (s : List ℕ) (k : Cursor) {r : Result (ℕ × Cursor) Refusal} {v : ℕ} {k₁ : Cursor} → outcome r ≡ coupling_count s (position k) → r ≡ Ok (v, k₁) → v ≤ 256
steps_few_here s k p q = steps_few s (position k) (value_is p q)

pub ruleset counts_few = (submaps_few_here, steps_few_here)

-- a channel's submap, plus one, fits 8 bits
pub multiplex_fits : (s : List ℕ) (k : Cursor) {r : Result (ℕ × Cursor) Refusal} {v : ℕ} {k₁ : Cursor} → outcome r ≡ field 4 s (position k) → r ≡ Ok (v, k₁) → v + 1 < 256
multiplex_fits s k p q = let b = value_below 4 s (position k) p q in omega arith

-- a channel's number is read in few bits, and fits 8
pub width_fits : (channels w : ℕ) → channels < 4294967296 → w ≡ ilog (channels - 1) → w ≤ 32
width_fits channels w h e = let i = (ilog_places (channels - 1) (omega arith)).1 in omega arith

pub channel_fits : (channels : ℕ) (s : List ℕ) (k : Cursor) {r : Result (ℕ × Cursor) Refusal} {v : ℕ} {k₁ : Cursor} → channels ≤ 255 → outcome r ≡ channel channels s (position k) → r ≡ Ok (v, k₁) → v < 256
channel_fits channels s k h p q = let b = channel_below channels s (position k) (value_is p q) in omega arith
