-- Laws of modes that other crates cite: a row's width; what is accepted is valid; one row for one mode; what a place of the table holds.
-- Assumes nothing.
use Prim.Native.Nat.{ℕ, ◌+◌, ◌*◌, ◌≤◌, ◌<◌}
use native.Mathlib.Omega.{arith}
use mathlib.Core.List.{List}
use mathlib.Core.Path.{◌≡◌, refl, subst}
use lib.Dec.{eqb, ltb}
use lib.ListN.{length, get_or}
use Rattle.reading.specs.Outcome.{ok}
use Rattle.reading.specs.Reader.{many, judged}
use Rattle.reading.specs.Lists.{rows}
use Rattle.reading.specs.Pad.{pad}
use Rattle.reading.specs.Encoding.{Each}
use Rattle.reading.proofs.Outcomes.{then_ok, judged-ok}
use Rattle.reading.proofs.Accepted.{many_each, many_number}
use Rattle.reading.proofs.Stored.{Stored, stored_first, stored_rest, rows_stored}
use Rattle.bits.specs.Field.{field}
use Rattle.bits.proofs.Fields.{field-ok}
use Rattle.mode.specs.Content.{Mode}
use Rattle.mode.specs.Reading.{mode}
use Rattle.mode.specs.Layout.{mode_width, mode_row}
use Rattle.mode.specs.Inner.Valid.{ValidMode}
use Rattle.mode.specs.Inner.Decode.{decode_mode}

pub mode_wide : (m : Mode) → length (mode_row m) ≡ 2
unfolding mode_row
mode_wide m = refl

pub decode_mode_lem : (m : Mode) → decode_mode (mode_row m) ≡ m
unfolding mode_row decode_mode
decode_mode_lem m = refl

-- an accepted mode meets every rule
pub mode_valid : (mappings : ℕ) (s : List ℕ) (k : ℕ) (x : Mode × ℕ) → mode mappings s k ≡ ok x → ValidMode mappings x.0
unfolding mode
mode_valid mappings s k x e =
    let flag = then_ok (field 1 s k) _ e in
    let window = then_ok (judged (λ v. eqb v 0) 9 (field 16) s flag.0.1) _ flag.2 in
    let transform = then_ok (judged (λ v. eqb v 0) 9 (field 16) s window.0.1) _ window.2 in
    let mapping = then_ok (judged (λ v. ltb v mappings) 11 (field 8) s transform.0.1) _ transform.2 in
    let j = judged-ok (λ v. ltb v mappings) 11 (field 8) s transform.0.1 mapping.1 in
    let f = field-ok s k 1 flag.1 in
    let b = f.below in
    let same : ◌≡◌ {A = Mode × ℕ} (record { blockflag = flag.0.0; mapping = mapping.0.0 }, mapping.0.1) x = cc in
    let valid : ValidMode mappings (record { blockflag = flag.0.0; mapping = mapping.0.0 }) = record { carried = omega arith; rule11 = j.1 } in
    subst (λ (y : Mode × ℕ). ValidMode mappings y.0) same valid

pub modes_valid : (mappings : ℕ) (s : List ℕ) (n k : ℕ) (x : List Mode × ℕ) → many (mode mappings) n s k ≡ ok x → (length x.0 ≡ n) × Each (ValidMode mappings) x.0
modes_valid mappings s n k x e = (many_number (mode mappings) s n k e, many_each (mode mappings) s (ValidMode mappings) (mode_valid mappings s) n k e)

-- IN A TABLE THAT IS THE WRITING-OUT OF MODES, THE ROW OF MODE i LIES AT i TIMES THE WIDTH; d stands for a mode past the last
pub modes_stored : (ms : List Mode) (t : List ℕ) → t ≡ pad (length t) (rows mode_row ms) → mode_width * length ms ≤ length t → (i : ℕ) → i < length ms → (d : Mode) → Stored t (mode_width * i) (mode_row (get_or ms i d))
modes_stored ms t e h i k d = rows_stored mode_row 2 mode_wide d ms t e h i k

-- what each place of a mode that lies at `at` holds
module _ {t : List ℕ} {at : ℕ} (m : Mode) (l : Stored t at (mode_row m)) where
  pub blockflag_is : get_or t at 0 ≡ m.blockflag
  unfolding mode_row
  blockflag_is = stored_first l

  pub mapping_is : get_or t (at + 1) 0 ≡ m.mapping
  unfolding mode_row
  mapping_is = stored_first (stored_rest l)
