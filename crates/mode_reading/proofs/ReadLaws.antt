-- Laws of reading a mode as the code asks them: one for each way out of a function, and those of the loop. Assumes nothing.
use Rattle.std.specs.Prelude.{Result, Ok, Err}
use Prim.Native.Nat.{ℕ, ◌+◌, ◌*◌, ◌≤◌, ◌<◌}
use native.Mathlib.Omega.{arith}
use borrow.Author.Rules.{rules}
use borrow.Author.Tests.{lt-ltb, le-ltb, eq-eqb, ne_eqb}
use mathlib.Core.List.{List, [], ◌∷◌}
use mathlib.Core.Path.{◌≡◌, refl, subst, ◌∙◌}
use lib.Seq.{sets}
use Rattle.reading.specs.Outcome.{Outcome, ok, bad, then}
use Rattle.reading.specs.Reader.{many, mapped, into, into1, judged}
use Rattle.reading.specs.Inner.Table.{Table, table, put_row}
use Rattle.reading.proofs.Outcomes.{then_into}
use Rattle.bits.specs.declared.Cursor.{Cursor}
use Rattle.bits.specs.declared.refusal.Refusal.{Refusal}
use Rattle.bits.specs.declared.refusal.Reason.{Reason}
use Rattle.bits.specs.declared.refusal.Reason.TheVariants as R
use Rattle.bits.specs.Inner.Cursors.{position, outcome, Wrote, refusal_of, stepped}
use Rattle.bits.specs.Field.{field}
use Rattle.bits.proofs.Answers.{value_is, refused_is, value_below}
use Rattle.bits.proofs.Steps.{wrote_refused, wrote_next, Rest, loop_start, loop_next, loop_refused, loop_done, next_is, stop_is}
use Rattle.rules.specs.Rules as Rule
use Rattle.mode.specs.Reading.{mode}
use Rattle.mode.specs.Layout.{mode_row}
use Rattle.mode.specs.Content.{Mode}
use Rattle.mode_reading.specs.Inner.Types.{types}

-- what is written fits 8 bits
pub flag_fits : (s : List ℕ) (k : Cursor) {r : Result (ℕ × Cursor) Refusal} {flag : ℕ} {k₁ : Cursor} → outcome r ≡ field 1 s (position k) → r ≡ Ok (flag, k₁) → flag < 256
flag_fits s k p q = let b = value_below 1 s (position k) p q in omega arith

abbrev at : Reason → Cursor → Refusal
at why c = record { reason = why; place = c }

-- a mode, written into t
abbrev pub mode_into : ℕ → List ℕ → Cursor → Table → Outcome (Table × ℕ)
mode_into mappings s k t = into1 (put_row mode_row) (mode mappings s (position k)) t

-- window type and transform type
module _ (s : List ℕ) (k : Cursor) {r : Result (ℕ × Cursor) Refusal} (p : outcome r ≡ field 16 s (position k)) where
  pub window_cut : {z : Refusal} → r ≡ Err z → stepped (Err z) ≡ types s (position k)
  unfolding types stepped
  window_cut q = rw (refused_is p q)

  module _ {window : ℕ} {k₁ : Cursor} (q : r ≡ Ok (window, k₁)) where
    pub window_wrong : (window ≡ 0 → ⊥) → stepped (Err (at R.NotZero k)) ≡ types s (position k)
    unfolding types stepped
    window_wrong n = rw (value_is p q, ne_eqb _ _ n)

    module _ (w : window ≡ 0) {r₁ : Result (ℕ × Cursor) Refusal} (p₁ : outcome r₁ ≡ field 16 s (position k₁)) where
      pub transform_cut : {z : Refusal} → r₁ ≡ Err z → stepped (Err z) ≡ types s (position k)
      unfolding types stepped
      transform_cut q₁ = rw (value_is p q, eq-eqb _ _ w, refused_is p₁ q₁)

      module _ {transform : ℕ} {k₂ : Cursor} (q₁ : r₁ ≡ Ok (transform, k₂)) where
        pub transform_wrong : (transform ≡ 0 → ⊥) → stepped (Err (at R.NotZero k₁)) ≡ types s (position k)
        unfolding types stepped
        transform_wrong n = rw (value_is p q, eq-eqb _ _ w, value_is p₁ q₁, ne_eqb _ _ n)

        pub types_whole : transform ≡ 0 → stepped (Ok k₂) ≡ types s (position k)
        unfolding types stepped
        types_whole x = rw (value_is p q, eq-eqb _ _ w, value_is p₁ q₁, eq-eqb _ _ x)

-- a mode, with the two types as one part
abbrev after_types : ℕ → List ℕ → ℕ → ℕ → Outcome (Mode × ℕ)
after_types mappings s flag k =
    then (judged (λ v. Rule.meets11 (Rule.mapping mappings v)) 11 (field 8) s k) (λ mapping. ok (record { blockflag = flag; mapping = mapping.0 }, mapping.1))

mode_as : (mappings : ℕ) (s : List ℕ) (k flag n : ℕ) → field 1 s k ≡ ok (flag, n) → mode mappings s k ≡ then (types s n) (after_types mappings s flag)
unfolding mode types
mode_as mappings s k flag n e =
    let h = after_types mappings s flag in
    rw e (then_into h (judged (λ v. Rule.meets9 (Rule.window_type v)) 9 (field 16) s n) _ _ (λ window.
    then_into h (judged (λ v. Rule.meets9 (Rule.transform_type v)) 9 (field 16) s window.1) _ _ (λ transform. refl)))

module _ (mappings : ℕ) (s : List ℕ) (k : Cursor) {r : Result (ℕ × Cursor) Refusal} (p : outcome r ≡ field 1 s (position k)) where
  pub flag_cut : (t u : Table) {z : Refusal} → r ≡ Err z → Wrote (mode_into mappings s k t) (Err z) u
  unfolding into1 mapped mode
  flag_cut t u q = wrote_refused u (rw (refused_is p q))

  module _ {flag : ℕ} {k₁ : Cursor} (q : r ≡ Ok (flag, k₁)) {r₁ : Result Cursor Refusal} (p₁ : stepped r₁ ≡ types s (position k₁)) where
    types_stop : {z : Refusal} → r₁ ≡ Err z → mode mappings s (position k) ≡ bad (refusal_of z)
    types_stop q₁ = mode_as mappings s (position k) flag (position k₁) (value_is p q) ∙ rw (stop_is p₁ q₁)

    pub types_refused : (t u : Table) {z : Refusal} → r₁ ≡ Err z → Wrote (mode_into mappings s k t) (Err z) u
    unfolding into1 mapped
    types_refused t u q₁ = wrote_refused u (rw (types_stop q₁))

    types_passed : {k₂ : Cursor} → r₁ ≡ Ok k₂ → mode mappings s (position k) ≡ after_types mappings s flag (position k₂)
    types_passed q₁ = mode_as mappings s (position k) flag (position k₁) (value_is p q) ∙ rw (next_is p₁ q₁)

    module _ {k₂ : Cursor} (q₁ : r₁ ≡ Ok k₂) {r₂ : Result (ℕ × Cursor) Refusal} (p₂ : outcome r₂ ≡ field 8 s (position k₂)) where
      pub mapping_cut : (t u : Table) {z : Refusal} → r₂ ≡ Err z → Wrote (mode_into mappings s k t) (Err z) u
      unfolding into1 mapped
      mapping_cut t u q₂ = wrote_refused u (rw (types_passed q₁, refused_is p₂ q₂))

      module _ {mapping : ℕ} {k₃ : Cursor} (q₂ : r₂ ≡ Ok (mapping, k₃)) where
        pub mapping_unknown : (t u : Table) → mappings ≤ mapping → Wrote (mode_into mappings s k t) (Err (at R.NotSetUp k₂)) u
        unfolding into1 mapped
        mapping_unknown t u n = wrote_refused u (rw (types_passed q₁, value_is p₂ q₂, le-ltb _ _ n))

        pub mode_whole : (cells : List ℕ) (at : ℕ) → mapping < mappings → {cells' : List ℕ} → cells' ≡ sets cells at (flag ∷ mapping ∷ [])
            → Wrote (mode_into mappings s k (table cells at)) (Ok k₃) (table cells' (at + 2))
        unfolding into1 mapped put_row mode_row
        mode_whole cells at n e = wrote_next (rw (e, types_passed q₁, value_is p₂ q₂, lt-ltb _ _ n))

-- the loop: i modes are done
pub record Reading (mappings : ℕ) (s : List ℕ) (n : ℕ) (W : Outcome (Table × ℕ)) (i : ℕ) (k : Cursor) (cells : List ℕ) : Type 0 where
  pub within : i ≤ n
  pub rest : Rest (put_row mode_row) (mode mappings) s n W i k (table cells (2 * i))

module _ (mappings : ℕ) (s : List ℕ) (n : ℕ) where
  pub modes_start : (k : Cursor) (cells : List ℕ) → Reading mappings s n (into (put_row mode_row) (many (mode mappings) n s (position k)) (table cells 0)) 0 k cells
  modes_start k cells = record { within = omega arith; rest = loop_start _ _ _ _ _ k _ refl }

  module _ (W : Outcome (Table × ℕ)) (i : ℕ) (k : Cursor) (cells : List ℕ) (w : Reading mappings s n W i k cells) where
    pub modes_done : n ≤ i → Wrote W (Ok k) (table cells (2 * n))
    modes_done h =
        let b = w.within in
        let e : i ≡ n = omega arith in
        subst (λ (j : ℕ). Wrote W (Ok k) (table cells (2 * j))) e (loop_done _ _ _ _ _ i k _ w.rest h)

    module _ (h : i < n) {st : Result Cursor Refusal} {cells' : List ℕ} (one : Wrote (mode_into mappings s k (table cells (2 * i))) st (table cells' (2 * i + 2))) where
      pub modes_refused : {z : Refusal} → st ≡ Err z → (u : Table) → Wrote W (Err z) u
      modes_refused q u = loop_refused _ _ _ _ _ i k _ w.rest h one q u

      pub modes_next : {k' : Cursor} → st ≡ Ok k' → Reading mappings s n W (i + 1) k' cells'
      modes_next {k'} q =
          let e : 2 * i + 2 ≡ 2 * (i + 1) = omega arith in
          record { within = omega arith; rest = subst (λ (j : ℕ). Rest (put_row mode_row) (mode mappings) s n W (i + 1) k' (table cells' j)) e (loop_next _ _ _ _ _ i k _ w.rest h one q) }

pub ruleset modes_laws = (rules, modes_start, modes_done, modes_next)
