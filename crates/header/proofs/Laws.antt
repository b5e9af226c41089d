-- Laws of the opening bytes, one for each way that a turn over them can go. Assumes nothing.
use Rattle.std.specs.Prelude.{Result, Ok, Err}
use Prim.Native.Nat.{ℕ, ◌+◌, ◌≤◌, ◌<◌}
use native.Mathlib.Numerals.{add-one}
use mathlib.Core.List.{List}
use mathlib.Core.Path.{◌≡◌, sym, ◌∙◌}
use lib.ListN.{length, get_or, drop, drop_of_length-le}
use lib.Seq.{drop-cons}
use borrow.Author.Tests.{eq-eqb, ne_eqb}
use Rattle.reading.specs.Outcome.{refusal, Outcome, ok, bad}
use Rattle.bits.specs.Field.{field}
use Rattle.bits.specs.Inner.Cursors.{position, refusal_of, outcome, stepped}
use Rattle.bits.specs.declared.Cursor.{Cursor}
use Rattle.bits.specs.declared.refusal.Refusal.{Refusal}
use Rattle.bits.specs.declared.refusal.Reason.TheVariants as R
use Rattle.bits.proofs.Answers.{value_is, refused_is}
use Rattle.header.specs.Header.{exactly}

-- es are the bytes that are expected, i of which were found; f is what reading the next one, at the cursor, came to; what is left of the bytes comes to
-- the whole, W
module _ (es s : List ℕ) (i : ℕ) (at : Cursor) (W : Outcome ℕ) (rest : exactly (drop i es) s (position at) ≡ W) where
  module _ (h : i < length es) (f : Result (ℕ × Cursor) Refusal) (read : outcome f ≡ field 8 s (position at)) where
    pub byte_missing : {z : Refusal} → f ≡ Err z → stepped (Err z) ≡ W
    unfolding exactly stepped
    byte_missing {z} e =
        let cut : exactly (drop i es) s (position at) ≡ bad (refusal_of z) = rw (drop-cons es i 0 h, refused_is read e) in
        sym cut ∙ rest

    pub byte_wrong : {v : ℕ} {next : Cursor} → f ≡ Ok (v, next) → {b : ℕ} → b ≡ get_or es i 0 → (v ≡ b → ⊥)
        → stepped (Err (record { reason = R.Header; place = at })) ≡ W
    unfolding exactly stepped
    byte_wrong {v} e g n =
        let other : exactly (drop i es) s (position at) ≡ bad (refusal 2 (position at)) = rw (drop-cons es i 0 h, value_is read e, ne_eqb v (get_or es i 0) (λ q. n (q ∙ sym g))) in
        sym other ∙ rest

    pub byte_found : {v : ℕ} {next : Cursor} → f ≡ Ok (v, next) → {b : ℕ} → b ≡ get_or es i 0 → v ≡ b → exactly (drop (i + 1) es) s (position next) ≡ W
    unfolding exactly
    byte_found {v} {next} e g q =
        let one : exactly (drop i es) s (position at) ≡ exactly (drop (i + 1) es) s (position next) = rw (drop-cons es i 0 h, value_is read e, eq-eqb v (get_or es i 0) (q ∙ g), add-one) in
        sym one ∙ rest

  pub complete : length es ≤ i → stepped (Ok at) ≡ W
  unfolding exactly stepped
  complete h =
      let all : exactly (drop i es) s (position at) ≡ ok (position at) = rw (drop_of_length-le es h) in
      sym all ∙ rest
