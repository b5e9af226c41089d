-- Reading a sole used entry, as the code asks it. Assumes nothing.
use Rattle.bits.specs.declared.refusal.Refusal.{Refusal}
use Rattle.std.specs.Prelude.{Ok, Err}
use Prim.Native.Nat.{ℕ, ◌+◌, ◌*◌, ◌≤◌}
use native.Mathlib.Omega.{arith}
use mathlib.Core.List.{List}
use mathlib.Core.Path.{◌≡◌}
use lib.ListN.{length}
use borrow.Author.Rules.{rules}
use Rattle.reading.specs.Outcome.{refusal}
use Rattle.reading.specs.Reader.{mapped}
use Rattle.bits.specs.Field.{field}
use Rattle.bits.specs.Inner.Cursors.{position, refusal_of, outcome}
use Rattle.bits.specs.declared.Cursor.{Cursor}
use Rattle.bits.proofs.Fields.{field_whole, field_cut}
use Rattle.codeword.specs.Codeword.{lone_bits}
use Rattle.codeword.specs.Inner.Window.{NextBits}
use Rattle.codeword.specs.declared.window.Window.{Window}

module _ (s : List ℕ) (k : Cursor) (next : Window) (b : NextBits s (position k) next.count next.bits) where
  -- the window has a bit
  pub lone_there : (next.count ≡ 0 → ⊥) → position k + 1 ≤ 8 * length s
  lone_there d = let t = b.there 0 (omega arith) in omega arith

  module _ (entry : ℕ) where
    pub lone_read : (next.count ≡ 0 → ⊥) → (c : Cursor) → position c ≡ position k + 1 → outcome (Ok (entry, c)) ≡ mapped (λ _. entry) (field lone_bits s (position k))
    unfolding mapped outcome
    lone_read d c p = rw (p, field_whole s (position k) lone_bits (lone_there d))

    -- it has none
    pub lone_cut : next.count ≡ 0 → (r : Refusal) → refusal_of r ≡ refusal 1 (position k) → outcome (Err r) ≡ mapped (λ _. entry) (field lone_bits s (position k))
    unfolding mapped outcome
    lone_cut z r p = let a = b.all (omega arith) in rw (p, field_cut s (position k) lone_bits (omega arith))

pub ruleset lone_laws = (rules, lone_read)
