-- Before the first record: tables and outputs of the tool's lengths are all that the first step asks for. Assumes nothing.
use Prim.Native.Nat.{ℕ}
use native.Mathlib.Omega.{arith}
use mathlib.Core.Bool.{true}
use mathlib.Core.List.{List}
use mathlib.Core.Path.{◌≡◌, refl}
use lib.ListN.{length, get_or-eq_default}
use Rattle.reading.proofs.Least.{true_not_false}
use Rattle.limits.specs.Standard.{standard}
use Rattle.setup.specs.Layout.{Tables, tables, has_room}
use Rattle.record_step.specs.declared.Kept.{Kept}
use Rattle.record_step.specs.Inner.Kept.{KeptTables, KeptOutputs, StartsWith}

module _ {k : Kept} (x : StartsWith k) where
  -- tables that have their fixed need
  pub start_tables : (t : Tables) → has_room standard t ≡ true → KeptTables k t
  start_tables t room =
      record {
        identity_sound = rw x.no_identity_is tt;
        identity_first = λ h. absurd (true_not_false k.has_tables h x.no_tables);
        tables_sound = λ h. absurd (true_not_false k.has_tables h x.no_tables);
        tables_long = room;
      }

  -- outputs of the tool's lengths, whatever they hold
  pub start_outputs : (curves words : List ℕ) → length curves ≡ 32768 → length words ≡ 16384 → KeptOutputs k curves words
  start_outputs curves words c w =
      let p = x.curves_end_is in
      let q = x.words_end_is in
      record {
        curves_long = c;
        words_long = w;
        curves_zero = record { zero = λ j h. get_or-eq_default curves 0 (omega arith) };
        words_zero = record { zero = λ j h. get_or-eq_default words 0 (omega arith) };
      }

-- ROOM, from lengths alone: each table has exactly its fixed need
module _ (c b l w m f r p a o : List ℕ) (e0 : length c ≡ 5) (e1 : length b ≡ 2816) (e2 : length l ≡ 16384) (e3 : length w ≡ 16384) (e4 : length m ≡ 16384)
    (e5 : length f ≡ 17728) (e6 : length r ≡ 384) (e7 : length p ≡ 32768) (e8 : length a ≡ 51456) (e9 : length o ≡ 128) where
  pub tool_tables : has_room standard (tables c b l w m f r p a o) ≡ true
  unfolding has_room
  tool_tables = rw (e0, e1, e2, e3, e4, e5, e6, e7, e8, e9) refl
