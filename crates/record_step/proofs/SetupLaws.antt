-- A setup record, as the code asks it: what the setup call's equation and its claim of acceptance come to for the stream. Assumes nothing.
use Prim.Native.Nat.{ℕ, ◌≤◌, ◌<◌}
use native.Mathlib.Omega.{arith}
use borrow.Author.Tests.{eq-eqb, ne_eqb}
use mathlib.Core.Bool.{true, false}
use mathlib.Core.List.{List}
use mathlib.Core.Path.{◌≡◌, refl, sym, ap, ◌∙◌}
use lib.Dec.{eqb}
use lib.ListN.{length, get_or, length-replicate}
use Rattle.reading.specs.Outcome.{Refusal, Outcome, ok, bad}
use Rattle.reading.proofs.Least.{true_not_false}
use Rattle.reading.proofs.Pads.{pad_get}
use Rattle.limits.specs.declared.Limits.{Limits}
use Rattle.limits.specs.Standard.{standard}
use Rattle.std.specs.Prelude.{Some, None}
use Rattle.identification.specs.declared.Identity.{Identity}
use Rattle.identification.specs.Sound.{is_sound}
use Rattle.setup.specs.Content.{Setup}
use Rattle.setup.specs.Reading.{setup}
use Rattle.setup.specs.Layout.{Tables, layout, has_room, written_out, cleared}
use Rattle.setup.specs.Call.{setup_of, Left, left, answered, setup_call}
use Rattle.setup.specs.Accepted.{AcceptedSound}
use Rattle.setup.specs.Inner.Parts.{Small}
use Rattle.setup.proofs.TableLaws.{room_parts}
use Rattle.setup.proofs.TestLaws.{test_tells}
use Rattle.records.specs.declared.Answer.TheVariants.{Refused}
use Rattle.record_step.specs.declared.Kept.{Kept}
use Rattle.record_step.specs.declared.Stepped.{Stepped}
use Rattle.record_step.specs.Inner.Kept.{stream_of, KeptTables, unchanged, setup_accepted, setup_refused, setup_numbered, SetupStep}

-- 01's limits are within what the program can count
pub small_standard : Small standard
small_standard = record { few_channels = omega arith; few_entries = omega arith; few_values = omega arith }

-- a limits' value that has 01's numbers is 01's limits
pub limits_are : {l : Limits} → (l.channels ≡ 8) × (l.book_entries ≡ 8192) × (l.entries ≡ 16384) × (l.multiplicands ≡ 16384) → l ≡ standard
limits_are e = λ j. record { channels = e.0 j; book_entries = e.1 j; entries = e.2 j; multiplicands = e.3 j }

pub limits_small : {l : Limits} → (l.channels ≡ 8) × (l.book_entries ≡ 8192) × (l.entries ≡ 16384) × (l.multiplicands ≡ 16384) → Small l
limits_small e = rw (limits_are e) small_standard

-- the call's number
module _ (k : Kept) (number books modes : ℕ) {r : Stepped} where
  pub number_zero : number ≡ 0 → r ≡ setup_accepted k books modes → r ≡ setup_numbered k number books modes
  number_zero e a = rw (eq-eqb number 0 e) a

  pub number_other : (number ≡ 0 → ⊥) → r ≡ setup_refused k number → r ≡ setup_numbered k number books modes
  number_other e a = rw (ne_eqb number 0 e) a

-- room is a matter of lengths
cleared_room : (t : Tables) → has_room standard t ≡ true → has_room standard (cleared t) ≡ true
unfolding has_room cleared
cleared_room t e = simp length-replicate e

-- without an identity
pub no_identity_is : (k : Kept) (s : List ℕ) (t : Tables) {r : Stepped} {number : ℕ} → KeptTables k t → k.identity ≡ None → number ≡ 18 → r ≡ unchanged k (Refused number) → SetupStep k s t r t
unfolding stream_of
no_identity_is k s t x n e a =
    rw (a, e) (record { stream = rw n refl; tables = x; ends = record { curves = refl; words = refl } })

-- WITH ONE: identity and room are good, so that the call is by the packet alone
module _ (k : Kept) (s : List ℕ) (t : Tables) (x : KeptTables k t) (i : Identity) (has : k.identity ≡ Some i) where
  sound : is_sound standard.channels i ≡ true
  sound = rw has at x.identity_sound

  by_packet : setup_of standard i s t ≡ setup standard i.channels s
  unfolding setup_of
  by_packet = rw (sound, x.tables_long) refl

  module _ (a : AcceptedSound standard i s t) where
    module _ (c : Setup) (e : setup_of standard i s t ≡ ok c) where
      counted : (i n : ℕ) → i < 5 → get_or (layout c).counts i 0 ≡ n → get_or (written_out c t).counts i 0 ≡ n
      unfolding written_out
      counted i n h q = let room = (room_parts standard t x.tables_long).counts in pad_get (length t.counts) (layout c).counts i (omega arith) ∙ q

      good : SetupStep k s t (setup_accepted k (get_or (written_out c t).counts 0 0) (get_or (written_out c t).counts 4 0)) (written_out c t)
      unfolding stream_of layout
      good =
          record {
            stream =
                rw (has, sym by_packet ∙ e, a.decoded c e, counted 0 (length c.books) (omega arith) refl, counted 4 (length c.modes) (omega arith) refl)
                refl;
            tables =
                record {
                  identity_sound = x.identity_sound;
                  identity_first = λ h. rw has refl;
                  tables_sound = λ h. rw has (a.tested c e);
                  tables_long = (test_tells.0 (a.tested c e)).tables.room;
                };
            ends = record { curves = refl; words = refl };
          }

    refused : (z : Refusal) → setup_of standard i s t ≡ bad z → SetupStep k s t (setup_refused k z.number) (cleared t)
    unfolding stream_of
    refused z e =
        record {
          stream = rw (has, sym by_packet ∙ e) refl;
          tables =
              record {
                identity_sound = x.identity_sound;
                identity_first = λ h. rw has refl;
                tables_sound = λ h. absurd (true_not_false false h refl);
                tables_long = cleared_room t x.tables_long;
              };
          ends = record { curves = refl; words = refl };
        }

    -- what the call left, by the outcome
    by_outcome : (o : Outcome Setup) → setup_of standard i s t ≡ o → (n : ℕ) (u : Tables) → left n u ≡ answered o t
        → SetupStep k s t (setup_numbered k n (get_or u.counts 0 0) (get_or u.counts 4 0)) u
    unfolding answered
    by_outcome (ok c) e n u q =
        let number : n ≡ 0 = ap (λ (v : Left). v.number) q in
        let tables : u ≡ written_out c t = ap (λ (v : Left). v.tables) q in
        rw (number, tables) (good c e)
    by_outcome (bad z) e n u q =
        let number : n ≡ z.number = ap (λ (v : Left). v.number) q in
        let tables : u ≡ cleared t = ap (λ (v : Left). v.tables) q in
        let some : 1 ≤ z.number = a.numbered z e in
        let no : eqb z.number 0 ≡ false = ne_eqb z.number 0 (λ (h : z.number ≡ 0). omega arith) in
        rw (number, tables, no) (refused z e)

-- and as the program has it
module _ (k : Kept) (s : List ℕ) (t : Tables) (x : KeptTables k t) {i : Identity} (has : k.identity ≡ Some i) where
  pub setup_settled : {l : Limits} {number books modes : ℕ} {u : Tables} {r : Stepped} → (l.channels ≡ 8) × (l.book_entries ≡ 8192) × (l.entries ≡ 16384) × (l.multiplicands ≡ 16384)
      → (left number u ≡ setup_call l i s t) × AcceptedSound l i s t
      → books ≡ get_or u.counts 0 0 → modes ≡ get_or u.counts 4 0 → r ≡ setup_numbered k number books modes → SetupStep k s t r u
  unfolding setup_call
  setup_settled {l} {number} {books} {modes} {u} e q b m a =
      let p : (left number u ≡ setup_call standard i s t) × AcceptedSound standard i s t = rw (limits_are e) at q in
      rw (a, b, m) (by_outcome k s t x i has p.1 (setup_of standard i s t) refl number u p.0)
