-- ONE BOOK: its tests together find exactly where the tables hold a book that meets every rule, written out. Assumes nothing.
use Prim.Native.Nat.{ℕ, ◌+◌, ◌^◌, ◌≤◌, ◌<◌}
use native.Mathlib.Omega.{arith}
use borrow.Author.Tests.{le-leb}
use mathlib.Core.Bool.{true}
use mathlib.Core.List.{List}
use mathlib.Core.Logic.{◌↔◌, ⊎_elim}
use mathlib.Core.Path.{◌≡◌, refl, sym, ap, ◌∙◌}
use lib.Dec.{ltb}
use lib.ListN.{length, take, drop, length-drop}
use lib.Seq.{length-take-le}
use Rattle.reading.specs.Lists.{all}
use Rattle.reading.proofs.Basics.{length_zero}
use Rattle.reading.proofs.Least.{lt_or_le}
use Rattle.limits.specs.declared.Limits.{Limits}
use Rattle.codeword_assignment.specs.Book.{Coded, lone_mark}
use Rattle.book.specs.Layout.{book_row}
use Rattle.book.specs.LookupReading.{value_count}
use Rattle.book.specs.Carried.{NoLookup, SomeLookup}
use Rattle.book.proofs.RuleLaws.{rule7_met, rule8_met, lengths_accepted, some_dimensions, some_entries, few_entries}
use Rattle.book_tables.specs.declared.row.Row.{Row}
use Rattle.book_tables.specs.Inner.Rules.{book_of, book_in, HeadRules, PlaceRules, LookupRules, BookRules, Begun}
use Rattle.book_tables.proofs.Small.{accepted_small}
use Rattle.book_tables.proofs.TestLaws.{row_made, zeros_long, zeros_fit, head_bounds, place_within}

-- books of one row that differ in the lengths and multiplicands, but not in how many there are
module _ (row : Row) {ls ls' ms ms' : List ℕ} (n : length ls ≡ length ls') (k : length ms ≡ length ms') where
  none_same : NoLookup (book_of row ls ms) → NoLookup (book_of row ls' ms')
  none_same x =
      record {
        minimum = x.minimum;
        delta = x.delta;
        width = x.width;
        sequence = x.sequence;
        multiplicands = length_zero ms' (sym k ∙ ap length x.multiplicands);
      }

  some_same : SomeLookup (book_of row ls ms) → all (λ v. ltb v (2 ^ row.width)) ms' ≡ true → SomeLookup (book_of row ls' ms')
  some_same x f =
      record {
        minimum = x.minimum;
        delta = x.delta;
        width_low = x.width_low;
        width_high = x.width_high;
        sequence = x.sequence;
        count = sym k ∙ x.count ∙ ap (λ (i : ℕ). value_count row.lookup i row.dimensions) n;
        fit = f;
      }

-- a book that is written out meets each test
module _ (limits : Limits) (entries values : ℕ) (row : Row) (ls ws ms : List ℕ) (r : BookRules limits entries values row ls ws ms) where
  pub entries_counted : row.entries ≡ length (take row.entries ls)
  unfolding book_row
  entries_counted = ap (λ (x : Row). x.entries) r.written

  pub values_counted : row.count ≡ length (take row.count ms)
  unfolding book_row
  values_counted = ap (λ (x : Row). x.count) r.written

  pub entries_within : entries + row.entries ≤ limits.entries
  entries_within = let n = entries_counted in let h = r.valid.entries_all in omega arith

  pub values_within : values + row.count ≤ limits.multiplicands
  values_within = let n = values_counted in let h = r.valid.values_all in omega arith

  pub has_head : HeadRules limits entries row
  has_head =
      let b = book_in row ls ms in
      let n = entries_counted in
      let low = some_entries b r.valid.rule6 in
      let high : length b.lengths < 16777216 = r.valid.carried.entries in
      let few = few_entries b limits r.valid.rule14 in
      (head_bounds limits entries row).1 (some_dimensions b r.valid.rule6, r.valid.carried.dimensions, omega arith, omega arith, omega arith, entries_within)

  pub has_place : PlaceRules limits entries values row
  unfolding book_row
  has_place =
      record {
        entries_first = ap (λ (x : Row). x.first_entry) r.written;
        values_first = ap (λ (x : Row). x.first_value) r.written;
        values_all = le-leb _ _ values_within;
      }

  pub has_lookup : LookupRules row
  has_lookup =
      let n = sym entries_counted ∙ sym (zeros_long row.entries) in
      let k = sym values_counted ∙ sym (zeros_long row.count) in
      record {
        known = r.valid.rule6.lookup;
        none = λ z. none_same row n k (r.valid.carried.no_lookup_is z);
        some = λ z. some_same row n k (r.valid.carried.some_lookup_is z) (zeros_fit row.count row.width);
      }

  pub has_codewords : Coded (take row.entries ls) (take row.entries ws)
  has_codewords = record { accepted = lengths_accepted (book_in row ls ms) r.valid.rule7 r.valid.rule8; assigned = r.assigned }

  pub has_mark : row.lone ≡ lone_mark (take row.entries ls)
  unfolding book_row
  has_mark = ap (λ (x : Row). x.lone) r.written

  fits : all (λ v. ltb v (2 ^ row.width)) (take row.count ms) ≡ true
  unfolding all
  fits =
      ⊎_elim
      (λ (h : 0 < row.lookup). (r.valid.carried.some_lookup_is (λ e. omega arith)).fit)
      (λ (h : row.lookup ≤ 0). rw (r.valid.carried.no_lookup_is (omega arith)).multiplicands)
      (lt_or_le 0 row.lookup)

-- a book each of whose parts is right: its lengths, codewords and multiplicands are all there, and it is written out
module _ (limits : Limits) (entries values : ℕ) (row : Row) (ls ws ms : List ℕ) (begun : Begun limits entries values ls ws ms)
    (head : HeadRules limits entries row) (place : PlaceRules limits entries values row) where
  lengths_inside : entries + row.entries ≤ length ls
  lengths_inside = let h = (head_bounds limits entries row).0 head in let r = begun.lengths_room in omega arith

  values_inside : values + row.count ≤ length ms
  values_inside = let h = place_within limits entries values row place in let r = begun.values_room in omega arith

  book_end : LookupRules row → Coded (take row.entries (drop entries ls)) (take row.entries (drop entries ws)) → row.lone ≡ lone_mark (take row.entries (drop entries ls))
      → all (λ v. ltb v (2 ^ row.width)) (take row.count (drop values ms)) ≡ true → BookRules limits entries values row (drop entries ls) (drop entries ws) (drop values ms)
  unfolding book_row
  book_end lookup coded mark fit =
      let b = book_in row (drop entries ls) (drop values ms) in
      let i = lengths_inside in
      let d = length-drop entries ls in
      let n : length b.lengths ≡ row.entries = length-take-le row.entries (drop entries ls) (omega arith) in
      let n' = zeros_long row.entries ∙ sym n in
      let j = values_inside in
      let e = length-drop values ms in
      let k : length b.multiplicands ≡ row.count = length-take-le row.count (drop values ms) (omega arith) in
      let k' = zeros_long row.count ∙ sym k in
      record {
        valid = record {
          carried = record {
            dimensions = head.carried.dimensions;
            entries = rw (← n') head.carried.entries;
            lengths = accepted_small b.lengths coded.accepted;
            no_lookup_is = λ z. none_same row n' k' (lookup.none z);
            some_lookup_is = λ z. some_same row n' k' (lookup.some z) fit;
          };
          rule6 = record { dimensions = head.rule6.dimensions; entries = rw (← n') head.rule6.entries; lookup = lookup.known };
          rule7 = rule7_met b coded.accepted;
          rule8 = rule8_met b coded.accepted;
          rule14 = rw (← n') head.rule14;
          entries_all = rw n ((head_bounds limits entries row).0 head).5;
          values_all = rw k (place_within limits entries values row place);
        };
        written = row_made (book_row entries values b) refl (sym n) place.entries_first refl refl refl refl refl (sym k) place.values_first mark;
        assigned = coded.assigned;
      }

-- ONE BOOK BY ITS PARTS: the tables hold a book that meets every rule, written out, exactly where each part is right
pub book_parts : (limits : Limits) (entries values : ℕ) (row : Row) (ls ws ms : List ℕ) → Begun limits entries values ls ws ms
    → BookRules limits entries values row (drop entries ls) (drop entries ws) (drop values ms)
    ↔ (HeadRules limits entries row × PlaceRules limits entries values row × LookupRules row
    × Coded (take row.entries (drop entries ls)) (take row.entries (drop entries ws)) × (row.lone ≡ lone_mark (take row.entries (drop entries ls)))
    × (all (λ v. ltb v (2 ^ row.width)) (take row.count (drop values ms)) ≡ true))
book_parts limits entries values row ls ws ms begun = (
  (λ r. (
    has_head _ _ _ _ _ _ _ r,
    has_place _ _ _ _ _ _ _ r,
    has_lookup _ _ _ _ _ _ _ r,
    has_codewords _ _ _ _ _ _ _ r,
    has_mark _ _ _ _ _ _ _ r,
    fits _ _ _ _ _ _ _ r,
  )),
  (λ h. book_end limits entries values row ls ws ms begun h.0 h.1 h.2 h.3 h.4 h.5),
)
