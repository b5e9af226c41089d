-- A book that was read meets every rule, and so does a list of them: by what is known of its head, of its lengths and of its lookup. Assumes nothing.
use Prim.Native.Nat.{ℕ, zero, suc, ◌≤◌}
use native.Mathlib.Omega.{arith}
use mathlib.Core.List.{List, [], ◌∷◌}
use mathlib.Core.Path.{◌≡◌, refl, sym, ap, ◌∙◌}
use lib.ListN.{length}
use Rattle.reading.specs.Outcome.{ok}
use Rattle.reading.proofs.Outcomes.{then_ok, same_ok}
use Rattle.limits.specs.declared.Limits.{Limits}
use Rattle.book.specs.Content.{Book}
use Rattle.book.specs.HeadReading.{Before, head}
use Rattle.book.specs.declared.Head.{Head}
use Rattle.book.proofs.HeadAccepted.{HeadKnown, head_ok}
use Rattle.book.specs.Inner.LengthsParts.{entries}
use Rattle.book.proofs.LengthsAccepted.{EntriesKnown, entries_known}
use Rattle.book.specs.LookupReading.{Lookup, value_count, lookup}
use Rattle.book.proofs.LookupAccepted.{LookupKnown, lookup_known}
use Rattle.book.specs.Reading.{book, books, and_this}
use Rattle.book.specs.Inner.Parts.{book_of}
use Rattle.book.specs.Inner.Valid.{ValidBook, ValidBooks}
use Rattle.book.proofs.RuleLaws.{rule6_met, rule7_met, rule8_met, rule14_met}

-- A BOOK THAT WAS READ IS VALID, where the multiplicands before are within the limit
pub book_valid : (l : Limits) (before : Before) (s : List ℕ) (k : ℕ) {b : Book} {n : ℕ} → before.values ≤ l.multiplicands → book l before s k ≡ ok (b, n) → ValidBook l before b
unfolding book entries
book_valid l before s k {b} {n} within e =
    let h = then_ok (head l before s k) _ e in
    let c = then_ok (entries k h.0.0.entries s h.0.1) _ h.2 in
    let o = then_ok (lookup k h.0.0.entries h.0.0.dimensions l.multiplicands before.values s c.0.1) _ c.2 in
    let q : ◌≡◌ {A = Book × ℕ} (book_of h.0.0 c.0.0 o.0.0, o.0.1) (b, n) = same_ok (ok (book_of h.0.0 c.0.0 o.0.0, o.0.1)) refl o.2 in
    valid h.0.0 c.0.0 o.0.0 b (ap (λ (x : Book × ℕ). x.0) q) (head_ok l before s k h.1)
    (entries_known k h.0.0.entries s h.0.1 c.1)
    (lookup_known k h.0.0.entries h.0.0.dimensions l.multiplicands before.values s c.0.1 o.1)
  where
    valid : (h : Head) (ls : List ℕ) (o : Lookup) (b : Book) → book_of h ls o ≡ b → HeadKnown l before h → EntriesKnown h.entries ls
        → LookupKnown h.entries h.dimensions l.multiplicands before.values o → ValidBook l before b
    valid h ls o b e k m w =
        let m₀ = m.long in
        rw (← e)
        (record {
          carried = record {
            dimensions = k.dimensions_high;
            entries = omega arith;
            lengths = m.fit;
            no_lookup_is = λ z. let n = w.none z in
                record { minimum = ap (λ (x : Lookup). x.minimum) n; delta = ap (λ (x : Lookup). x.delta) n; width = ap (λ (x : Lookup). x.width) n; sequence = ap (λ (x : Lookup). x.sequence) n; multiplicands = ap (λ (x : Lookup). x.multiplicands) n };
            some_lookup_is = λ z. let n = w.some z in
                record { minimum = n.0.minimum; delta = n.0.delta; width_low = n.0.width_low; width_high = n.0.width_high; sequence = n.0.sequence; count = n.1 ∙ ap (λ (x : ℕ). value_count o.lookup x h.dimensions) (sym m₀); fit = n.2 };
          };
          rule6 = rule6_met (book_of h ls o) k.dimensions_low (omega arith) w.lookup;
          rule7 = rule7_met (book_of h ls o) m.accepted;
          rule8 = rule8_met (book_of h ls o) m.accepted;
          rule14 = rule14_met (book_of h ls o) l (omega arith);
          entries_all = omega arith;
          values_all = w.within within;
        })

-- and so are all books of a section, of which there are as many as were asked for
pub books_valid : (l : Limits) (before : Before) (n : ℕ) (s : List ℕ) (k : ℕ) {bs : List Book} {j : ℕ} → before.values ≤ l.multiplicands → books l before n s k ≡ ok (bs, j)
    → ValidBooks l before bs × (length bs ≡ n)
unfolding books ValidBooks
books_valid l before zero s k {bs} {j} within e =
    let q : ◌≡◌ {A = List Book × ℕ} ([], k) (bs, j) = same_ok (ok ([], k)) refl e in
    rw (← (ap (λ (x : List Book × ℕ). x.0) q)) (tt, refl)
books_valid l before (suc n) s k {bs} {j} within e =
    let a = then_ok (book l before s k) _ e in
    let c = then_ok (books l (and_this before a.0.0) n s a.0.1) _ a.2 in
    let q : ◌≡◌ {A = List Book × ℕ} (a.0.0 ∷ c.0.0, c.0.1) (bs, j) = same_ok (ok (a.0.0 ∷ c.0.0, c.0.1)) refl c.2 in
    let v = book_valid l before s k within a.1 in
    let i = books_valid l (and_this before a.0.0) n s a.0.1 v.values_all c.1 in
    rw (← (ap (λ (x : List Book × ℕ). x.0) q)) ((v, i.0), ap suc i.1)
