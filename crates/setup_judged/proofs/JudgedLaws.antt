-- WHEN THE SETUP CALL GIVES 7 OR 8 FOR A BOOK whose lengths are all read: 7 where the ledger refuses one, 8 where it leaves space, else neither. What is read before is
-- known; what is read behind gives neither at that place, since reading goes onward. Assumes nothing.
use Prim.Native.Nat.{ℕ, zero, suc, ◌+◌, ◌-◌, ◌≤◌, ◌<◌}
use native.Mathlib.Omega.{arith}
use borrow.Author.Tests.{eq-eqb, eqb-true, ne_eqb}
use mathlib.Core.Bool.{Bool, true, false, ◌||◌}
use mathlib.Core.List.{List, [], ◌∷◌, ◌++◌}
use mathlib.Core.Logic.{inl, inr, ⊎_elim}
use mathlib.Core.Option.{Option, none, some}
use mathlib.Core.Path.{◌≡◌, refl, ap, subst, ◌∙◌}
use lib.Dec.{eqb}
use lib.ListN.{length}
use Rattle.reading.specs.Outcome.{Refusal, refusal, Outcome, ok, bad, then}
use Rattle.reading.specs.Lists.{sum}
use Rattle.reading.proofs.Outcomes.{ok_is, same_bad, then_ok}
use Rattle.header.specs.Header.{framing}
use Rattle.limits.specs.declared.Limits.{Limits}
use Rattle.identification.specs.declared.Identity.{Identity}
use Rattle.codeword_assignment.specs.Book as B
use Rattle.codeword_assignment.specs.Book.{used, is_lone, first_refused, free_after, verdict}
use Rattle.rules.specs.Rules.{meets7, meets8}
use Rattle.book.specs.Content.{Book}
use Rattle.book.specs.HeadReading.{Before}
use Rattle.book.specs.LengthsReading.{entered}
use Rattle.book.specs.LookupReading.{Lookup}
use Rattle.book.specs.Reading.{book, and_this, books}
use Rattle.floor.specs.Content.{Floor}
use Rattle.floor.specs.Reading.{floor}
use Rattle.residue.specs.Content.{Residue}
use Rattle.residue.specs.Reading.{residue}
use Rattle.mapping.specs.Content.{Mapping}
use Rattle.mapping.specs.Reading.{mapping}
use Rattle.mode.specs.Content.{Mode}
use Rattle.mode.specs.Reading.{mode}
use Rattle.setup.specs.Content.{Setup, books_known, known}
use Rattle.setup.specs.Reading.{book_section, time_value, sections, setup}
use Rattle.setup.specs.Rules.{entries_in_all, multiplicands_in_all}
use Rattle.setup.specs.Layout.{Tables}
use Rattle.setup.specs.Call.{setup_of, setup_call, answered}
use Rattle.setup_judged.specs.Judged.{LedgerTakes, LeavesSpace, counted, LengthsRead, JudgedByCall}
use Rattle.setup_judged.proofs.Onward.{Elsewhere, Past, Apart, read, refused, value, then_past, then_apart, head_past, lengths_past, lookup_past, books_past, time_past, floor_past, residue_past, mapping_past, mode_past, section_past, framing_past}

-- so many entries and multiplicands, and those of books read behind them
abbrev pub onto : Before → List Book → Before
onto before bs = record { entries = before.entries + entries_in_all bs; values = before.values + multiplicands_in_all bs }

pub onto_nil : (before : Before) → onto before [] ≡ before
unfolding entries_in_all multiplicands_in_all sum
onto_nil before =
    let p : before.entries + 0 ≡ before.entries = omega arith in
    let q : before.values + 0 ≡ before.values = omega arith in
    (λ j. record { entries = p j; values = q j })

pub onto_cons : (before : Before) (b : Book) (bs : List Book) → onto (and_this before b) bs ≡ onto before (b ∷ bs)
unfolding entries_in_all multiplicands_in_all sum
onto_cons before b bs =
    let p : before.entries + length b.lengths + entries_in_all bs ≡ before.entries + (length b.lengths + entries_in_all bs) = omega arith in
    let q : before.values + length b.multiplicands + multiplicands_in_all bs ≡ before.values + (length b.multiplicands + multiplicands_in_all bs) = omega arith in
    (λ j. record { entries = p j; values = q j })

pub onto_none : (bs : List Book) → onto (record { entries = 0; values = 0 }) bs ≡ counted bs
onto_none bs =
    let p : 0 + entries_in_all bs ≡ entries_in_all bs = omega arith in
    let q : 0 + multiplicands_in_all bs ≡ multiplicands_in_all bs = omega arith in
    (λ j. record { entries = p j; values = q j })

again : (a : List Book × ℕ → List Book × ℕ) (b : List Book × ℕ → List Book × ℕ) (o : Outcome (List Book × ℕ))
    → then (then o (λ x. ok (a x))) (λ y. ok (b y)) ≡ then o (λ x. ok (b (a x)))
again a b (ok x) = refl
again a b (bad z) = refl

same : (o : Outcome (List Book × ℕ)) → o ≡ then o (λ x. ok (x.0, x.1))
same (ok x) = refl
same (bad z) = refl

-- where some books are read, all are read by reading the others behind them
module _ (limits : Limits) (s : List ℕ) where
  -- all of them behind some, l, that were read
  abbrev Others : ℕ → Before → List Book × ℕ → Outcome (List Book × ℕ)
  Others n before l = then (books limits (onto before l.0) n s l.1) (λ rest. ok (l.0 ++ rest.0, rest.1))

  one_more : (m n : ℕ) (before : Before) (k : ℕ) (b : Book × ℕ) (l : List Book × ℕ) → book limits before s k ≡ ok b
      → books limits (and_this before b.0) (m + n) s b.1 ≡ Others n (and_this before b.0) l → books limits before (suc m + n) s k ≡ Others n before (b.0 ∷ l.0, l.1)
  unfolding books
  one_more m n before k b l e i =
      let z : suc m + n ≡ suc (m + n) = omega arith in
      rw (z, e, i, ← (onto_cons before b.0 l.0))
      (again (λ rest. (l.0 ++ rest.0, rest.1)) (λ rest. (b.0 ∷ rest.0, rest.1)) (books limits (onto (and_this before b.0) l.0) n s l.1))

  books_after : (m n : ℕ) (before : Before) (k : ℕ) {l : List Book × ℕ} → books limits before m s k ≡ ok l → books limits before (m + n) s k ≡ Others n before l
  unfolding books
  books_after zero n before k {l} e =
      let z : 0 + n ≡ n = omega arith in
      subst (λ (x : List Book × ℕ). books limits before (0 + n) s k ≡ Others n before x) (ok_is e) (rw (z, onto_nil before) (same (books limits before n s k)))
  books_after (suc m) n before k {l} e =
      let b = then_ok (book limits before s k) _ e in
      let r = then_ok (books limits (and_this before b.0.0) m s b.0.1) _ b.2 in
      subst
      (λ (x : List Book × ℕ). books limits before (suc m + n) s k ≡ Others n before x)
      (ok_is r.2)
      (one_more m n before k b.0 r.0 b.1 (books_after m n (and_this before b.0.0) b.0.1 r.1))

past_ok : {A : Type 0} {place : ℕ} {o : Outcome (A × ℕ)} {x : A × ℕ} → Past place o → o ≡ ok x → place < x.1
past_ok {A} {place} {o} {x} p e = go p e
  where
    go : {q : Outcome (A × ℕ)} → Past place q → q ≡ ok x → place < x.1
    go (read y h) f = subst (λ (v : A × ℕ). place < v.1) (ok_is f) h
    go (refused z h) f = let n : ◌≡◌ {A = ℕ} 0 1 = cc in absurd (omega arith)

apart_bad : {A : Type 0} {place : ℕ} {o : Outcome A} {z : Refusal} → Apart place o → o ≡ bad z → Elsewhere place z
apart_bad {A} {place} {o} {z} p e = go p e
  where
    go : {q : Outcome A} → Apart place q → q ≡ bad z → Elsewhere place z
    go (value a) f = let n : ◌≡◌ {A = ℕ} 0 1 = cc in absurd (omega arith)
    go (refused y h) f = let q : y ≡ z = cc in subst (λ (v : Refusal). Elsewhere place v) q h

-- what follows the books gives neither 7 nor 8 at a place before its end
after_apart : (limits : Limits) (channels place : ℕ) (s : List ℕ) (k : ℕ) → Past place (book_section limits s k)
    → Apart place (then (sections limits channels s k) (λ x. then (framing s x.1) (λ _. ok x.0)))
unfolding sections
after_apart limits channels place s k p =
    then_apart place
    (then_past place p (λ (bs : List Book × ℕ) a.
    then_past place (section_past place s time_value (time_past place s) bs.1 a) (λ (times : List ℕ × ℕ) b.
    then_past place (section_past place s (floor (length bs.0)) (floor_past place s (length bs.0)) times.1 b) (λ (fs : List Floor × ℕ) c.
    then_past place (section_past place s (residue (books_known bs.0)) (residue_past place s (books_known bs.0)) fs.1 c) (λ (rs : List Residue × ℕ) d.
    then_past place (section_past place s (mapping (known channels fs.0 rs.0)) (mapping_past place s (known channels fs.0 rs.0)) rs.1 d) (λ (ms : List Mapping × ℕ) e.
    then_past place (section_past place s (mode (length ms.0)) (mode_past place s (length ms.0)) ms.1 e) (λ (modes : List Mode × ℕ) f. read _ f)))))))
    (λ (x : Setup × ℕ) q. then_apart place (framing_past place s x.1 q) (λ (f : ℕ × ℕ) _. value _))

-- the three that there are
pub data Judgement (ls : List ℕ) : Type 0 where
  refuses : (e : ℕ) → first_refused ls ≡ some e → Judgement ls
  leaves : LeavesSpace ls → Judgement ls
  takes : LedgerTakes ls → Judgement ls

pub judgement : (ls : List ℕ) → Judgement ls
judgement ls = go (first_refused ls) (eqb (free_after ls) 0) (is_lone (used ls)) refl refl refl
  where
    some_left : (n : ℕ) → eqb n 0 ≡ false → 1 ≤ n
    some_left zero e = let z : ◌≡◌ {A = ℕ} 0 1 = cc in absurd (omega arith)
    some_left (suc n) e = omega arith

    go : (o : Option ℕ) (full lone : Bool) → first_refused ls ≡ o → eqb (free_after ls) 0 ≡ full → is_lone (used ls) ≡ lone → Judgement ls
    go (some e) full lone p q r = refuses e p
    go none true lone p q r = takes (record { none_refused = p; full_or_lone = inl (eqb-true (free_after ls) 0 q) })
    go none false true p q r = takes (record { none_refused = p; full_or_lone = inr r })
    go none false false p q r = leaves (record { none_refused = p; left = some_left (free_after ls) q; not_lone = r })

or-true : (t : Bool) → (t || true) ≡ true
or-true true = refl
or-true false = refl

-- rules 7 and 8 of each
refuses_7 : (ls : List ℕ) (e : ℕ) → first_refused ls ≡ some e → meets7 (first_refused ls) ≡ false
refuses_7 ls e p = rw p

pub none_7 : (ls : List ℕ) → first_refused ls ≡ none → meets7 (first_refused ls) ≡ true
none_7 ls p = rw p

leaves_8 : (ls : List ℕ) → LeavesSpace ls → meets8 (free_after ls) (is_lone (used ls)) ≡ false
leaves_8 ls l = let h = l.left in rw (ne_eqb (free_after ls) 0 (λ e. omega arith), l.not_lone)

pub takes_8 : (ls : List ℕ) → LedgerTakes ls → meets8 (free_after ls) (is_lone (used ls)) ≡ true
takes_8 ls t =
    ⊎_elim
    (λ (z : free_after ls ≡ 0). rw (eq-eqb (free_after ls) 0 z))
    (λ (l : is_lone (used ls) ≡ true). rw (l, or-true (eqb (free_after ls) 0)))
    t.full_or_lone

-- what the number of a verdict says
module _ (ls : List ℕ) where
  verdict_refuses : (e : ℕ) → first_refused ls ≡ some e → B.refusal (verdict ls) ≡ 7
  unfolding verdict
  verdict_refuses e p = rw p

  verdict_leaves : LeavesSpace ls → B.refusal (verdict ls) ≡ 8
  unfolding verdict
  verdict_leaves l = let h = l.left in rw (l.none_refused, ne_eqb (free_after ls) 0 (λ e. omega arith), l.not_lone)

  verdict_takes : LedgerTakes ls → B.refusal (verdict ls) ≡ 0
  unfolding verdict
  verdict_takes k = rw (k.none_refused, takes_8 ls k)

  pub number_0 : B.refusal (verdict ls) ≡ 0 → LedgerTakes ls
  number_0 n = go (judgement ls)
    where
      go : Judgement ls → LedgerTakes ls
      go (refuses e p) = let m = verdict_refuses e p in absurd (omega arith)
      go (leaves l) = let m = verdict_leaves l in absurd (omega arith)
      go (takes k) = k

  pub number_7 : B.refusal (verdict ls) ≡ 7 → (e : ℕ) × (first_refused ls ≡ some e)
  number_7 n = go (judgement ls)
    where
      go : Judgement ls → (e : ℕ) × (first_refused ls ≡ some e)
      go (refuses e p) = (e, p)
      go (leaves l) = let m = verdict_leaves l in absurd (omega arith)
      go (takes k) = let m = verdict_takes k in absurd (omega arith)

  pub number_8 : B.refusal (verdict ls) ≡ 8 → LeavesSpace ls
  number_8 n = go (judgement ls)
    where
      go : Judgement ls → LeavesSpace ls
      go (refuses e p) = let m = verdict_refuses e p in absurd (omega arith)
      go (leaves l) = l
      go (takes k) = let m = verdict_takes k in absurd (omega arith)

module _ {limits : Limits} {i : Identity} {s : List ℕ} {t : Tables} {place : ℕ} {ls : List ℕ} (x : LengthsRead limits i s t place ls) where
  -- the books behind it
  abbrev left : ℕ
  left = x.others - length x.before

  section_is : book_section limits s x.start ≡ then (books limits (counted x.before) (suc left) s place) (λ rest. ok (x.before ++ rest.0, rest.1))
  unfolding book_section
  section_is =
      let h = x.one_of_them in
      let e : x.others + 1 ≡ length x.before + suc left = omega arith in
      rw (x.numbered, e)
      (books_after limits s (length x.before) (suc left) (record { entries = 0; values = 0 }) x.first x.books_read
      ∙ ap (λ (b : Before). then (books limits b (suc left) s place) (λ rest. ok (x.before ++ rest.0, rest.1))) (onto_none x.before))

  call_is : setup_of limits i s t ≡ then (sections limits i.channels s x.start) (λ y. then (framing s y.1) (λ _. ok y.0))
  unfolding setup_of setup
  call_is = rw (x.sound, x.room, x.opened)

  -- a book that is refused refuses the call
  section_bad : {z : Refusal} → book limits (counted x.before) s place ≡ bad z → book_section limits s x.start ≡ bad z
  section_bad e = section_is ∙ (unfold books in rw e)

  call_bad : {z : Refusal} → book limits (counted x.before) s place ≡ bad z → setup_of limits i s t ≡ bad z
  call_bad e = let b = section_bad e in call_is ∙ (unfold sections in rw b)

  refused7 : (e : ℕ) → first_refused ls ≡ some e → setup_of limits i s t ≡ bad (refusal 7 place)
  refused7 e p = call_bad (unfold book entered in rw (x.head_read, x.lengths_read, refuses_7 ls e p))

  refused8 : LeavesSpace ls → setup_of limits i s t ≡ bad (refusal 8 place)
  refused8 l = call_bad (unfold book entered in rw (x.head_read, x.lengths_read, none_7 ls l.none_refused, leaves_8 ls l))

  -- a book that is taken is read onward
  book_onward : LedgerTakes ls → Past place (book limits (counted x.before) s place)
  unfolding book entered
  book_onward k =
      let h = past_ok (head_past place s limits (counted x.before) place (omega arith)) x.head_read in
      let l = past_ok (lengths_past place s place x.this.entries x.after_head_is h) x.lengths_read in
      rw (x.head_read, x.lengths_read, none_7 ls k.none_refused, takes_8 ls k)
      (then_past place (lookup_past place s place x.this.entries x.this.dimensions limits.multiplicands (multiplicands_in_all x.before) x.after l) (λ (y : Lookup × ℕ) q. read _ q))

  books_onward : LedgerTakes ls → Past place (books limits (counted x.before) (suc left) s place)
  unfolding books
  books_onward k =
      then_past place (book_onward k) (λ (y : Book × ℕ) p.
      then_past place (books_past place s limits left (and_this (counted x.before) y.0) y.1 p) (λ (rest : List Book × ℕ) q. read _ q))

  apart : LedgerTakes ls → Apart place (setup_of limits i s t)
  apart k =
      let p : Past place (book_section limits s x.start) = rw section_is (then_past place (books_onward k) (λ (rest : List Book × ℕ) q. read _ q)) in
      rw call_is (after_apart limits i.channels place s x.start p)

  only_number : {m n : ℕ} → setup_of limits i s t ≡ bad (refusal m place) → setup_of limits i s t ≡ bad (refusal n place) → m ≡ n
  only_number p q = ap (λ (z : Refusal). z.number) (same_bad (setup_of limits i s t) p q)

  -- THE CALL'S JUDGEMENT
  pub judged_by_call : JudgedByCall limits i s t place ls
  judged_by_call =
      record {
        neither = (only_taken, (λ k. ((λ e. (apart_bad (apart k) e).0 refl), (λ e. (apart_bad (apart k) e).1 refl))));
        seven = (only_refused, (λ e. refused7 e.0 e.1));
        eight = (only_left, refused8);
        answers7 = λ e p. let r = refused7 e p in unfold setup_call answered in rw r;
        answers8 = λ l. let r = refused8 l in unfold setup_call answered in rw r;
      }
    where
      only_taken : (setup_of limits i s t ≡ bad (refusal 7 place) → ⊥) × (setup_of limits i s t ≡ bad (refusal 8 place) → ⊥) → LedgerTakes ls
      only_taken n = go (judgement ls)
        where
          go : Judgement ls → LedgerTakes ls
          go (refuses e p) = absurd (n.0 (refused7 e p))
          go (leaves l) = absurd (n.1 (refused8 l))
          go (takes k) = k

      only_refused : setup_of limits i s t ≡ bad (refusal 7 place) → (e : ℕ) × (first_refused ls ≡ some e)
      only_refused g = go (judgement ls)
        where
          go : Judgement ls → (e : ℕ) × (first_refused ls ≡ some e)
          go (refuses e p) = (e, p)
          go (leaves l) = let n = only_number g (refused8 l) in absurd (omega arith)
          go (takes k) = absurd ((apart_bad (apart k) g).0 refl)

      only_left : setup_of limits i s t ≡ bad (refusal 8 place) → LeavesSpace ls
      only_left g = go (judgement ls)
        where
          go : Judgement ls → LeavesSpace ls
          go (refuses e p) = let n = only_number g (refused7 e p) in absurd (omega arith)
          go (leaves l) = l
          go (takes k) = absurd ((apart_bad (apart k) g).1 refl)
