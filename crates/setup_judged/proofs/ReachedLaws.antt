-- EVERY BOOK OF AN ACCEPTED SETUP WAS REACHED, and all its lengths were read: what the call's judgement is said of, it is said of each of them. Assumes nothing.
use Prim.Native.Nat.{ℕ, zero, suc, ◌+◌, ◌<◌}
use native.Mathlib.Omega.{arith}
use mathlib.Core.List.{List, [], ◌∷◌, map}
use mathlib.Core.Path.{◌≡◌, refl, sym, ap, subst, ◌∙◌}
use lib.ListN.{length, get_or}
use Rattle.reading.specs.Outcome.{refusal, ok, then}
use Rattle.reading.proofs.Outcomes.{ok_is, then_ok, need-ok}
use Rattle.bits.specs.Field.{field}
use Rattle.header.specs.Header.{common_header, framing}
use Rattle.limits.specs.declared.Limits.{Limits}
use Rattle.identification.specs.declared.Identity.{Identity}
use Rattle.codeword_assignment.specs.Book.{used, first_refused, free_after, is_lone}
use Rattle.rules.specs.Rules.{meets7, meets8}
use Rattle.book.specs.Content.{Book}
use Rattle.book.specs.HeadReading.{Before, head}
use Rattle.book.specs.declared.Head.{Head}
use Rattle.book.specs.LengthsReading.{lengths, entered}
use Rattle.book.specs.LookupReading.{lookup}
use Rattle.book.specs.Reading.{book, and_this, books}
use Rattle.book.proofs.Accepted.{books_valid}
use Rattle.floor.specs.Reading.{floor}
use Rattle.residue.specs.Reading.{residue}
use Rattle.mapping.specs.Reading.{mapping}
use Rattle.mode.specs.Reading.{mode}
use Rattle.setup.specs.Content.{Setup, books_known, known}
use Rattle.setup.specs.Reading.{book_section, section, time_value, sections, setup}
use Rattle.setup.specs.Layout.{Tables}
use Rattle.setup.specs.Call.{setup_of}
use Rattle.setup.proofs.ValidLaws.{call_accepted}
use Rattle.setup_judged.specs.Judged.{counted, LengthsRead}
use Rattle.setup_judged.proofs.JudgedLaws.{onto, onto_nil, onto_cons, onto_none}

-- the lengths of each book
abbrev all_of : List Book → List (List ℕ)
all_of bs = map (λ x. x.lengths) bs

-- book number b of those read from bit k on: those before it, and itself
record Reached (limits : Limits) (s : List ℕ) (before : Before) (k b : ℕ) (ls : List ℕ) : Type 0 where
  done : List Book
  place : ℕ
  this : Book
  after : ℕ
  number : length done ≡ b
  done_read : books limits before b s k ≡ ok (done, place)
  this_read : book limits (onto before done) s place ≡ ok (this, after)
  same : this.lengths ≡ ls

module _ (limits : Limits) (s : List ℕ) where
  next_reached : (before : Before) (k b : ℕ) {ls : List ℕ} (x : Book × ℕ) → book limits before s k ≡ ok x → Reached limits s (and_this before x.0) x.1 b ls → Reached limits s before k (suc b) ls
  unfolding books
  next_reached before k b x e r =
      record {
        done = x.0 ∷ r.done;
        place = r.place;
        this = r.this;
        after = r.after;
        number = ap suc r.number;
        done_read = rw (e, r.done_read);
        this_read = subst (λ (f : Before). book limits f s r.place ≡ ok (r.this, r.after)) (onto_cons before x.0 r.done) r.this_read;
        same = r.same;
      }

  books_reached : (n : ℕ) (before : Before) (k : ℕ) {l : List Book × ℕ} → books limits before n s k ≡ ok l → (b : ℕ) → b < length l.0 → Reached limits s before k b (get_or (all_of l.0) b [])
  unfolding books
  books_reached zero before k {l} e b h = let p : length l.0 ≡ 0 = ap (λ (y : List Book × ℕ). length y.0) (sym (ok_is e)) in absurd (omega arith)
  books_reached (suc n) before k {l} e b h =
      let x = then_ok (book limits before s k) _ e in
      let r = then_ok (books limits (and_this before x.0.0) n s x.0.1) _ x.2 in
      let p : ◌≡◌ {A = List Book × ℕ} (x.0.0 ∷ r.0.0, r.0.1) l = ok_is r.2 in
      let f : b < suc (length r.0.0) = subst (λ (y : List Book × ℕ). b < length y.0) (sym p) h in
      subst (λ (y : List Book × ℕ). Reached limits s before k b (get_or (all_of y.0) b [])) p (go x.0 r.0 x.1 r.1 b f (λ c g. books_reached n (and_this before x.0.0) x.0.1 r.1 c g))
    where
      go : (x : Book × ℕ) (r : List Book × ℕ) → book limits before s k ≡ ok x → books limits (and_this before x.0) n s x.1 ≡ ok r → (b : ℕ) → b < suc (length r.0)
          → ((c : ℕ) → c < length r.0 → Reached limits s (and_this before x.0) x.1 c (get_or (all_of r.0) c [])) → Reached limits s before k b (get_or (all_of (x.0 ∷ r.0)) b [])
      go x r p q zero f w = record { done = []; place = k; this = x.0; after = x.1; number = refl; done_read = refl; this_read = rw (onto_nil before) p; same = refl }
      go x r p q (suc c) f w = next_reached before k c x p (w c (omega arith))

-- a book that was read: its head, and its lengths
record LengthsOf (limits : Limits) (before : Before) (s : List ℕ) (k : ℕ) (ls : List ℕ) : Type 0 where
  this : Head
  after_head_is : ℕ
  head_read : head limits before s k ≡ ok (this, after_head_is)
  after : ℕ
  lengths_read : lengths k this.entries s after_head_is ≡ ok (ls, after)

book-lengths : (limits : Limits) (before : Before) (s : List ℕ) (k : ℕ) {x : Book × ℕ} → book limits before s k ≡ ok x → LengthsOf limits before s k x.0.lengths
unfolding book entered
book-lengths limits before s k {x} e =
    let h = then_ok (head limits before s k) _ e in
    let l = then_ok (then (lengths k h.0.0.entries s h.0.1) (λ ls. entered k ls.0 (ok ls))) _ h.2 in
    let u = then_ok (lookup k h.0.0.entries h.0.0.dimensions limits.multiplicands before.values s l.0.1) _ l.2 in
    let m = then_ok (lengths k h.0.0.entries s h.0.1) _ l.1 in
    let a = need-ok (meets7 (first_refused m.0.0)) (refusal 7 k) _ m.2 in
    let b = need-ok (meets8 (free_after m.0.0) (is_lone (used m.0.0))) (refusal 8 k) _ a.1 in
    let p : l.0.0 ≡ x.0.lengths = ap (λ (y : Book × ℕ). y.0.lengths) (ok_is u.2) in
    let q : m.0.0 ≡ l.0.0 = ap (λ (y : List ℕ × ℕ). y.0) (ok_is b.1) in
    subst (LengthsOf limits before s k) (q ∙ p) (record { this = h.0.0; after_head_is = h.0.1; head_read = h.1; after = m.0.1; lengths_read = m.1 })

-- an accepted packet: where its books begin, and their section
record BooksOf (limits : Limits) (s : List ℕ) (bs : List Book) : Type 0 where
  start : ℕ
  opened : common_header 5 s ≡ ok start
  end : ℕ
  read : book_section limits s start ≡ ok (bs, end)

sections-books : (limits : Limits) (channels : ℕ) (s : List ℕ) (k : ℕ) {x : Setup × ℕ} → sections limits channels s k ≡ ok x → (end : ℕ) × (book_section limits s k ≡ ok (x.0.books, end))
unfolding sections
sections-books limits channels s k {x} e =
    let bs = then_ok (book_section limits s k) _ e in
    let times = then_ok (section time_value s bs.0.1) _ bs.2 in
    let fs = then_ok (section (floor (length bs.0.0)) s times.0.1) _ times.2 in
    let rs = then_ok (section (residue (books_known bs.0.0)) s fs.0.1) _ fs.2 in
    let ms = then_ok (section (mapping (known channels fs.0.0 rs.0.0)) s rs.0.1) _ rs.2 in
    let os = then_ok (section (mode (length ms.0.0)) s ms.0.1) _ ms.2 in
    let same : bs.0.0 ≡ x.0.books = ap (λ (y : Setup × ℕ). y.0.books) (ok_is os.2) in
    (bs.0.1, subst (λ (l : List Book). book_section limits s k ≡ ok (l, bs.0.1)) same bs.1)

setup-books : (limits : Limits) (channels : ℕ) (s : List ℕ) {c : Setup} → setup limits channels s ≡ ok c → BooksOf limits s c.books
unfolding setup
setup-books limits channels s {c} e =
    let h = then_ok (common_header 5 s) _ e in
    let x = then_ok (sections limits channels s h.0) _ h.2 in
    let f = then_ok (framing s x.0.1) _ x.2 in
    let b = sections-books limits channels s h.0 x.1 in
    subst (λ (y : Setup). BooksOf limits s y.books) (ok_is f.2) (record { start = h.0; opened = h.1; end = b.0; read = b.1 })

-- EACH BOOK OF AN ACCEPTED SETUP
pub book_reached : (limits : Limits) (i : Identity) (s : List ℕ) (t : Tables) (c : Setup) → setup_of limits i s t ≡ ok c
    → (b : ℕ) → b < length c.books → (place : ℕ) × LengthsRead limits i s t place (get_or (map (λ x. x.lengths) c.books) b [])
unfolding book_section
book_reached limits i s t c e b h =
    let a = call_accepted limits i s t e in
    let w = setup-books limits i.channels s a.content in
    let n = then_ok (field 8 s w.start) _ w.read in
    let count = (books_valid limits (record { entries = 0; values = 0 }) (n.0.0 + 1) s n.0.1 (omega arith) n.2).1 in
    let r = books_reached limits s (n.0.0 + 1) (record { entries = 0; values = 0 }) n.0.1 n.2 b h in
    let l = book-lengths limits (counted r.done) s r.place (subst (λ (f : Before). book limits f s r.place ≡ ok (r.this, r.after)) (onto_none r.done) r.this_read) in
    let m = r.number in
    let read : LengthsRead limits i s t r.place r.this.lengths =
    record {
      sound = a.identity;
      room = a.room;
      start = w.start;
      opened = w.opened;
      others = n.0.0;
      first = n.0.1;
      numbered = n.1;
      before = r.done;
      one_of_them = omega arith;
      books_read = rw m r.done_read;
      this = l.this;
      after_head_is = l.after_head_is;
      head_read = l.head_read;
      after = l.after;
      lengths_read = l.lengths_read;
    } in
    (r.place, subst (LengthsRead limits i s t r.place) r.same read)
