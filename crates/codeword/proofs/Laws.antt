-- What reading a codeword promises (specs/Claims.antt), and reading from a packet that is cut. Assumes nothing.
use Rattle.bits.specs.declared.refusal.Refusal.{Refusal}
use Rattle.std.specs.Prelude.{Result}
use Prim.Native.Nat.{ℕ, zero, suc, ◌+◌, ◌-◌, ◌*◌, ◌/◌, ◌^◌, ◌≤◌, ◌<◌}
use native.Mathlib.Omega.{arith}
use mathlib.Core.Bool.{Bool, true, false, cond}
use mathlib.Core.List.{List, []}
use mathlib.Core.Logic.{◌⊎◌, inl, inr, ⊎_elim}
use mathlib.Core.Option.{Option, none, some}
use mathlib.Core.Path.{◌≡◌, refl, ap, sym, ◌∙◌}
use lib.Dec.{ltb}
use lib.ListN.{length, get_or, take, length-take}
use borrow.Author.Tests.{lt-ltb, le-ltb, ltb-true, eqb-true, eqb-false, not-true}
use Rattle.reading.specs.Outcome.{refusal, Outcome, ok, bad, need}
use Rattle.reading.specs.Reader.{mapped}
use Rattle.reading.specs.Least.{lowest}
use Rattle.reading.proofs.Least.{lowest-some, lowest_ok, IsLowest, and_split, lt_or_le}
use Rattle.bits.specs.Field.{field}
use Rattle.bits.proofs.Fields.{field_whole, field_cut, field-ok}
use Rattle.bits.proofs.Cuts.{field_cut_packet}
use Rattle.codeword_assignment.specs.Book.{used, is_used, is_lone, first_used, lone_mark, or_zero, ledger_codewords, verdict, Begins, Decodable}
use Rattle.codeword_assignment.specs.Book.{Accepted}
use Rattle.codeword_assignment.proofs.Laws.{accepted_decodable, used_length, accepted_none_refused}
use Rattle.codeword.specs.Codeword.{bits_at, is_codeword, entry_of, or_go_on, matching, lone_bits, codeword}
use Rattle.bits.specs.Inner.Cursors.{position, outcome}
use Rattle.bits.specs.declared.Cursor.{Cursor}
use Rattle.codeword.specs.Inner.Book.{Codebook}
use Rattle.codeword.specs.Inner.Claims.{Settled}
use Rattle.codeword.proofs.Bits.{bits_lt, bits_begin, bits_cut}
use Rattle.codeword_assignment.proofs.Lone.{none_used, mark_none, mark_lone}
use Rattle.codeword.proofs.Matching.{Starts, NoneBefore, turn_on, turn_found}

module _ (ls : List ℕ) (accepted : verdict ls ≡ Accepted) where
  decoded : Decodable ls (ledger_codewords ls)
  decoded = accepted_decodable ls accepted

  -- the entry whose codeword the next 32 bits start with is found after just its bits
  module _ (s : List ℕ) (k : ℕ) (there : k + 32 ≤ 8 * length s) (e : ℕ) (b : Begins ls (ledger_codewords ls) (bits_at s k 32) e) where
    abbrev len : ℕ
    len = get_or ls e 0

    few : len ≤ 32
    few = (used_length ls (accepted_none_refused ls accepted) e b.used).high

    whole_word : bits_at s k len ≡ get_or (ledger_codewords ls) e 0
    whole_word =
        let x : len + (32 - len) ≡ 32 = let f = few in omega arith in
        sym (bits_begin s k len (32 - len)) ∙ ap (λ (n : ℕ). bits_at s k n / 2 ^ (32 - len)) x ∙ b.starts

    starts : (n : ℕ) → n ≤ len → Starts ls (ledger_codewords ls) n (bits_at s k n) e
    starts n h =
        let x : n + (len - n) ≡ len = omega arith in
        record { long = h; same = rw (← whole_word) (ap (λ (m : ℕ). bits_at s k m / 2 ^ (len - n)) (sym x) ∙ bits_begin s k n (len - n)) }

    alone : NoneBefore ls (ledger_codewords ls) len (bits_at s k len) e
    alone f l st =
        let u = b.used in
        let m = st.long in
        let q : e ≡ f = decoded.prefix_code.not_prefix e f u (omega arith) m (st.same ∙ whole_word) in
        omega arith

    found : (j n : ℕ) → n + suc j ≡ len → matching ls n (32 - n) s k ≡ ok (e, k + len)
    found zero n h =
        let f = few in
        let x : n + 1 ≡ len = omega arith in
        let a : NoneBefore ls (ledger_codewords ls) (n + 1) (bits_at s k (n + 1)) e = rw x alone in
        turn_found ls decoded.prefix_code s k n (omega arith) (omega arith) e a b.entry (starts (n + 1) (omega arith)) x ∙ rw x
    found (suc j) n h =
        let f = few in
        turn_on ls decoded.prefix_code s k n (omega arith) (omega arith) e (starts (n + 1) (omega arith)) (omega arith)
        ∙ found j (n + 1) (omega arith)

    pub read_whole : is_lone (used ls) ≡ false → codeword ls s k ≡ ok (e, k + len)
    unfolding codeword
    read_whole l = let u = b.used in rw l (found (len - 1) 0 (omega arith))

-- a lone entry, and its missing bit
module _ (ls s : List ℕ) (k : ℕ) (l : is_lone (used ls) ≡ true) where
  pub read_lone : k + 1 ≤ 8 * length s → codeword ls s k ≡ ok (first_used ls, k + 1)
  unfolding codeword mapped
  read_lone h = rw (l, field_whole s k lone_bits h)

  pub cut_lone : 8 * length s ≤ k → codeword ls s k ≡ bad (refusal 1 k)
  unfolding codeword mapped
  cut_lone h = rw (l, field_cut s k lone_bits (omega arith))

-- the entry that is read is used, and its codeword lies in the packet whole
matched_used : (ls s : List ℕ) (k : ℕ) (m n e i : ℕ) → matching ls n m s k ≡ ok (e, i) → (e < length ls) × (0 < get_or ls e 0) × (i ≤ 8 * length s)
unfolding matching entry_of is_codeword
matched_used ls s k zero n e i q = let z : ◌≡◌ {A = ℕ} 0 1 = cc in absurd (omega arith)
matched_used ls s k (suc m) n e i q = go (λ p. matched_used ls s k m (suc n) e i p) (ltb (k + n) (8 * length s)) refl (lowest (is_codeword ls (suc n) (bits_at s k (suc n))) (length ls)) refl q
  where
    go : (matching ls (suc n) m s k ≡ ok (e, i) → (e < length ls) × (0 < get_or ls e 0) × (i ≤ 8 * length s))
        → (t : Bool) → ltb (k + n) (8 * length s) ≡ t → (o : Option ℕ)
        → lowest (is_codeword ls (suc n) (bits_at s k (suc n))) (length ls) ≡ o
        → need t (refusal 1 k) (or_go_on o (k + suc n) (matching ls (suc n) m s k)) ≡ ok (e, i) → (e < length ls) × (0 < get_or ls e 0) × (i ≤ 8 * length s)
    go ih false h o p q = let z : ◌≡◌ {A = ℕ} 0 1 = cc in absurd (omega arith)
    go ih true h none p q = ih q
    go ih true h (some f) p q =
        let x : ◌≡◌ {A = ℕ × ℕ} (f, k + suc n) (e, i) = cc in
        let y : f ≡ e = ap (λ (z : ℕ × ℕ). z.0) x in
        let l = lowest-some (is_codeword ls (suc n) (bits_at s k (suc n))) (length ls) f p in
        let b = l.below in
        let w : get_or ls f 0 ≡ suc n = eqb-true _ _ (and_split _ _ l.passes).0 in
        let j : k + suc n ≡ i = ap (λ (z : ℕ × ℕ). z.1) x in
        let m : k + n < 8 * length s = ltb-true (k + n) (8 * length s) h in
        (rw (← y) b, rw (← y) (omega arith), omega arith)

positive : (x : ℕ) → (x ≡ 0 → ⊥) → 0 < x
positive zero n = absurd (n refl)
positive (suc x) n = omega arith

first_used_lem : (ls : List ℕ) → is_lone (used ls) ≡ true → (first_used ls < length ls) × (0 < get_or ls (first_used ls) 0)
unfolding first_used is_used is_lone
first_used_lem ls l = go (lowest (is_used ls) (length ls)) (lowest_ok (is_used ls) (length ls))
  where
    go : (o : Option ℕ) → IsLowest (is_used ls) (length ls) o → (or_zero o < length ls) × (0 < get_or ls (or_zero o) 0)
    go none h =
        let e : used ls ≡ [] = none_used ls h in
        let f : false ≡ true = rw e at l in
        let z : ◌≡◌ {A = ℕ} 0 1 = cc in
        absurd (omega arith)
    go (some v) h = (h.below, positive (get_or ls v 0) (eqb-false (get_or ls v 0) 0 (not-true _ h.passes)))

pub read_used : (ls s : List ℕ) (k e n : ℕ) → codeword ls s k ≡ ok (e, n) → (e < length ls) × (0 < get_or ls e 0) × (n ≤ 8 * length s)
unfolding codeword mapped
read_used ls s k e n q = go (is_lone (used ls)) refl (field lone_bits s k) refl q
  where
    go : (t : Bool) → is_lone (used ls) ≡ t → (o : Outcome (ℕ × ℕ)) → field lone_bits s k ≡ o
        → cond t (mapped (λ _. first_used ls) o) (matching ls 0 32 s k) ≡ ok (e, n) → (e < length ls) × (0 < get_or ls e 0) × (n ≤ 8 * length s)
    go false l o p q = matched_used ls s k 32 0 e n q
    go true l (ok x) p q =
        let y : ◌≡◌ {A = ℕ × ℕ} (first_used ls, x.1) (e, n) = cc in
        let z : first_used ls ≡ e = ap (λ (p : ℕ × ℕ). p.0) y in
        let i : x.1 ≡ n = ap (λ (p : ℕ × ℕ). p.1) y in
        let u = first_used_lem ls l in
        (rw (← z) u.0, rw (← z) u.1, rw (← i) (field-ok s k lone_bits p).within)
    go true l (bad z) p q = let c : ◌≡◌ {A = ℕ} 0 1 = cc in absurd (omega arith)

-- A PACKET CUT after any byte gives the same entry, or a cut
module _ (ls s : List ℕ) (b k : ℕ) where
  same_or_cut : (m n : ℕ) → (matching ls n m (take b s) k ≡ matching ls n m s k) ⊎ (matching ls n m (take b s) k ≡ bad (refusal 1 k))
  unfolding matching
  same_or_cut zero n = inl refl
  same_or_cut (suc m) n = ⊎_elim (λ l. inr (rw (le-ltb (k + n) (8 * length (take b s)) l))) (λ l. go l (same_or_cut m (suc n))) (swap (lt_or_le (k + n) (8 * length (take b s))))
    where
      swap : {P Q : Type 0} → P ⊎ Q → Q ⊎ P
      swap (inl p) = inr p
      swap (inr q) = inl q

      found : (o : Option ℕ) {x y : Outcome (ℕ × ℕ)} → (x ≡ y) ⊎ (x ≡ bad (refusal 1 k))
          → (or_go_on o (k + suc n) x ≡ or_go_on o (k + suc n) y) ⊎ (or_go_on o (k + suc n) x ≡ bad (refusal 1 k))
      found (some e) h = inl refl
      found none (inl p) = inl p
      found none (inr p) = inr p

      go : k + n < 8 * length (take b s) → (matching ls (suc n) m (take b s) k ≡ matching ls (suc n) m s k) ⊎ (matching ls (suc n) m (take b s) k ≡ bad (refusal 1 k))
          → (need (ltb (k + n) (8 * length (take b s))) (refusal 1 k) (or_go_on (entry_of ls (suc n) (bits_at (take b s) k (suc n))) (k + suc n) (matching ls (suc n) m (take b s) k))
          ≡ need (ltb (k + n) (8 * length s)) (refusal 1 k) (or_go_on (entry_of ls (suc n) (bits_at s k (suc n))) (k + suc n) (matching ls (suc n) m s k)))
          ⊎ (need (ltb (k + n) (8 * length (take b s))) (refusal 1 k) (or_go_on (entry_of ls (suc n) (bits_at (take b s) k (suc n))) (k + suc n) (matching ls (suc n) m (take b s) k))
          ≡ bad (refusal 1 k))
      go l h =
          let t = length-take b s in
          let u : k + n < 8 * length s = omega arith in
          let v : k + suc n ≤ 8 * b = omega arith in
          rw (lt-ltb _ _ l, lt-ltb _ _ u, bits_cut s b k (suc n) v) (found (entry_of ls (suc n) (bits_at s k (suc n))) h)

  pub codeword_cut_packet : (codeword ls (take b s) k ≡ codeword ls s k) ⊎ (codeword ls (take b s) k ≡ bad (refusal 1 k))
  unfolding codeword mapped
  codeword_cut_packet = go (is_lone (used ls)) (same_or_cut 32 0) (field_cut_packet s b lone_bits k)
    where
      go : (t : Bool) → (matching ls 0 32 (take b s) k ≡ matching ls 0 32 s k) ⊎ (matching ls 0 32 (take b s) k ≡ bad (refusal 1 k))
          → (field lone_bits (take b s) k ≡ field lone_bits s k) ⊎ (field lone_bits (take b s) k ≡ bad (refusal 1 k))
          → (cond t (mapped (λ _. first_used ls) (field lone_bits (take b s) k)) (matching ls 0 32 (take b s) k) ≡ cond t (mapped (λ _. first_used ls) (field lone_bits s k)) (matching ls 0 32 s k))
          ⊎ (cond t (mapped (λ _. first_used ls) (field lone_bits (take b s) k)) (matching ls 0 32 (take b s) k) ≡ bad (refusal 1 k))
      go false h f = h
      go true h (inl p) = inl (ap (mapped (λ _. first_used ls)) p)
      go true h (inr p) = inr (ap (mapped (λ _. first_used ls)) p)

-- ALL OF IT
pub settled : (ls : List ℕ) → verdict ls ≡ Accepted → Settled ls
settled ls accepted =
    record {
      whole = λ l s k h.
          let d = accepted_decodable ls accepted in
          let b = d.complete l (bits_at s k 32) (bits_lt s k 32) in
          (b.0, b.1, (λ f g. d.prefix_code.at_most_one (bits_at s k 32) f b.0 g b.1), read_whole ls accepted s k h b.0 b.1 l);
      lone = λ l s k h. read_lone ls s k l h;
      lone_cut = λ l s k h. cut_lone ls s k l h;
      used = λ s k e n q. let u = read_used ls s k e n q in (u.0, u.1);
      within = λ s k e n q. (read_used ls s k e n q).2;
      cut = λ s b k. codeword_cut_packet ls s b k;
    }

-- as the code asks it: the equation, and the promise beside it
module _ (ls ws : List ℕ) {m : ℕ} (book : Codebook ls ws × (m ≡ lone_mark ls)) (s : List ℕ) (k : Cursor) (r : Result (ℕ × Cursor) Refusal) where
  pub by_lone : (m ≡ 0 → ⊥) → outcome r ≡ mapped (λ _. m - 1) (field lone_bits s (position k)) → (outcome r ≡ codeword ls s (position k)) × Settled ls
  unfolding codeword
  by_lone n p =
      let l = mark_lone ls book.1 n in
      (rw l.0 (p ∙ ap (λ (e : ℕ). mapped (λ _. e) (field lone_bits s (position k))) l.1), settled ls book.0.accepted)

  pub by_matching : m ≡ 0 → outcome r ≡ matching ls 0 32 s (position k) → (outcome r ≡ codeword ls s (position k)) × Settled ls
  unfolding codeword
  by_matching z p = (rw (mark_none ls book.1 z) p, settled ls book.0.accepted)
