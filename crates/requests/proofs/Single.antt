-- What a single request reads: nothing but a cut refuses it, a cut packet gives the same or the cut, and it ends behind its bits and within the packet. Assumes nothing.
use Prim.Native.Nat.{ℕ, zero, suc, ◌+◌, ◌*◌, ◌≤◌}
use mathlib.Core.Bool.{Bool, true, false, cond}
use mathlib.Core.List.{List}
use mathlib.Core.Logic.{◌⊎◌}
use mathlib.Core.Option.{Option, none, some}
use mathlib.Core.Path.{◌≡◌, refl, subst}
use lib.Dec.{ltb}
use lib.ListN.{length, get_or, take}
use borrow.Author.Tests.{eqb-true}
use Rattle.reading.specs.Outcome.{Refusal, refusal, Outcome, ok, bad, need}
use Rattle.reading.specs.Reader.{mapped}
use Rattle.reading.proofs.Least.{lowest-some, and_split}
use Rattle.bits.specs.Field.{field}
use Rattle.bits.proofs.Fields.{field-ok, field-bad}
use Rattle.bits.proofs.Cuts.{field_cut_packet}
use Rattle.codeword_assignment.specs.Book.{used, is_lone, first_used}
use Rattle.codeword.specs.Codeword.{bits_at, is_codeword, entry_of, or_go_on, matching, lone_bits, codeword}
use Rattle.codeword.proofs.Laws.{read_used, codeword_cut_packet}
use Rattle.requests.specs.Requests.{Request, number, word}
use Rattle.requests.specs.Run.{read, bits_of}

-- where a codeword ends, or why it is refused
Matched : (ℕ → ℕ) → ℕ → Outcome (ℕ × ℕ) → Type 0
Matched size k (ok x) = x.1 ≡ k + size x.0
Matched size k (bad z) = z ≡ refusal 1 k

-- the entry that is found has as many bits as were taken
taken : (ls : List ℕ) (n w e : ℕ) → entry_of ls n w ≡ some e → get_or ls e 0 ≡ n
unfolding entry_of is_codeword
taken ls n w e p = eqb-true _ _ (and_split _ _ (lowest-some (is_codeword ls n w) (length ls) e p).passes).0

matched : (ls s : List ℕ) (k m n : ℕ) → Matched (λ e. get_or ls e 0) k (matching ls n m s k)
unfolding Matched matching
matched ls s k zero n = refl
matched ls s k (suc m) n = go (matched ls s k m (suc n)) (ltb (k + n) (8 * length s)) (entry_of ls (suc n) (bits_at s k (suc n))) (taken ls (suc n) (bits_at s k (suc n)))
  where
    go : Matched (λ e. get_or ls e 0) k (matching ls (suc n) m s k) → (t : Bool) (o : Option ℕ) → ((e : ℕ) → o ≡ some e → get_or ls e 0 ≡ suc n)
        → Matched (λ e. get_or ls e 0) k (need t (refusal 1 k) (or_go_on o (k + suc n) (matching ls (suc n) m s k)))
    go h false o p = refl
    go h true none p = h
    go h true (some e) p = rw (p e refl)

lone_matched : (k e : ℕ) (s : List ℕ) (o : Outcome (ℕ × ℕ)) → field lone_bits s k ≡ o → Matched (λ _. lone_bits) k (mapped (λ _. e) o)
unfolding Matched mapped
lone_matched k e s (ok x) p = (field-ok s k lone_bits p).next
lone_matched k e s (bad z) p = (field-bad s k lone_bits p).why

codeword_matched : (ls s : List ℕ) (k : ℕ) → Matched (λ e. cond (is_lone (used ls)) lone_bits (get_or ls e 0)) k (codeword ls s k)
unfolding codeword
codeword_matched ls s k = go (is_lone (used ls))
  where
    go : (t : Bool) → Matched (λ e. cond t lone_bits (get_or ls e 0)) k (cond t (mapped (λ _. first_used ls) (field lone_bits s k)) (matching ls 0 32 s k))
    go true = lone_matched k (first_used ls) s (field lone_bits s k) refl
    go false = matched ls s k 32 0

module _ (lengths_of : ℕ → List ℕ) where
  pub read_refused : (q : Request) (s : List ℕ) (k : ℕ) (z : Refusal) → read lengths_of q s k ≡ bad z → z ≡ refusal 1 k
  unfolding read Matched
  read_refused (number w) s k z e = (field-bad s k w e).why
  read_refused (word b role) s k z e =
      subst (λ (o : Outcome (ℕ × ℕ)). Matched (λ e. cond (is_lone (used (lengths_of b))) lone_bits (get_or (lengths_of b) e 0)) k o) e (codeword_matched (lengths_of b) s k)

  pub read_counted : (q : Request) (s : List ℕ) (k v n : ℕ) → read lengths_of q s k ≡ ok (v, n) → n ≡ k + bits_of lengths_of q v
  unfolding read bits_of Matched
  read_counted (number w) s k v n e = (field-ok s k w e).next
  read_counted (word b role) s k v n e =
      subst (λ (o : Outcome (ℕ × ℕ)). Matched (λ e. cond (is_lone (used (lengths_of b))) lone_bits (get_or (lengths_of b) e 0)) k o) e (codeword_matched (lengths_of b) s k)

  pub read_within : (q : Request) (s : List ℕ) (k v n : ℕ) → read lengths_of q s k ≡ ok (v, n) → n ≤ 8 * length s
  unfolding read
  read_within (number w) s k v n e = (field-ok s k w e).within
  read_within (word b role) s k v n e = (read_used (lengths_of b) s k v n e).2

  pub read_cut : (q : Request) (s : List ℕ) (m k : ℕ) → (read lengths_of q (take m s) k ≡ read lengths_of q s k) ⊎ (read lengths_of q (take m s) k ≡ bad (refusal 1 k))
  unfolding read
  read_cut (number w) s m k = field_cut_packet s m w k
  read_cut (word b role) s m k = codeword_cut_packet (lengths_of b) s m k
