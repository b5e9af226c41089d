-- LENGTHS THAT WERE READ are one for each entry, none above 32; and where they were entered, the verdict accepts them. By induction
-- on the runs, by what many readings of one kind give, and by rules 7 and 8. Assumes nothing.
use Prim.Native.Nat.{ℕ, zero, suc, ◌+◌, ◌-◌, ◌≤◌}
use native.Mathlib.Omega.{arith}
use borrow.Author.Tests.{leb-true, le-leb, eqb-true}
use mathlib.Core.Bool.{Bool, true, false, cond, ◌&&◌, ◌||◌}
use mathlib.Core.List.{List, [], ◌∷◌, ◌++◌}
use mathlib.Core.Path.{◌≡◌, refl, sym, ap, ◌∙◌}
use lib.Dec.{eqb, leb}
use lib.ListN.{length, replicate, length-append}
use Rattle.reading.specs.Outcome.{Outcome, ok, then, need, refusal}
use Rattle.reading.specs.Reader.{judged, many, mapped}
use Rattle.reading.specs.Lists.{all}
use Rattle.reading.proofs.Outcomes.{then_ok, need-ok, judged-ok, same_ok}
use Rattle.reading.proofs.Accepted.{many_number, many-all}
use Rattle.reading.proofs.Readers.{mapped_ok}
use Rattle.bits.specs.Field.{field}
use Rattle.bits.specs.Ilog.{ilog}
use Rattle.bits.proofs.Fields.{field-ok}
use Rattle.codeword_assignment.specs.Book.{Accepted, used, first_refused, free_after, is_lone, verdict}
use Rattle.rules.specs.Rules.{meets7, meets8}
use Rattle.book.specs.LengthsReading.{entry_length, runs, lengths, entered}
use Rattle.book.specs.Inner.LengthsParts.{entries}
use Rattle.book.proofs.Verdict.{meets_accepted}

-- a length is at most 32
used_small : (s : List ℕ) (k : ℕ) {v n : ℕ} → mapped suc (field 5 s k) ≡ ok (v, n) → v ≤ 32
used_small s k {v} {n} e =
    let m = mapped_ok suc (field 5 s k) e in
    let b = (field-ok s k 5 m.1).below in
    let q = m.2 in
    omega arith

pub entry_small : (sparse : ℕ) (s : List ℕ) (k : ℕ) {v n : ℕ} → entry_length sparse s k ≡ ok (v, n) → v ≤ 32
unfolding entry_length
entry_small sparse s k {v} {n} e = go (eqb sparse 0) e
  where
    flagged : (b : Bool) (j : ℕ) → cond b (ok (0, j)) (mapped suc (field 5 s j)) ≡ ok (v, n) → v ≤ 32
    flagged true j q =
        let f : ◌≡◌ {A = Outcome (ℕ × ℕ)} (ok (0, j)) (ok (v, n)) = q in
        let g : ◌≡◌ {A = ℕ × ℕ} (0, j) (v, n) = cc in
        let z : 0 ≡ v = ap (λ (x : ℕ × ℕ). x.0) g in
        omega arith
    flagged false j q = used_small s j q

    go : (b : Bool) → cond b (mapped suc (field 5 s k)) (then (field 1 s k) (λ flag. cond (eqb flag.0 0) (ok (0, flag.1)) (mapped suc (field 5 s flag.1)))) ≡ ok (v, n) → v ≤ 32
    go true q = used_small s k q
    go false q =
        let t = then_ok (field 1 s k) (λ flag. cond (eqb flag.0 0) (ok (0, flag.1)) (mapped suc (field 5 s flag.1))) q in
        flagged (eqb t.0.0 0) t.0.1 t.2

pub length_run : (n v : ℕ) → length (replicate n v) ≡ n
length_run zero v = refl
length_run (suc n) v = ap suc (length_run n v)

-- tests along lists
all_append : (f : ℕ → Bool) (a b : List ℕ) → all f a ≡ true → all f b ≡ true → all f (a ++ b) ≡ true
unfolding all
all_append f [] b p q = q
all_append f (x ∷ a) b p q = go (f x) (all f a) p (λ h. all_append f a b h q)
  where
    go : (t u : Bool) → (t && u) ≡ true → (u ≡ true → all f (a ++ b) ≡ true) → (t && all f (a ++ b)) ≡ true
    go true u p h = h p
    go false u p h = p

all_replicate : (f : ℕ → Bool) (n v : ℕ) → f v ≡ true → all f (replicate n v) ≡ true
unfolding all
all_replicate f zero v p = refl
all_replicate f (suc n) v p = rw (p, all_replicate f n v p)

or_false : (b : Bool) → (b || false) ≡ true → b ≡ true
or_false true p = refl
or_false false p = p

abbrev pub fits : ℕ → Bool
fits l = leb l 32

-- one run and those that follow, as `runs` has them
abbrev more_runs : ℕ → ℕ → ℕ → ℕ → List ℕ → ℕ × ℕ → Outcome (List ℕ × ℕ)
more_runs place turns bits left s n = then (runs place turns (bits + 1) (left - n.0) s n.1) (λ rest. ok (replicate n.0 bits ++ rest.0, rest.1))

-- what is known of runs of one turn less
abbrev Again : ℕ → ℕ → ℕ → List ℕ → Type 0
Again place turns bits s = (m i : ℕ) (ks : List ℕ) (h : ℕ) → runs place turns bits m s i ≡ ok (ks, h) → (length ks ≡ m) × (all fits ks ≡ true)

pub runs_known : (place turns bits left : ℕ) (s : List ℕ) (k : ℕ) {ls : List ℕ} {j : ℕ} → runs place turns bits left s k ≡ ok (ls, j) → (length ls ≡ left) × (all fits ls ≡ true)
unfolding runs all
runs_known place zero bits left s k {ls} {j} e = let z : ◌≡◌ {A = ℕ} 0 1 = cc in absurd (omega arith)
runs_known place (suc turns) bits left s k {ls} {j} e = go (λ m i ks h f. runs_known place turns (bits + 1) m s i f) (eqb left 0) refl e
  where
    some : Again place turns (bits + 1) s → fits bits ≡ true → then (judged (λ n. leb n left) 6 (field (ilog left)) s k) (more_runs place turns bits left s) ≡ ok (ls, j)
        → (length ls ≡ left) × (all fits ls ≡ true)
    some again v f =
        let a = then_ok (judged (λ n. leb n left) 6 (field (ilog left)) s k) _ f in
        let b = then_ok (runs place turns (bits + 1) (left - a.0.0) s a.0.1) _ a.2 in
        let q : ◌≡◌ {A = List ℕ × ℕ} (replicate a.0.0 bits ++ b.0.0, b.0.1) (ls, j)
        = same_ok (ok (replicate a.0.0 bits ++ b.0.0, b.0.1)) refl b.2 in
        let i = again (left - a.0.0) a.0.1 b.0.0 b.0.1 b.1 in
        let w : a.0.0 ≤ left = leb-true _ _ (judged-ok (λ n. leb n left) 6 (field (ilog left)) s k a.1).1 in
        let m = length_run a.0.0 bits in
        let i₀ = i.0 in
        let l : length (replicate a.0.0 bits ++ b.0.0) ≡ left = length-append (replicate a.0.0 bits) b.0.0 ∙ (omega arith) in
        rw (← (ap (λ (x : List ℕ × ℕ). x.0) q)) (l, all_append fits (replicate a.0.0 bits) b.0.0 (all_replicate fits a.0.0 bits v) i.1)

    none : left ≡ 0 → ◌≡◌ {A = Outcome (List ℕ × ℕ)} (ok ([], k)) (ok (ls, j)) → (length ls ≡ left) × (all fits ls ≡ true)
    none z f =
        let q : ◌≡◌ {A = List ℕ × ℕ} ([], k) (ls, j) = same_ok (ok ([], k)) refl f in
        rw (← (ap (λ (x : List ℕ × ℕ). x.0) q)) (sym z, refl)

    go : Again place turns (bits + 1) s → (b : Bool) → eqb left 0 ≡ b
        → cond b (ok ([], k)) (need (leb bits 32 || b) (refusal 6 place) (then (judged (λ n. leb n left) 6 (field (ilog left)) s k) (more_runs place turns bits left s))) ≡ ok (ls, j)
        → (length ls ≡ left) × (all fits ls ≡ true)
    go again true p f = none (eqb-true left 0 p) f
    go again false p f =
        let a = need-ok (leb bits 32 || false) (refusal 6 place) (then (judged (λ n. leb n left) 6 (field (ilog left)) s k) (more_runs place turns bits left s)) f in
        some again (or_false (leb bits 32) a.0) a.1

-- all lengths: one for each entry, none above 32
pub lengths_known : (place n : ℕ) (s : List ℕ) (k : ℕ) {ls : List ℕ} {j : ℕ} → lengths place n s k ≡ ok (ls, j) → (length ls ≡ n) × (all fits ls ≡ true)
unfolding lengths
lengths_known place n s k {ls} {j} e =
    let a = then_ok (field 1 s k) _ e in
    go (eqb a.0.0 0) a.0.1 a.2
  where
    go : (b : Bool) (i : ℕ)
        → cond b (then (field 1 s i) (λ sparse. many (entry_length sparse.0) n s sparse.1)) (then (field 5 s i) (λ first. runs place 33 (first.0 + 1) n s first.1)) ≡ ok (ls, j)
        → (length ls ≡ n) × (all fits ls ≡ true)
    go true i f =
        let c = then_ok (field 1 s i) _ f in (
          many_number (entry_length c.0.0) s n c.0.1 c.2,
          many-all fits (entry_length c.0.0) s (λ k x h. le-leb x.0 32 (entry_small c.0.0 s k h)) n c.0.1 c.2,
        )
    go false i f = let c = then_ok (field 5 s i) _ f in runs_known place 33 (c.0.0 + 1) n s c.0.1 c.2

-- and entered: the verdict accepts them
pub record EntriesKnown (count : ℕ) (ls : List ℕ) : Type 0 where
  pub long : length ls ≡ count
  pub fit : all fits ls ≡ true
  pub accepted : verdict ls ≡ Accepted

pub entries_known : (place n : ℕ) (s : List ℕ) (k : ℕ) {ls : List ℕ} {j : ℕ} → entries place n s k ≡ ok (ls, j) → EntriesKnown n ls
unfolding entries entered
entries_known place n s k {ls} {j} e =
    let a = then_ok (lengths place n s k) _ e in
    let m7 = meets7 (first_refused a.0.0) in
    let m8 = meets8 (free_after a.0.0) (is_lone (used a.0.0)) in
    let v = need-ok m7 (refusal 7 place) (need m8 (refusal 8 place) (ok a.0)) a.2 in
    let w = need-ok m8 (refusal 8 place) (ok a.0) v.1 in
    let u : ◌≡◌ {A = List ℕ × ℕ} a.0 (ls, j) = same_ok (ok a.0) refl w.1 in
    let m = lengths_known place n s k a.1 in
    rw (← (ap (λ (x : List ℕ × ℕ). x.0) u)) (record { long = m.0; fit = m.1; accepted = meets_accepted a.0.0 v.0 w.0 })
