-- What other crates may cite about a book's codewords, without the blocks. Where the ledger refuses no entry (`first_refused lengths ≡ none`):
--   codewords-length   a place for each entry
--   codeword-below     a used entry's codeword is below 2 ^ length
--   at_most_one_lem        no string begins with the codewords of two entries
--   not-a-prefix       no entry's codeword is the beginning of another's
--   some-entry         with nothing left, every string begins with the codeword of an entry
--   exactly-one-entry  and with that of no other
--   lone-length, lone-codeword   a lone entry has length 1 and codeword 0
--   accepted-none-refused   where the verdict is `Accepted`
--   accepted-decodable all of it for a book with the verdict `Accepted`
-- Assumes nothing.
use Rattle.std.specs.Prelude.{Err}
use mathlib.Core.Bool.{Bool, true, false, cond, ◌&&◌, ◌||◌}
use mathlib.Core.List.{List, [], ◌∷◌, ◌++◌}
use mathlib.Core.Option.{Option, none, some}
use mathlib.Core.Path.{◌≡◌, refl, sym, ap, ◌∙◌}
use mathlib.Core.Logic.{◌⊎◌, inl, inr, ⊎_elim}
use Prim.Native.Nat.{ℕ, zero, suc, ◌+◌, ◌-◌, ◌*◌, ◌/◌, ◌^◌, ◌≤◌, ◌<◌}
use native.Mathlib.Nat.{mul-div_cancel}
use native.Mathlib.Omega.{arith}
use lib.Dec.{eqb}
use lib.ListN.{length, get_or, take, drop, get_or-eq_default}
use lib.Pow.{pow_pos, shr-shr}
use lib.Seq.{take-suc, take-length, split_at}
use borrow.Author.Tests.{eq-eqb, ne_eqb, eqb-true}
use Rattle.reading.proofs.Least.{true_or_false, true_not_false, lt_or_le, lowest_fails}
use Rattle.reading.proofs.Tabulate.{tabulate-length, tabulate_at}
use Rattle.codespace.specs.Ledger.{Codeword, codeword, share, begins, taken, is_length, IsLength, answer, enlist, after}
use Rattle.codespace.specs.Inner.Blocks.{run_blocks, enter_answer, block_for, block_above, smallest, empty_blocks}
use Rattle.codespace.specs.Answers.{is_none}
use Rattle.codeword_assignment.specs.Book.{used, is_used, handed_out_before, entry_answer, or_zero, is_refused, first_refused, codeword_of, ledger_codewords, free_after, is_lone, refused_or, verdict, Begins, PrefixCode, Complete, Decodable, Accepted}
use Rattle.codeword_assignment.specs.declared.book.Unassigned.TheVariants.{Underspecified}
use Rattle.codespace.proofs.Whole.{some_says, was_free, all_taken, answer_are}
use Rattle.codespace.proofs.Claimed.{after_snoc}

-- unused entries enter nothing
answer_unused : (ws : List Codeword) → answer ws 0 ≡ none
unfolding answer is_length
answer_unused ws = refl

pub after-used : (ls : List ℕ) (ws : List Codeword) → after ws (used ls) ≡ after ws ls
unfolding after used
after-used [] ws = refl
after-used (l ∷ ls) ws =
    ⊎_elim
    (λ (t : eqb l 0 ≡ true).
    let z : l ≡ 0 = eqb-true l 0 t in
    rw t (rw (z, answer_unused ws) (after-used ls ws)))
    (λ (t : eqb l 0 ≡ false). rw t (after-used ls (enlist ws l (answer ws l))))
    (true_or_false (eqb l 0))

pub handed_before : (ls : List ℕ) (e : ℕ) → handed_out_before ls e ≡ after [] (take e ls)
unfolding handed_out_before
handed_before ls e = after-used (take e ls) []

pub used_is : (ls : List ℕ) (e : ℕ) → 0 < get_or ls e 0 → is_used ls e ≡ true
unfolding is_used
used_is ls e h = rw (ne_eqb (get_or ls e 0) 0 (λ z. omega arith))

-- a used entry is one of the list's
pub used_entry : (ls : List ℕ) (e : ℕ) → 0 < get_or ls e 0 → e < length ls
used_entry ls e h =
    ⊎_elim
    (λ (l : e < length ls). l)
    (λ (l : length ls ≤ e). let z = get_or-eq_default ls 0 l in absurd (omega arith))
    (lt_or_le e (length ls))

pub codewords_length : (ls : List ℕ) → length (ledger_codewords ls) ≡ length ls
unfolding ledger_codewords
codewords_length ls = tabulate-length (codeword_of ls) (length ls)

pub codewords_at : (ls : List ℕ) (e : ℕ) → e < length ls → get_or (ledger_codewords ls) e 0 ≡ codeword_of ls e
unfolding ledger_codewords
codewords_at ls e h = tabulate_at (codeword_of ls) (length ls) e h

-- the codewords handed out before the next entry
handed_next : (ls : List ℕ) (e : ℕ) → e < length ls → handed_out_before ls (suc e) ≡ enlist (handed_out_before ls e) (get_or ls e 0) (entry_answer ls e)
unfolding entry_answer
handed_next ls e h = rw (handed_before ls (suc e), handed_before ls e, take-suc ls e 0 h, after_snoc (take e ls) [] (get_or ls e 0))

handed_unused : (ls : List ℕ) (e : ℕ) → e < length ls → get_or ls e 0 ≡ 0 → handed_out_before ls (suc e) ≡ handed_out_before ls e
unfolding entry_answer
handed_unused ls e h z = handed_next ls e h ∙ rw (z, answer_unused (handed_out_before ls e))

codeword_of_lem : (ls : List ℕ) (e : ℕ) → codeword_of ls e ≡ cond (is_used ls e) (or_zero (entry_answer ls e)) 0
unfolding codeword_of
codeword_of_lem ls e = refl

not_refused : (ls : List ℕ) (e : ℕ) → first_refused ls ≡ none → e < length ls → (is_used ls e && is_none (entry_answer ls e)) ≡ false
unfolding first_refused is_refused
not_refused ls e a l = lowest_fails (λ u. is_used ls u && is_none (entry_answer ls u)) (length ls) a e l

some_of : (u : Bool) (o : Option ℕ) (v : ℕ) → u ≡ true → (u && is_none o) ≡ false → v ≡ cond u (or_zero o) 0 → o ≡ some v
some_of true none v a b e = let z : ◌≡◌ {A = ℕ} 0 1 = cc in absurd (omega arith)
some_of true (some w) v a b e = ap some (sym e)
some_of false o v a b e = let z : ◌≡◌ {A = ℕ} 0 1 = cc in absurd (omega arith)

module _ (ls : List ℕ) (accepted : first_refused ls ≡ none) where
  -- the ledger's answer for a used entry is its codeword
  pub entry_answer_lem : (e : ℕ) → 0 < get_or ls e 0 → entry_answer ls e ≡ some (get_or (ledger_codewords ls) e 0)
  entry_answer_lem e h =
      let l = used_entry ls e h in
      some_of (is_used ls e) (entry_answer ls e) (get_or (ledger_codewords ls) e 0) (used_is ls e h) (not_refused ls e accepted l)
      (codewords_at ls e l ∙ codeword_of_lem ls e)

  handed_used : (e : ℕ) → 0 < get_or ls e 0 → handed_out_before ls (suc e) ≡ codeword (get_or ls e 0) (get_or (ledger_codewords ls) e 0) ∷ handed_out_before ls e
  handed_used e h = handed_next ls e (used_entry ls e h) ∙ rw (entry_answer_lem e h)

  module _ (e : ℕ) (h : 0 < get_or ls e 0) where
    says : answer (handed_out_before ls e) (get_or ls e 0) ≡ some (get_or (ledger_codewords ls) e 0)
    unfolding entry_answer
    says = entry_answer_lem e h

    pub used_length : IsLength (get_or ls e 0)
    used_length = (some_says (handed_out_before ls e) (get_or ls e 0) (get_or (ledger_codewords ls) e 0) says).0

    pub codeword_below : get_or (ledger_codewords ls) e 0 < 2 ^ get_or ls e 0
    codeword_below = (some_says (handed_out_before ls e) (get_or ls e 0) (get_or (ledger_codewords ls) e 0) says).1.below

    not_before : (s : ℕ) → begins s (codeword (get_or ls e 0) (get_or (ledger_codewords ls) e 0)) ≡ true → taken (handed_out_before ls e) s ≡ false
    not_before s b =
        let p = some_says (handed_out_before ls e) (get_or ls e 0) (get_or (ledger_codewords ls) e 0) says in
        was_free (handed_out_before ls e) (get_or ls e 0) (get_or (ledger_codewords ls) e 0) p.0.high p.1.below p.1.passes s b

  module _ (s : ℕ) where
    begins_test : (e : ℕ) → Begins ls (ledger_codewords ls) s e → begins s (codeword (get_or ls e 0) (get_or (ledger_codewords ls) e 0)) ≡ true
    unfolding begins
    begins_test e b = eq-eqb (s / share (get_or ls e 0)) (get_or (ledger_codewords ls) e 0) b.starts

    -- what is taken stays taken
    stays : (e : ℕ) → e < length ls → taken (handed_out_before ls e) s ≡ true → taken (handed_out_before ls (suc e)) s ≡ true
    stays e l t =
        ⊎_elim
        (λ (z : get_or ls e 0 < 1). rw (handed_unused ls e l (omega arith)) t)
        (λ (h : 1 ≤ get_or ls e 0). rw (handed_used e h) (unfold taken in or-true (begins s (codeword (get_or ls e 0) (get_or (ledger_codewords ls) e 0))) (taken (handed_out_before ls e) s) t))
        (lt_or_le (get_or ls e 0) 1)
      where
        or-true : (a b : Bool) → b ≡ true → (a || b) ≡ true
        or-true true b q = refl
        or-true false b q = q

    stays_to : (n e : ℕ) → e ≤ n → n ≤ length ls → taken (handed_out_before ls e) s ≡ true → taken (handed_out_before ls n) s ≡ true
    stays_to zero e l m t = let z : e ≡ 0 = omega arith in rw z at t
    stays_to (suc n) e l m t =
        ⊎_elim
        (λ (k : e < suc n). stays n (omega arith) (stays_to n e (omega arith) (omega arith) t))
        (λ (k : suc n ≤ e). let z : e ≡ suc n = omega arith in rw z at t)
        (lt_or_le e (suc n))

    taken_after : (e : ℕ) → Begins ls (ledger_codewords ls) s e → taken (handed_out_before ls (suc e)) s ≡ true
    taken_after e b = rw (handed_used e b.used) (unfold taken in rw (begins_test e b))

    not_two : (e f : ℕ) → e < f → Begins ls (ledger_codewords ls) s e → Begins ls (ledger_codewords ls) s f → ⊥
    not_two e f l a b =
        let m = b.entry in
        true_not_false (taken (handed_out_before ls f) s)
        (stays_to f (suc e) l (omega arith) (taken_after e a))
        (not_before f b.used s (begins_test f b))

    -- NO STRING BEGINS WITH TWO
    pub at_most_one_lem : (e f : ℕ) → Begins ls (ledger_codewords ls) s e → Begins ls (ledger_codewords ls) s f → e ≡ f
    at_most_one_lem e f a b =
        ⊎_elim
        (λ (l : e < f). absurd (not_two e f l a b))
        (λ (l : f ≤ e).
        ⊎_elim (λ (k : f < e). absurd (not_two f e k b a)) (λ (k : e ≤ f). omega arith) (lt_or_le f e))
        (lt_or_le e f)

    none_before : taken (handed_out_before ls 0) s ≡ false
    unfolding handed_out_before after used taken
    none_before = refl

    or_split : (a b : Bool) → (a || b) ≡ true → (a ≡ true) ⊎ (b ≡ true)
    or_split true b q = inl refl
    or_split false b q = inr q

    taken_split : (w : Codeword) (ws : List Codeword) → taken (w ∷ ws) s ≡ true → (begins s w ≡ true) ⊎ (taken ws s ≡ true)
    unfolding taken
    taken_split w ws t = or_split (begins s w) (taken ws s) t

    test_begins : (e : ℕ) → 0 < get_or ls e 0 → begins s (codeword (get_or ls e 0) (get_or (ledger_codewords ls) e 0)) ≡ true → Begins ls (ledger_codewords ls) s e
    unfolding begins
    test_begins e h t =
        record {
          entry = used_entry ls e h;
          used = h;
          starts = eqb-true (s / share (get_or ls e 0)) (get_or (ledger_codewords ls) e 0) t;
        }

    -- a string that is taken begins with an entry's codeword
    taken_entry : (n : ℕ) → n ≤ length ls → taken (handed_out_before ls n) s ≡ true → (e : ℕ) × Begins ls (ledger_codewords ls) s e
    taken_entry zero l t = absurd (true_not_false (taken (handed_out_before ls 0) s) t none_before)
    taken_entry (suc n) l t =
        ⊎_elim
        (λ (z : get_or ls n 0 < 1). taken_entry n (omega arith) (rw (handed_unused ls n l (omega arith)) at t))
        (λ (h : 1 ≤ get_or ls n 0).
        ⊎_elim
        (λ b. (n, test_begins n h b))
        (λ b. taken_entry n (omega arith) b)
        (taken_split (codeword (get_or ls n 0) (get_or (ledger_codewords ls) n 0)) (handed_out_before ls n) (rw (handed_used n h) at t)))
        (lt_or_le (get_or ls n 0) 1)

    -- WITH NOTHING LEFT EVERY STRING BEGINS WITH ONE
    pub some_entry : free_after ls ≡ 0 → s < 4294967296 → (e : ℕ) × Begins ls (ledger_codewords ls) s e
    some_entry z h =
        let w : handed_out_before ls (length ls) ≡ after [] (used ls) = unfold handed_out_before in ap (λ (k : List ℕ). after [] (used k)) (take-length ls) in
        taken_entry (length ls) (omega arith) (rw w (all_taken (after [] (used ls)) (unfold free_after in z) s h))

    -- and with no other
    pub exactly_one_entry : free_after ls ≡ 0 → s < 4294967296
        → (e : ℕ) × (Begins ls (ledger_codewords ls) s e × ((f : ℕ) → Begins ls (ledger_codewords ls) s f → f ≡ e))
    exactly_one_entry z h = let p = some_entry z h in (p.0, (p.1, λ f b. at_most_one_lem f p.0 b p.1))

  -- NO CODEWORD IS THE BEGINNING OF ANOTHER
  pub not_a_prefix : (e f : ℕ) → 0 < get_or ls e 0 → 0 < get_or ls f 0 → get_or ls e 0 ≤ get_or ls f 0
      → get_or (ledger_codewords ls) f 0 / 2 ^ (get_or ls f 0 - get_or ls e 0) ≡ get_or (ledger_codewords ls) e 0 → e ≡ f
  not_a_prefix e f h k l q =
      let a = get_or ls e 0 in
      let b = get_or ls f 0 in
      let v = get_or (ledger_codewords ls) f 0 in
      let s = v * share b in
      let u = (used_length f k).high in
      let n : 32 - b + (b - a) ≡ 32 - a = omega arith in
      let w : s / share b ≡ v = mul-div_cancel v (pow_pos (32 - b)) in
      let x : s / share b / 2 ^ (b - a) ≡ s / share a = shr-shr s (32 - b) (b - a) ∙ ap (λ (j : ℕ). s / 2 ^ j) n in
      at_most_one_lem s e f
      (record { entry = used_entry ls e h; used = h; starts = sym x ∙ ap (λ (y : ℕ). y / 2 ^ (b - a)) w ∙ q })
      (record { entry = used_entry ls f k; used = k; starts = w })

  pub prefix_code_lem : PrefixCode ls (ledger_codewords ls)
  prefix_code_lem =
      record {
        places = codewords_length ls;
        below = λ e h. codeword_below e h;
        not_prefix = λ e f h k l q. not_a_prefix e f h k l q;
        at_most_one = λ s e f a b. at_most_one_lem s e f a b;
      }

  pub complete : free_after ls ≡ 0 → Complete ls (ledger_codewords ls)
  complete z s h = some_entry s z h

-- A LONE ENTRY of length 1
pub used_cons : (l : ℕ) (ls : List ℕ) → 0 < l → used (l ∷ ls) ≡ l ∷ used ls
unfolding used
used_cons l ls h = rw (ne_eqb l 0 (λ z. omega arith))

pub used_skip : (ls : List ℕ) → used (0 ∷ ls) ≡ used ls
unfolding used
used_skip ls = refl

used_append : (a b : List ℕ) → used (a ++ b) ≡ used a ++ used b
unfolding used
used_append [] b = refl
used_append (l ∷ a) b =
    ⊎_elim
    (λ (t : eqb l 0 ≡ true). rw t (used_append a b))
    (λ (t : eqb l 0 ≡ false). rw t (ap (λ (k : List ℕ). l ∷ k) (used_append a b)))
    (true_or_false (eqb l 0))

-- the first codeword of length 1 is 0
first_one : answer (after [] []) 1 ≡ some 0
first_one = sym (answer_are [] 1) ∙ (unfold run_blocks enter_answer block_for is_length block_above smallest empty_blocks in refl)

some_same : {v w : ℕ} → some v ≡ some w → v ≡ w
some_same e = cc

lone_split : (xs : List ℕ) (l : ℕ) (ys : List ℕ) → is_lone (xs ++ (l ∷ ys)) ≡ true → (xs ≡ []) × (l ≡ 1)
unfolding is_lone
lone_split [] l [] t = (refl, eqb-true l 1 t)
lone_split [] l (y ∷ ys) t = let z : ◌≡◌ {A = ℕ} 0 1 = cc in absurd (omega arith)
lone_split (x ∷ []) l ys t = let z : ◌≡◌ {A = ℕ} 0 1 = cc in absurd (omega arith)
lone_split (x ∷ y ∷ xs) l ys t = let z : ◌≡◌ {A = ℕ} 0 1 = cc in absurd (omega arith)

module _ (ls : List ℕ) (lone : is_lone (used ls) ≡ true) (e : ℕ) (h : 0 < get_or ls e 0) where
  lone_at_lem : (used (take e ls) ≡ []) × (get_or ls e 0 ≡ 1)
  lone_at_lem =
      let l = used_entry ls e h in
      let p : used ls ≡ used (take e ls) ++ (get_or ls e 0 ∷ used (drop (suc e) ls))
      = ap used (split_at ls e 0 l) ∙ used_append (take e ls) (get_or ls e 0 ∷ drop (suc e) ls) ∙ ap (λ (k : List ℕ). used (take e ls) ++ k) (used_cons (get_or ls e 0) (drop (suc e) ls) h) in
      lone_split (used (take e ls)) (get_or ls e 0) (used (drop (suc e) ls)) (rw p at lone)

  pub lone_length : get_or ls e 0 ≡ 1
  lone_length = lone_at_lem.1

  pub lone_codeword : first_refused ls ≡ none → get_or (ledger_codewords ls) e 0 ≡ 0
  lone_codeword ok =
      let a : entry_answer ls e ≡ some 0 = unfold entry_answer handed_out_before in rw (lone_at_lem.0, lone_at_lem.1) first_one in
      some_same (sym (entry_answer_lem ls ok e h) ∙ a)

-- what an accepted book's codewords are
pub decodable : (ls : List ℕ) → first_refused ls ≡ none → (free_after ls ≡ 0) ⊎ (is_lone (used ls) ≡ true) → Decodable ls (ledger_codewords ls)
decodable ls ok z =
    record {
      prefix_code = prefix_code_lem ls ok;
      complete = λ f. ⊎_elim (λ (q : free_after ls ≡ 0). complete ls ok q) (λ (q : is_lone (used ls) ≡ true). absurd (true_not_false (is_lone (used ls)) q f)) z;
      lone = λ t e h. (lone_length ls t e h, lone_codeword ls t e h ok);
    }

either : (ls : List ℕ) (a b : Bool) → eqb (free_after ls) 0 ≡ a → is_lone (used ls) ≡ b → cond (a || b) Accepted (Err Underspecified) ≡ Accepted
    → (free_after ls ≡ 0) ⊎ (is_lone (used ls) ≡ true)
either ls true b x y t = inl (eqb-true (free_after ls) 0 x)
either ls false true x y t = inr y
either ls false false x y t = let z : ◌≡◌ {A = ℕ} 0 1 = cc in absurd (omega arith)

accepted_by_lem : (ls : List ℕ) (o : Option ℕ) → first_refused ls ≡ o
    → refused_or o (cond (eqb (free_after ls) 0 || is_lone (used ls)) Accepted (Err Underspecified)) ≡ Accepted → Decodable ls (ledger_codewords ls)
accepted_by_lem ls (some i) q t = let z : ◌≡◌ {A = ℕ} 0 1 = cc in absurd (omega arith)
accepted_by_lem ls none q t = decodable ls q (either ls (eqb (free_after ls) 0) (is_lone (used ls)) refl refl t)

-- AN ACCEPTED BOOK
pub accepted_none_refused : (ls : List ℕ) → verdict ls ≡ Accepted → first_refused ls ≡ none
unfolding verdict
accepted_none_refused ls accepted = go (first_refused ls) refl accepted
  where
    go : (o : Option ℕ) → first_refused ls ≡ o → refused_or o (cond (eqb (free_after ls) 0 || is_lone (used ls)) Accepted (Err Underspecified)) ≡ Accepted
        → first_refused ls ≡ none
    go none p q = p
    go (some e) p q = let z : ◌≡◌ {A = ℕ} 0 1 = cc in absurd (omega arith)

pub accepted_decodable : (ls : List ℕ) → verdict ls ≡ Accepted → Decodable ls (ledger_codewords ls)
unfolding verdict
accepted_decodable ls e = accepted_by_lem ls (first_refused ls) refl e
