-- The turns and ends of the functions of src/book.rt. Assumes nothing.
use Rattle.std.specs.Prelude.{Ok, Err, IsOk, is_err}
use mathlib.Core.Bool.{Bool, true, false, cond, not, ◌&&◌, or-true}
use mathlib.Core.List.{List, [], ◌∷◌}
use mathlib.Core.Option.{Option, none, some}
use mathlib.Core.Path.{◌≡◌, refl, sym, ap, ◌∙◌}
use mathlib.Core.Logic.{⊎_elim}
use Prim.Native.Nat.{ℕ, suc, ◌+◌, ◌≤◌, ◌<◌}
use native.Mathlib.Numerals.{add-one}
use native.Mathlib.Omega.{arith}
use lib.Dec.{eqb, leb}
use lib.ListN.{length, get_or, set, take, drop, replicate, length-set, length-replicate, drop_of_length-le}
use lib.Seq.{take-suc, take_all, drop-cons}
use borrow.Author.Tests.{eq-eqb, ne_eqb, le-leb, lt-leb, lt-ltb, le-ltb}
use Rattle.reading.specs.Pad.{pad}
use Rattle.reading.specs.Tabulate.{tabulate}
use Rattle.reading.proofs.Least.{lt_or_le, lowest_is, lowest-none, below_suc}
use Rattle.reading.proofs.Pads.{pad_nil, pad-set, pad_front}
use Rattle.reading.proofs.Tabulate.{tabulate-length}
use Rattle.codespace.specs.Ledger.{free_strings, IsLength, answer, after}
use Rattle.codespace.specs.Inner.Blocks.{vacant, enter_answer, enter_blocks, Reached}
use Rattle.codespace.specs.Answers.{number, is_none}
use Rattle.codeword_assignment.specs.Book.{used, is_used, entry_answer, or_zero, is_refused, first_refused, codeword_of, ledger_codewords, free_after, is_lone, verdict, assigned, written, Decodable, NextUsed, Assigned, Accepted}
use Rattle.codeword_assignment.specs.declared.book.Unassigned.TheVariants.{Overspecified, Underspecified, TooShort}
use Rattle.codespace.proofs.Whole.{answer_are, refused_is}
use Rattle.codespace.proofs.Claimed.{next_reached}
use Rattle.codespace.proofs.Places.{Small, enter_small}
use Rattle.codespace.proofs.Steps.{outside_blocks}
use Rattle.codeword_assignment.proofs.Laws.{codewords_length, after-used, handed_before, used_cons, used_skip, accepted_decodable}

-- an entry's answer, by the space that the entries before it have come to
entry_model : (ls bs : List ℕ) (e : ℕ) → Reached (take e ls) bs → entry_answer ls e ≡ enter_answer bs (get_or ls e 0)
unfolding entry_answer
entry_model ls bs e r = rw (r.blocks, answer_are (take e ls) (get_or ls e 0), handed_before ls e)

-- what an entry's number says, t where it is unused
number_word : (t : Bool) (o : Option ℕ) (v : ℕ) → v ≡ cond t 0 (number o) → v < vacant → v ≡ cond (not t) (or_zero o) 0
number_word true o v e h = e
number_word false none v e h = absurd (omega arith)
number_word false (some u) v e h = e

number_kept : (t : Bool) (o : Option ℕ) (v : ℕ) → v ≡ cond t 0 (number o) → v < vacant → (not t && is_none o) ≡ false
number_kept true o v e h = refl
number_kept false none v e h = absurd (omega arith)
number_kept false (some u) v e h = refl

number_full : (t : Bool) (o : Option ℕ) (v : ℕ) → Small o → v ≡ cond t 0 (number o) → vacant ≤ v → (not t && is_none o) ≡ true
number_full true o v p e h = absurd (omega arith)
number_full false none v p e h = refl
number_full false (some u) v p e h = absurd (omega arith)

-- where a turn of `hand_out` and of `are_codewords` begins: the entries before i are entered, and none was refused
pub record Assigning (ls bs : List ℕ) (i : ℕ) : Type 0 where
  pub within : i ≤ length ls
  pub reached : Reached (take i ls) bs
  pub kept : (u : ℕ) → u < i → is_refused ls u ≡ false

pub assigning_start : (ls bs : List ℕ) → Reached [] bs → Assigning ls bs 0
assigning_start ls bs r = record { within = omega arith; reached = r; kept = λ u h. absurd (omega arith) }

module _ (ls bs : List ℕ) (i v : ℕ) (h : i < length ls) (w : Assigning ls bs i)
    (e : v ≡ cond (eqb (get_or ls i 0) 0) 0 (number (enter_answer bs (get_or ls i 0)))) where
  pub word_is : v < vacant → v ≡ codeword_of ls i
  unfolding codeword_of is_used
  word_is l = rw (entry_model ls bs i w.reached) (number_word (eqb (get_or ls i 0) 0) (enter_answer bs (get_or ls i 0)) v e l)

  kept_is : v < vacant → is_refused ls i ≡ false
  unfolding is_refused is_used
  kept_is l = rw (entry_model ls bs i w.reached) (number_kept (eqb (get_or ls i 0) 0) (enter_answer bs (get_or ls i 0)) v e l)

  full_is : vacant ≤ v → is_refused ls i ≡ true
  unfolding is_refused is_used
  full_is l =
      rw (entry_model ls bs i w.reached)
      (number_full (eqb (get_or ls i 0) 0) (enter_answer bs (get_or ls i 0)) v (enter_small bs (get_or ls i 0)) e l)

  pub assigning_turn : (bs' : List ℕ) → bs' ≡ enter_blocks bs (get_or ls i 0) → v < vacant → Assigning ls bs' (i + 1)
  assigning_turn bs' q l =
      let r = next_reached (take i ls) (get_or ls i 0) bs w.reached in
      record {
        within = omega arith;
        reached = rw (q, add-one, take-suc ls i 0 h) r;
        kept = λ u k. ⊎_elim (λ (j : u < i). w.kept u j) (λ (j : u ≡ i). rw j (kept_is l)) (below_suc (rw add-one at k));
      }

  pub overspecified : vacant ≤ v → Err (Overspecified i) ≡ verdict ls
  unfolding verdict first_refused
  overspecified l = rw (lowest_is (is_refused ls) (length ls) i h (full_is l) w.kept)

-- the end of the loop
module _ (ls bs : List ℕ) (i : ℕ) (h : length ls ≤ i) (w : Assigning ls bs i) where
  pub all_passed : i ≡ length ls
  all_passed = let m = w.within in omega arith

  none_refused : first_refused ls ≡ none
  unfolding first_refused
  none_refused = lowest-none (is_refused ls) (length ls) (λ u l. w.kept u (omega arith))

  -- a length of 32 is refused exactly where nothing is left
  full_test : is_none (enter_answer bs 32) ≡ eqb (free_after ls) 0
  full_test =
      let k : IsLength 32 = record { low = omega arith; high = omega arith } in
      let a : enter_answer bs 32 ≡ answer (after [] ls) 32
      = rw w.reached.blocks (answer_are (take i ls) 32 ∙ ap (λ (t : List ℕ). answer (after [] t) 32) (take_all i ls h)) in
      let r = refused_is ls 32 k in
      let f : free_after ls ≡ free_strings (after [] ls) = unfold free_after in ap free_strings (after-used ls []) in
      rw (a, f) (go (answer (after [] ls) 32) (free_strings (after [] ls)) r.0 r.1)
    where
      go : (o : Option ℕ) (n : ℕ) → (o ≡ none → n < 1) → (n < 1 → o ≡ none) → is_none o ≡ eqb n 0
      go none n p q = sym (eq-eqb n 0 (let l = p refl in omega arith))
      go (some v) n p q = sym (ne_eqb n 0 (λ z. let l = q (omega arith) in let z : ◌≡◌ {A = ℕ} 0 1 = cc in omega arith))

  pub full_accepted : (r : Bool) → r ≡ is_none (enter_answer bs 32) → r ≡ true → Accepted ≡ verdict ls
  unfolding verdict
  full_accepted r e t = rw (none_refused, sym full_test ∙ sym e ∙ t)

  pub lone_accepted : (r : Bool) → r ≡ is_lone (used ls) → r ≡ true → Accepted ≡ verdict ls
  unfolding verdict
  lone_accepted r e t = rw (none_refused, sym e ∙ t, or-true)

  pub underspecified : (r q : Bool) → r ≡ is_none (enter_answer bs 32) → r ≡ false → q ≡ is_lone (used ls) → q ≡ false → Err Underspecified ≡ verdict ls
  unfolding verdict
  underspecified r q e t f s = rw (none_refused, sym full_test ∙ sym e ∙ t, sym f ∙ s)

-- `hand_out`: the places before i hold the codewords, and the others are zero
pub record Handing (ls codewords₀ codewords bs : List ℕ) (i : ℕ) : Type 0 where
  pub entered : Assigning ls bs i
  pub long : length codewords ≡ length codewords₀
  pub places : codewords ≡ pad (length codewords₀) (tabulate (codeword_of ls) i)

pub handing_start : (ls codewords bs : List ℕ) → codewords ≡ replicate (length codewords) 0 → Reached [] bs → Handing ls codewords codewords bs 0
handing_start ls codewords bs e r =
    record { entered = assigning_start ls bs r; long = refl; places = unfold tabulate in e ∙ sym (pad_nil (length codewords)) }

pub handing_turn : (ls codewords₀ codewords bs : List ℕ) (i v : ℕ) → i < length ls → Handing ls codewords₀ codewords bs i
    → v ≡ cond (eqb (get_or ls i 0) 0) 0 (number (enter_answer bs (get_or ls i 0))) → (bs' : List ℕ) → bs' ≡ enter_blocks bs (get_or ls i 0) → v < vacant
    → Handing ls codewords₀ (set codewords i v) bs' (i + 1)
handing_turn ls codewords₀ codewords bs i v h w e bs' q l =
    let g = codeword_of ls in
    record {
      entered = assigning_turn ls bs i v h w.entered e bs' q l;
      long = simp length-set w.long;
      places =
          rw (w.places, word_is ls bs i v h w.entered e l, add-one)
          (unfold tabulate in pad-set (length codewords₀) (tabulate g i) i (g i) (sym (tabulate-length g i)));
    }

pub all_written : (ls codewords₀ codewords bs : List ℕ) (i : ℕ) → length ls ≤ i → Handing ls codewords₀ codewords bs i → codewords ≡ pad (length codewords₀) (ledger_codewords ls)
unfolding ledger_codewords
all_written ls codewords₀ codewords bs i h w = w.places ∙ rw (all_passed ls bs i h w.entered)

-- `entry_codeword`: an unused entry takes nothing
module _ (bs : List ℕ) (len : ℕ) where
  pub unused_number : len ≡ 0 → 0 ≡ cond (eqb len 0) 0 (number (enter_answer bs len))
  unused_number z = rw (eq-eqb len 0 z)

  pub unused_blocks : len ≡ 0 → bs ≡ enter_blocks bs len
  unused_blocks z = outside_blocks bs len (λ k. let l = k.low in omega arith)

  pub used_number : (v : ℕ) → (len ≡ 0 → ⊥) → v ≡ number (enter_answer bs len) → v ≡ cond (eqb len 0) 0 (number (enter_answer bs len))
  used_number v n e = rw (ne_eqb len 0 n) e

-- `next_used`: an unused entry is passed
pub passed : (ls : List ℕ) (from e : ℕ) → e < length ls → get_or ls e 0 ≡ 0 → used (drop from ls) ≡ used (drop e ls)
    → used (drop from ls) ≡ used (drop (e + 1) ls)
passed ls from e h z q = q ∙ rw (drop-cons ls e 0 h, z, add-one) (used_skip (drop (suc e) ls))

-- `is_lone`
module _ (ls : List ℕ) (r : ℕ) (n : NextUsed ls 0 r) where
  from_first : used ls ≡ used (drop r ls)
  from_first = n.same

  at_first : r < length ls → used ls ≡ get_or ls r 0 ∷ used (drop (r + 1) ls)
  at_first h = from_first ∙ rw (drop-cons ls r 0 h, add-one) (used_cons (get_or ls r 0) (drop (suc r) ls) (n.is_used h))

  nothing : (from : ℕ) → length ls ≤ from → used (drop from ls) ≡ []
  unfolding used
  nothing from h = rw (drop_of_length-le ls {i = from} h)

  pub lone_none : length ls ≤ r → false ≡ is_lone (used ls)
  unfolding is_lone
  lone_none h = rw (from_first, nothing r h)

  other : (l : ℕ) (ks : List ℕ) → (l ≡ 1 → ⊥) → false ≡ is_lone (l ∷ ks)
  unfolding is_lone
  other l [] m = sym (ne_eqb l 1 m)
  other l (k ∷ ks) m = refl

  pub lone_other : r < length ls → (get_or ls r 0 ≡ 1 → ⊥) → false ≡ is_lone (used ls)
  lone_other h m = rw (at_first h) (other (get_or ls r 0) (used (drop (r + 1) ls)) m)

  pub lone_one : (q : ℕ) → r < length ls → get_or ls r 0 ≡ 1 → NextUsed ls (r + 1) q → leb (length ls) q ≡ is_lone (used ls)
  unfolding is_lone
  lone_one q h o m =
      ⊎_elim
      (λ (l : q < length ls).
      let e : used (drop (r + 1) ls) ≡ get_or ls q 0 ∷ used (drop (suc q) ls)
      = m.same ∙ rw (drop-cons ls q 0 l) (used_cons (get_or ls q 0) (drop (suc q) ls) (m.is_used l)) in
      rw (at_first h, e, lt-leb (length ls) q l))
      (λ (l : length ls ≤ q). rw (at_first h, m.same ∙ nothing q l, o, le-leb (length ls) q l))
      (lt_or_le q (length ls))

-- `assign_codewords`
module _ (ls : List ℕ) (places : ℕ) where
  too_short : places < length ls → Err TooShort ≡ assigned ls places
  unfolding assigned
  too_short l = rw (lt-ltb places (length ls) l)

  assigned_is : (a : Assigned) → length ls ≤ places → a ≡ verdict ls → a ≡ assigned ls places
  unfolding assigned
  assigned_is a l e = rw (le-ltb places (length ls) l) e

-- an answer that is no refusal accepts
accepted_is : (a : Assigned) → IsOk a → a ≡ Accepted
accepted_is (Ok done) k = refl
accepted_is (Err why) k = let z : ◌≡◌ {A = ℕ} 0 1 = cc in absurd (omega arith)

written_refused : (a : Assigned) (ls : List ℕ) (places : ℕ) → is_err a ≡ true → written a ls places ≡ replicate places 0
written_refused (Ok done) ls places k = let z : ◌≡◌ {A = ℕ} 0 1 = cc in absurd (omega arith)
written_refused (Err why) ls places k = refl

not_accepted : (a : Assigned) → is_err a ≡ true → IsOk a → ⊥
not_accepted (Ok done) k q = let z : ◌≡◌ {A = ℕ} 0 1 = cc in absurd (omega arith)
not_accepted (Err why) k q = let z : ◌≡◌ {A = ℕ} 0 1 = cc in absurd (omega arith)

no_refusal : (a : Assigned) → is_err a ≡ false → IsOk a
no_refusal (Ok done) k = refl
no_refusal (Err why) k = let z : ◌≡◌ {A = ℕ} 0 1 = cc in absurd (omega arith)

-- what `assign_codewords` promises of its answer and of what it leaves
pub record Promised (ls : List ℕ) (places : ℕ) (a : Assigned) (out : List ℕ) : Type 0 where
  pub value : (a ≡ assigned ls places) × (out ≡ written a ls places)
  pub decodable : IsOk a → Decodable ls (take (length ls) out)

-- a list that was cleared
module _ (places : ℕ) (codewords₀ : List ℕ) (cleared : codewords₀ ≡ replicate places 0) where
  all_places : length codewords₀ ≡ places
  all_places = ap length cleared ∙ length-replicate places 0

  pub still_cleared : codewords₀ ≡ replicate (length codewords₀) 0
  still_cleared = cleared ∙ ap (λ (n : ℕ). replicate n 0) (sym all_places)

module _ (ls : List ℕ) (places : ℕ) (codewords₀ : List ℕ) (cleared : codewords₀ ≡ replicate places 0) where
  pub promised_short : length codewords₀ < length ls → Promised ls places (Err TooShort) codewords₀
  promised_short l =
      let n = all_places places codewords₀ cleared in
      record { value = (too_short ls places (omega arith), cleared); decodable = λ z. absurd (not_accepted (Err TooShort) refl z) }

  module _ (r : Assigned) (l : length ls ≤ length codewords₀) (e : r ≡ verdict ls) where
    fits : length ls ≤ places
    fits = let n = all_places places codewords₀ cleared in omega arith

    pub promised_accepted : (out : List ℕ) → (IsOk r → out ≡ pad (length codewords₀) (ledger_codewords ls)) → is_err r ≡ false → Promised ls places r out
    promised_accepted out w q =
        let k = no_refusal r q in
        let o : out ≡ pad places (ledger_codewords ls) = w k ∙ ap (λ (n : ℕ). pad n (ledger_codewords ls)) (all_places places codewords₀ cleared) in
        let n = codewords_length ls in
        let m = fits in
        let t : take (length ls) out ≡ ledger_codewords ls = rw (o, ← n) (pad_front places (ledger_codewords ls) (omega arith)) in
        record {
          value = (assigned_is ls places r fits e, rw (accepted_is r k) o);
          decodable = λ z. rw t (accepted_decodable ls (sym e ∙ accepted_is r k));
        }

    pub promised_refused : (codewords out : List ℕ) → is_err r ≡ true → length codewords ≡ length codewords₀ → out ≡ replicate (length codewords) 0
        → Promised ls places r out
    promised_refused codewords out q long w =
        record {
          value = (
            assigned_is ls places r fits e,
            w ∙ ap (λ (k : ℕ). replicate k 0) (long ∙ all_places places codewords₀ cleared) ∙ sym (written_refused r ls places q),
          );
          decodable = λ z. absurd (not_accepted r q z);
        }
