-- THE CLASSES OF PASS 0 STAND IN THE LIST: found again there, they are those that pass 0 came to; and what is written after them leaves them as they are.
-- Assumes nothing.
use Prim.Native.Nat.{ℕ, zero, suc, ◌+◌, ◌-◌, ◌/◌, ◌%◌, ◌≤◌, ◌<◌}
use native.Mathlib.Omega.{arith}
use borrow.Author.Tests.{eq-eqb, ne_eqb}
use mathlib.Core.Bool.{Bool, true, false, cond}
use mathlib.Core.List.{List, [], ◌∷◌, ◌++◌, map, append_assoc, append-nil}
use mathlib.Core.Option.{Option, some, some-injective}
use mathlib.Core.Path.{◌≡◌, refl, sym, ap, ◌∙◌}
use lib.Dec.{eqb}
use lib.ListN.{length, get_or, drop, length-append, length-drop}
use lib.Seq.{drop-drop, drop_at, get_or-drop}
use Rattle.reading.specs.Reader.{Reader}
use Rattle.residue.specs.Content.{Residue}
use Rattle.requests.specs.Requests.{Request, Requests, bind}
use Rattle.requests.specs.Run.{Item, Run, run}
use Rattle.requests.proofs.Laws.{run_bind}
use Rattle.residue_requests.specs.Requests.{classes_of}
use Rattle.residue_requests.specs.Listed.{is_vector, listed}
use Rattle.residue_requests.specs.Inner.Unplaced.{flat_class_words, flat_partitions, flat_first_pass}
use Rattle.residue_requests.specs.Inner.Again.{odd_front, entries_from, next_class, again, ClassWordsBefore}
use Rattle.residue_requests.proofs.KindLaws.{Kind, kind_append, both, partitions_kind, classes_read}

-- items as they are listed
abbrev pub numbers : List Item → List ℕ
numbers l = map listed l

pub numbers_append : (l r : List Item) → numbers (l ++ r) ≡ numbers l ++ numbers r
numbers_append [] r = refl
numbers_append (i ∷ l) r = ap (λ (t : List ℕ). listed i ∷ t) (numbers_append l r)

pub numbers_long : (l : List Item) → length (numbers l) ≡ length l
numbers_long [] = refl
numbers_long (i ∷ l) = ap suc (numbers_long l)

odd : (i : Item) → is_vector i.request ≡ true → listed i % 2 ≡ 1
unfolding listed
odd i e = rw e (omega arith)

even : (i : Item) → is_vector i.request ≡ false → (listed i % 2 ≡ 1 → ⊥) × (listed i / 2 ≡ i.answer)
unfolding listed
even i e = rw e (λ h. omega arith, omega arith)

-- after the vectors stands the next class word
front : (vs : List Item) → Kind true vs → (i : Item) → is_vector i.request ≡ false → (t : List ℕ) → odd_front (numbers vs ++ (listed i ∷ t)) ≡ length vs
unfolding odd_front Kind
front [] k i e t = rw (ne_eqb (listed i % 2) 1 (even i e).0)
front (v ∷ vs) k i e t = rw (eq-eqb (listed v % 2) 1 (odd v k.0)) (ap suc (front vs k.1 i e t))

pub entries_are : (ws : List Item) → Kind false ws → (l : List ℕ) (at : ℕ) (t : List ℕ) → drop at l ≡ numbers ws ++ t
    → entries_from l at (length ws) ≡ map (λ i. i.answer) ws
unfolding entries_from Kind
entries_are [] k l at t e = refl
entries_are (w ∷ ws) k l at t e =
    let here : get_or l at 0 ≡ listed w = let z : at + 0 ≡ at = omega arith in sym (rw z at (get_or-drop at l 0 0)) ∙ ap (λ (m : List ℕ). get_or m 0 0) e in
    let later : drop (suc at) l ≡ numbers ws ++ t = let z : at + 1 ≡ suc at = omega arith in sym (rw z at (drop-drop 1 at l)) ∙ ap (drop 1) e in
    rw (here, (even w k.0).1) (ap (λ (m : List ℕ). w.answer ∷ m) (entries_are ws k.1 l (suc at) t later))

-- a list from where class words follow vectors
class_place : (vs : List Item) → Kind true vs → (w : Item) (ws : List Item) → Kind false (w ∷ ws) → (l : List ℕ) (at : ℕ) (t : List ℕ)
    → drop at l ≡ numbers vs ++ (numbers (w ∷ ws) ++ t)
    → (next_class l at ≡ at + length vs) × (drop (at + length vs) l ≡ numbers (w ∷ ws) ++ t) × (drop (at + length vs + length (w ∷ ws)) l ≡ t)
unfolding next_class Kind
class_place vs k w ws j l at t e =
    let a : drop (at + length vs) l ≡ numbers (w ∷ ws) ++ t =
    sym (drop-drop (length vs) at l) ∙ ap (drop (length vs)) e ∙ drop_at (numbers vs) (numbers (w ∷ ws) ++ t) (length vs) (numbers_long vs) in
    let b : drop (at + length vs + length (w ∷ ws)) l ≡ t =
    sym (drop-drop (length (w ∷ ws)) (at + length vs) l) ∙ ap (drop (length (w ∷ ws))) a ∙ drop_at (numbers (w ∷ ws)) t (length (w ∷ ws)) (numbers_long (w ∷ ws)) in
    (ap (λ (m : List ℕ). at + odd_front m) e ∙ ap (λ (n : ℕ). at + n) (front vs k w j.0 (numbers ws ++ t)), a, b)

module _ (reads : Request → Reader ℕ) (dimensions_of : ℕ → ℕ) (r : Residue) (live : ℕ) (s : List ℕ) (l tail : List ℕ) (end : ℕ) where
  -- the run h came to `classes`, and its codewords stand from place `at` of the list on, after some vectors, and end at place `end`
  pub record ListedFrom (h : Run (List ℕ)) (classes : List ℕ) (at : ℕ) : Type 0 where
    pub came : h.value ≡ some classes
    pub vectors : List Item
    pub kind : Kind true vectors
    pub list : drop at l ≡ numbers vectors ++ (numbers h.items ++ tail)
    pub ends : at + (length vectors + length h.items) ≡ end

  in_order : (a b c : List ℕ) → a ++ ((b ++ c) ++ tail) ≡ (a ++ b) ++ (c ++ tail)
  in_order a b c = ap (λ (t : List ℕ). a ++ t) (append_assoc b c tail) ∙ sym (append_assoc a b (c ++ tail))

  -- one partition of each vector, and then what comes next
  row_listed : (next : Requests (List ℕ)) (cs : List ℕ) (k : ℕ) {classes : List ℕ} {at : ℕ}
      → ListedFrom (run reads (bind (flat_partitions dimensions_of r 0 cs) (λ _. next)) s k) classes at → (n : ℕ) × ListedFrom (run reads next s n) classes at
  row_listed next cs k {classes} {at} x =
      let h₁ = run reads (flat_partitions dimensions_of r 0 cs) s k in
      let j = run_bind reads s (flat_partitions dimensions_of r 0 cs) (λ _. next) k in
      let b = both h₁ (λ _ n. run reads next s n) (rw j at x.came) in
      let h₂ = run reads next s h₁.position in
      let i : numbers (run reads (bind (flat_partitions dimensions_of r 0 cs) (λ _. next)) s k).items ≡ numbers h₁.items ++ numbers h₂.items =
      ap (λ (h : Run (List ℕ)). numbers h.items) j ∙ ap numbers b.items ∙ numbers_append h₁.items h₂.items in
      let long = ap (λ (h : Run (List ℕ)). length h.items) j in (
        h₁.position,
        record {
          came = b.second;
          vectors = x.vectors ++ h₁.items;
          kind = kind_append true x.vectors h₁.items x.kind (partitions_kind reads s dimensions_of r 0 cs k);
          list = x.list ∙ rw (i, numbers_append) (in_order (numbers x.vectors) (numbers h₁.items) (numbers h₂.items));
          ends = omega (arith, x.ends, long, ap length b.items, length-append h₁.items h₂.items, length-append x.vectors h₁.items);
        },
      )

  -- class words, and then what comes next
  words_listed : (next : List ℕ → Requests (List ℕ)) (k : ℕ) {classes : List ℕ} {at : ℕ}
      → ListedFrom (run reads (bind (flat_class_words r.classbook (suc live) []) next) s k) classes at
      → (n : ℕ) × ListedFrom (run reads (next (entries_from l (next_class l at) (suc live))) s n) classes (next_class l at + suc live) × (next_class l at + suc live ≤ end)
  unfolding Kind
  words_listed next k {classes} {at} x =
      let h₁ = run reads (flat_class_words r.classbook (suc live) []) s k in
      let j = run_bind reads s (flat_class_words r.classbook (suc live) []) next k in
      let b = both h₁ (λ a n. run reads (next a) s n) (rw j at x.came) in
      let c = classes_read reads s r.classbook (suc live) [] k b.came in
      let h₂ = run reads (next b.first) s h₁.position in
      let i : numbers (run reads (bind (flat_class_words r.classbook (suc live) []) next) s k).items ≡ numbers h₁.items ++ numbers h₂.items =
      ap (λ (h : Run (List ℕ)). numbers h.items) j ∙ ap numbers b.items ∙ numbers_append h₁.items h₂.items in
      let d : drop at l ≡ numbers x.vectors ++ (numbers h₁.items ++ (numbers h₂.items ++ tail)) = x.list ∙ rw (i, append_assoc) refl in
      let long = ap (λ (h : Run (List ℕ)). length h.items) j in
      let e : at + (length x.vectors + (length h₁.items + length h₂.items)) ≡ end =
      omega (arith, x.ends, long, ap length b.items, length-append h₁.items h₂.items) in
      go h₁.items c.kind c.number b.first c.words_are h₁.position b.second x.vectors x.kind d e
    where
      go : (ws : List Item) → Kind false ws → length ws ≡ suc live → (words : List ℕ) → words ≡ map (λ i. i.answer) ws → (n : ℕ) → (run reads (next words) s n).value ≡ some classes
          → (vs : List Item) → Kind true vs → drop at l ≡ numbers vs ++ (numbers ws ++ (numbers (run reads (next words) s n).items ++ tail))
          → at + (length vs + (length ws + length (run reads (next words) s n).items)) ≡ end
          → (n : ℕ) × ListedFrom (run reads (next (entries_from l (next_class l at) (suc live))) s n) classes (next_class l at + suc live) × (next_class l at + suc live ≤ end)
      go [] g m words e n q vs v d z = absurd (omega arith)
      go (w ∷ ws) g m words e n q vs v d z =
          let t = numbers (run reads (next words) s n).items ++ tail in
          let p = class_place vs v w ws g l at t d in
          let f : entries_from l (next_class l at) (suc live) ≡ words = rw (p.0, ← m) (entries_are (w ∷ ws) g l (at + length vs) t p.1 ∙ sym e) in
          let c = p.0 in
          (n, rw (f, p.0, ← m) (record { came = q; vectors = []; kind = tt; list = p.2; ends = omega arith }), omega arith)

  -- the classes that pass 0 came to are those that are found again
  pub again_is : (left unused : ℕ) (es acc : List ℕ) (k : ℕ) {classes : List ℕ} {at : ℕ}
      → ListedFrom (run reads (flat_first_pass dimensions_of r (suc live) left unused es acc) s k) classes at
      → classes ≡ acc ++ again (dimensions_of r.classbook) r (suc live) l left unused es at
  unfolding flat_first_pass again run
  again_is zero unused es acc k x = sym (some-injective _ _ x.came) ∙ sym (append-nil acc)
  again_is (suc left) (suc unused) es acc k {classes} {at} x =
      let cs = classes_of r unused es in
      let y = row_listed (flat_first_pass dimensions_of r (suc live) left unused es (acc ++ cs)) cs k x in
      again_is left unused es (acc ++ cs) y.0 y.1 ∙ append_assoc acc cs (again (dimensions_of r.classbook) r (suc live) l left unused es at)
  again_is (suc left) zero es acc k {classes} {at} x =
      let d = dimensions_of r.classbook - 1 in
      let f : List ℕ → Requests (List ℕ) = λ words. flat_first_pass dimensions_of r (suc live) left d words (acc ++ classes_of r d words) in
      let y = words_listed (λ words. bind (flat_partitions dimensions_of r 0 (classes_of r d words)) (λ _. f words)) k x in
      let words = entries_from l (next_class l at) (suc live) in
      let cs = classes_of r d words in
      let z = row_listed (flat_first_pass dimensions_of r (suc live) left d words (acc ++ cs)) cs y.0 y.1 in
      again_is left d words (acc ++ cs) z.0 z.1 ∙ append_assoc acc cs (again (dimensions_of r.classbook) r (suc live) l left d words (next_class l at + suc live))

  -- and their class words stand before the end
  pub class_words_before : (left unused : ℕ) (es acc : List ℕ) (k : ℕ) {classes : List ℕ} {at : ℕ}
      → ListedFrom (run reads (flat_first_pass dimensions_of r (suc live) left unused es acc) s k) classes at
      → ClassWordsBefore (dimensions_of r.classbook) (suc live) end l left unused at
  unfolding flat_first_pass ClassWordsBefore
  class_words_before zero unused es acc k x = tt
  class_words_before (suc left) (suc unused) es acc k x =
      let cs = classes_of r unused es in
      let y = row_listed (flat_first_pass dimensions_of r (suc live) left unused es (acc ++ cs)) cs k x in
      class_words_before left unused es (acc ++ cs) y.0 y.1
  class_words_before (suc left) zero es acc k {classes} {at} x =
      let d = dimensions_of r.classbook - 1 in
      let f : List ℕ → Requests (List ℕ) = λ words. flat_first_pass dimensions_of r (suc live) left d words (acc ++ classes_of r d words) in
      let y = words_listed (λ words. bind (flat_partitions dimensions_of r 0 (classes_of r d words)) (λ _. f words)) k x in
      let words = entries_from l (next_class l at) (suc live) in
      let cs = classes_of r d words in
      let z = row_listed (flat_first_pass dimensions_of r (suc live) left d words (acc ++ cs)) cs y.0 y.1 in
      (y.2, class_words_before left d words (acc ++ cs) z.0 z.1)

-- lists that are the same up to place `end`
odd_same : (a b : List ℕ) (n : ℕ) → ((i : ℕ) → i < n → get_or b i 0 ≡ get_or a i 0) → length b ≡ length a → odd_front a < n → odd_front b ≡ odd_front a
unfolding odd_front
odd_same [] [] n s e h = refl
odd_same [] (y ∷ b) n s e h = absurd (omega arith)
odd_same (x ∷ a) [] n s e h = absurd (omega arith)
odd_same (x ∷ a) (y ∷ b) zero s e h = absurd (omega arith)
odd_same (x ∷ a) (y ∷ b) (suc n) s e h =
    let here : y ≡ x = s 0 (omega arith) in
    let long : length b ≡ length a = omega arith in
    rw here (go (eqb (x % 2) 1) h (λ g. odd_same a b n (λ i k. s (suc i) (omega arith)) long g))
  where
    go : (t : Bool) → cond t (suc (odd_front a)) 0 < suc n → (odd_front a < n → odd_front b ≡ odd_front a) → cond t (suc (odd_front b)) 0 ≡ cond t (suc (odd_front a)) 0
    go true h f = ap suc (f (omega arith))
    go false h f = refl

module _ (l m : List ℕ) (end : ℕ) (same : (i : ℕ) → i < end → get_or m i 0 ≡ get_or l i 0) (long : length m ≡ length l) where
  pub entries_same : (at n : ℕ) → at + n ≤ end → entries_from m at n ≡ entries_from l at n
  unfolding entries_from
  entries_same at zero h = refl
  entries_same at (suc n) h = rw (same at (omega arith)) (ap (λ (t : List ℕ). get_or l at 0 / 2 ∷ t) (entries_same (suc at) n (omega arith)))

  pub next_same : (at : ℕ) → next_class l at < end → next_class m at ≡ next_class l at
  unfolding next_class
  next_same at h =
      let from : (i : ℕ) → i < end - at → get_or (drop at m) i 0 ≡ get_or (drop at l) i 0 =
      λ i k. get_or-drop at m i 0 ∙ same (at + i) (omega arith) ∙ sym (get_or-drop at l i 0) in
      let short = length-drop at m ∙ ap (λ (n : ℕ). n - at) long ∙ sym (length-drop at l) in
      ap (λ (n : ℕ). at + n) (odd_same (drop at l) (drop at m) (end - at) from short (omega arith))

  module _ (dims : ℕ) (live : ℕ) (some : 1 ≤ live) where
    pub again_same : (r : Residue) (left unused : ℕ) (es : List ℕ) (at : ℕ) → ClassWordsBefore dims live end l left unused at
        → again dims r live m left unused es at ≡ again dims r live l left unused es at
    unfolding again ClassWordsBefore
    again_same r zero unused es at x = refl
    again_same r (suc left) (suc unused) es at x = ap (λ (t : List ℕ). classes_of r unused es ++ t) (again_same r left unused es at x)
    again_same r (suc left) zero es at x =
        let low = x.0 in
        let words = entries_from l (next_class l at) live in
        rw (next_same at (omega arith), entries_same (next_class l at) live low)
        (ap (λ (t : List ℕ). classes_of r (dims - 1) words ++ t) (again_same r left (dims - 1) words (next_class l at + live) x.1))

    pub class_words_same : (left unused at : ℕ) → ClassWordsBefore dims live end l left unused at → ClassWordsBefore dims live end m left unused at
    unfolding ClassWordsBefore
    class_words_same zero unused at x = tt
    class_words_same (suc left) (suc unused) at x = class_words_same left unused at x
    class_words_same (suc left) zero at x =
        let low = x.0 in rw (next_same at (omega arith)) (low, class_words_same left (dims - 1) (next_class l at + live) x.1)
