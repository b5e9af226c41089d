-- Laws of reading codewords into the lent list: what is read, and what is left to read. Assumes nothing.
use Rattle.std.specs.Prelude.{Result, Ok, Err, IsErrAnd}
use Rattle.std.proofs.lemmas.Result.{err_from_is_err_and}
use Prim.Native.Nat.{ℕ, ◌+◌, ◌≤◌, ◌<◌}
use native.Mathlib.Omega.{arith}
use borrow.Author.Tests.{leb-true, leb-false, le-leb, lt-leb}
use mathlib.Core.Bool.{Bool, true, false, cond}
use mathlib.Core.List.{List, [], ◌++◌, append_assoc, append-nil}
use mathlib.Core.Option.{Option, none, some}
use mathlib.Core.Path.{◌≡◌, refl, sym, ap, ◌∙◌}
use lib.Dec.{leb}
use lib.ListN.{length, length-append}
use lib.Seq.{sets, length-sets}
use Rattle.reading.specs.Reader.{Reader}
use Rattle.reading.proofs.Tables.{sets_append, sets_out}
use Rattle.bits.specs.declared.Cursor.{Cursor}
use Rattle.bits.specs.Inner.Cursors.{position}
use Rattle.requests.specs.Requests.{Request, Requests, done, bind}
use Rattle.requests.specs.Run.{Item, Run, ended, run}
use Rattle.requests.specs.Inner.Parts.{after, joined}
use Rattle.requests.proofs.Laws.{run_bind}
use Rattle.residue_requests.proofs.AgainLaws.{numbers, numbers_append, numbers_long}
use Rattle.codeword_list.specs.declared.Progress.{Progress}
use Rattle.codeword_list.specs.declared.Stop.{Stop}
use Rattle.codeword_list.specs.declared.Stop.TheVariants.{Cut, Full}
use Rattle.codeword_list.specs.Inner.ListRead.{all, cut, full, ending_of, ending_by, ending_in, ReadIntoList}

-- items before those of a run
unfoldable pub items_before : {A : Type 0} → List Item → Run A → Run A
items_before l r = ended (l ++ r.items) r.position r.value

items_before_append : {A : Type 0} (l m : List Item) (r : Run A) → items_before l (items_before m r) ≡ items_before (l ++ m) r
unfolding items_before
items_before_append l m r = rw (append_assoc l m r.items)

module _ {A : Type 0} where
  -- what the answer `Whole` says of a run
  pub record ReadWhole (room count : ℕ) (r : Run A) (p : Progress) : Type 0 where
    pub value : A
    pub came : r.value ≡ some value
    pub at : r.position ≡ position p.at
    pub number : p.count ≡ count + length r.items
    pub fits : p.count ≤ room

  ending_all : (v : Option A) (at n x y : ℕ) → all x y ≡ ending_by v at n → (a : A) × (v ≡ some a) × (at ≡ x) × (y ≡ n)
  ending_all (some a) at n x y e = (a, refl, cc, cc)
  ending_all none at n x y e = let z : ◌≡◌ {A = ℕ} 0 1 = cc in absurd (omega arith)

  ending_cut : (v : Option A) (at n x y : ℕ) → cut x y ≡ ending_by v at n → (v ≡ none) × (at ≡ x) × (n ≡ y)
  ending_cut (some a) at n x y e = let z : ◌≡◌ {A = ℕ} 0 1 = cc in absurd (omega arith)
  ending_cut none at n x y e = (refl, cc, cc)

  ending_full : (v : Option A) (at n : ℕ) → full ≡ ending_by v at n → ⊥
  ending_full (some a) at n e = let z : ◌≡◌ {A = ℕ} 0 1 = cc in omega arith
  ending_full none at n e = let z : ◌≡◌ {A = ℕ} 0 1 = cc in omega arith

  pub read_whole : {room count : ℕ} {r : Run A} {p : Progress} {x : Result Progress Stop} → x ≡ Ok p → ending_of x ≡ ending_in room count r → ReadWhole room count r p
  unfolding ending_of ending_in
  read_whole {room} {count} {r} {p} {x} q e = go (leb (count + length r.items) room) refl (ap ending_of (sym q) ∙ e)
    where
      go : (t : Bool) → leb (count + length r.items) room ≡ t
          → all (position p.at) p.count ≡ cond t (ending_by r.value r.position (count + length r.items)) full → ReadWhole room count r p
      go false f e = let z : ◌≡◌ {A = ℕ} 0 1 = cc in absurd (omega arith)
      go true f e =
          let y = ending_all r.value r.position (count + length r.items) (position p.at) p.count e in
          let low = leb-true (count + length r.items) room f in
          record { value = y.0; came = y.1; at = y.2; number = y.3; fits = omega (arith, y.3) }

  -- so much of the run r is read into the list: what is left is `rest`, to be read into the list as it is now
  pub record ReadSoFar (r : Run A) (entry : List ℕ) (count₀ : ℕ) (rest : Run A) (out : List ℕ) (count : ℕ) : Type 0 where
    pub items : List Item
    pub split : r ≡ items_before items rest
    pub list : out ≡ sets entry count₀ (numbers items)
    pub number : count ≡ count₀ + length items
    pub fits : count ≤ length entry

  pub sofar_start : {r : Run A} {entry : List ℕ} {count : ℕ} → count ≤ length entry → ReadSoFar r entry count r entry count
  unfolding items_before
  sofar_start h = record { items = []; split = refl; list = refl; number = omega arith; fits = h }

  pub read_length : {r : Run A} {out : List ℕ} {c : ℕ} {x : Result Progress Stop} {exit : List ℕ} → ReadIntoList r out c x exit → length exit ≡ length out
  read_length {r} {out} {c} w = ap length w.list ∙ length-sets out c (numbers r.items)

  pub read_room : {r : Run A} {out : List ℕ} {c : ℕ} {x : Result Progress Stop} {exit : List ℕ} {p : Progress} → ReadIntoList r out c x exit → x ≡ Ok p → p.count ≤ length exit
  read_room w q = let y = read_whole q w.ending in let z = read_length w in omega (arith, y.fits)

  -- nothing is left
  pub read_nothing : {at : Cursor} {out : List ℕ} {c : ℕ} {a : A} {r : Run A} → r ≡ ended [] (position at) (some a) → c ≤ length out → {p : Progress}
      → p ≡ record { at = at; count = c } → ReadIntoList r out c (Ok p) out
  unfolding ending_in ending_of
  read_nothing {at} {out} {c} e f g = let z : c + 0 ≡ c = omega arith in rw (e, g) (record { ending = rw (z, le-leb c (length out) f); list = refl })

module _ {A : Type 0} {r : Run A} {entry : List ℕ} {c₀ : ℕ} {rest : Run A} {out : List ℕ} {c : ℕ} (p : ReadSoFar r entry c₀ rest out c) where
  sofar_length : length out ≡ length entry
  sofar_length = ap length p.list ∙ length-sets entry c₀ (numbers p.items)

  pub sofar_fits : c ≤ length out
  sofar_fits = let l = sofar_length in let f = p.fits in omega arith

  sofar_numbers : (l : List Item) → sets out c (numbers l) ≡ sets entry c₀ (numbers (p.items ++ l))
  sofar_numbers l = rw (p.list, p.number, numbers_append, sets_append, numbers_long) refl

  -- what is read last answers for all
  pub sofar_last : {x : Result Progress Stop} {exit : List ℕ} → ReadIntoList rest out c x exit → ReadIntoList r entry c₀ x exit
  unfolding ending_in items_before
  sofar_last {x} {exit} w =
      let n : c + length rest.items ≡ c₀ + length (p.items ++ rest.items) = omega (arith, p.number, length-append p.items rest.items) in
      let e : ending_of x ≡ cond (leb (c + length rest.items) (length out)) (ending_by rest.value rest.position (c + length rest.items)) full = w.ending in
      rw p.split (record { ending = rw (← n, ← sofar_length) e; list = w.list ∙ sofar_numbers rest.items })

-- one run, and then another
module _ {A B : Type 0} where
  joined_whole : (r : Run A) (f : A → ℕ → Run B) {a : A} {k : ℕ} → r.value ≡ some a → r.position ≡ k → joined r f ≡ items_before r.items (f a k)
  unfolding joined items_before
  joined_whole r f e g = rw (e, g)

  module _ {r : Run B} {entry : List ℕ} {c₀ : ℕ} {rest : Run B} {out : List ℕ} {c : ℕ} (p : ReadSoFar r entry c₀ rest out c)
      {first : Run A} (f : A → ℕ → Run B) (j : rest ≡ joined first f) {x : Result Progress Stop} {exit : List ℕ} (w : ReadIntoList first out c x exit) where
    -- the first came whole, and the other is left
    pub sofar_next : {m : Progress} → x ≡ Ok m → (a : A) × (first.value ≡ some a) × ReadSoFar r entry c₀ (f a (position m.at)) exit m.count
    sofar_next {m} q =
        let y = read_whole q w.ending in
        let l = sofar_length p in
        let n : c₀ + length (p.items ++ first.items) ≡ m.count = omega (arith, p.number, y.number, length-append p.items first.items) in
        let s = ap (items_before p.items) (j ∙ joined_whole first f y.came y.at) in (
          y.value,
          y.came,
          record {
            items = p.items ++ first.items;
            split = p.split ∙ s ∙ items_before_append p.items first.items (f y.value (position m.at));
            list = w.list ∙ sofar_numbers p first.items;
            number = sym n;
            fits = omega (arith, y.fits);
          },
        )

  -- the first was cut, or the list was full: so is the whole
  module _ (f : A → ℕ → Run B) {first : Run A} {out : List ℕ} {c : ℕ} {x : Result Progress Stop} {exit : List ℕ} (w : ReadIntoList first out c x exit) where
    abbrev needed : ℕ
    needed = c + length first.items

    pub joined_cut : {m : Progress} → x ≡ Err (Cut m) → ReadIntoList (joined first f) out c (Err (Cut m)) exit
    unfolding ending_in ending_of joined
    joined_cut {m} q = go (leb needed (length out)) refl (ap ending_of (sym q) ∙ w.ending)
      where
        go : (t : Bool) → leb needed (length out) ≡ t → cut (position m.at) m.count ≡ cond t (ending_by first.value first.position needed) full
            → ReadIntoList (after first.items first.position first.value f) out c (Err (Cut m)) exit
        go false g e = let z : ◌≡◌ {A = ℕ} 0 1 = cc in absurd (omega arith)
        go true g e =
            let y = ending_cut first.value first.position needed (position m.at) m.count e in
            rw y.0 (record { ending = rw (g, y.1, y.2); list = w.list })

    pub joined_full : x ≡ Err Full → ReadIntoList (joined first f) out c (Err Full) exit
    unfolding ending_in ending_of joined
    joined_full q = go (leb needed (length out)) refl (ap ending_of (sym q) ∙ w.ending)
      where
        more : (v : Option A) → length out < needed → ReadIntoList (after first.items first.position v f) out c (Err Full) exit
        more none g = record { ending = rw (lt-leb needed (length out) g); list = w.list }
        more (some a) g =
            let l = (f a first.position).items in
            let n = length-append first.items l in
            let far : length out < c + length (first.items ++ l) = omega arith in
            let written = sets out c (numbers first.items) in
            let past : length written ≤ c + length (numbers first.items) = omega (arith, length-sets out c (numbers first.items), numbers_long first.items) in
            record {
              ending = rw (lt-leb (c + length (first.items ++ l)) (length out) far);
              list = w.list ∙ sym (rw (numbers_append, sets_append) (sets_out (numbers l) written (c + length (numbers first.items)) past));
            }

        go : (t : Bool) → leb needed (length out) ≡ t → full ≡ cond t (ending_by first.value first.position needed) full
            → ReadIntoList (after first.items first.position first.value f) out c (Err Full) exit
        go true g e = absurd (ending_full first.value first.position needed e)
        go false g e = more first.value (leb-false needed (length out) g)

    -- whatever stopped it
    pub joined_stop : (e : Stop) → x ≡ Err e → ReadIntoList (joined first f) out c (Err e) exit
    joined_stop (Cut m) q = joined_cut q
    joined_stop Full q = joined_full q

-- the exit of a `?` returns what stopped reading
pub read_back : {A : Type 0} {r : Run A} {out : List ℕ} {c : ℕ} {exit : List ℕ} (x : Result Progress Stop) (e : Stop) → IsErrAnd x (λ y. y ≡ e)
    → ReadIntoList r out c (Err e) exit → ReadIntoList r out c x exit
read_back x e b w = let p = err_from_is_err_and x b in let q : x ≡ Err e = p.1 ∙ ap Err p.2 in rw q w

-- RUNS THAT FILL A LIST ALIKE: the same numbers, the same position, whole or cut both. What a run's value is, and which book an item names, the list does not show
abbrev pub whole : {A : Type 0} → Option A → Bool
whole (some a) = true
whole none = false

pub record Alike {A B : Type 0} (r : Run A) (t : Run B) : Type 0 where
  pub numbers_are : numbers r.items ≡ numbers t.items
  pub position_is : r.position ≡ t.position
  pub came : whole r.value ≡ whole t.value

alike_ending : {A B : Type 0} (v : Option A) (w : Option B) (at n : ℕ) → whole v ≡ whole w → ending_by v at n ≡ ending_by w at n
alike_ending (some a) (some b) at n e = refl
alike_ending none none at n e = refl
alike_ending (some a) none at n e = let z : ◌≡◌ {A = ℕ} 0 1 = cc in absurd (omega arith)
alike_ending none (some b) at n e = let z : ◌≡◌ {A = ℕ} 0 1 = cc in absurd (omega arith)

pub read_alike : {A B : Type 0} {r : Run A} {t : Run B} {out : List ℕ} {c : ℕ} {x : Result Progress Stop} {exit : List ℕ} → Alike r t → ReadIntoList r out c x exit → ReadIntoList t out c x exit
unfolding ending_in
read_alike {r = r} {t = t} {out} {c} a w =
    let n : length r.items ≡ length t.items = sym (numbers_long r.items) ∙ ap length a.numbers_are ∙ numbers_long t.items in
    record {
      ending = w.ending ∙ rw (n, a.position_is, alike_ending r.value t.value t.position (c + length t.items) a.came) refl;
      list = w.list ∙ ap (sets out c) a.numbers_are;
    }

pub alike_joined : {A B C : Type 0} (r : Run A) (f : A → ℕ → Run B) (g : A → ℕ → Run C) → ((a : A) (n : ℕ) → Alike (f a n) (g a n)) → Alike (joined r f) (joined r g)
unfolding joined
alike_joined {A = A} r f g e = go r.value
  where
    go : (v : Option A) → Alike (after r.items r.position v f) (after r.items r.position v g)
    go (some a) =
        let b = e a r.position in
        let l = numbers_append r.items (f a r.position).items in
        let m = numbers_append r.items (g a r.position).items in
        record { numbers_are = l ∙ ap (λ (t : List ℕ). numbers r.items ++ t) b.numbers_are ∙ sym m; position_is = b.position_is; came = b.came }
    go none = record { numbers_are = refl; position_is = refl; came = refl }

-- a value that is made of a run's value
pub alike_mapped : {A B : Type 0} (reads : Request → Reader ℕ) (s : List ℕ) (x : Requests A) (f : A → B) (k : ℕ) → Alike (run reads x s k) (run reads (bind x (λ a. done (f a))) s k)
unfolding joined run
alike_mapped {A = A} reads s x f k = rw (run_bind reads s x (λ a. done (f a)) k) (go (run reads x s k).items (run reads x s k).position (run reads x s k).value)
  where
    go : (l : List Item) (n : ℕ) (v : Option A) → Alike (ended l n v) (after l n v (λ a m. ended [] m (some (f a))))
    go l n (some a) = record { numbers_are = ap numbers (sym (append-nil l)); position_is = refl; came = refl }
    go l n none = record { numbers_are = refl; position_is = refl; came = refl }
