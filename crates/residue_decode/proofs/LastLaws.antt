-- Laws of the last pass that has a book, as the code asks them; no pass after it has one for any class. Assumes nothing.
use Prim.Native.Nat.{ℕ, max, zero, suc, ◌+◌, ◌*◌, ◌/◌, ◌%◌, ◌≤◌, ◌<◌}
use native.Mathlib.Omega.{arith}
use borrow.Author.Rules.{rules}
use mathlib.Core.List.{List, []}
use mathlib.Core.Logic.{◌⊎◌, inl, inr, ⊎_elim}
use mathlib.Core.Path.{◌≡◌, refl, ap, sym, ◌∙◌}
use lib.ListN.{get_or, drop}
use Rattle.reading.proofs.Least.{lt_or_le}
use Rattle.residue.specs.Layout.{plan_width}
use Rattle.residue.specs.Inner.Decode.{chunks}
use Rattle.residue.specs.declared.head.Head.{Head}
use Rattle.residue_requests.specs.Requests.{planned}
use Rattle.residue_requests.specs.Inner.Unplaced.{Bookless}
use Rattle.residue_pass.specs.Inner.Readable.{residue_by, place_in}
use Rattle.residue_pass.proofs.PartitionLaws.{place_is}
use Rattle.residue_decode.specs.Inner.Parts.{LastPass}

-- the later of two passes, where the plan has a book for the second; the first where it has none
pub record LaterOf (last place pass r : ℕ) : Type 0 where
  pub kept : last ≤ r
  pub found : (place ≡ 0 → ⊥) → pass ≤ r
  pub within : last ≤ 7 → pass ≤ 7 → r ≤ 7

-- THE SEARCH, where so many places of the plan are looked at
pub record Searched (plans : List ℕ) (n last count : ℕ) : Type 0 where
  pub within : last ≤ 7
  pub none_after : (class pass : ℕ) → 8 * class + pass < count → last < pass → pass < 8 → place_in plans n class pass ≡ 0

nothing_or : (v : ℕ) → (v ≡ 0) ⊎ (v ≡ 0 → ⊥)
nothing_or zero = inl refl
nothing_or (suc v) = inr (λ e. omega arith)

module _ {plans : List ℕ} {n : ℕ} where
  pub search_start : Searched plans n 0 0
  search_start = record { within = omega arith; none_after = λ class pass a b c. absurd (omega arith) }

  module _ {last count : ℕ} (g : Searched plans n last count) where
    pub search_done : {classes : ℕ} → 8 * classes ≤ count → LastPass plans n classes last
    search_done h = record { within = g.within; none_after = λ class pass a b c. g.none_after class pass (omega arith) b c }

    search_next : {pass class place last' : ℕ} → pass ≡ count % 8 → class ≡ count / 8 → place ≡ place_in plans n class pass → LaterOf last place pass last' → Searched plans n last' (count + 1)
    search_next {pass} {class} {place} {last'} p c e l =
        let few : pass ≤ 7 = omega arith in
        record { within = l.within g.within few; none_after = λ class₁ pass₁ a b d. ⊎_elim (λ z. before class₁ pass₁ z b d) (λ z. here class₁ pass₁ (omega arith) b d) (lt_or_le (8 * class₁ + pass₁) count) }
      where
        before : (class₁ pass₁ : ℕ) → 8 * class₁ + pass₁ < count → last' < pass₁ → pass₁ < 8 → place_in plans n class₁ pass₁ ≡ 0
        before class₁ pass₁ a b d = let k = l.kept in g.none_after class₁ pass₁ a (omega arith) d

        here : (class₁ pass₁ : ℕ) → 8 * class₁ + pass₁ ≡ count → last' < pass₁ → pass₁ < 8 → place_in plans n class₁ pass₁ ≡ 0
        here class₁ pass₁ a b d =
            let x : class₁ ≡ class = omega arith in
            let y : pass₁ ≡ pass = omega arith in
            ⊎_elim (λ z. rw (x, y) (sym e ∙ z)) (λ f. let t = l.found f in absurd (omega arith)) (nothing_or place)

    -- as the code has it
    pub search_none : {place : ℕ} → place ≡ place_in plans n (count / 8) (count % 8) → place ≡ 0 → Searched plans n last (count + 1)
    search_none e z = search_next refl refl e (record { kept = omega arith; found = λ f. absurd (f z); within = λ a b. a })

    pub search_some : {place : ℕ} → place ≡ place_in plans n (count / 8) (count % 8) → Searched plans n (max last (count % 8)) (count + 1)
    search_some e = search_next refl refl e (record { kept = omega arith; found = λ f. omega arith; within = λ a b. omega arith })

pub ruleset asked = (rules, search_start, search_done)

-- NO BOOK in a later pass, for any class: the plan has a row for each class, and no other
no_row : (c : ℕ) (l : List ℕ) (class : ℕ) → c ≤ class → get_or (chunks c l) class [] ≡ []
unfolding chunks
no_row zero l class h = refl
no_row (suc c) l zero h = absurd (omega arith)
no_row (suc c) l (suc class) h = no_row c (drop 8 l) class (omega arith)

pub bookless : {plans : List ℕ} {n last : ℕ} (h : Head) → LastPass plans n h.classifications last → (pass : ℕ) → last < pass → pass < 8 → Bookless (residue_by h plans n) pass
unfolding Bookless planned residue_by
bookless {plans} {n} h l pass a b class =
    ⊎_elim (λ c. place_is h plans n class pass c b ∙ l.none_after class pass c a b) (λ c. no_book_lem c) (lt_or_le class h.classifications)
  where
    no_book_lem : h.classifications ≤ class → planned (residue_by h plans n) pass class ≡ 0
    no_book_lem c = ap (λ (row : List ℕ). get_or row pass 0) (no_row h.classifications (drop (plan_width * n) plans) class c)
