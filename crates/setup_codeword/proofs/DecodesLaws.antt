-- A book of an accepted setup decodes as demand 3 has it, by the call's definition. Assumes nothing.
use Prim.Native.Nat.{ℕ, zero, suc, ◌<◌}
use native.Mathlib.Omega.{arith}
use borrow.Author.Tests.{lt-ltb}
use mathlib.Core.List.{List, [], ◌∷◌, map}
use mathlib.Core.Path.{◌≡◌, refl, sym, subst, ◌∙◌}
use lib.ListN.{length, get_or}
use Rattle.reading.specs.Outcome.{ok}
use Rattle.limits.specs.declared.Limits.{Limits}
use Rattle.identification.specs.declared.Identity.{Identity}
use Rattle.codeword_assignment.specs.Book.{used, ledger_codewords, verdict, Accepted, Begins}
use Rattle.codespace.proofs.Claimed.{balanced}
use Rattle.codeword_assignment.proofs.Laws.{exactly_one_entry}
use Rattle.codeword.specs.Codeword.{codeword}
use Rattle.codeword.proofs.Laws.{read_whole, read_lone, cut_lone}
use Rattle.book.specs.Content.{Book}
use Rattle.book.specs.HeadReading.{Before}
use Rattle.book.specs.Reading.{and_this}
use Rattle.book.specs.Inner.Valid.{ValidBooks}
use Rattle.book.proofs.RuleLaws as B
use Rattle.setup.specs.Content.{Setup, lengths_of}
use Rattle.setup.specs.Layout.{Tables, written_out}
use Rattle.setup.specs.Call.{setup_of, setup_call, answered}
use Rattle.setup.specs.Inner.Parts.{Small}
use Rattle.setup.proofs.ValidLaws.{setup_valid, call_accepted, accepts}
use Rattle.setup_judged.proofs.JudgedLaws.{judged_by_call}
use Rattle.setup_judged.specs.Judged.{LengthsRead}
use Rattle.setup_judged.proofs.ReachedLaws.{book_reached}
use Rattle.setup_judged.proofs.ExampleLaws.{accepts_example}
use Rattle.setup.specs.Later.{later_call}
use Rattle.setup_codeword.specs.Call.{codeword_of, codeword_call}
use Rattle.setup_codeword.specs.Demand3.{BookDecodes, Demand3}
use Rattle.setup_codeword.proofs.JudgedLaws.{accepted_takes, full_not_lone}

-- each book's lengths were accepted
book_accepted : (limits : Limits) (before : Before) (bs : List Book) (b : ℕ) → ValidBooks limits before bs → b < length bs → verdict (get_or (map (λ x. x.lengths) bs) b []) ≡ Accepted
unfolding ValidBooks
book_accepted limits before [] b v h = absurd (omega arith)
book_accepted limits before (x ∷ bs) zero v h = B.lengths_accepted x v.0.rule7 v.0.rule8
book_accepted limits before (x ∷ bs) (suc b) v h = book_accepted limits (and_this before x) bs b v.1 (omega arith)

pub lengths_accepted : (limits : Limits) (c : Setup) (b : ℕ) → ValidBooks limits (record { entries = 0; values = 0 }) c.books → b < length c.books → verdict (lengths_of c b) ≡ Accepted
unfolding lengths_of
lengths_accepted limits c b v h = book_accepted limits (record { entries = 0; values = 0 }) c.books b v h

-- where the call comes to a codeword of accepted lengths
module _ {limits : Limits} {i : Identity} {t : Tables} {b : ℕ} (ls : List ℕ) (accepted : verdict ls ≡ Accepted)
    (call : (s : List ℕ) (k : ℕ) → codeword_call limits i t b s k ≡ codeword ls s k) where
  pub decodes : BookDecodes limits i t b ls
  decodes =
      let takes = accepted_takes ls accepted in
      record {
        balanced = balanced (used ls);
        accepted = accepted;
        taken = takes;
        whole = λ free string below.
            let one = exactly_one_entry ls takes.none_refused string free below in (
              one.0,
              one.1.0,
              one.1.1,
              (λ s k there same. call s k ∙ read_whole ls accepted s k there one.0 (subst (λ (v : ℕ). Begins ls (ledger_codewords ls) v one.0) (sym same) one.1.0) (full_not_lone ls free)),
            );
        lone = λ l s k h. call s k ∙ read_lone ls s k l h;
        lone_cut = λ l s k h. call s k ∙ cut_lone ls s k l h;
      }

-- an accepted call left sound tables, whose content is what was read
pub left_sound : (limits : Limits) (i : Identity) (s : List ℕ) (t : Tables) (c : Setup) → Small limits → setup_of limits i s t ≡ ok c
    → (b : ℕ) → b < length c.books → BookDecodes limits i (written_out c t) b (lengths_of c b)
unfolding codeword_call later_call codeword_of
left_sound limits i s t c small e b h =
    let a = accepts limits i s t small in
    let v = setup_valid limits i.channels s (call_accepted limits i s t e).content in
    decodes (lengths_of c b) (lengths_accepted limits c b v.books h)
    (λ p k. rw (a.tested c e, a.decoded c e, lt-ltb b (length c.books) h) refl)

left_is : (limits : Limits) (i : Identity) (s : List ℕ) (t : Tables) (c : Setup) → setup_of limits i s t ≡ ok c → written_out c t ≡ (setup_call limits i s t).tables
unfolding setup_call answered
left_is limits i s t c e = rw e

lengths_reached : (limits : Limits) (i : Identity) (s : List ℕ) (t : Tables) (c : Setup) → setup_of limits i s t ≡ ok c
    → (b : ℕ) → b < length c.books → (place : ℕ) × LengthsRead limits i s t place (lengths_of c b)
unfolding lengths_of
lengths_reached limits i s t c e b h = book_reached limits i s t c e b h

-- DEMAND 3, WHOLE
pub demand3 : (limits : Limits) → Small limits → Demand3 limits
demand3 limits small =
    record {
      lists = λ ls. balanced ls;
      setups = λ i s t c e b h. subst (λ (u : Tables). BookDecodes limits i u b (lengths_of c b)) (left_is limits i s t c e) (left_sound limits i s t c small e b h);
      judged = λ i s t place ls x. judged_by_call x;
      reached = λ i s t c e b h. lengths_reached limits i s t c e b h;
      example = accepts_example;
    }
