-- Laws of the call for one codeword, as the code asks them: one for each of its answers. Assumes nothing.
use Rattle.std.specs.Prelude.{Err}
use Prim.Native.Nat.{ℕ, ◌*◌, ◌≤◌, ◌<◌}
use native.Mathlib.Omega.{arith}
use borrow.Author.Tests.{not-true, not-false, ltb-true}
use mathlib.Core.Bool.{Bool, true, false, not}
use mathlib.Core.List.{List}
use mathlib.Core.Logic.{◌↔◌}
use mathlib.Core.Path.{◌≡◌, refl, sym, ap, ◌∙◌}
use lib.Dec.{ltb}
use lib.ListN.{length, get_or}
use Rattle.reading.specs.Outcome.{refusal, Outcome, ok, bad}
use Rattle.reading.proofs.Least.{true_not_false}
use Rattle.reading.proofs.Outcomes.{need-ok}
use Rattle.reading.proofs.Encodes.{iff_false}
use Rattle.bits.specs.declared.Cursor.{Cursor}
use Rattle.bits.specs.Inner.Cursors.{position, outcome}
use Rattle.bits.specs.Reasons.{number}
use Rattle.bits.specs.declared.refusal.Reason.{Reason}
use Rattle.limits.specs.declared.Limits.{Limits}
use Rattle.identification.specs.declared.Identity.{Identity}
use Rattle.identification.specs.Sound as I
use Rattle.codeword.specs.Codeword.{codeword}
use Rattle.codeword.specs.Inner.Claims.{Settled}
use Rattle.codeword.proofs.Laws.{read_used}
use Rattle.book_codeword.specs.Inner.Stored.{entries_of, lengths_in, BookStored}
use Rattle.setup.specs.Content.{lengths_of}
use Rattle.setup.specs.Layout.{Tables}
use Rattle.setup.specs.Inner.Decode.{decode_setup}
use Rattle.setup.specs.Inner.Parts.{Small}
use Rattle.setup.specs.Sound.{Sound}
use Rattle.setup.specs.SoundTest.{sound_test, Tested}
use Rattle.setup.proofs.TestLaws.{test_is, tested}
use Rattle.setup.specs.Later.{later_call}
use Rattle.setup_rows.specs.Inner.Rows.{RowsReadable}
use Rattle.setup_rows.proofs.RowsLaws.{sound_readable}
use Rattle.setup_codeword.specs.Call.{codeword_of, codeword_call}
use Rattle.setup_codeword.specs.Demand3.{Demand3}
use Rattle.setup_codeword.proofs.DecodesLaws.{demand3}

pub refused_is : (reason : Reason) (place : Cursor) → position place ≡ 0 → outcome {A = ℕ} (Err (record { reason = reason; place = place })) ≡ bad (refusal (number reason) 0)
unfolding outcome
refused_is reason place e = rw e refl

-- so many channels as the test of the tables takes
pub few_channels : {limits : Limits} {i : Identity} {a : Bool} → (a ≡ true) ↔ I.Sound limits.channels i → Small limits → not a ≡ false → i.channels ≤ 255
few_channels {limits} {i} {a} e s n = let x = (e.0 (not-false a n)).few_channels in let y = s.few_channels in omega arith

-- the books that are counted
pub counted : (b : ℕ) {n m : ℕ} → n ≡ m → ltb b n ≡ ltb b m
counted b e = rw e

module _ {limits : Limits} {i : Identity} {t : Tables} where
  -- soundness of both
  module _ {a : Bool} (e : (a ≡ true) ↔ I.Sound limits.channels i) where
    pub identity_fails : not a ≡ true → (false ≡ sound_test limits i t) × Tested limits i t
    identity_fails n = (test_is (iff_false (λ x. true_not_false a (e.1 x.identity) (not-true a n))), tested)

    pub tables_tell : {b : Bool} → not a ≡ false → (b ≡ true) ↔ Sound limits i.channels t → (b ≡ sound_test limits i t) × Tested limits i t
    tables_tell n f = (test_is ((λ z. record { identity = e.0 (not-false a n); tables = f.0 z }), (λ x. f.1 x.tables)), tested)

  module _ (tests : Tested limits i t) {a : Bool} (e : a ≡ sound_test limits i t) (n : not a ≡ false) where
    -- each row of the tables is its content
    rows : RowsReadable limits i.channels t (decode_setup t)
    rows = sound_readable (tests.tells.0 (sym e ∙ not-false a n)).tables

    module _ {d : Bool} (b : ℕ) (c : d ≡ ltb b (get_or t.counts 0 0)) where
      -- the book that is read lies in the tables
      pub call_stored : not d ≡ false → BookStored t.books t.lengths t.codewords b
      call_stored h =
          let m = rows.counts.books in
          let l : b < get_or t.counts 0 0 = ltb-true b _ (sym c ∙ not-false d h) in
          (rows.books b (omega arith)).stored

    -- and has the lengths of the content
    own_lengths : (b : ℕ) → entries_of t.books b t.lengths ≡ lengths_of (decode_setup t) b
    unfolding lengths_in
    own_lengths b = ap (λ (f : ℕ → List ℕ). f b) rows.lengths

  -- the answers
  module _ (small : Small limits) (tests : Tested limits i t) {a : Bool} (e : a ≡ sound_test limits i t) (b : ℕ) (s : List ℕ) (k : ℕ) {r : Outcome (ℕ × ℕ)} where
    pub call_unsound : not a ≡ true → r ≡ bad (refusal 18 0) → (r ≡ codeword_call limits i t b s k) × Demand3 limits
    unfolding codeword_call later_call
    call_unsound n q = (rw (sym e ∙ not-true a n) q, demand3 limits small)

    module _ (n : not a ≡ false) {d : Bool} (c : d ≡ ltb b (get_or t.counts 0 0)) where
      pub call_not_there : not d ≡ true → r ≡ bad (refusal 11 0) → (r ≡ codeword_call limits i t b s k) × Demand3 limits
      unfolding codeword_call later_call codeword_of
      call_not_there h q = (rw (sym e ∙ not-false a n, ← (rows tests e n).counts.books, sym c ∙ not-true d h) q, demand3 limits small)

      pub call_read : not d ≡ false → (r ≡ codeword (entries_of t.books b t.lengths) s k) × Settled (entries_of t.books b t.lengths)
          → (r ≡ codeword_call limits i t b s k) × Demand3 limits
      unfolding codeword_call later_call codeword_of
      call_read h q = (
        rw (sym e ∙ not-false a n, ← (rows tests e n).counts.books, sym c ∙ not-false d h) (q.0 ∙ ap (λ (ls : List ℕ). codeword ls s k) (own_lengths tests e n b)),
        demand3 limits small,
      )

-- a codeword that is read lies in the packet whole
pub call_within : (limits : Limits) (i : Identity) (t : Tables) (b : ℕ) (s : List ℕ) (k : ℕ) (x : ℕ × ℕ) → codeword_call limits i t b s k ≡ ok x → x.1 ≤ 8 * length s
unfolding codeword_call later_call codeword_of
call_within limits i t b s k x e =
    let a = need-ok (sound_test limits i t) (refusal 18 0) _ e in
    let c = need-ok (ltb b (length (decode_setup t).books)) (refusal 11 0) _ a.1 in
    (read_used (lengths_of (decode_setup t) b) s k x.0 x.1 c.1).2
