-- WHAT IS KNOWN OF A HEAD THAT WAS READ, by its reader. Assumes nothing.
use Rattle.std.specs.Prelude.{Result, Ok}
use Prim.Native.Nat.{ℕ, ◌≤◌, ◌<◌, ◌-◌}
use native.Mathlib.Omega.{arith}
use mathlib.Core.Bool.{Bool, true, false, cond}
use mathlib.Core.List.{List}
use mathlib.Core.Path.{◌≡◌, refl, ap, sym, subst, ◌∙◌}
use lib.Dec.{eqb, ltb}
use lib.ListN.{length}
use borrow.Author.Tests.{ltb-true, eqb-true}
use Rattle.reading.specs.Outcome.{Outcome, ok, then}
use Rattle.reading.specs.Reader.{judged}
use Rattle.reading.proofs.Outcomes.{ok_is, then_ok, judged-ok}
use Rattle.bits.specs.Field.{field}
use Rattle.bits.specs.Ilog.{ilog}
use Rattle.bits.specs.declared.Cursor.{Cursor}
use Rattle.bits.specs.Inner.Cursors.{position, outcome}
use Rattle.bits.proofs.Fields.{field-ok}
use Rattle.identification.specs.declared.Identity.{Identity}
use Rattle.mode.specs.Content.{Mode}
use Rattle.requests.specs.Run.{read, run}
use Rattle.requests.specs.Refusing.{came_to}
use Rattle.audio.specs.declared.Head.{Head}
use Rattle.audio.specs.Head.{mode_at, head_with, head_requests}
use Rattle.bits.specs.declared.refusal.Refusal.{Refusal}
use Rattle.audio_head.specs.Inner.Readers.{flags_reader, mode_reader, head_reader}
use Rattle.audio_head.specs.Inner.Known.{HeadKnown}
use Rattle.audio_head.proofs.RunLaws.{head_run_lem}

module _ (i : Identity) (modes : List Mode) (s : List ℕ) where
  flags_known : (mode k : ℕ) → mode < length modes → {x : Head × ℕ} → flags_reader i mode (mode_at modes mode).blockflag s k ≡ ok x → HeadKnown i modes x.0
  unfolding flags_reader
  flags_known mode k below {x} e = go (eqb (mode_at modes mode).blockflag 0) refl e
    where
      known : (previous next n : ℕ) → previous ≤ 1 → next ≤ 1
          → ◌≡◌ {A = Outcome (Head × ℕ)} (ok (head_with i mode (mode_at modes mode).blockflag previous next, n)) (ok x) → HeadKnown i modes x.0
      known previous next n p q same =
          subst (λ (y : Head × ℕ). HeadKnown i modes y.0) (ok_is same) (record { mode = below; blockflag = refl; blocksize = refl; previous = p; next = q })

      long : then (field 1 s k) (λ p. then (field 1 s p.1) (λ n. ok (head_with i mode (mode_at modes mode).blockflag p.0 n.0, n.1))) ≡ ok x
          → HeadKnown i modes x.0
      long f =
          let p = then_ok (field 1 s k) _ f in
          let n = then_ok (field 1 s p.0.1) _ p.2 in
          let a = (field-ok s k 1 p.1).below in
          let b = (field-ok s p.0.1 1 n.1).below in
          known p.0.0 n.0.0 n.0.1 (omega arith) (omega arith) n.2

      go : (t : Bool) → eqb (mode_at modes mode).blockflag 0 ≡ t
          → cond t (ok (head_with i mode 0 0 0, k))
          (then (field 1 s k) (λ p. then (field 1 s p.1) (λ n. ok (head_with i mode (mode_at modes mode).blockflag p.0 n.0, n.1)))) ≡ ok x
          → HeadKnown i modes x.0
      go true z f =
          let short : (mode_at modes mode).blockflag ≡ 0 = eqb-true (mode_at modes mode).blockflag 0 z in
          known 0 0 k (omega arith) (omega arith) (ap (λ (b : ℕ). ok (head_with i mode b 0 0, k)) short ∙ f)
      go false z f = long f

  mode_known : (k : ℕ) {x : Head × ℕ} → mode_reader i (length modes) (λ m. (mode_at modes m).blockflag) s k ≡ ok x → HeadKnown i modes x.0
  unfolding mode_reader
  mode_known k e =
      let m = then_ok (judged (λ v. ltb v (length modes)) 16 (field (ilog (length modes - 1))) s k) _ e in
      let j = judged-ok (λ v. ltb v (length modes)) 16 (field (ilog (length modes - 1))) s k m.1 in
      flags_known m.0.0 m.0.1 (ltb-true _ _ j.1) m.2

  reader_known : {x : Head × ℕ} → head_reader i (length modes) (λ m. (mode_at modes m).blockflag) s ≡ ok x → HeadKnown i modes x.0
  unfolding head_reader
  reader_known e = let type = then_ok (judged (λ v. eqb v 0) 15 (field 1) s 0) _ e in mode_known type.0.1 type.2

  -- of a run
  pub head_known : (lengths_of : ℕ → List ℕ) {x : Head × ℕ} → came_to (run (read lengths_of) (head_requests i modes) s 0) ≡ ok x → HeadKnown i modes x.0
  head_known lengths_of e = reader_known (sym (head_run_lem lengths_of s i modes (λ m. (mode_at modes m).blockflag) (λ m h. refl)) ∙ e)

  -- of the program's answer
  pub value_known : (lengths_of : ℕ → List ℕ) {r : Result (Head × Cursor) Refusal} {h : Head} {c : Cursor}
      → outcome r ≡ came_to (run (read lengths_of) (head_requests i modes) s 0) → r ≡ Ok (h, c) → HeadKnown i modes h
  unfolding outcome
  value_known lengths_of {r} {h} {c} e q = head_known lengths_of {x = (h, position c)} (sym e ∙ ap outcome q)
