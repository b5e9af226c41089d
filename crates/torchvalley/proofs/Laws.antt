-- The front door's answers, as the code asks them; an accepted identity is sound and a refusal's is not. Assumes nothing.
use Rattle.codeword_assignment.specs.Book as B
use Rattle.codeword_assignment.specs.Book.{Assigned, assigned, written}
use Rattle.std.specs.Prelude.{Result, Ok, Err}
use Rattle.bits.specs.Reasons as N
use Prim.Native.Nat.{ℕ}
use native.Mathlib.Omega.{arith}
use borrow.Author.Rules.{rules}
use mathlib.Core.Bool.{Bool, true}
use mathlib.Core.List.{List}
use mathlib.Core.Logic.{◌↔◌}
use mathlib.Core.Path.{◌≡◌, refl, sym, ap, subst, ◌∙◌}
use Rattle.reading.specs.Outcome.{Outcome}
use Rattle.reading.proofs.Outcomes.{Numbered, value, number}
use Rattle.bits.specs.declared.refusal.Refusal.{Refusal}
use Rattle.identification.specs.declared.Identity.{Identity}
use Rattle.identification.specs.Inner.Answers.{identified}
use Rattle.identification.specs.Identification.{identification}
use Rattle.identification.specs.Sound.{Sound}
use Rattle.identification.proofs.Numbers.{numbered}
use Rattle.identification.proofs.SoundLaws.{accepted_sound}
use Rattle.torchvalley.specs.declared.IdentityAnswer.{IdentityAnswer}
use Rattle.torchvalley.specs.Answers.{answer_of, no_identity}

-- each way out of the call
module _ (s : List ℕ) {most : ℕ} (e : most ≡ 8) {r : Result Identity Refusal} (p : identified r ≡ identification most s) where
  pub answer_accepted : {i : Identity} → r ≡ Ok i → record { refusal = 0; identity = i } ≡ answer_of (identification 8 s)
  unfolding identified answer_of
  answer_accepted q = rw (← e, ← p, q)

  pub answer_refused : {z : Refusal} → r ≡ Err z → {n : ℕ} → n ≡ N.number z.reason → {i : Identity} → i ≡ no_identity
      → record { refusal = n; identity = i } ≡ answer_of (identification 8 s)
  unfolding identified answer_of
  answer_refused q f g = rw (← e, ← p, q, f, g)

zeros_unsound : Sound 8 no_identity → ⊥
zeros_unsound w = let h = w.some_channel in omega arith

accepted_exactly : (s : List ℕ) {o : Outcome Identity} → Numbered o → identification 8 s ≡ o → ((answer_of o).refusal ≡ 0) ↔ Sound 8 (answer_of o).identity
unfolding answer_of
accepted_exactly s (value i) p = (λ e. accepted_sound 8 s p, λ w. refl)
accepted_exactly s (number z h) p = (λ e. absurd (omega arith), λ w. absurd (zeros_unsound w))

-- beside the equation: the number is 0 exactly where the identity is sound
pub and_sound : (s : List ℕ) (a : IdentityAnswer) → a ≡ answer_of (identification 8 s)
    → (a ≡ answer_of (identification 8 s)) × ((a.refusal ≡ 0) ↔ Sound 8 a.identity)
and_sound s a e =
    (e, subst (λ (x : IdentityAnswer). (x.refusal ≡ 0) ↔ Sound 8 x.identity) (sym e) (accepted_exactly s (numbered 8 s) refl))

-- the test under the standard limits
pub sound_standard : {most : ℕ} (i : Identity) (b : Bool) → most ≡ 8 → (b ≡ true) ↔ Sound most i → (b ≡ true) ↔ Sound 8 i
sound_standard i b e w = rw e at w

pub ruleset door_laws = (rules, answer_accepted, answer_refused, sound_standard)

-- the codewords' call: its number and its list are both by the definition's answer
pub codewords_answer : (ls : List ℕ) (places : ℕ) (out : List ℕ) (r : Assigned) (n : ℕ) → r ≡ assigned ls places → out ≡ written r ls places → n ≡ B.refusal r
    → (n ≡ B.refusal (assigned ls places)) × (out ≡ written (assigned ls places) ls places)
codewords_answer ls places out r n p q e = (e ∙ ap B.refusal p, q ∙ ap (λ (a : Assigned). written a ls places) p)
