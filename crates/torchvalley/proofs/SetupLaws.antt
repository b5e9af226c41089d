-- The front door's calls for a setup, at the standard limits, as the code asks them. Assumes nothing.
use Rattle.std.specs.Prelude.{Result, Ok, Err}
use Prim.Native.Nat.{ℕ, ◌+◌, ◌*◌, ◌^◌, ◌/◌, ◌%◌, ◌≤◌, ◌<◌}
use native.Mathlib.Omega.{arith}
use borrow.Author.Rules.{rules}
use mathlib.Core.Bool.{Bool}
use mathlib.Core.List.{List}
use mathlib.Core.Path.{◌≡◌, refl, sym, ap, subst, ◌∙◌}
use lib.ListN.{length}
use Rattle.reading.specs.Outcome.{Outcome, ok, bad}
use Rattle.bits.specs.declared.Cursor.{Cursor}
use Rattle.bits.specs.declared.refusal.Refusal.{Refusal}
use Rattle.bits.specs.Inner.Cursors.{position, outcome}
use Rattle.bits.specs.Reasons.{number}
use Rattle.limits.specs.declared.Limits.{Limits}
use Rattle.identification.specs.declared.Identity.{Identity}
use Rattle.setup.specs.Layout.{Tables}
use Rattle.setup.specs.Call.{Left, setup_call}
use Rattle.setup.specs.Accepted.{AcceptedSound}
use Rattle.setup.specs.Inner.Parts.{Small}
use Rattle.setup.specs.SoundTest.{sound_test, Tested}
use Rattle.setup_codeword.specs.Call.{codeword_call}
use Rattle.setup_codeword.specs.Demand3.{Demand3}
use Rattle.setup_codeword.proofs.CallLaws.{call_within}
use Rattle.limits.specs.Standard.{standard}
use Rattle.torchvalley.specs.Codeword.{codeword_answer, Addressable}
use Rattle.torchvalley.specs.declared.tables.CodewordAnswer.{CodewordAnswer}

-- what `standard` answers is the standard
module _ {l : Limits} (e : (l.channels ≡ 8) × (l.book_entries ≡ 8192) × (l.entries ≡ 16384) × (l.multiplicands ≡ 16384)) where
  same : l ≡ standard
  same = λ j. record { channels = e.0 j; book_entries = e.1 j; entries = e.2 j; multiplicands = e.3 j }

  pub small : Small l
  small = record { few_channels = let h = e.0 in omega arith; few_entries = let h = e.2 in omega arith; few_values = let h = e.3 in omega arith }

  pub setup_standard : {i : Identity} {s : List ℕ} {t : Tables} {r : Left} → (r ≡ setup_call l i s t) × AcceptedSound l i s t → (r ≡ setup_call standard i s t) × AcceptedSound standard i s t
  setup_standard {i} {s} {t} {r} p = subst (λ (x : Limits). (r ≡ setup_call x i s t) × AcceptedSound x i s t) same p

  pub sound_standard : {i : Identity} {t : Tables} {r : Bool} → (r ≡ sound_test l i t) × Tested l i t → (r ≡ sound_test standard i t) × Tested standard i t
  sound_standard {i} {t} {r} p = subst (λ (x : Limits). (r ≡ sound_test x i t) × Tested x i t) same p

  -- one codeword: the call's outcome under the standard limits, and what is answered of it
  pub codeword_standard : (i : Identity) (t : Tables) (b k : ℕ) (s : List ℕ) (f : Result (ℕ × Cursor) Refusal) {r : CodewordAnswer} → (outcome f ≡ codeword_call l i t b s k) × Demand3 l
      → r ≡ codeword_answer (outcome f) → (r ≡ codeword_answer (codeword_call standard i t b s k)) × Demand3 standard
  codeword_standard i t b k s f {r} p e =
      subst (λ (x : Limits). (r ≡ codeword_answer (codeword_call x i t b s k)) × Demand3 x) same (e ∙ ap codeword_answer p.0, p.1)

-- a codeword that was read lies in its packet, so the place behind it can be counted in bytes
addressable_ok : (o : Outcome (ℕ × ℕ)) (n : ℕ) → n < 2 ^ 64 → ((x : ℕ × ℕ) → o ≡ ok x → x.1 ≤ 8 * n) → Addressable o
unfolding Addressable
addressable_ok (ok x) n h w = let y = w x refl in omega arith
addressable_ok (bad z) n h w = tt

pub call_addressable : {l : Limits} (i : Identity) (t : Tables) (b k : ℕ) (s : List ℕ) (f : Result (ℕ × Cursor) Refusal) → (outcome f ≡ codeword_call l i t b s k) × Demand3 l → length s < 2 ^ 64 → Addressable (outcome f)
call_addressable {l} i t b k s f p h = addressable_ok (outcome f) (length s) h (λ x e. call_within l i t b s k x (sym p.0 ∙ e))

-- byte and bit of a place
pub byte_is : (byte bit : ℕ) → byte + bit / 8 ≡ (8 * byte + bit) / 8
byte_is byte bit = omega arith

pub bit_is : (byte bit : ℕ) → bit % 8 ≡ (8 * byte + bit) % 8
bit_is byte bit = omega arith

-- what the answer of one codeword says
module _ (f : Result (ℕ × Cursor) Refusal) where
  pub answer_refused : {z : Refusal} {n : ℕ} → f ≡ Err z → n ≡ number z.reason → record { refusal = n; entry = 0; byte = 0; bit = 0 } ≡ codeword_answer (outcome f)
  unfolding outcome codeword_answer
  answer_refused {z} {n} q h = rw q (λ j. record { refusal = h j; entry = 0; byte = 0; bit = 0 })

  pub answer_read : {v byte bit : ℕ} {c : Cursor} → f ≡ Ok (v, c) → byte ≡ position c / 8 → bit ≡ position c % 8 → record { refusal = 0; entry = v; byte = byte; bit = bit } ≡ codeword_answer (outcome f)
  unfolding outcome codeword_answer
  answer_read {v} {byte} {bit} {c} q h g = rw q (λ j. record { refusal = 0; entry = v; byte = h j; bit = g j })

  pub place_addressable : {v : ℕ} {c : Cursor} → f ≡ Ok (v, c) → Addressable (outcome f) → position c ≤ 8 * 18446744073709551615
  unfolding outcome Addressable
  place_addressable q h = rw q at h

pub ruleset answer_laws = (rules, answer_refused, answer_read, place_addressable)
