-- Laws of reading a head as the code asks them: one for each way out of a function. Assumes nothing.
use Rattle.std.specs.Prelude.{Result, Ok, Err}
use Prim.Native.Nat.{ℕ, ◌-◌, ◌*◌, ◌≤◌, ◌<◌}
use native.Mathlib.Omega.{arith}
use borrow.Author.Rules.{rules}
use borrow.Author.Tests.{lt-ltb, le-ltb, eq-eqb, ne_eqb}
use mathlib.Core.List.{List}
use mathlib.Core.Path.{◌≡◌, ap, ◌∙◌}
use lib.ListN.{get_or}
use Rattle.reading.specs.Outcome.{Outcome}
use Rattle.bits.specs.declared.Cursor.{Cursor}
use Rattle.bits.specs.declared.refusal.Reason.{Reason}
use Rattle.bits.specs.declared.refusal.Reason.TheVariants as R
use Rattle.bits.specs.declared.refusal.Refusal.{Refusal}
use Rattle.bits.specs.Inner.Cursors.{position, outcome}
use Rattle.bits.specs.Field.{field}
use Rattle.bits.specs.Ilog.{ilog}
use Rattle.bits.proofs.Answers.{value_is, refused_is}
use Rattle.bits.proofs.Ilogs.{ilog_places}
use Rattle.identification.specs.declared.Identity.{Identity}
use Rattle.requests.specs.Run.{read, run}
use Rattle.requests.specs.Refusing.{came_to}
use Rattle.audio.specs.Head.{block_size, head_requests}
use Rattle.audio.specs.declared.Head.{Head}
use Rattle.audio_head.specs.Inner.Readers.{modes_in, blockflag_in, flags_reader, mode_reader, head_reader}
use Rattle.audio_head.proofs.RunLaws.{head_by_table}

abbrev at : Reason → Cursor → Refusal
at z c = record { reason = z; place = c }

-- the flags
module _ (i : Identity) (mode flag : ℕ) (s : List ℕ) (k : Cursor) {size : ℕ} (b : size ≡ block_size i flag) where
  pub flags_short : flag ≡ 0
      → outcome (Ok (record { mode = mode; blockflag = 0; blocksize = size; previous = 0; next = 0 }, k)) ≡ flags_reader i mode flag s (position k)
  unfolding outcome flags_reader
  flags_short h = rw (b, h)

  module _ (h : flag ≡ 0 → ⊥) {r : Result (ℕ × Cursor) Refusal} (p : outcome r ≡ field 1 s (position k)) where
    pub previous_cut : {z : Refusal} → r ≡ Err z → outcome {A = Head} (Err z) ≡ flags_reader i mode flag s (position k)
    unfolding outcome flags_reader
    previous_cut q = rw (ne_eqb _ _ h, refused_is p q)

    module _ {previous : ℕ} {k₁ : Cursor} (q : r ≡ Ok (previous, k₁)) {r₁ : Result (ℕ × Cursor) Refusal} (p₁ : outcome r₁ ≡ field 1 s (position k₁)) where
      pub next_cut : {z : Refusal} → r₁ ≡ Err z → outcome {A = Head} (Err z) ≡ flags_reader i mode flag s (position k)
      unfolding outcome flags_reader
      next_cut q₁ = rw (ne_eqb _ _ h, value_is p q, refused_is p₁ q₁)

      pub flags_long : {next : ℕ} {k₂ : Cursor} → r₁ ≡ Ok (next, k₂)
          → outcome (Ok (record { mode = mode; blockflag = flag; blocksize = size; previous = previous; next = next }, k₂))
          ≡ flags_reader i mode flag s (position k)
      unfolding outcome flags_reader
      flags_long q₁ = rw (ne_eqb _ _ h, value_is p q, value_is p₁ q₁, b)

-- a mode's block flag
pub blockflag_is : (t : List ℕ) (mode : ℕ) {r : ℕ} → r ≡ get_or t (2 * mode) 0 → r ≡ blockflag_in t mode
unfolding blockflag_in
blockflag_is t mode e = e

-- how many bits a mode has
pub mode_bits : (n : ℕ) {w : ℕ} → w ≡ ilog (n - 1) → n ≤ 64 → w ≤ 32
mode_bits n e h = let i = ilog_places (n - 1) (omega arith) in omega arith

-- a field by its width and place
width_as : {o : Outcome (ℕ × ℕ)} {w v : ℕ} (s : List ℕ) (k : ℕ) → o ≡ field w s k → w ≡ v → o ≡ field v s k
width_as s k p e = p ∙ ap (λ (v : ℕ). field v s k) e

place_as : {o : Outcome (ℕ × ℕ)} (w : ℕ) (s : List ℕ) {k j : ℕ} → o ≡ field w s k → k ≡ j → o ≡ field w s j
place_as w s p e = p ∙ ap (λ (j : ℕ). field w s j) e

-- the mode
module _ (i : Identity) (n : ℕ) (t s : List ℕ) (k : Cursor) {w : ℕ} (b : w ≡ ilog (n - 1)) {r : Result (ℕ × Cursor) Refusal} (p : outcome r ≡ field w s (position k)) where
  pub mode_cut : {z : Refusal} → r ≡ Err z → outcome {A = Head} (Err z) ≡ mode_reader i n (blockflag_in t) s (position k)
  unfolding outcome mode_reader
  mode_cut q = rw (refused_is (width_as s (position k) p b) q)

  module _ {mode : ℕ} {k₁ : Cursor} (q : r ≡ Ok (mode, k₁)) where
    pub mode_unknown : n ≤ mode → outcome {A = Head} (Err (at R.Mode k)) ≡ mode_reader i n (blockflag_in t) s (position k)
    unfolding outcome mode_reader
    mode_unknown h = rw (value_is (width_as s (position k) p b) q, le-ltb _ _ h)

    pub mode_known : mode < n → {flag : ℕ} → flag ≡ blockflag_in t mode → {o : Outcome (Head × ℕ)} → o ≡ flags_reader i mode flag s (position k₁)
        → o ≡ mode_reader i n (blockflag_in t) s (position k)
    unfolding mode_reader
    mode_known h f e = rw (value_is (width_as s (position k) p b) q, lt-ltb _ _ h, ← f) e

-- the whole head
module _ (i : Identity) (n : ℕ) (t s : List ℕ) (k : Cursor) (z₀ : position k ≡ 0) {r : Result (ℕ × Cursor) Refusal} (p : outcome r ≡ field 1 s (position k)) where
  pub type_cut : {z : Refusal} → r ≡ Err z → (lengths_of : ℕ → List ℕ)
      → outcome {A = Head} (Err z) ≡ came_to (run (read lengths_of) (head_requests i (modes_in t n)) s 0)
  unfolding outcome head_reader
  type_cut q lengths_of = rw (head_by_table lengths_of s i n t, refused_is (place_as 1 s p z₀) q)

  module _ {type : ℕ} {k₁ : Cursor} (q : r ≡ Ok (type, k₁)) where
    pub type_wrong : (type ≡ 0 → ⊥) → (lengths_of : ℕ → List ℕ)
        → outcome {A = Head} (Err (at R.NotAudio k)) ≡ came_to (run (read lengths_of) (head_requests i (modes_in t n)) s 0)
    unfolding outcome head_reader
    type_wrong h lengths_of = rw (head_by_table lengths_of s i n t, value_is (place_as 1 s p z₀) q, ne_eqb _ _ h, z₀)

    pub type_right : type ≡ 0 → {o : Outcome (Head × ℕ)} → o ≡ mode_reader i n (blockflag_in t) s (position k₁) → (lengths_of : ℕ → List ℕ)
        → o ≡ came_to (run (read lengths_of) (head_requests i (modes_in t n)) s 0)
    unfolding head_reader
    type_right h e lengths_of = rw (head_by_table lengths_of s i n t, value_is (place_as 1 s p z₀) q, eq-eqb _ _ h) e

pub ruleset flags_laws = (rules, flags_short, previous_cut, next_cut, flags_long)

pub ruleset mode_laws = (rules, mode_bits, mode_cut, mode_unknown, mode_known)

pub ruleset head_laws = (rules, type_cut, type_wrong, type_right)
