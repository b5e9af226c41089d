-- The laws of the search as the code asks them: where a bit is taken next, and where entries are searched. Assumes nothing.
use Rattle.bits.specs.declared.refusal.Refusal.{Refusal}
use Rattle.std.specs.Prelude.{Ok, Err}
use Prim.Native.Nat.{ℕ, ◌+◌, ◌-◌, ◌*◌, ◌/◌, ◌%◌, ◌^◌, ◌≤◌, ◌<◌}
use native.Mathlib.Numerals.{add-one}
use native.Mathlib.Omega.{arith}
use borrow.Author.Rules.{rules}
use mathlib.Core.List.{List}
use mathlib.Core.Logic.{⊎_elim}
use mathlib.Core.Path.{◌≡◌, refl, ap, sym, ◌∙◌}
use mir.Syntax.{w32}
use mir.Val.{Fits}
use lib.ListN.{length, get_or}
use Rattle.reading.specs.Outcome.{refusal, bad}
use Rattle.bits.specs.Field.{bit_at}
use Rattle.bits.specs.Inner.Cursors.{position, refusal_of, outcome}
use Rattle.bits.specs.declared.Cursor.{Cursor}
use Rattle.reading.proofs.Least.{lt_or_le}
use Rattle.codeword_assignment.specs.Book.{ledger_codewords, PrefixCode}
use Rattle.codeword_assignment.proofs.Laws.{accepted_decodable, used_length, codewords_length, accepted_none_refused}
use Rattle.codeword.specs.Codeword.{bits_at, matching}
use Rattle.codeword.specs.Inner.Book.{Codebook}
use Rattle.codeword.specs.Inner.Window.{NextBits, Zeros}
use Rattle.codeword.specs.declared.window.Window.{Window}
use Rattle.codeword.proofs.Bits.{bits_more, double_fits, more_fits}
use Rattle.codeword.proofs.Matching.{Starts, NoneBefore, none_fewer, passes_short, passes_unused, passes_other, turn_never, turn_on, turn_found, turn_end, turn_cut}

below_end : (e n : ℕ) → e ≤ n → (e ≡ n → ⊥) → e < n
below_end e n l d = ⊎_elim (λ (h : e < n). h) (λ (h : n ≤ e). absurd (d (omega arith))) (lt_or_le e n)

-- n of the next `count` bits are taken and match nothing; the entries before e are ruled out
pub record Taking (ls ws s : List ℕ) (k count word n e : ℕ) : Type 0 where
  pub counted : n ≤ count
  pub within : e ≤ length ls
  pub bits : word ≡ bits_at s k n
  pub none : NoneBefore ls ws n (bits_at s k n) e
  pub rest : matching ls n (32 - n) s k ≡ matching ls 0 32 s k

-- the n-th bit was just taken, and it is not known yet what the n bits match
pub record Searching (ls ws s : List ℕ) (k count word n e : ℕ) : Type 0 where
  pub some : 1 ≤ n
  pub counted : n ≤ count
  pub few : n ≤ 32
  pub there : k + n ≤ 8 * length s
  pub within : e ≤ length ls
  pub bits : word ≡ bits_at s k n
  pub none : NoneBefore ls ws n (bits_at s k n) e
  pub rest : matching ls (n - 1) (32 - (n - 1)) s k ≡ matching ls 0 32 s k

module _ (ls ws s : List ℕ) (k : Cursor) (count : ℕ) where
  pub taking_start : Taking ls ws s (position k) count 0 0 0
  unfolding bits_at
  taking_start = record { counted = omega arith; within = omega arith; bits = refl; none = λ f h. absurd (omega arith); rest = refl }

-- a bit is taken from the next bits
module _ (ls ws s : List ℕ) (k : Cursor) (next : Window) (b : NextBits s (position k) next.count next.bits) (word n e : ℕ)
    (t : Taking ls ws s (position k) next.count word n e) where
  pub no_bit_left : n ≡ next.count → (z : Refusal) → refusal_of z ≡ refusal 1 (position k) → outcome (Err z) ≡ matching ls 0 32 s (position k)
  unfolding outcome
  no_bit_left h z q =
      let c = ap bad q in
      let f = b.few in
      ⊎_elim
      (λ (l : next.count < 32). let m = b.all l in c ∙ sym (turn_cut ls s (position k) n (omega arith)) ∙ t.rest)
      (λ (l : 32 ≤ next.count). c ∙ sym (turn_end ls s (position k) n (omega arith)) ∙ t.rest)
      (lt_or_le next.count 32)

  module _ (d : n ≡ next.count → ⊥) where
    left : n < next.count
    left = below_end n next.count t.counted d

    pub few_taken : n < 32
    few_taken = let f = b.few in let l = left in omega arith

    bit_taken : (v : ℕ) → v ≡ next.bits / 2 ^ n % 2 → v ≡ bit_at s (position k + n)
    bit_taken v p = p ∙ b.same n left

    pub taken_one : (v : ℕ) → v ≡ next.bits / 2 ^ n % 2 → Searching ls ws s (position k) next.count (word * 2 + v) (n + 1) e
    taken_one v p =
        let f = few_taken in
        let l = left in
        let m : position k + n < 8 * length s = b.there n left in
        let x : n + 1 - 1 ≡ n = omega arith in
        record {
          some = omega arith;
          counted = omega arith;
          few = omega arith;
          there = omega arith;
          within = t.within;
          bits = bits_more s (position k) n word v t.bits (bit_taken v p);
          none = rw add-one (none_fewer ls ws s (position k) n e t.none);
          rest = rw x t.rest;
        }

    -- a word with one bit more fits 32 bits
    pub doubled : Fits w32 (word * 2)
    doubled = record { fits = double_fits s (position k) n word few_taken t.bits }

    pub lengthened : (v : ℕ) → v ≡ next.bits / 2 ^ n % 2 → Fits w32 (word * 2 + v)
    lengthened v p = record { fits = more_fits s (position k) n word v few_taken t.bits (bit_taken v p) }

-- an entry is looked at
module _ (ls ws : List ℕ) (book : Codebook ls ws) (s : List ℕ) (k : Cursor) (count word n e : ℕ)
    (t : Searching ls ws s (position k) count word n e) where
  code : PrefixCode ls (ledger_codewords ls)
  code = (accepted_decodable ls book.accepted).prefix_code

  moved : (f : ℕ) → NoneBefore ls ws n (bits_at s (position k) n) f → NoneBefore ls (ledger_codewords ls) n (bits_at s (position k) n) f
  moved f h g l st = h g l (rw (← book.coded) at st)

  -- n is one more than n - 1
  before : n - 1 + 1 ≡ n
  before = let l = t.some in omega arith

  pub all_passed : e ≡ length ls → (z : Refusal) → refusal_of z ≡ refusal 1 (position k) → outcome (Err z) ≡ matching ls 0 32 s (position k)
  unfolding outcome
  all_passed h z q =
      let c = ap bad q in
      let l = t.some in
      let m = t.few in
      let p = t.there in
      let none : NoneBefore ls (ledger_codewords ls) (n - 1 + 1) (bits_at s (position k) (n - 1 + 1)) (length ls) = rw (before, ← h) (moved e t.none) in
      c ∙ sym (turn_never ls code s (position k) (n - 1) (omega arith) (omega arith) none) ∙ t.rest

  module _ (h : (e ≡ length ls → ⊥)) where
    inside : e < length ls
    inside = below_end e (length ls) t.within h

    pub in_codewords : e < length ws
    in_codewords = rw (book.coded, codewords_length ls) inside

    pub length_short : (len : ℕ) → len ≡ get_or ls e 0 → len < n → Searching ls ws s (position k) count word n (e + 1)
    length_short len q l =
        let i = inside in
        record {
          some = t.some;
          counted = t.counted;
          few = t.few;
          there = t.there;
          within = omega arith;
          bits = t.bits;
          none = passes_short ls ws n (bits_at s (position k) n) e t.none (omega arith);
          rest = t.rest;
        }

    -- and unused entries behind it
    pub unused_passed : (len : ℕ) → len ≡ get_or ls e 0 → len < n → (r : ℕ) → (e + 1 ≤ r) × (r ≤ length ls) × Zeros ls (e + 1) r
        → Searching ls ws s (position k) count word n r
    unused_passed len q l r (a, b, z) =
        let y = length_short len q l in
        record {
          some = y.some;
          counted = y.counted;
          few = y.few;
          there = y.there;
          within = b;
          bits = y.bits;
          none = passes_unused ls ws n (bits_at s (position k) n) (e + 1) y.none y.some r z;
          rest = y.rest;
        }

    module _ (len : ℕ) (q : len ≡ get_or ls e 0) (l : n ≤ len) where
      starts : get_or ws e 0 / 2 ^ (len - n) ≡ word → Starts ls ws n (bits_at s (position k) n) e
      starts p = record { long = omega arith; same = rw (← q) (p ∙ t.bits) }

      starts_coded : get_or ws e 0 / 2 ^ (len - n) ≡ word → Starts ls (ledger_codewords ls) n (bits_at s (position k) n) e
      starts_coded p = rw book.coded at (starts p)

      pub length_within : len ≤ 32
      length_within =
          let i = t.some in
          let u = (used_length ls (accepted_none_refused ls book.accepted) e (omega arith)).high in
          omega arith

      pub other_word : (get_or ws e 0 / 2 ^ (len - n) ≡ word → ⊥) → Searching ls ws s (position k) count word n (e + 1)
      other_word d =
          let i = inside in
          record {
            some = t.some;
            counted = t.counted;
            few = t.few;
            there = t.there;
            within = omega arith;
            bits = t.bits;
            none = passes_other ls ws n (bits_at s (position k) n) e t.none (λ x. d (rw q (x ∙ sym t.bits)));
            rest = t.rest;
          }

      module _ (p : get_or ws e 0 / 2 ^ (len - n) ≡ word) where
        -- the same with n - 1 bits before the last
        begun : Starts ls (ledger_codewords ls) (n - 1 + 1) (bits_at s (position k) (n - 1 + 1)) e
        begun = rw before (starts_coded p)

        pub word_found : n ≡ len → (c : Cursor) → position c ≡ position k + n → outcome (Ok (e, c)) ≡ matching ls 0 32 s (position k)
        unfolding outcome
        word_found m c r =
            let a = t.some in
            let b = t.few in
            let d = t.there in
            let i = inside in
            let none : NoneBefore ls (ledger_codewords ls) (n - 1 + 1) (bits_at s (position k) (n - 1 + 1)) e = rw before (moved e t.none) in
            let f = turn_found ls code s (position k) (n - 1) (omega arith) (omega arith) e none i begun (omega arith) in
            rw (r, ← before) (sym f ∙ t.rest)

        pub word_begun : (n ≡ len → ⊥) → Taking ls ws s (position k) count word n e
        word_begun d =
            let a = t.some in
            let b = t.few in
            let g = t.there in
            let m : n < len = below_end n len l d in
            let f = turn_on ls code s (position k) (n - 1) (omega arith) (omega arith) e begun (omega arith) in
            let r : matching ls n (32 - n) s (position k) ≡ matching ls (n - 1) (32 - (n - 1)) s (position k) = rw before at (sym f) in
            record { counted = t.counted; within = t.within; bits = t.bits; none = t.none; rest = r ∙ t.rest }

pub ruleset loop_laws = (rules, doubled, lengthened, in_codewords, taking_start, no_bit_left, few_taken, taken_one, all_passed, unused_passed, length_within, other_word, word_found, word_begun)
