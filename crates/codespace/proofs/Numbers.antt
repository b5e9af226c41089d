-- Answers as numbers, there and back; and the turns of `enter` and `enter_lengths`. Assumes nothing.
use mathlib.Core.List.{List, [], ◌∷◌, map, map-append}
use mathlib.Core.Logic.{⊎_elim}
use mathlib.Core.Option.{Option, none, some}
use mathlib.Core.Path.{◌≡◌, refl, sym, ap, ◌∙◌}
use Prim.Native.Nat.{ℕ, ◌+◌, ◌^◌, ◌≤◌, ◌<◌}
use native.Mathlib.Numerals.{add-one}
use native.Mathlib.Omega.{arith}
use lib.Dec.{leb}
use lib.ListN.{length, get_or, set, take, replicate, length-map, length-set, length-replicate}
use lib.Pow.{pow_mono}
use lib.Seq.{take-suc, take_all, length-take-le}
use borrow.Author.Tests.{lt-ltb, le-ltb, le-leb, lt-leb}
use Rattle.reading.specs.Pad.{pad}
use Rattle.reading.proofs.Least.{lt_or_le}
use Rattle.reading.proofs.Pads.{pad_nil, pad-set, pad_front}
use Rattle.codespace.specs.Ledger.{Codeword, answer, enlist, after, answers, IsLength}
use Rattle.codespace.specs.Claims.{Balanced}
use Rattle.codespace.specs.Inner.Blocks.{enter_answer, enter_blocks, Reached}
use Rattle.codespace.specs.Inner.Steps.{first_occupied}
use Rattle.codespace.specs.Answers.{number, outcome, is_none}
use Rattle.codespace.specs.Entering.{Entered, entered_all}
use Rattle.codespace.proofs.Whole.{AnswerMeans, answer_says}
use Rattle.codespace.proofs.Claimed.{answers_snoc, answers-length, balanced, next_answer, next_reached}
use Rattle.codespace.proofs.Places.{Small, refused_same}
use Rattle.codespace.proofs.Steps.{refused_answer, taken_answer}

outcome-number : (o : Option ℕ) → Small o → outcome (number o) ≡ o
outcome-number none p = refl
outcome-number (some v) p = rw (lt-ltb v 4294967296 p)

-- the ledger's answers are numbers of 32 bits
says_small : (ws : List Codeword) (len : ℕ) (o : Option ℕ) → AnswerMeans ws len o → Small o
says_small ws len none p = tt
says_small ws len (some v) p =
    let l : 2 ^ len ≤ 2 ^ 32 = pow_mono {i = len} {j = 32} p.0.high in
    let b = p.1.below in
    omega arith

outcomes : (ls : List ℕ) (ws : List Codeword) → map outcome (map number (answers ws ls)) ≡ answers ws ls
unfolding answers
outcomes [] ws = refl
outcomes (l ∷ ls) ws =
    rw (outcome-number (answer ws l) (says_small ws l (answer ws l) (answer_says ws l)), outcomes ls (enlist ws l (answer ws l)))

-- `enter`: by the model's answer and space, and so by the ledger's
pub entered_so : {bs : List ℕ} {len r : ℕ} {bs' : List ℕ} → r ≡ number (enter_answer bs len) → bs' ≡ enter_blocks bs len → Entered bs len r bs'
entered_so {bs} {len} v b =
    record {
      value = v;
      left = b;
      ledger = λ ls h. v ∙ ap number (next_answer ls len bs h);
      reached = λ ls h. rw b (next_reached ls len bs h);
      unchanged = λ e. b ∙ refused_same bs len (sym v ∙ e);
    }

-- `is_full`, by the height that `smallest_block` found
pub full_is : (bs : List ℕ) (g : ℕ) → length bs ≡ 33 → g ≡ first_occupied 33 0 bs → leb 33 g ≡ is_none (enter_answer bs 32)
full_is bs g n e =
    let k : IsLength 32 = record { low = omega arith; high = omega arith } in
    ⊎_elim
    (λ (l : g < 33). rw (lt-leb 33 g l, taken_answer bs 32 g k n e l))
    (λ (l : 33 ≤ g). rw (le-leb 33 g l, refused_answer bs 32 g k n e l))
    (lt_or_le g 33)

-- `enter_lengths`
numbers_length : (ls : List ℕ) → length (map number (answers [] ls)) ≡ length ls
numbers_length ls = length-map (answers [] ls) number ∙ answers-length ls []

-- where a turn begins, with the places as they were before the first turn: the lengths before i are entered, their answers stand in front, and zeros
-- behind them
pub record Entering (lengths numbers₀ numbers blocks : List ℕ) (i : ℕ) : Type 0 where
  pub within : i ≤ length lengths
  pub room : length lengths ≤ length numbers
  pub long : length numbers ≡ length numbers₀
  pub stored : numbers ≡ pad (length numbers₀) (map number (answers [] (take i lengths)))
  pub reached : Reached (take i lengths) blocks

pub entering_turn : (ls out₀ out bs : List ℕ) (i v : ℕ) (bs' : List ℕ) → i < length ls → Entering ls out₀ out bs i
    → Entered bs (get_or ls i 0) v bs' → Entering ls out₀ (set out i v) bs' (i + 1)
entering_turn ls out₀ out bs i v bs' h w t =
    let o = answer (after [] (take i ls)) (get_or ls i 0) in
    let done = map number (answers [] (take i ls)) in
    let n : i ≡ length done = sym (numbers_length (take i ls) ∙ length-take-le i ls (omega arith)) in
    record {
      within = omega arith;
      room = simp length-set w.room;
      long = simp length-set w.long;
      stored =
          rw (w.stored, t.ledger (take i ls) w.reached, add-one, take-suc ls i 0 h, answers_snoc (take i ls) [] (get_or ls i 0), map-append number (answers [] (take i ls)) (o ∷ []))
          (pad-set (length out₀) done i (number o) n);
      reached = rw (add-one, take-suc ls i 0 h) (t.reached (take i ls) w.reached);
    }

-- cleared places, and each way out
module _ (ls : List ℕ) (places : ℕ) (out₀ : List ℕ) (cleared : out₀ ≡ replicate places 0) where
  all_places : length out₀ ≡ places
  all_places = ap length cleared ∙ length-replicate places 0

  pub entering_start : (bs : List ℕ) → length ls ≤ length out₀ → Reached [] bs → Entering ls out₀ out₀ bs 0
  entering_start bs l r =
      record {
        within = omega arith;
        room = l;
        long = refl;
        stored = unfold answers in cleared ∙ sym (pad_nil places) ∙ ap (λ (n : ℕ). pad n []) (sym all_places);
        reached = r;
      }

  pub entered_short : length out₀ < length ls → (17, out₀) ≡ entered_all ls places
  unfolding entered_all
  entered_short l =
      let n = all_places in
      rw (lt-ltb places (length ls) (omega arith), pad_nil places, cleared)

  module _ (out bs : List ℕ) (i : ℕ) (h : length ls ≤ i) (w : Entering ls out₀ out bs i) where
    all_stored : out ≡ pad places (map number (answers [] ls))
    all_stored = w.stored ∙ rw (all_places, take_all i ls (omega arith))

    pub all_entered : (0, out) ≡ entered_all ls places
    unfolding entered_all
    all_entered =
        let m = all_places in
        let k = w.room in
        let l = w.long in
        rw (le-ltb places (length ls) (omega arith), all_stored)

    pub all_balanced : Balanced ls (map outcome (take (length ls) out))
    all_balanced =
        let all = map number (answers [] ls) in
        let m = all_places in
        let n = numbers_length ls in
        let k = w.room in
        let l = w.long in
        let t : take (length ls) out ≡ all = rw (all_stored, ← n) (pad_front places all (omega arith)) in
        rw (t, outcomes ls []) (balanced ls)
