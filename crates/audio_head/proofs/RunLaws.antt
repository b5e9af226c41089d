-- THE REQUESTS OF A HEAD, RUN, ARE ITS READER, whatever the books: a head has no codewords. And what a table of modes says of each mode. Assumes nothing.
use Prim.Native.Nat.{ℕ, zero, suc, ◌+◌, ◌-◌, ◌*◌, ◌<◌}
use native.Mathlib.Omega.{arith}
use native.Mathlib.Nat.{mul-zero, mul-suc, add_comm}
use mathlib.Core.Bool.{Bool, true, false, cond}
use mathlib.Core.List.{List}
use mathlib.Core.Path.{◌≡◌, refl, ap, sym, ◌∙◌}
use lib.Dec.{eqb, ltb}
use lib.ListN.{length, get_or, take, drop}
use lib.Seq.{get_or-take, get_or-drop, drop-drop}
use borrow.Author.Tests.{ltb-true}
use Rattle.reading.specs.Outcome.{refusal, Outcome, ok, bad, then, need}
use Rattle.bits.specs.Field.{field}
use Rattle.bits.specs.Ilog.{ilog}
use Rattle.bits.proofs.Fields.{field-ok, field-bad}
use Rattle.identification.specs.declared.Identity.{Identity}
use Rattle.mode.specs.Content.{Mode, no_mode}
use Rattle.mode.specs.Inner.Decode.{mode_of, decode_mode}
use Rattle.setup.specs.Layout.{Tables}
use Rattle.setup.specs.Inner.Decode.{decode_rows, decode_setup}
use Rattle.requests.specs.Requests.{Requests, number, done, request, bind}
use Rattle.requests.specs.Run.{continued, read, run}
use Rattle.requests.specs.Refusing.{came_to}
use Rattle.audio.specs.declared.Head.{Head}
use Rattle.audio.specs.Head.{mode_at, head_with, flag_requests, mode_requests, head_requests}
use Rattle.audio_head.specs.Inner.Readers.{modes_in, blockflag_in, flags_reader, mode_reader, head_reader}

-- so many items are decoded, and each from its row
module _ {A : Type 0} (w : ℕ) (decode : List ℕ → A) where
  pub decoded_length : (n : ℕ) (t : List ℕ) → length (decode_rows w decode n t) ≡ n
  unfolding decode_rows
  decoded_length zero t = refl
  decoded_length (suc n) t = ap suc (decoded_length n (drop w t))

  pub decoded_at : (n : ℕ) (t : List ℕ) (m : ℕ) (d : A) → m < n → get_or (decode_rows w decode n t) m d ≡ decode (take w (drop (w * m) t))
  unfolding decode_rows
  decoded_at zero t m d h = absurd (omega arith)
  decoded_at (suc n) t zero d h = let e : w * 0 ≡ 0 = mul-zero w in rw e
  decoded_at (suc n) t (suc m) d h =
      let e : w + w * m ≡ w * suc m = sym (mul-suc w m ∙ add_comm (w * m) w) in
      decoded_at n (drop w t) m d (omega arith) ∙ ap (λ (l : List ℕ). decode (take w l)) (drop-drop (w * m) w t ∙ ap (λ (k : ℕ). drop k t) e)

-- a mode by its row
pub mode_at_lem : (n : ℕ) (t : List ℕ) (m : ℕ) → m < n → mode_at (modes_in t n) m ≡ mode_of (get_or t (2 * m) 0) (get_or t (2 * m + 1) 0)
unfolding mode_at modes_in decode_mode
mode_at_lem n t m h =
    let e : 2 * m + 0 ≡ 2 * m = omega arith in
    let flag = get_or-take 2 (drop (2 * m) t) 0 0 (omega arith) ∙ get_or-drop (2 * m) t 0 0 ∙ ap (λ (k : ℕ). get_or t k 0) e in
    let mapping = get_or-take 2 (drop (2 * m) t) 1 0 (omega arith) ∙ get_or-drop (2 * m) t 1 0 in
    decoded_at 2 decode_mode n t m no_mode h ∙ (λ j. mode_of (flag j) (mapping j))

-- the modes of the content that tables decode to
pub modes_decoded : (t : Tables) → (decode_setup t).modes ≡ modes_in t.modes (get_or t.counts 4 0)
unfolding decode_setup modes_in
modes_decoded t = refl

-- two chains with one first step
then_same : {A B : Type 0} (o : Outcome A) (f g : A → Outcome B) → ((a : A) → o ≡ ok a → f a ≡ g a) → then o f ≡ then o g
then_same (ok a) f g e = e a refl
then_same (bad z) f g e = refl

module _ (lengths_of : ℕ → List ℕ) (s : List ℕ) where
  -- one field, and the requests that follow it
  field_first : (w : ℕ) (f : ℕ → Requests (Outcome Head)) (k : ℕ)
      → came_to (run (read lengths_of) (bind (request (number w)) f) s k) ≡ then (field w s k) (λ x. came_to (run (read lengths_of) (f x.0) s x.1))
  unfolding came_to run request bind read
  field_first w f k = go (field w s k) refl
    where
      go : (o : Outcome (ℕ × ℕ)) → field w s k ≡ o
          → came_to (continued (number w) k o (λ v n. run (read lengths_of) (f v) s n)) ≡ then o (λ x. came_to (run (read lengths_of) (f x.0) s x.1))
      go (ok x) e = refl
      go (bad z) e = ap bad (sym (field-bad s k w e).why)

  module _ (i : Identity) where
    flags_run : (mode flag k : ℕ) → came_to (run (read lengths_of) (flag_requests i mode flag) s k) ≡ flags_reader i mode flag s k
    unfolding flag_requests flags_reader came_to run
    flags_run mode flag k = go (eqb flag 0)
      where
        next : (previous k : ℕ)
            → came_to (run (read lengths_of) (bind (request (number 1)) (λ next. done (ok (head_with i mode flag previous next)))) s k)
            ≡ then (field 1 s k) (λ next. ok (head_with i mode flag previous next.0, next.1))
        next previous k = field_first 1 (λ next. done (ok (head_with i mode flag previous next))) k

        go : (t : Bool)
            → came_to (run (read lengths_of) (cond t (done (ok (head_with i mode 0 0 0)))
            (bind (request (number 1)) (λ previous. bind (request (number 1)) (λ next. done (ok (head_with i mode flag previous next)))))) s k)
            ≡ cond t (ok (head_with i mode 0 0 0, k))
            (then (field 1 s k) (λ previous. then (field 1 s previous.1) (λ next. ok (head_with i mode flag previous.0 next.0, next.1))))
        go true = refl
        go false =
            field_first 1 (λ previous. bind (request (number 1)) (λ next. done (ok (head_with i mode flag previous next)))) k
            ∙ then_same (field 1 s k) _ _ (λ x e. next x.0 x.1)

    -- by the mode that was read
    abbrev chosen : List Mode → ℕ → Requests (Outcome Head)
    chosen modes m = cond (ltb m (length modes)) (flag_requests i m (mode_at modes m).blockflag) (done (bad (refusal 16 1)))

    -- the mode stands at bit 1
    mode_run : (modes : List Mode) (flag_of : ℕ → ℕ) → ((m : ℕ) → m < length modes → (mode_at modes m).blockflag ≡ flag_of m) → (k : ℕ) → k ≡ 1
        → came_to (run (read lengths_of) (mode_requests i modes) s k) ≡ mode_reader i (length modes) flag_of s k
    unfolding mode_requests mode_reader came_to run
    mode_run modes flag_of same k e = field_first (ilog (length modes - 1)) (chosen modes) k ∙ go (field (ilog (length modes - 1)) s k)
      where
        by_test : (m n : ℕ) (t : Bool) → ltb m (length modes) ≡ t
            → came_to (run (read lengths_of) (cond t (flag_requests i m (mode_at modes m).blockflag) (done (bad (refusal 16 1)))) s n)
            ≡ then {A = ℕ × ℕ} (need t (refusal 16 k) (ok (m, n))) (λ x. flags_reader i x.0 (flag_of x.0) s x.1)
        by_test m n true p = flags_run m (mode_at modes m).blockflag n ∙ ap (λ (f : ℕ). flags_reader i m f s n) (same m (ltb-true _ _ p))
        by_test m n false p = ap (λ (j : ℕ). bad (refusal 16 j)) (sym e)

        go : (o : Outcome (ℕ × ℕ))
            → then o (λ x. came_to (run (read lengths_of) (chosen modes x.0) s x.1))
            ≡ then (then o (λ x. need (ltb x.0 (length modes)) (refusal 16 k) (ok x))) (λ x. flags_reader i x.0 (flag_of x.0) s x.1)
        go (ok x) = by_test x.0 x.1 (ltb x.0 (length modes)) refl
        go (bad z) = refl

    pub head_run_lem : (modes : List Mode) (flag_of : ℕ → ℕ) → ((m : ℕ) → m < length modes → (mode_at modes m).blockflag ≡ flag_of m)
        → came_to (run (read lengths_of) (head_requests i modes) s 0) ≡ head_reader i (length modes) flag_of s
    unfolding head_requests head_reader came_to run
    head_run_lem modes flag_of same = field_first 1 (λ type. cond (eqb type 0) (mode_requests i modes) (done (bad (refusal 15 0)))) 0 ∙ go (field 1 s 0) refl
      where
        by_test : (n : ℕ) → n ≡ 1 → (v : ℕ) (t : Bool)
            → came_to (run (read lengths_of) (cond t (mode_requests i modes) (done (bad (refusal 15 0)))) s n)
            ≡ then {A = ℕ × ℕ} (need t (refusal 15 0) (ok (v, n))) (λ x. mode_reader i (length modes) flag_of s x.1)
        by_test n e v true = mode_run modes flag_of same n e
        by_test n e v false = refl

        go : (o : Outcome (ℕ × ℕ)) → field 1 s 0 ≡ o
            → then o (λ x. came_to (run (read lengths_of) (cond (eqb x.0 0) (mode_requests i modes) (done (bad (refusal 15 0)))) s x.1))
            ≡ then (then o (λ x. need (eqb x.0 0) (refusal 15 0) (ok x))) (λ x. mode_reader i (length modes) flag_of s x.1)
        go (ok x) e = by_test x.1 (field-ok s 0 1 e).next x.0 (eqb x.0 0)
        go (bad z) e = refl

-- THE HEAD BY A TABLE OF MODES
pub head_by_table : (lengths_of : ℕ → List ℕ) (s : List ℕ) (i : Identity) (n : ℕ) (t : List ℕ)
    → came_to (run (read lengths_of) (head_requests i (modes_in t n)) s 0) ≡ head_reader i n (blockflag_in t) s
unfolding modes_in blockflag_in
head_by_table lengths_of s i n t =
    let l = decoded_length 2 decode_mode n t in
    let flag : (m : ℕ) → m < length (modes_in t n) → (mode_at (modes_in t n) m).blockflag ≡ blockflag_in t m =
    λ m h. ap (λ (x : Mode). x.blockflag) (mode_at_lem n t m (omega arith)) in
    head_run_lem lengths_of s i (modes_in t n) (blockflag_in t) flag ∙ ap (λ (c : ℕ). head_reader i c (blockflag_in t) s) l
