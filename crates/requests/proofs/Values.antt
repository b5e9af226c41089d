-- The values of runs (specs/Claims.antt): a function of the answers; of several trees, those that are whole before a cut. Assumes nothing.
use Prim.Native.Nat.{ℕ, suc, ◌+◌, ◌<◌}
use native.Mathlib.Omega.{arith}
use mathlib.Core.List.{List, [], ◌∷◌, ◌++◌, map}
use mathlib.Core.Logic.{inl, inr}
use mathlib.Core.Option.{Option, none, some}
use mathlib.Core.Path.{◌≡◌, refl, ap, ◌∙◌}
use lib.ListN.{length, take}
use Rattle.reading.specs.Outcome.{Outcome, ok, bad}
use Rattle.reading.specs.Reader.{Reader}
use Rattle.requests.specs.Requests.{Request, Requests, done, ask, bind, each}
use Rattle.requests.specs.Run.{read, Item, Run, continued, run}
use Rattle.requests.specs.Values.{unless_cut, replay, whole_values}
use Rattle.requests.specs.Claims.{SameOrPrefix, Replayed, Sequence}
use Rattle.requests.specs.Inner.Parts.{after, joined}
use Rattle.requests.proofs.Laws.{run_bind}
use Rattle.requests.proofs.Cuts.{cut_theorem}

module _ {A : Type 0} (reads : Request → Reader ℕ) (s : List ℕ) where
  -- answers again
  replay-run : (x : Requests A) (k : ℕ) → (run reads x s k).value ≡ replay x (map (λ i. i.answer) (run reads x s k).items)
  unfolding run replay
  replay-run (done a) k = refl
  replay-run (ask q f) k = go (λ v n. replay-run (f v) n) (reads q s k)
    where
      go : ((v n : ℕ) → (run reads (f v) s n).value ≡ replay (f v) (map (λ i. i.answer) (run reads (f v) s n).items)) → (o : Outcome (ℕ × ℕ))
          → (continued q k o (λ v n. run reads (f v) s n)).value ≡ replay (ask q f) (map (λ i. i.answer) (continued q k o (λ v n. run reads (f v) s n)).items)
      go h (ok x) = h x.0 x.1
      go h (bad z) = refl

  -- a value before the list that a tree comes to
  abbrev Consed : A → Option (List A) → Option (List A) → Type 0
  Consed a (some t) o = o ≡ some (a ∷ t)
  Consed a none o = o ≡ none

  consed : (a : A) (y : Requests (List A)) (n : ℕ) → Consed a (run reads y s n).value (run reads (bind y (λ t. done (a ∷ t))) s n).value
  unfolding joined run
  consed a y n = rw (run_bind reads s y (λ t. done (a ∷ t)) n) (go (run reads y s n).items (run reads y s n).position (run reads y s n).value)
    where
      go : (l : List Item) (i : ℕ) (v : Option (List A)) → Consed a v (after l i v (λ t j. run reads (done (a ∷ t)) s j)).value
      go l i (some t) = refl
      go l i none = refl

module _ {A B : Type 0} (g : B → Requests A) where
  -- what a list of values is beside the value of all trees: the same, or shorter
  abbrev Gathered : Option (List A) → List A → ℕ → Type 0
  Gathered (some t) l n = l ≡ t
  Gathered none l n = length l < n

  module _ (reads : Request → Reader ℕ) (s : List ℕ) where
    one_more : (a : A) (v w : Option (List A)) (l : List A) (n : ℕ) → Consed reads s a v w → Gathered v l n → Gathered w (a ∷ l) (suc n)
    one_more a (some t) w l n e h = rw e (ap (λ (m : List A). a ∷ m) h)
    one_more a none w l n e h = rw e (omega arith)

    gathered : (bs : List B) (k : ℕ) → Gathered (run reads (each g bs) s k).value (whole_values reads g bs s k) (length bs)
    unfolding each whole_values run joined
    gathered [] k = refl
    gathered (b ∷ bs) k =
        rw (run_bind reads s (g b) (λ a. bind (each g bs) (λ l. done (a ∷ l))) k)
        (go (λ n. gathered bs n) (run reads (g b) s k).items (run reads (g b) s k).position (run reads (g b) s k).value)
      where
        go : ((n : ℕ) → Gathered (run reads (each g bs) s n).value (whole_values reads g bs s n) (length bs)) → (l : List Item) (n : ℕ) (v : Option A)
            → Gathered (after l n v (λ a i. run reads (bind (each g bs) (λ t. done (a ∷ t))) s i)).value (unless_cut v (whole_values reads g bs s n)) (suc (length bs))
        go h l n (some a) =
            one_more a (run reads (each g bs) s n).value (run reads (bind (each g bs) (λ t. done (a ∷ t))) s n).value (whole_values reads g bs s n) (length bs)
            (consed reads s a (each g bs) n) (h n)
        go h l n none = omega arith

  module _ (lengths_of : ℕ → List ℕ) (s : List ℕ) (m : ℕ) where
    values_prefix : (bs : List B) (k : ℕ) → (rest : List A) × (whole_values (read lengths_of) g bs s k ≡ whole_values (read lengths_of) g bs (take m s) k ++ rest)
    unfolding whole_values SameOrPrefix
    values_prefix [] k = ([], refl)
    values_prefix (b ∷ bs) k = go (λ n. values_prefix bs n) (run (read lengths_of) (g b) (take m s) k) (run (read lengths_of) (g b) s k) ((cut_theorem lengths_of (g b)).prefix s m k)
      where
        kept : (v : Option A) (l' l : List A) → (rest : List A) × (l ≡ l' ++ rest) → (rest : List A) × (unless_cut v l ≡ unless_cut v l' ++ rest)
        kept (some a) l' l p = (p.0, ap (λ (t : List A). a ∷ t) p.1)
        kept none l' l p = ([], refl)

        go : ((n : ℕ) → (rest : List A) × (whole_values (read lengths_of) g bs s n ≡ whole_values (read lengths_of) g bs (take m s) n ++ rest))
            → (r' r : Run A) → SameOrPrefix r' r → (rest : List A)
            × (unless_cut r.value (whole_values (read lengths_of) g bs s r.position) ≡ unless_cut r'.value (whole_values (read lengths_of) g bs (take m s) r'.position) ++ rest)
        go h r' r (inl e) =
            rw e (kept r.value (whole_values (read lengths_of) g bs (take m s) r.position) (whole_values (read lengths_of) g bs s r.position) (h r.position))
        go h r' r (inr p) = rw p.cut (unless_cut r.value (whole_values (read lengths_of) g bs s r.position), refl)

-- ALL OF IT
pub replayed : {A : Type 0} (lengths_of : ℕ → List ℕ) (x : Requests A) → Replayed lengths_of x
replayed lengths_of x = record { value = λ s k. replay-run (read lengths_of) s x k }

module _ {A B : Type 0} (lengths_of : ℕ → List ℕ) (g : B → Requests A) (bs : List B) where
  of_whole : (v : Option (List A)) (w : List A) (n : ℕ) → Gathered g v w n → (l : List A) → v ≡ some l → w ≡ l
  of_whole (some t) w n h l e = let p : t ≡ l = cc in h ∙ p
  of_whole none w n h l e = let p : ◌≡◌ {A = ℕ} 0 1 = cc in absurd (omega arith)

  of_cut : (v : Option (List A)) (w : List A) (n : ℕ) → Gathered g v w n → v ≡ none → length w < n
  of_cut (some t) w n h e = let p : ◌≡◌ {A = ℕ} 0 1 = cc in absurd (omega arith)
  of_cut none w n h e = h

  pub sequence : Sequence lengths_of g bs
  sequence =
      record {
        prefix = λ s m k. values_prefix g lengths_of s m bs k;
        whole = λ s k l e. of_whole (run (read lengths_of) (each g bs) s k).value (whole_values (read lengths_of) g bs s k) (length bs) (gathered g (read lengths_of) s bs k) l e;
        cut = λ s k e. of_cut (run (read lengths_of) (each g bs) s k).value (whole_values (read lengths_of) g bs s k) (length bs) (gathered g (read lengths_of) s bs k) e;
      }
