-- Laws of live channels: bytes for flags, one coupling step, and the steps in order, once. Assumes nothing.
use Prim.Native.Nat.{ℕ, zero, suc, ◌+◌, ◌*◌, ◌≤◌, ◌<◌}
use native.Mathlib.Numerals.{add-one}
use native.Mathlib.Nat.{le_of_suc-le-suc}
use native.Mathlib.Omega.{arith}
use borrow.Author.Rules.{rules}
use mathlib.Core.Bool.{Bool, true, false, cond, ◌||◌}
use mathlib.Core.List.{List, [], ◌∷◌, ◌++◌, map}
use mathlib.Core.Path.{◌≡◌, refl, sym, ap, ◌∙◌}
use lib.ListN.{length, get_or, set, take, replicate, length-set, length-map, length-take, get_or-map}
use lib.Seq.{take-suc, take_all}
use Rattle.reading.specs.Least.{one}
use Rattle.reading.specs.Pad.{pad}
use Rattle.reading.proofs.Pads.{pad_nil, pad-set, pad_get, pad_front, length-pad}
use Rattle.mapping.specs.Content.{Coupling, Mapping, no_coupling}
use Rattle.mapping.specs.Layout.{mapping_width, couplings_place}
use Rattle.mapping_row.specs.Inner.Readable.{mapping_in, MappingReadable}
use Rattle.audio.specs.Channels.{couple, coupled}
use Rattle.audio_channels.specs.Inner.Live.{is_live, used_bools, live_bytes, coupled_bytes}

pub live_one : (b : Bool) → is_live (one b) ≡ b
live_one true = refl
live_one false = refl

-- lists of flags
pub map-append : {A B : Type 0} (f : A → B) (l r : List A) → map f (l ++ r) ≡ map f l ++ map f r
map-append f [] r = refl
map-append {B = B} f (x ∷ l) r = ap (λ (t : List B). f x ∷ t) (map-append f l r)

map_set : {A B : Type 0} (f : A → B) (l : List A) (n : ℕ) (v : A) → map f (set l n v) ≡ set (map f l) n (f v)
map_set f [] n v = refl
map_set f (x ∷ l) zero v = refl
map_set {B = B} f (x ∷ l) (suc n) v = ap (λ (t : List B). f x ∷ t) (map_set f l n v)

pad_within : (n : ℕ) (xs : List ℕ) (i v : ℕ) → i < length xs → set (pad n xs) i v ≡ pad n (set xs i v)
unfolding pad
pad_within n [] i v h = absurd (omega arith)
pad_within zero (x ∷ xs) zero v h = refl
pad_within zero (x ∷ xs) (suc i) v h = refl
pad_within (suc n) (x ∷ xs) zero v h = refl
pad_within (suc n) (x ∷ xs) (suc i) v h = ap (λ (t : List ℕ). x ∷ t) (pad_within n xs i v (le_of_suc-le-suc h))

pub used_long : (channels : ℕ) (used : List ℕ) → length used ≡ 255 → channels ≤ 255 → length (used_bools channels used) ≡ channels
unfolding used_bools
used_long channels used l h = length-map (take channels used) is_live ∙ length-take channels used ∙ omega arith

-- the channels whose floor is used
pub record Using (channels : ℕ) (used live : List ℕ) (i : ℕ) : Type 0 where
  pub within : i ≤ channels
  pub flags : live ≡ live_bytes (used_bools i used)

module _ (channels : ℕ) (used : List ℕ) where
  pub using_start : Using channels used (replicate 255 0) 0
  unfolding live_bytes used_bools
  using_start = record { within = omega arith; flags = sym (pad_nil 255) }

  module _ {live : List ℕ} {i : ℕ} (w : Using channels used live i) where
    pub using_next : i < channels → length used ≡ 255 → channels ≤ 255 → {v : ℕ} → v ≡ one (is_live (get_or used i 0)) → Using channels used (set live i v) (i + 1)
    unfolding live_bytes used_bools
    using_next h l few {v} e =
        let long : length (map one (map is_live (take i used))) ≡ i = length-map (map is_live (take i used)) one ∙ used_long i used l (omega arith) in
        let more : map one (map is_live (take (i + 1) used)) ≡ map one (map is_live (take i used)) ++ (v ∷ []) =
        rw (
          add-one,
          take-suc used i 0 (omega arith),
          map-append is_live (take i used) (get_or used i 0 ∷ []),
          map-append one (map is_live (take i used)) (is_live (get_or used i 0) ∷ []),
          e,
        ) in
        record { within = omega arith; flags = rw w.flags (pad-set 255 (map one (map is_live (take i used))) i v (sym long) ∙ ap (pad 255) (sym more)) }

    pub using_done : channels ≤ i → live ≡ live_bytes (used_bools channels used)
    using_done h = let in_reach = w.within in let e : i ≡ channels = omega arith in rw (← e) w.flags

pub ruleset used_laws = (rules, using_start, using_next, using_done)

-- THE FLAGS THAT BYTES HOLD are those they were made of
pub used_bytes : (l : List Bool) → length l ≤ 255 → used_bools (length l) (live_bytes l) ≡ l
unfolding used_bools live_bytes
used_bytes l h =
    let long : length (map one l) ≡ length l = length-map l one in
    ap (map is_live) (rw long at (pad_front 255 (map one l) (omega arith))) ∙ back l
  where
    back : (r : List Bool) → map is_live (map one r) ≡ r
    back [] = refl
    back (b ∷ r) = λ j. live_one b j ∷ back r j

pub bytes_long : (l : List Bool) → length (live_bytes l) ≡ 255
unfolding live_bytes
bytes_long l = length-pad 255 (map one l)

-- one coupling step
couple_bytes : (c : Coupling) (l : List Bool) → length l ≤ 255 → c.magnitude < length l → c.angle < length l
    → coupled_bytes c.magnitude c.angle (live_bytes l) ≡ live_bytes (couple c l)
unfolding coupled_bytes couple live_bytes
couple_bytes c l few m a = rw (place c.magnitude m, place c.angle a) (go (get_or l c.magnitude false || get_or l c.angle false))
  where
    long : length (map one l) ≡ length l
    long = length-map l one

    place : (i : ℕ) → i < length l → is_live (get_or (pad 255 (map one l)) i 0) ≡ get_or l i false
    place i h = ap is_live (pad_get 255 (map one l) i (omega arith) ∙ get_or-map one l i false) ∙ live_one (get_or l i false)

    both : set (set (pad 255 (map one l)) c.magnitude 1) c.angle 1 ≡ pad 255 (map one (set (set l c.magnitude true) c.angle true))
    both =
        ap (λ (t : List ℕ). set t c.angle 1) (pad_within 255 (map one l) c.magnitude 1 (omega (arith, long)))
        ∙ pad_within 255 (set (map one l) c.magnitude 1) c.angle 1 (simp length-set (omega (arith, long)))
        ∙ ap (λ (t : List ℕ). pad 255 (set t c.angle 1)) (sym (map_set one l c.magnitude true))
        ∙ ap (pad 255) (sym (map_set one (set l c.magnitude true) c.angle true))

    go : (t : Bool) → cond t (set (set (pad 255 (map one l)) c.magnitude 1) c.angle 1) (pad 255 (map one l))
        ≡ pad 255 (map one (cond t (set (set l c.magnitude true) c.angle true) l))
    go true = both
    go false = refl

-- the steps in order
couple_long : (c : Coupling) (l : List Bool) → length (couple c l) ≡ length l
unfolding couple
couple_long c l = go (get_or l c.magnitude false || get_or l c.angle false)
  where
    go : (t : Bool) → length (cond t (set (set l c.magnitude true) c.angle true) l) ≡ length l
    go true = length-set (set l c.magnitude true) c.angle true ∙ length-set l c.magnitude true
    go false = refl

pub coupled_long : (cs : List Coupling) (l : List Bool) → length (coupled cs l) ≡ length l
unfolding coupled
coupled_long [] l = refl
coupled_long (c ∷ cs) l = coupled_long cs (couple c l) ∙ couple_long c l

coupled_more : (cs : List Coupling) (i : ℕ) (l : List Bool) → i < length cs → coupled (take (suc i) cs) l ≡ couple (get_or cs i no_coupling) (coupled (take i cs) l)
unfolding coupled
coupled_more [] i l h = absurd (omega arith)
coupled_more (c ∷ cs) zero l h = refl
coupled_more (c ∷ cs) (suc i) l h = coupled_more cs i (couple c l) (le_of_suc-le-suc h)

-- so many steps are taken
pub record Steps (m : Mapping) (l : List Bool) (live : List ℕ) (i : ℕ) : Type 0 where
  pub within : i ≤ length m.couplings
  pub flags : live ≡ live_bytes (coupled (take i m.couplings) l)

module _ (used : List ℕ) (channels : ℕ) (t : List ℕ) (n : ℕ) (own : used ≡ live_bytes (used_bools channels used)) (few : channels ≤ 255) (p : MappingReadable channels t n) where
  long : length used ≡ 255
  long = ap length own ∙ bytes_long (used_bools channels used)

  pub steps_start : Steps (mapping_in t n) (used_bools channels used) used 0
  unfolding coupled
  steps_start = record { within = omega arith; flags = own }

  module _ {live : List ℕ} {i : ℕ} (w : Steps (mapping_in t n) (used_bools channels used) live i) {steps : ℕ}
      (s : steps ≡ get_or t (mapping_width * n) 0 + 256 * get_or t (mapping_width * n + 1) 0) where
    pub step_few : i < steps → i < 256
    step_few h = omega (arith, p.steps, p.steps_few, s)

    module _ (h : i < steps) where
      step : i < length (mapping_in t n).couplings
      step = omega (arith, p.steps, s)

      -- the channels of step i
      module _ {magnitude : ℕ} (a : magnitude ≡ get_or t (mapping_width * n + (couplings_place + 2 * i)) 0) where
        pub magnitude_in : magnitude < 255
        magnitude_in = omega (arith, p.magnitude i step, p.magnitude_set_up i step, a)

        module _ {angle : ℕ} (b : angle ≡ get_or t (mapping_width * n + (couplings_place + 2 * i + 1)) 0) where
          pub steps_next : {live' : List ℕ} → live' ≡ coupled_bytes magnitude angle live → Steps (mapping_in t n) (used_bools channels used) live' (i + 1)
          steps_next e =
              let cs = (mapping_in t n).couplings in
              let c = get_or cs i no_coupling in
              let l = coupled (take i cs) (used_bools channels used) in
              let size : length l ≡ channels = coupled_long (take i cs) (used_bools channels used) ∙ used_long channels used long few in
              let m : magnitude ≡ c.magnitude = a ∙ p.magnitude i step in
              let o : angle ≡ c.angle = b ∙ p.angle i step in
              let next = couple_bytes c l (omega arith) (omega (arith, p.magnitude_set_up i step)) (omega (arith, p.angle_set_up i step)) in
              record {
                within = omega (arith, step);
                flags = rw (e, m, o, w.flags, add-one, coupled_more cs i (used_bools channels used) step) next;
              }

      pub angle_in : {angle : ℕ} → angle ≡ get_or t (mapping_width * n + (couplings_place + 2 * i + 1)) 0 → angle < 255
      angle_in b = omega (arith, p.angle i step, p.angle_set_up i step, b)

    pub steps_done : steps ≤ i → live ≡ live_bytes (coupled (mapping_in t n).couplings (used_bools channels used))
    steps_done h =
        let cs = (mapping_in t n).couplings in
        rw (w.flags, take_all i cs (omega (arith, p.steps, s)))

pub ruleset stepping = (rules, steps_start, step_few, magnitude_in, angle_in)

-- bytes of so many flags hold these flags
module _ (l : List Bool) (channels : ℕ) (size : length l ≡ channels) (few : channels ≤ 255) {live : List ℕ} (e : live ≡ live_bytes l) where
  flags_held : used_bools channels live ≡ l
  flags_held = rw e (ap (λ (c : ℕ). used_bools c (live_bytes l)) (sym size) ∙ used_bytes l (omega arith))

  flags_own : live ≡ live_bytes (used_bools channels live)
  flags_own = e ∙ ap live_bytes (sym flags_held)

-- the channels whose floor is used, swept once
module _ (used : List ℕ) (channels : ℕ) (long : length used ≡ 255) (few : channels ≤ 255) {k : ℕ} (q : k ≡ channels) {live : List ℕ} (e : live ≡ live_bytes (used_bools k used)) where
  of_used : live ≡ live_bytes (used_bools channels used)
  of_used = e ∙ ap (λ (c : ℕ). live_bytes (used_bools c used)) q

  pub used_own : live ≡ live_bytes (used_bools channels live)
  used_own = flags_own (used_bools channels used) channels (used_long channels used long few) few of_used

  pub swept_once : (m : Mapping) {r : List ℕ} → r ≡ live_bytes (coupled m.couplings (used_bools channels live)) → r ≡ live_bytes (coupled m.couplings (used_bools channels used))
  swept_once m f = f ∙ ap (λ (l : List Bool). live_bytes (coupled m.couplings l)) (flags_held (used_bools channels used) channels (used_long channels used long few) few of_used)

-- what a sweep leaves are flags again, which another sweep could take: the edit second_sweep has a program that does
pub swept_own : (flags : List ℕ) (channels : ℕ) (m : Mapping) → flags ≡ live_bytes (used_bools channels flags) → channels ≤ 255
    → {r : List ℕ} → r ≡ live_bytes (coupled m.couplings (used_bools channels flags)) → r ≡ live_bytes (used_bools channels r)
swept_own flags channels m own few e =
    let long : length flags ≡ 255 = ap length own ∙ bytes_long (used_bools channels flags) in
    let size : length (coupled m.couplings (used_bools channels flags)) ≡ channels = coupled_long m.couplings (used_bools channels flags) ∙ used_long channels flags long few in
    flags_own (coupled m.couplings (used_bools channels flags)) channels size few e

map-one : {A : Type 0} (f : A → Bool) (l : List A) → map (λ x. one (f x)) l ≡ map one (map f l)
map-one f [] = refl
map-one f (x ∷ l) = ap (λ (t : List ℕ). one (f x) ∷ t) (map-one f l)

-- so where each byte tells what f tells of an item, the flags are what f tells
pub used_of : {A : Type 0} (f : A → Bool) (l : List A) → length l ≤ 255 → used_bools (length l) (pad 255 (map (λ x. one (f x)) l)) ≡ map f l
unfolding live_bytes
used_of f l h =
    let long = length-map l f in
    rw (map-one f l) (ap (λ (n : ℕ). used_bools n (pad 255 (map one (map f l)))) (sym long) ∙ used_bytes (map f l) (omega arith))
