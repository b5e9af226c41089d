-- Laws of counting a submap's channels and its live ones. Assumes nothing.
use Prim.Native.Nat.{ℕ, ◌+◌, ◌-◌, ◌*◌, ◌≤◌, ◌<◌}
use native.Mathlib.Numerals.{add-one}
use native.Mathlib.Omega.{arith}
use borrow.Author.Rules.{rules}
use mathlib.Core.Bool.{Bool, true, false, ◌&&◌}
use mathlib.Core.List.{List}
use mathlib.Core.Path.{◌≡◌, refl, sym, ap, ◌∙◌}
use lib.Dec.{eqb}
use lib.ListN.{length, get_or, take, get_or-map}
use lib.Seq.{get_or-take}
use Rattle.reading.specs.Least.{one, count}
use Rattle.mapping.specs.Content.{Mapping}
use Rattle.mapping.specs.Layout.{mapping_width, multiplex_place}
use Rattle.mapping_row.specs.Inner.Readable.{mapping_in, MappingReadable}
use Rattle.audio.specs.Channels.{submap_of, channels_of, live_of}
use Rattle.audio_channels.specs.Inner.Live.{is_live, used_bools}
use Rattle.audio_channels.proofs.LiveLaws.{used_long}

-- how many of the first i channels pass a test
pub record Counting (f : ℕ → Bool) (channels total i : ℕ) : Type 0 where
  pub within : i ≤ channels
  pub passed : total ≡ count f i
  pub few : total ≤ i

one_few : (t : Bool) → one t ≤ 1
one_few true = omega arith
one_few false = omega arith

module _ (f : ℕ → Bool) (channels : ℕ) where
  count_start : Counting f channels 0 0
  unfolding count
  count_start = record { within = omega arith; passed = refl; few = omega arith }

  module _ {total i : ℕ} (w : Counting f channels total i) where
    count_next : i < channels → {v : ℕ} → v ≡ one (f i) → Counting f channels (total + v) (i + 1)
    unfolding count
    count_next h {v} e =
        record { within = omega arith; passed = rw (add-one, w.passed, e); few = let p = w.few in let q = one_few (f i) in omega (arith, e) }

    count_done : channels ≤ i → total ≡ count f channels
    count_done h = let p = w.within in let e : i ≡ channels = omega arith in rw (← e) w.passed

-- a submap's channels
abbrev pub in_submap : Mapping → ℕ → ℕ → Bool
in_submap m submap c = eqb (submap_of m c) submap

abbrev pub live_in : Mapping → List Bool → ℕ → ℕ → Bool
live_in m live submap c = eqb (submap_of m c) submap && get_or live c false

module _ (channels : ℕ) (t : List ℕ) (n submap : ℕ) (few : channels ≤ 255) (p : MappingReadable channels t n) where
  place : {i : ℕ} → i < channels → get_or t (mapping_width * n + (multiplex_place + i)) 0 - 1 ≡ submap_of (mapping_in t n) i
  unfolding submap_of
  place {i} h = p.channel_submap i (omega arith)

  pub channels_start : Counting (in_submap (mapping_in t n) submap) channels 0 0
  channels_start = count_start (in_submap (mapping_in t n) submap) channels

  module _ {total i : ℕ} (w : Counting (in_submap (mapping_in t n) submap) channels total i) where
    pub channels_next : {k : ℕ} → k ≡ channels → i < k → {v : ℕ} → v ≡ one (eqb (get_or t (mapping_width * n + (multiplex_place + i)) 0 - 1) submap)
        → Counting (in_submap (mapping_in t n) submap) channels (total + v) (i + 1)
    channels_next q h e =
        let l : i < channels = omega arith in
        count_next (in_submap (mapping_in t n) submap) channels w l (e ∙ ap (λ (x : ℕ). one (eqb x submap)) (place l))

    pub channels_done : {k : ℕ} → k ≡ channels → k ≤ i → total ≡ channels_of (mapping_in t n) channels submap
    unfolding channels_of
    channels_done q h = count_done (in_submap (mapping_in t n) submap) channels w (omega arith)

  module _ (live : List ℕ) (long : length live ≡ 255) where
    bools : List Bool
    bools = used_bools channels live

    flag : {i : ℕ} → i < channels → is_live (get_or live i 0) ≡ get_or bools i false
    unfolding used_bools bools
    flag {i} h = ap is_live (sym (get_or-take channels live i 0 h)) ∙ sym (get_or-map is_live (take channels live) i 0)

    pub live_start : Counting (live_in (mapping_in t n) (used_bools channels live) submap) channels 0 0
    live_start = count_start (live_in (mapping_in t n) (used_bools channels live) submap) channels

    module _ {total i : ℕ} (w : Counting (live_in (mapping_in t n) (used_bools channels live) submap) channels total i) where
      pub live_next : {k : ℕ} → k ≡ channels → i < k → {v : ℕ} → v ≡ one (eqb (get_or t (mapping_width * n + (multiplex_place + i)) 0 - 1) submap && is_live (get_or live i 0))
          → Counting (live_in (mapping_in t n) (used_bools channels live) submap) channels (total + v) (i + 1)
      unfolding bools
      live_next q h e =
          let l : i < channels = omega arith in
          count_next (live_in (mapping_in t n) (used_bools channels live) submap) channels w l (rw (← place l, ← flag l) e)

      pub live_done : {k : ℕ} → k ≡ channels → k ≤ i → total ≡ live_of (mapping_in t n) (used_bools channels live) submap
      unfolding live_of
      live_done q h =
          rw (used_long channels live long few) (count_done (live_in (mapping_in t n) (used_bools channels live) submap) channels w (omega arith))

-- a count within 255 fits
pub total_fits : {f : ℕ → Bool} {channels total i : ℕ} → Counting f channels total i → channels ≤ 255 → total ≤ 255
total_fits w h = omega (arith, w.within, w.few)

pub sum_fits : {f : ℕ → Bool} {channels total i : ℕ} → Counting f channels total i → channels ≤ 255 → (t : Bool) {v : ℕ} → v ≡ one t → total + v < 4294967296
sum_fits w h t e = let q = one_few t in omega (arith, w.within, w.few, e)

pub ruleset counting = (rules, channels_start, channels_next, channels_done, live_start, live_next, live_done, total_fits, sum_fits)
