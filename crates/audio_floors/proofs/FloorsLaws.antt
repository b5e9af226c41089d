-- Laws of the loop over the channels, as the code asks them: the run of the floors that are left, joined to what was read, is the whole. Assumes nothing.
use Rattle.std.specs.Prelude.{Result, Ok, Err}
use Prim.Native.Nat.{ℕ, zero, suc, ◌+◌, ◌-◌, ◌*◌, ◌≤◌, ◌<◌}
use native.Mathlib.Nat.{zero-mul, suc-mul, add-mul, add_comm, mul-le-mul}
use native.Mathlib.Numerals.{add-one}
use native.Mathlib.Omega.{arith}
use mathlib.Core.Bool.{Bool, true, false, cond}
use mathlib.Core.List.{List, [], ◌∷◌, ◌++◌, map}
use mathlib.Core.Option.{Option, none, some}
use mathlib.Core.Path.{◌≡◌, refl, sym, ap, ◌∙◌}
use lib.ListN.{length, get_or, set, take, drop, replicate, length-map, length-set, length-take, length-drop, length-replicate, drop_of_length-le, replicate-append-replicate, get_or-map}
use lib.Seq.{sets, drop-cons, length-sets}
use Rattle.reading.specs.Least.{one}
use Rattle.reading.specs.Pad.{pad}
use Rattle.reading.specs.Tabulate.{tabulate}
use Rattle.reading.proofs.Tabulate.{tabulate-length, tabulate_at}
use Rattle.reading.proofs.Tables.{sets_append, sets_cleared}
use Rattle.bits.specs.declared.Cursor.{Cursor}
use Rattle.bits.specs.Inner.Cursors.{position}
use Rattle.bits.proofs.Parts.{part_back}
use Rattle.floor.specs.Content.{Floor, x_list}
use Rattle.floor_curve.specs.Curve as drawing
use Rattle.floor_values.specs.Inner.Stored.{FloorStored}
use Rattle.mapping.specs.Content.{Mapping, no_submap}
use Rattle.mapping.specs.Layout.{mapping_width, multiplex_place, submaps_place}
use Rattle.mapping_row.specs.Inner.Readable.{mapping_in, MappingReadable}
use Rattle.requests.specs.Requests.{Requests, done, bind, each}
use Rattle.requests.specs.Run.{Item, Run, read, run}
use Rattle.requests.specs.Values.{whole_values}
use Rattle.requests.specs.Inner.Parts.{after, joined}
use Rattle.requests.proofs.Laws.{run_bind}
use Rattle.floor_requests.specs.Requests.{FloorRead, unused, values, floor_requests}
use Rattle.audio.specs.Channels.{submap_of, floor_number, floors_of, is_used}
use Rattle.audio.specs.Packet.{by_channel}
use Rattle.audio.specs.Curves.{points_of, curve_of, curves_of}
use Rattle.audio_floors.specs.declared.channel.Cut.{Cut}
use Rattle.audio_floors.specs.Inner.Floors.{is_cut, or_unused, floor_run, has_cut, channel_end, channel_used, XListStored, FloorsReadable, ChannelIs, FloorsAre}

-- for each floor that is whole 1 where it is used, else 0
unfoldable pub flags_of : (ℕ → List ℕ) → List Floor → List ℕ → ℕ → List ℕ
flags_of lengths_of fs s k = map (λ f. one (is_used f)) (whole_values (read lengths_of) floor_requests fs s k)

-- the bytes of all curves, of channels that have the floors fs
unfoldable pub curves_at : (ℕ → List ℕ) → ℕ → ℕ → List Floor → List ℕ → ℕ → List ℕ
curves_at lengths_of channels half fs s k = curves_of half fs (by_channel channels (whole_values (read lengths_of) floor_requests fs s k))

-- HOW LONG A CURVE IS
places_long : (g : ℕ → ℕ) (i n : ℕ) → length (drawing.places g i n) ≡ n
unfolding drawing.places
places_long g i zero = refl
places_long g i (suc n) = ap suc (places_long g (suc i) n)

drawn_long : (xs ys flags : List ℕ) (m n : ℕ) → length (drawing.curve xs ys flags m n).out ≡ n
unfolding drawing.curve
drawn_long xs ys flags m n = go (drawing.fitting xs (length ys) (length flags))
  where
    go : (t : Bool) → length (cond t (drawing.left true (drawing.places (drawing.curve_at xs ys flags m) 0 n)) (drawing.left false (replicate n 0))).out ≡ n
    go true = places_long (drawing.curve_at xs ys flags m) 0 n
    go false = length-replicate n 0

pub curve_long : (half : ℕ) (f : Floor) (v : FloorRead) → length (curve_of half f v) ≡ half
unfolding curve_of
curve_long half f unused = length-replicate half 0
curve_long half f (values ys) = drawn_long (x_list f.rangebits f.xs) (points_of f ys).final_y (points_of f ys).flags f.multiplier half

-- the curves of channels behind a cut are zeros
zeros_after : (half : ℕ) (fs : List Floor) → curves_of half fs (by_channel (length fs) []) ≡ replicate (length fs * half) 0
unfolding curves_of by_channel curve_of
zeros_after half [] = ap (λ (n : ℕ). replicate n 0) (sym (zero-mul half))
zeros_after half (f ∷ fs) =
    ap (λ (l : List ℕ). replicate half 0 ++ l) (zeros_after half fs) ∙ replicate-append-replicate half (length fs * half) 0
    ∙ ap (λ (n : ℕ). replicate n 0) (sym (suc-mul (length fs) half ∙ add_comm (length fs * half) half))

-- what is known of a run by whether it was cut
whole_is : {A : Type 0} (v : Option A) → is_cut v ≡ false → (a : A) × (v ≡ some a)
unfolding is_cut
whole_is none e = absurd (cc)
whole_is (some a) e = (a, refl)

cut_is : {A : Type 0} (v : Option A) → is_cut v ≡ true → v ≡ none
unfolding is_cut
cut_is none e = refl
cut_is (some a) e = absurd (cc)

-- ONE CHANNEL MORE: f is its floor, fs are those behind it
module _ (lengths_of : ℕ → List ℕ) (f : Floor) (fs : List Floor) (s : List ℕ) (k : ℕ) where
  abbrev next : ℕ
  next = (floor_run lengths_of f s k).position

  abbrev each_run : List Floor → ℕ → Run (List FloorRead)
  each_run l n = run (read lengths_of) (each floor_requests l) s n

  abbrev later : FloorRead → Requests (List FloorRead)
  later a = bind (each floor_requests fs) (λ l. done (a ∷ l))

  -- a value before those of the later trees changes neither the position nor whether there is a cut
  consed : (a : FloorRead) (n : ℕ) → ((run (read lengths_of) (later a) s n).position ≡ (each_run fs n).position)
      × (is_cut (run (read lengths_of) (later a) s n).value ≡ is_cut (each_run fs n).value)
  unfolding joined run is_cut
  consed a n = rw (run_bind (read lengths_of) s (each floor_requests fs) (λ l. done (a ∷ l)) n) (go (each_run fs n).items (each_run fs n).position (each_run fs n).value)
    where
      go : (l : List Item) (i : ℕ) (v : Option (List FloorRead))
          → ((after l i v (λ t j. run (read lengths_of) (done (a ∷ t)) s j)).position ≡ i)
          × (is_cut (after l i v (λ t j. run (read lengths_of) (done (a ∷ t)) s j)).value ≡ is_cut v)
      go l i (some t) = (refl, refl)
      go l i none = (refl, refl)

  each_run_lem : each_run (f ∷ fs) k ≡ joined (floor_run lengths_of f s k) (λ a n. run (read lengths_of) (later a) s n)
  unfolding each
  each_run_lem = run_bind (read lengths_of) s (floor_requests f) later k

  -- a floor that is whole
  module _ (a : FloorRead) (e : (floor_run lengths_of f s k).value ≡ some a) where
    pub position_whole : (each_run (f ∷ fs) k).position ≡ (each_run fs next).position
    unfolding joined
    position_whole = rw (each_run_lem, e) (consed a next).0

    pub cut_whole : is_cut (each_run (f ∷ fs) k).value ≡ is_cut (each_run fs next).value
    unfolding joined
    cut_whole = rw (each_run_lem, e) (consed a next).1

    pub flags_whole : flags_of lengths_of (f ∷ fs) s k ≡ one (is_used a) ∷ flags_of lengths_of fs s next
    unfolding flags_of whole_values
    flags_whole = rw e refl

    pub curves_whole : (n half : ℕ) → curves_at lengths_of (suc n) half (f ∷ fs) s k ≡ curve_of half f a ++ curves_at lengths_of n half fs s next
    unfolding curves_at whole_values by_channel curves_of
    curves_whole n half = rw e refl

  -- a floor that is cut
  module _ (e : (floor_run lengths_of f s k).value ≡ none) where
    pub position_cut : (each_run (f ∷ fs) k).position ≡ next
    unfolding joined
    position_cut = rw (each_run_lem, e) refl

    pub cut_cut : is_cut (each_run (f ∷ fs) k).value ≡ true
    unfolding joined is_cut
    cut_cut = rw (each_run_lem, e) refl

    pub flags_cut : flags_of lengths_of (f ∷ fs) s k ≡ []
    unfolding flags_of whole_values
    flags_cut = rw e refl

    pub curves_cut : (half : ℕ) → curves_at lengths_of (suc (length fs)) half (f ∷ fs) s k ≡ curve_of half f unused ++ replicate (length fs * half) 0
    unfolding curves_at whole_values by_channel curves_of
    curves_cut half = rw (e, zeros_after half fs) refl

-- THE FLOORS OF THE CHANNELS
module _ (floor_at : ℕ → Floor) (m : Mapping) (channels : ℕ) where
  pub floors_long : length (floors_of floor_at m channels) ≡ channels
  unfolding floors_of
  floors_long = length-map (tabulate (floor_number m) channels) floor_at ∙ tabulate-length (floor_number m) channels

  pub floors_next : (c : ℕ) → c < channels → drop c (floors_of floor_at m channels) ≡ floor_at (floor_number m c) ∷ drop (suc c) (floors_of floor_at m channels)
  unfolding floors_of
  floors_next c h =
      let n = floors_long in
      drop-cons (map floor_at (tabulate (floor_number m) channels)) c (floor_at 0) (rw n h)
      ∙ ap (λ (f : Floor). f ∷ drop (suc c) (map floor_at (tabulate (floor_number m) channels)))
      (get_or-map floor_at (tabulate (floor_number m) channels) c 0 ∙ ap floor_at (tabulate_at (floor_number m) channels c h))

-- so many channels are read: what is left, written into the lent bytes and the flags as they are, is the whole
pub record Reading (lengths_of : ℕ → List ℕ) (half : ℕ) (fs : List Floor) (s : List ℕ) (k : ℕ) (entry : List ℕ)
    (now used : List ℕ) (at : Cursor) (start channel : ℕ) : Type 0 where
  pub within : channel ≤ length fs
  pub room : length fs * half ≤ length entry
  pub long : length now ≡ length entry
  pub flags_long : length used ≡ 255
  pub start_is : start ≡ channel * half
  pub end_position : (run (read lengths_of) (each floor_requests (drop channel fs)) s (position at)).position ≡ (run (read lengths_of) (each floor_requests fs) s k).position
  pub end_cut : is_cut (run (read lengths_of) (each floor_requests (drop channel fs)) s (position at)).value ≡ is_cut (run (read lengths_of) (each floor_requests fs) s k).value
  pub flags : sets used channel (flags_of lengths_of (drop channel fs) s (position at)) ≡ pad 255 (flags_of lengths_of fs s k)
  pub curves : sets now start (curves_at lengths_of (length fs - channel) half (drop channel fs) s (position at)) ≡ sets entry 0 (curves_at lengths_of (length fs) half fs s k)

module _ (lengths_of : ℕ → List ℕ) (half : ℕ) (fs : List Floor) (s : List ℕ) (from : Cursor) (entry : List ℕ) where
  pub reading_start : length fs * half ≤ length entry → Reading lengths_of half fs s (position from) entry entry (replicate 255 0) from 0 0
  reading_start room =
      let z : length fs - 0 ≡ length fs = omega arith in
      record {
        within = omega arith;
        room = room;
        long = refl;
        flags_long = length-replicate {A = ℕ} 255 0;
        start_is = sym (zero-mul half);
        end_position = refl;
        end_cut = refl;
        flags = sets_cleared 255 (flags_of lengths_of fs s (position from));
        curves = rw z refl;
      }

  module _ {now used : List ℕ} {at : Cursor} {start channel : ℕ} (w : Reading lengths_of half fs s (position from) entry now used at start channel) where
    -- all channels are read
    pub reading_done : length fs ≤ channel → FloorsAre lengths_of (length fs) half fs s (position from) (record { used = used; end = Ok at }) entry now
    unfolding run each is_cut flags_of curves_at whole_values curves_of
    reading_done h =
        let e : drop channel fs ≡ [] = drop_of_length-le fs h in
        record {
          position = rw e at w.end_position;
          cut = rw e at w.end_cut;
          used = rw e at w.flags;
          curves = rw e at w.curves;
        }

    module _ (h : channel < length fs) where
      -- the places of one channel, and of those behind it
      pub end_room : start + half + (length fs - suc channel) * half ≡ length fs * half
      end_room =
          let a : length fs ≡ suc channel + (length fs - suc channel) = omega arith in
          let b = add-mul (suc channel) (length fs - suc channel) half in
          let d = suc-mul channel half in
          let e = ap (λ (x : ℕ). x * half) a in
          let g = w.start_is in
          omega arith

      pub start_low : start + half ≤ length entry
      start_low = let a = end_room in let b = w.room in omega arith

      module _ {f : Floor} (e : drop channel fs ≡ f ∷ drop (suc channel) fs) {r : Result (Bool × Cursor) Cut} {bytes : List ℕ} (c : ChannelIs lengths_of f s (position at) half r bytes) where
        left : length fs - channel ≡ suc (length fs - suc channel)
        left = omega arith

        rest_long : length (drop (suc channel) fs) ≡ length fs - suc channel
        rest_long = length-drop (suc channel) fs

        written : sets now start bytes ≡ take start now ++ (bytes ++ drop (start + half - start) (drop start now))
        written =
            let b : length bytes ≡ half = ap length c.curve ∙ curve_long half f (or_unused (floor_run lengths_of f s (position at)).value) in
            let d : length bytes ≡ start + half - start = omega arith in
            let l = start_low in
            let n = w.long in
            part_back now start bytes (omega arith) ∙ ap (λ (i : ℕ). take start now ++ (bytes ++ drop i (drop start now))) d

        -- what is left, with the floor of this channel first
        here_position : (run (read lengths_of) (each floor_requests (f ∷ drop (suc channel) fs)) s (position at)).position ≡ (run (read lengths_of) (each floor_requests fs) s (position from)).position
        here_position = rw e at w.end_position

        here_cut : is_cut (run (read lengths_of) (each floor_requests (f ∷ drop (suc channel) fs)) s (position at)).value ≡ is_cut (run (read lengths_of) (each floor_requests fs) s (position from)).value
        here_cut = rw e at w.end_cut

        here_flags : sets used channel (flags_of lengths_of (f ∷ drop (suc channel) fs) s (position at)) ≡ pad 255 (flags_of lengths_of fs s (position from))
        here_flags = rw e at w.flags

        here_curves : sets now start (curves_at lengths_of (suc (length fs - suc channel)) half (f ∷ drop (suc channel) fs) s (position at))
            ≡ sets entry 0 (curves_at lengths_of (length fs) half fs s (position from))
        here_curves = rw (e, left) at w.curves

        -- its curve, and what is written behind it
        curve_then : (v : FloorRead) (l : List ℕ) → bytes ≡ curve_of half f v → sets (sets now start bytes) (start + half) l ≡ sets now start (curve_of half f v ++ l)
        curve_then v l b =
            ap (λ (t : List ℕ). sets (sets now start t) (start + half) l) b ∙ ap (λ (n : ℕ). sets (sets now start (curve_of half f v)) (start + n) l) (sym (curve_long half f v))
            ∙ sym (sets_append (curve_of half f v) l now start)

        -- its floor is whole
        module _ {is : Bool} {next : Cursor} (q : r ≡ Ok (is, next)) (a : FloorRead) (v : (floor_run lengths_of f s (position at)).value ≡ some a) where
          end_is : position next ≡ (floor_run lengths_of f s (position at)).position
          end_is = sym (ap channel_end q) ∙ c.position

          used_is : one is ≡ one (is_used a)
          unfolding or_unused
          used_is = ap one (sym (ap channel_used q) ∙ c.used ∙ ap (λ (o : Option FloorRead). is_used (or_unused o)) v)

          bytes_are : bytes ≡ curve_of half f a
          unfolding or_unused
          bytes_are = c.curve ∙ ap (λ (o : Option FloorRead). curve_of half f (or_unused o)) v

          next_flags : sets (set used channel (one is)) (suc channel) (flags_of lengths_of (drop (suc channel) fs) s (position next)) ≡ pad 255 (flags_of lengths_of fs s (position from))
          next_flags = rw (end_is, used_is) (ap (sets used channel) (sym (flags_whole lengths_of f (drop (suc channel) fs) s (position at) a v)) ∙ here_flags)

          next_curves : sets (sets now start bytes) (start + half) (curves_at lengths_of (length fs - suc channel) half (drop (suc channel) fs) s (position next))
              ≡ sets entry 0 (curves_at lengths_of (length fs) half fs s (position from))
          next_curves =
              rw end_is (curve_then a (curves_at lengths_of (length fs - suc channel) half (drop (suc channel) fs) s (floor_run lengths_of f s (position at)).position) bytes_are
              ∙ ap (sets now start) (sym (curves_whole lengths_of f (drop (suc channel) fs) s (position at) a v (length fs - suc channel) half)) ∙ here_curves)

          turn : Reading lengths_of half fs s (position from) entry (sets now start bytes) (set used channel (one is)) next (start + half) (suc channel)
          turn =
              record {
                within = omega arith;
                room = w.room;
                long = length-sets now start bytes ∙ w.long;
                flags_long = length-set used channel (one is) ∙ w.flags_long;
                start_is = ap (λ (n : ℕ). n + half) w.start_is ∙ sym (suc-mul channel half);
                end_position = rw end_is (sym (position_whole lengths_of f (drop (suc channel) fs) s (position at) a v) ∙ here_position);
                end_cut = rw end_is (sym (cut_whole lengths_of f (drop (suc channel) fs) s (position at) a v) ∙ here_cut);
                flags = next_flags;
                curves = next_curves;
              }

        pub reading_next : {is : Bool} {next : Cursor} → r ≡ Ok (is, next) → {now' used' : List ℕ} {count : ℕ} → now' ≡ take start now ++ (bytes ++ drop (start + half - start) (drop start now))
            → used' ≡ set used channel (one is) → count ≡ channel + 1 → Reading lengths_of half fs s (position from) entry now' used' next (start + half) count
        reading_next q en eu ec =
            let v = whole_is (floor_run lengths_of f s (position at)).value (sym c.cut ∙ ap has_cut q) in
            rw (en, ← written, eu, ec, add-one) (turn q v.0 v.1)

        -- its floor is cut: it and those behind it are zeros
        pub reading_cut : {z : Cut} → r ≡ Err z → {now' zeros now'' : List ℕ} {end : ℕ} → now' ≡ take start now ++ (bytes ++ drop (start + half - start) (drop start now))
            → end ≡ length fs * half → zeros ≡ replicate (length (take (end - (start + half)) (drop (start + half) now'))) 0
            → now'' ≡ take (start + half) now' ++ (zeros ++ drop (end - (start + half)) (drop (start + half) now'))
            → FloorsAre lengths_of (length fs) half fs s (position from) (record { used = used; end = Err z }) entry now''
        unfolding or_unused flags_of curves_at
        reading_cut {z} q {now'} {zeros} {now''} {end} en ee ez em =
            let v = cut_is (floor_run lengths_of f s (position at)).value (sym c.cut ∙ ap has_cut q) in
            let rest = drop (suc channel) fs in
            let b : bytes ≡ curve_of half f unused = c.curve ∙ ap (λ (o : Option FloorRead). curve_of half f (or_unused o)) v in
            let l : length now' ≡ length entry = ap length (en ∙ sym written) ∙ length-sets now start bytes ∙ w.long in
            let room = w.room in
            let er = end_room in
            let lt = length-take (end - (start + half)) (drop (start + half) now') in
            let ld = length-drop (start + half) now' in
            let n : length (take (end - (start + half)) (drop (start + half) now')) ≡ (length fs - suc channel) * half = omega arith in
            let z : zeros ≡ replicate ((length fs - suc channel) * half) 0 = ez ∙ ap (λ (i : ℕ). replicate i 0) n in
            let lz : length zeros ≡ end - (start + half) = ap length z ∙ length-replicate ((length fs - suc channel) * half) 0 ∙ omega arith in
            let cleared : now'' ≡ sets (sets now start bytes) (start + half) (replicate ((length fs - suc channel) * half) 0) =
            em ∙ sym (part_back now' (start + half) zeros (omega arith) ∙ ap (λ (i : ℕ). take (start + half) now' ++ (zeros ++ drop i (drop (start + half) now'))) lz)
            ∙ (λ j. sets ((en ∙ sym written) j) (start + half) (z j)) in
            record {
              position = sym (ap channel_end q) ∙ c.position ∙ sym (position_cut lengths_of f rest s (position at) v) ∙ here_position;
              cut = sym (cut_cut lengths_of f rest s (position at) v) ∙ here_cut;
              used = ap (sets used channel) (sym (flags_cut lengths_of f rest s (position at) v)) ∙ here_flags;
              curves = cleared ∙ curve_then unused (replicate ((length fs - suc channel) * half) 0) b
                  ∙ ap (λ (m : ℕ). sets now start (curve_of half f unused ++ replicate (m * half) 0)) (sym rest_long)
                  ∙ ap (sets now start) (sym (curves_cut lengths_of f rest s (position at) v half))
                  ∙ ap (λ (m : ℕ). sets now start (curves_at lengths_of (suc m) half (f ∷ rest) s (position at))) rest_long ∙ here_curves;
            }

-- THE NUMBER OF A CHANNEL'S FLOOR, as its mapping's row has it
module _ (channels : ℕ) (t : List ℕ) (n : ℕ) (l : MappingReadable channels t n) (few : channels ≤ 255) (c : ℕ) (h : c < channels) where
  submap_is : {a : ℕ} → a ≡ get_or t (mapping_width * n + (multiplex_place + c)) 0 - 1 → a ≡ submap_of (mapping_in t n) c
  unfolding submap_of
  submap_is e = e ∙ l.channel_submap c (omega arith)

  submap_low : {b : ℕ} → b ≡ submap_of (mapping_in t n) c → b < length (mapping_in t n).submaps
  unfolding submap_of
  submap_low e = rw e (l.submap_set_up c h)

  pub submap_few : {a : ℕ} → a ≡ get_or t (mapping_width * n + (multiplex_place + c)) 0 - 1 → a < 16
  submap_few e = let x = submap_low (submap_is e) in let y = l.submaps_few in omega arith

  pub floor_number_lem : {a r : ℕ} → a ≡ get_or t (mapping_width * n + (multiplex_place + c)) 0 - 1
      → r ≡ get_or t (mapping_width * n + (submaps_place + 2 * a)) 0 → r ≡ floor_number (mapping_in t n) c
  unfolding floor_number
  floor_number_lem {a} e g =
      let x = submap_is e in
      g ∙ l.floor a (submap_low x) ∙ ap (λ (y : ℕ). (get_or (mapping_in t n).submaps y no_submap).floor) x

-- THE LOOP, as the code asks it
pub readable : {channels mapping : ℕ} {mappings floors books lengths codewords : List ℕ} → FloorsReadable channels mapping mappings floors books lengths codewords → {c n : ℕ} → c < channels
    → n ≡ floor_number (mapping_in mappings mapping) c → FloorStored floors books lengths codewords n × XListStored floors n
readable l {c} h e = rw e (l.floor c h, l.x_list_there c h)

pub product_few : (channels half : ℕ) → channels ≤ 255 → half ≤ 4096 → channels * half ≤ 1044480
product_few channels half h g = mul-le-mul h g

module _ (lengths_of : ℕ → List ℕ) (floor_at : ℕ → Floor) (m : Mapping) (channels half : ℕ) (s : List ℕ) (from : Cursor) (entry : List ℕ) where
  abbrev fs : List Floor
  fs = floors_of floor_at m channels

  pub go_start : channels * half ≤ length entry → Reading lengths_of half (floors_of floor_at m channels) s (position from) entry entry (replicate 255 0) from 0 0
  go_start h = reading_start lengths_of half fs s from entry (rw (floors_long floor_at m channels) h)

  module _ {now used : List ℕ} {at : Cursor} {start channel : ℕ} (w : Reading lengths_of half (floors_of floor_at m channels) s (position from) entry now used at start channel) where
    pub go_done : channels ≤ channel → FloorsAre lengths_of channels half (floors_of floor_at m channels) s (position from) (record { used = used; end = Ok at }) entry now
    go_done h =
        let n = floors_long floor_at m channels in
        rw n at (reading_done lengths_of half fs s from entry w (omega arith))

    module _ (h : channel < channels) where
      low : channel < length fs
      low = let n = floors_long floor_at m channels in omega arith

      pub part_low : start + half ≤ length now
      part_low = let a = start_low lengths_of half fs s from entry w low in let b = w.long in omega arith

      pub part_end : {end : ℕ} → end ≡ channels * half → (start + half ≤ end) × (end ≤ length now)
      part_end e =
          let n = ap (λ (x : ℕ). x * half) (floors_long floor_at m channels) in
          let a = end_room lengths_of half fs s from entry w low in
          let b = w.long in
          let d = w.room in
          (omega arith, omega arith)

      pub start_few : channels ≤ 255 → half ≤ 4096 → start + half ≤ 1044480
      start_few a b = let p = product_few channels half a b in let e = (part_end refl).0 in omega arith

      part_long : length (take (start + half - start) (drop start now)) ≡ half
      part_long =
          let a = part_low in
          let b = length-take (start + half - start) (drop start now) in
          let d = length-drop start now in
          omega arith

      module _ {n : ℕ} (e : n ≡ floor_number m channel) {r : Result (Bool × Cursor) Cut} {bytes : List ℕ}
          (c : ChannelIs lengths_of (floor_at n) s (position at) (length (take (start + half - start) (drop start now))) r bytes) where
        here : ChannelIs lengths_of (floor_at (floor_number m channel)) s (position at) half r bytes
        here = rw (e, part_long) at c

        pub rest_room : {end : ℕ} → end ≡ channels * half → end ≤ length (take start now ++ (bytes ++ drop (start + half - start) (drop start now)))
        rest_room e =
            let l = ap length (sym (written lengths_of half fs s from entry w low (floors_next floor_at m channels channel h) here)) ∙ length-sets now start bytes in
            let a = (part_end e).1 in
            omega arith

        pub go_next : {is : Bool} {next : Cursor} → r ≡ Ok (is, next) → Reading lengths_of half (floors_of floor_at m channels) s (position from) entry
            (take start now ++ (bytes ++ drop (start + half - start) (drop start now))) (set used channel (one is)) next (start + half) (channel + 1)
        go_next q = reading_next lengths_of half fs s from entry w low (floors_next floor_at m channels channel h) here q refl refl refl

        pub go_cut : {z : Cut} → r ≡ Err z → {now' zeros now'' : List ℕ} {end : ℕ} → now' ≡ take start now ++ (bytes ++ drop (start + half - start) (drop start now))
            → end ≡ channels * half → zeros ≡ replicate (length (take (end - (start + half)) (drop (start + half) now'))) 0
            → now'' ≡ take (start + half) now' ++ (zeros ++ drop (end - (start + half)) (drop (start + half) now'))
            → FloorsAre lengths_of channels half (floors_of floor_at m channels) s (position from) (record { used = used; end = Err z }) entry now''
        go_cut q en ee ez em =
            let n = floors_long floor_at m channels in
            let l = ap (λ (x : ℕ). x * half) n in
            rw n at (reading_cut lengths_of half fs s from entry w low (floors_next floor_at m channels channel h) here q en (ee ∙ sym l) ez em)
