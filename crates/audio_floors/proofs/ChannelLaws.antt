-- Laws of the floor of one channel, as the code asks them: what its run comes to, and its curve. Assumes nothing.
use Rattle.std.specs.Prelude.{Result, Ok, Err}
use Prim.Native.Nat.{ℕ, ◌+◌, ◌-◌, ◌*◌, ◌≤◌, ◌<◌}
use native.Mathlib.Omega.{arith}
use mathlib.Core.Bool.{Bool, true, false}
use mathlib.Core.List.{List}
use mathlib.Core.Option.{Option, none, some}
use mathlib.Core.Path.{◌≡◌, refl, sym, ap, ◌∙◌}
use lib.ListN.{length, get_or, take, drop, replicate}
use lib.Seq.{slice, sets}
use Rattle.reading.specs.Outcome.{ok, bad}
use Rattle.reading.specs.Outcome as O
use Rattle.reading.specs.Reader.{mapped}
use Rattle.reading.proofs.Readers.{mapped_ok, mapped_bad}
use Rattle.reading.proofs.Parts.{part_slice}
use Rattle.reading.proofs.Pads.{pad_front}
use Rattle.reading.proofs.Tables.{sets_cleared}
use Rattle.bits.specs.declared.Cursor.{Cursor}
use Rattle.bits.specs.declared.refusal.Refusal.{Refusal}
use Rattle.bits.specs.Inner.Cursors.{position, refusal_of, outcome}
use Rattle.book_codeword.specs.Inner.Stored.{lengths_in}
use Rattle.floor.specs.Content.{x_list, Floor}
use Rattle.floor.specs.Inner.Decode.{floor_at}
use Rattle.floor.proofs.ValidLaws.{values_few}
use Rattle.floor_values.specs.Values.{floor_values, answered_values, with_values}
use Rattle.floor_values.specs.Inner.Stored.{floor_in, FloorStored}
use Rattle.floor_values.specs.Claims.{FloorValues}
use Rattle.floor_points.specs.FinalY as final
use Rattle.floor_curve.specs.Curve as drawing
use Rattle.requests.specs.Run.{Run, whole_or}
use Rattle.requests.specs.Run as runs
use Rattle.floor_requests.specs.Requests.{values}
use Rattle.floor_requests.specs.Claims.{floor_read}
use Rattle.floor_requests.proofs.Laws.{reads_as_floor}
use Rattle.audio.specs.Channels.{is_used}
use Rattle.audio.specs.Curves.{curve_of}
use Rattle.audio_floors.specs.Inner.Floors.{is_cut, or_unused, floor_run, values_curve, XListStored, Drawable, ChannelIs}
use Rattle.floor.specs.Layout.{floor_width}

-- what an outcome says of the run
module _ {A : Type 0} where
  run_cut : (r : Run A) {z : O.Refusal} → runs.outcome r ≡ bad z → (r.value ≡ none) × (r.position ≡ z.place)
  unfolding runs.outcome
  run_cut r {z} e = go r.value e
    where
      go : (v : Option A) → whole_or v r.position ≡ bad z → (v ≡ none) × (r.position ≡ z.place)
      go (some a) e = absurd (cc)
      go none e = let p : O.refusal 1 r.position ≡ z = cc in (refl, ap (λ (y : O.Refusal). y.place) p)

  run_whole : (r : Run A) {a : A} {n : ℕ} → runs.outcome r ≡ ok (a, n) → (r.value ≡ some a) × (r.position ≡ n)
  unfolding runs.outcome
  run_whole r {a} {n} e = go r.value e
    where
      go : (v : Option A) → whole_or v r.position ≡ ok (a, n) → (v ≡ some a) × (r.position ≡ n)
      go (some b) e =
          let p : ◌≡◌ {A = A × ℕ} (b, r.position) (a, n) = cc in
          (ap (λ (x : A × ℕ). some x.0) p, ap (λ (x : A × ℕ). x.1) p)
      go none e = absurd (cc)

-- A CHANNEL, by what the reader of floors gives
module _ (lengths_of : ℕ → List ℕ) (f : Floor) (s : List ℕ) (k half : ℕ) where
  pub of_cut : {reason : ℕ} {place : Cursor} → floor_values lengths_of f s k ≡ bad (O.refusal reason (position place)) → {bytes : List ℕ} → bytes ≡ replicate half 0
      → ChannelIs lengths_of f s k half (Err (record { place = place })) bytes
  unfolding is_cut or_unused is_used curve_of mapped
  of_cut e {bytes} b =
      let w = run_cut (floor_run lengths_of f s k) ((reads_as_floor lengths_of f).same s k ∙ ap (mapped floor_read) e) in
      record { position = sym w.1; cut = rw w.0 refl; used = rw w.0 refl; curve = rw w.0 b }

  pub of_unused : {c : Cursor} → floor_values lengths_of f s k ≡ ok (none, position c) → {bytes : List ℕ} → bytes ≡ replicate half 0
      → ChannelIs lengths_of f s k half (Ok (false, c)) bytes
  unfolding is_cut or_unused is_used curve_of mapped
  of_unused {c} e {bytes} b =
      let w = run_whole (floor_run lengths_of f s k) ((reads_as_floor lengths_of f).same s k ∙ ap (mapped floor_read) e) in
      record { position = sym w.1; cut = rw w.0 refl; used = rw w.0 refl; curve = rw w.0 b }

  pub of_used : {c : Cursor} {ys : List ℕ} → floor_values lengths_of f s k ≡ ok (some ys, position c) → {bytes : List ℕ} → bytes ≡ curve_of half f (values ys)
      → ChannelIs lengths_of f s k half (Ok (true, c)) bytes
  unfolding is_cut or_unused is_used mapped
  of_used {c} {ys} e b =
      let w = run_whole (floor_run lengths_of f s k) ((reads_as_floor lengths_of f).same s k ∙ ap (mapped floor_read) e) in
      record { position = sym w.1; cut = rw w.0 refl; used = rw w.0 refl; curve = rw w.0 b }

-- what the program's reader of floors answers
module _ (lengths_of : ℕ → List ℕ) (f : Floor) (s : List ℕ) (k : ℕ) (entry list : List ℕ) {r : Result (Bool × Cursor) Refusal}
    (w : mapped (with_values list) (outcome r) ≡ mapped (answered_values entry) (floor_values lengths_of f s k)) where
  pub values_cut : {z : Refusal} → r ≡ Err z → floor_values lengths_of f s k ≡ bad (refusal_of z)
  unfolding outcome mapped
  values_cut q = mapped_bad (answered_values entry) (floor_values lengths_of f s k) (sym w ∙ ap (λ (x : Result (Bool × Cursor) Refusal). mapped (with_values list) (outcome x)) q)

  module _ {used : Bool} {c : Cursor} (q : r ≡ Ok (used, c)) where
    values_whole : mapped (answered_values entry) (floor_values lengths_of f s k) ≡ ok ((used, list), position c)
    unfolding outcome mapped
    values_whole = sym w ∙ ap (λ (x : Result (Bool × Cursor) Refusal). mapped (with_values list) (outcome x)) q

    pub values_unused : used ≡ false → floor_values lengths_of f s k ≡ ok (none, position c)
    unfolding answered_values
    values_unused t = let m = mapped_ok (answered_values entry) (floor_values lengths_of f s k) values_whole in go m.0 m.1 m.2
      where
        go : (o : Option (List ℕ)) → floor_values lengths_of f s k ≡ ok (o, position c) → answered_values entry o ≡ (used, list) → floor_values lengths_of f s k ≡ ok (none, position c)
        go none e a = e
        go (some ys) e a = let no : true ≡ false = ap (λ (x : Bool × List ℕ). x.0) a ∙ t in absurd (cc)

    pub values_used : used ≡ true → (ys : List ℕ) × (floor_values lengths_of f s k ≡ ok (some ys, position c)) × (sets entry 0 ys ≡ list)
    unfolding answered_values
    values_used t = let m = mapped_ok (answered_values entry) (floor_values lengths_of f s k) values_whole in go m.0 m.1 m.2
      where
        go : (o : Option (List ℕ)) → floor_values lengths_of f s k ≡ ok (o, position c) → answered_values entry o ≡ (used, list)
            → (ys : List ℕ) × (floor_values lengths_of f s k ≡ ok (some ys, position c)) × (sets entry 0 ys ≡ list)
        go none e a = let no : false ≡ true = ap (λ (x : Bool × List ℕ). x.0) a ∙ t in absurd (cc)
        go (some ys) e a = (ys, e, ap (λ (x : Bool × List ℕ). x.1) a)

-- DRAWING: final Y and flags, then the curve, in buffers that have as many places as there are values
pub points_drawn : (xs ys : List ℕ) (m n a b : ℕ) {r t : Bool} {y flags out : List ℕ} → a ≡ length ys → b ≡ length ys
    → final.left r y flags ≡ final.final_ys xs ys m a b → drawing.left t out ≡ drawing.curve xs y flags m n → out ≡ values_curve xs ys m n
unfolding values_curve
points_drawn xs ys m n a b ea eb p q =
    let g : final.final_ys xs ys m a b ≡ final.final_ys xs ys m (length ys) (length ys) = λ j. final.final_ys xs ys m (ea j) (eb j) in
    let e = p ∙ g in
    ap (λ (l : drawing.Left). l.out) q ∙ (λ j. (drawing.curve xs (e j).final_y (e j).flags m n).out)

module _ {floors : List ℕ} {n k : ℕ} (d : Drawable floors n k) where
  pub x_end : {count : ℕ} → count ≡ get_or floors (floor_width * n + 4) 0 → floor_width * n + 212 + count ≤ length floors
  x_end e = let r = d.room in let c = d.counted in let f = d.values_few in let x = d.x_list_there.count in omega arith

  pub multiplier_is : {m : ℕ} → m ≡ get_or floors (floor_width * n + 2) 0 → m ≡ (floor_in floors n).multiplier
  unfolding floor_in floor_at
  multiplier_is e = e

  pub multiplier_few : {m : ℕ} → m ≡ get_or floors (floor_width * n + 2) 0 → m < 256
  multiplier_few e = let h = d.multiplier in let g = multiplier_is e in omega arith

  pub floor_drawn : (ys : List ℕ) (half : ℕ) {count m : ℕ} {out : List ℕ} → count ≡ get_or floors (floor_width * n + 4) 0 → m ≡ get_or floors (floor_width * n + 2) 0
      → out ≡ values_curve (take (floor_width * n + 212 + count - (floor_width * n + 212)) (drop (floor_width * n + 212) floors)) ys m half → out ≡ curve_of half (floor_in floors n) (values ys)
  unfolding values_curve curve_of
  floor_drawn ys half {count} {m} {out} e g o =
      let p : take (floor_width * n + 212 + count - (floor_width * n + 212)) (drop (floor_width * n + 212) floors) ≡ x_list (floor_in floors n).rangebits (floor_in floors n).xs =
      part_slice (floor_width * n + 212) (floor_width * n + 212 + count) floors ∙ ap (λ (c : ℕ). slice (floor_width * n + 212) (floor_width * n + 212 + c) floors) e ∙ d.x_list_there.list in
      let q : m ≡ (floor_in floors n).multiplier = multiplier_is g in
      o ∙ (λ j. (drawing.curve (p j) (final.final_ys (p j) ys (q j) (length ys) (length ys)).final_y (final.final_ys (p j) ys (q j) (length ys) (length ys)).flags (q j) half).out)

-- the values of a floor that is used lie at the front of the list, as many as there are X
module _ (floors books lengths codewords : List ℕ) (n : ℕ) (l : FloorStored floors books lengths codewords n) (x : XListStored floors n)
    (known : FloorValues (lengths_in books lengths) (floor_in floors n)) where
  x_few : length (x_list (floor_in floors n).rangebits (floor_in floors n).xs) ≤ 65
  x_few = let f = values_few l.valid in omega arith

  count_few : {count : ℕ} → count ≡ get_or floors (floor_width * n + 4) 0 → count ≤ 65
  count_few e = let c = x.count in let f = x_few in omega arith

  pub count_within : {count : ℕ} → count ≡ get_or floors (floor_width * n + 4) 0 → {long : ℕ} → long ≡ 65 → count ≤ long
  count_within e l = let f = count_few e in omega arith

  module _ (s : List ℕ) (k : ℕ) (list : List ℕ) {r : Result (Bool × Cursor) Refusal}
      (w : mapped (with_values list) (outcome r) ≡ mapped (answered_values (replicate 65 0)) (floor_values (lengths_in books lengths) (floor_in floors n) s k))
      {used : Bool} {c : Cursor} (q : r ≡ Ok (used, c)) (t : used ≡ true) {count : ℕ} (e : count ≡ get_or floors (floor_width * n + 4) 0) where
    read : (ys : List ℕ) × (floor_values (lengths_in books lengths) (floor_in floors n) s k ≡ ok (some ys, position c)) × (sets (replicate 65 0) 0 ys ≡ list)
    read = values_used (lengths_in books lengths) (floor_in floors n) s k (replicate 65 0) list w q t

    values_long : length read.0 ≡ count
    values_long = known.counted s k read.0 (position c) read.1 ∙ sym (e ∙ x.count)

    values_are : take count list ≡ read.0
    values_are =
        let f = count_few e in
        let g = values_long in
        sym (λ j. take (g j) (read.2 j)) ∙ ap (take (length read.0)) (sets_cleared 65 read.0) ∙ pad_front 65 read.0 (omega arith)

    pub drawable : Drawable floors n (length (take count list))
    drawable =
        let p = ap length values_are in
        let f = x_few in
        let g = values_long in
        let h = x.count in
        let m = l.valid.carried.multiplier.high in
        record { few = l.few; room = l.room; multiplier = omega arith; x_list_there = x; counted = omega arith; values_few = omega arith }

    pub channel_used : {half : ℕ} {bytes : List ℕ} → bytes ≡ curve_of half (floor_in floors n) (values (take count list))
        → ChannelIs (lengths_in books lengths) (floor_in floors n) s k half (Ok (true, c)) bytes
    channel_used {half} b = of_used (lengths_in books lengths) (floor_in floors n) s k half read.1 (b ∙ ap (λ (l : List ℕ). curve_of half (floor_in floors n) (values l)) values_are)
