-- The turns of the run. Assumes nothing.
use Prim.Native.Nat.{ℕ, ◌+◌, ◌≤◌, ◌<◌}
use native.Mathlib.Omega.{arith}
use mathlib.Core.Bool.{true}
use mathlib.Core.List.{List, ◌++◌}
use mathlib.Core.Logic.{inl, inr}
use mathlib.Core.Path.{◌≡◌, refl, sym, ◌∙◌, ap}
use lib.ListN.{length, take, drop, length-drop}
use lib.Seq.{length-take-le, take-add, drop-append-le}
use Rattle.records.specs.Inner.Fronts.{front}
use Rattle.record_progress.specs.Inner.Taken.{most_records, Needs, LastRoom}
use Rattle.record_turn.specs.Inner.Turns.{RoomMade, Reads, goes_on, GoesOn}
use Rattle.record_turn.specs.declared.feeding.Span.{Span}
use Rattle.record_progress.specs.declared.Progress.{Progress}
use Rattle.record_progress.proofs.FrontLaws.{partial_of}

-- the run goes on
pub going_turned : (p : Progress) {to from end turns : ℕ} {q : Progress} {input input' lines : List ℕ} (bytes : List ℕ) → q ≡ goes_on p from → 0 < turns → from ≤ end → end ≤ length input'
    → p.number < most_records → length lines ≡ 65536 → drop from (take end input') ≡ drop p.from (take to input) ++ bytes → GoesOn p to turns input q end input' lines
going_turned p {to} {from} {end} {turns} {q} {input} {input'} {lines} bytes e t h g n l same =
    let k = length-take-le end input' g in
    rw e (record {
      same = refl;
      more = t;
      inside = g;
      room = record { inside = omega (arith, k, h); line = omega (arith, l); number = n };
      continues = record { bytes = bytes; left = same; skip = refl; number = refl };
    })

-- a read adds bytes behind those that are left
pub read_after : (from end more : ℕ) (l l' : List ℕ) {left : List ℕ} → from ≤ end → end ≤ length l → take end l ≡ take end l' → drop from (take end l') ≡ left
    → drop from (take (end + more) l) ≡ left ++ take more (drop end l)
read_after from end more l l' o h e s =
    let k = length-take-le end l h in
    ap (drop from) (take-add end more l) ∙ drop-append-le from (take end l) (take more (drop end l)) (omega (arith, k, o))
    ∙ ap (λ (w : List ℕ). w ++ take more (drop end l)) (ap (drop from) e ∙ s)

module _ {p : Progress} {to : ℕ} {input lines : List ℕ} (w : Reads p to input lines) where
  pub reads_order : p.from ≤ to
  reads_order =
      let a = w.within.inside in
      let b = length-take-le to input w.inside in
      omega (arith, a, b)

  -- where more is needed, less than a record is left: the buffer has room for it
  pub reads_room : p.waiting ≡ true → (p.from ≤ to) × (to ≤ length input) × (to < p.from + length input)
  reads_room e = (reads_order, w.inside, short (w.within.needs e))
    where
      short : Needs p (take to input) → to < p.from + length input
      short (inl n) =
          let a = (partial_of (drop p.from (take to input)) n.1).1 in
          let b = length-drop p.from (take to input) in
          let c = length-take-le to input w.inside in
          let d = w.of_input in
          omega (arith, a, b, c, d)
      short (inr n) =
          let a = n.1 in
          let c = length-take-le to input w.inside in
          let d = w.of_input in
          omega (arith, a, c, d)

  -- the last lines are those of the bytes that are left, wherever they were moved to
  pub reads_last : {s : Span} {input' : List ℕ} (input'' : List ℕ) {q : Progress} → p.waiting ≡ true → p.number < most_records → RoomMade input p.from to s input'
      → take s.to input'' ≡ take s.to input' → length input'' ≡ length input' → q ≡ goes_on p s.from → LastRoom q (take s.to input'') lines
  reads_last {s} {input'} input'' {q} e n m k l g =
      let o = m.order in
      let room = m.room in
      let long = length-take-le s.to input'' (omega (arith, room, l)) in
      let f = w.of_lines in
      rw g (record {
        inside = omega (arith, o, long);
        room = omega (arith, f);
        number = omega (arith, n);
        needs = needed long (w.within.needs e);
      })
    where
      rest : drop s.from (take s.to input'') ≡ drop p.from (take to input)
      rest = ap (drop s.from) k ∙ m.same

      needed : length (take s.to input'') ≡ s.to → Needs p (take to input) → Needs (goes_on p s.from) (take s.to input'')
      needed long (inl v) = inl (v.0, v.1 ∙ ap front (sym rest))
      needed long (inr v) =
          let a = ap length rest in
          let b = length-drop s.from (take s.to input'') in
          let c = length-drop p.from (take to input) in
          let d = v.1 in
          let o = m.order in
          inr (v.0, omega (arith, a, b, c, d, o, long))
