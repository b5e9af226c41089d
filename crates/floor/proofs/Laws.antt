-- What other crates cite of floors: an accepted floor meets every rule; where its row lies in the table.
-- Assumes nothing.
use Prim.Native.Nat.{ℕ, zero, suc, ◌*◌, ◌≤◌, ◌<◌}
use native.Mathlib.Omega.{arith}
use borrow.Author.Tests.{le-leb}
use mathlib.Core.List.{List, map}
use mathlib.Core.Path.{◌≡◌, subst}
use lib.Dec.{ltb}
use lib.ListN.{length, get_or}
use Rattle.reading.specs.Lists.{rows}
use Rattle.reading.specs.Pad.{pad}
use Rattle.reading.specs.Outcome.{ok}
use Rattle.reading.specs.Reader.{many}
use Rattle.reading.specs.Encoding.{Each}
use Rattle.reading.proofs.Outcomes.{then_ok, ok_is}
use Rattle.reading.proofs.Accepted.{many_cons, many-all, many_number}
use Rattle.reading.proofs.EachLaws.{each_map}
use Rattle.bits.specs.Field.{field}
use Rattle.bits.proofs.Fields.{field-ok}
use Rattle.reading.proofs.Stored.{Stored, rows_stored}
use Rattle.numbers.proofs.Accepted.{field_below}
use Rattle.floor.specs.ClassReading.{class}
use Rattle.floor.proofs.ClassAccepted.{classes_valid}
use Rattle.floor.specs.XListReading.{ends}
use Rattle.floor.proofs.XListAccepted.{ends_fit}
use Rattle.floor.specs.Content.{Floor, class_count, value_count, no_floor}
use Rattle.floor.specs.Layout.{floor_row, floor_width}
use Rattle.floor.specs.Reading.{floor_type, floor_from, floor1, floor}
use Rattle.floor.specs.Inner.Valid.{ValidFloor}
use Rattle.floor.proofs.Decoded.{floor_long, FloorStored, floor_stored}

-- AN ACCEPTED FLOOR MEETS EVERY RULE
pub floor1_valid : (books place : ℕ) (s : List ℕ) (k : ℕ) {x : Floor × ℕ} → floor1 books place s k ≡ ok x → ValidFloor books x.0
unfolding floor1 floor_from
floor1_valid books place s k {x} e =
    let n = then_ok (field 5 s k) _ e in
    let p = then_ok (many (field 4) n.0.0 s n.0.1) _ n.2 in
    let c = then_ok (many (class books) (class_count p.0.0) s p.0.1) _ p.2 in
    let d = then_ok (ends place (value_count (map (λ c. c.dimensions) c.0.0) p.0.0) s c.0.1) _ c.2 in
    let nf = field-ok s k 5 n.1 in
    let nl = nf.below in
    let pl = many_number (field 4) s n.0.0 n.0.1 p.1 in
    let fits = ends_fit place (value_count (map (λ c. c.dimensions) c.0.0) p.0.0) s c.0.1 d.1 in
    let cs = classes_valid books s (class_count p.0.0) p.0.1 c.1 in
    let few : length d.0.0.xs ≤ 63 = rw fits.long fits.few in
    let same : ◌≡◌ {A = Floor × ℕ} (record { partitions = p.0.0; classes = c.0.0; multiplier = d.0.0.multiplier; rangebits = d.0.0.rangebits; xs = d.0.0.xs }, d.0.1) x = ok_is d.2 in
    subst (λ (y : Floor × ℕ). ValidFloor books y.0) same
    (record {
      carried = record {
        partitions = omega arith;
        classes_named = many-all (λ c. ltb c 16) (field 4) s (field_below 4 s) n.0.0 n.0.1 p.1;
        class_count_is = many_number (class books) s (class_count p.0.0) p.0.1 c.1;
        classes = each_map (λ a v. v.carried) c.0.0 cs;
        multiplier = record { low = fits.multiplier_low; high = fits.multiplier_high };
        rangebits = fits.rangebits;
        value_count_is = fits.long;
        in_range = fits.in_range;
      };
      classes = each_map (λ a v. v.rules) c.0.0 cs;
      rules = record { count = le-leb (length d.0.0.xs) 63 few; different = fits.different };
    })

pub floor_valid : (books : ℕ) (s : List ℕ) (k : ℕ) {x : Floor × ℕ} → floor books s k ≡ ok x → ValidFloor books x.0
unfolding floor
floor_valid books s k e = let t = then_ok (floor_type s k) _ e in floor1_valid books k s t.0.1 t.2

pub floors_valid : (books : ℕ) (s : List ℕ) (n k : ℕ) {x : List Floor × ℕ} → many (floor books) n s k ≡ ok x → Each (ValidFloor books) x.0
unfolding Each many
floors_valid books s zero k e = subst (λ (y : List Floor × ℕ). Each (ValidFloor books) y.0) (ok_is e) tt
floors_valid books s (suc n) k e =
    let c = many_cons (floor books) n s k e in
    subst (λ (y : List Floor × ℕ). Each (ValidFloor books) y.0) c.4 (floor_valid books s k c.2, floors_valid books s n c.0.1 c.3)

pub floors_counted : (books : ℕ) (s : List ℕ) (n k : ℕ) {fs : List Floor} {j : ℕ} → many (floor books) n s k ≡ ok (fs, j) → length fs ≡ n
floors_counted books s n k {fs} e = many_number (floor books) s n k e

-- IN A TABLE THAT HOLDS FLOORS, THE ROW OF FLOOR f LIES AT 277 * f
pub floors_row : (fs : List Floor) (t : List ℕ) → t ≡ pad (length t) (rows floor_row fs) → floor_width * length fs ≤ length t → (f : ℕ) → f < length fs → Stored t (floor_width * f) (floor_row (get_or fs f no_floor))
floors_row = rows_stored floor_row floor_width floor_long no_floor

pub floors_stored : (fs : List Floor) (t : List ℕ) → t ≡ pad (length t) (rows floor_row fs) → floor_width * length fs ≤ length t → (f : ℕ) → f < length fs → FloorStored t (floor_width * f) (get_or fs f no_floor)
floors_stored fs t e h f k = floor_stored (get_or fs f no_floor) (floors_row fs t e h f k)
