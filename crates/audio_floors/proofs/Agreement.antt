-- What the audio call asks of the floors: they and their curves depend on the floors that the channels have, and on no other; what makes an X list readable, the
-- row of a floor that lies in the table; the flags of the answer. Assumes nothing.
use Prim.Native.Nat.{ℕ, zero, suc, ◌+◌, ◌*◌, ◌≤◌, ◌<◌}
use native.Mathlib.Omega.{arith}
use mathlib.Core.List.{List, [], ◌∷◌, ◌++◌, map}
use mathlib.Core.Option.{Option, none, some}
use mathlib.Core.Path.{◌≡◌, refl, sym, ap, ◌∙◌}
use lib.ListN.{length}
use lib.Seq.{slice}
use Rattle.reading.specs.Least.{one}
use Rattle.reading.specs.Pad.{pad}
use Rattle.reading.specs.Reader.{Reader}
use Rattle.reading.specs.Tabulate.{tabulate}
use Rattle.reading.proofs.Stored.{Stored}
use Rattle.floor.specs.Content.{Floor}
use Rattle.floor.specs.Layout.{floor_row, floor_width}
use Rattle.floor.specs.Inner.Valid.{ValidFloor}
use Rattle.floor.proofs.Decoded as decoded
use Rattle.floor.proofs.ValidLaws.{values_few}
use Rattle.floor_row.proofs.Laws.{x_list_is}
use Rattle.floor_values.specs.Inner.Stored.{floor_in}
use Rattle.mapping.specs.Content.{Mapping}
use Rattle.requests.specs.Requests.{Request}
use Rattle.requests.specs.Run.{run}
use Rattle.requests.specs.Values.{unless_cut, whole_values}
use Rattle.floor_requests.specs.Requests.{FloorRead, floor_requests}
use Rattle.audio.specs.Channels.{floor_number, floors_of, is_used}
use Rattle.audio.specs.Packet.{by_channel}
use Rattle.audio.specs.Curves.{curves_of}
use Rattle.audio_floors.specs.Inner.Floors.{XListStored}

map_last : (g : ℕ → Floor) (xs : List ℕ) (x : ℕ) → map g (xs ++ (x ∷ [])) ≡ map g xs ++ (g x ∷ [])
map_last g [] x = refl
map_last g (y ∷ xs) x = ap (λ (l : List Floor). g y ∷ l) (map_last g xs x)

module _ (g h : ℕ → Floor) (m : Mapping) where
  pub floors_agree : (channels : ℕ) → ((c : ℕ) → c < channels → g (floor_number m c) ≡ h (floor_number m c)) → floors_of g m channels ≡ floors_of h m channels
  unfolding floors_of tabulate
  floors_agree zero e = refl
  floors_agree (suc n) e =
      let first : map g (tabulate (floor_number m) n) ≡ map h (tabulate (floor_number m) n) = floors_agree n (λ c l. e c (omega arith)) in
      let last = e n (omega arith) in
      map_last g (tabulate (floor_number m) n) (floor_number m n) ∙ (λ j. first j ++ (last j ∷ [])) ∙ sym (map_last h (tabulate (floor_number m) n) (floor_number m n))

  pub curves_agree : (channels half : ℕ) (vs : List FloorRead) → ((c : ℕ) → c < channels → g (floor_number m c) ≡ h (floor_number m c))
      → curves_of half (floors_of g m channels) vs ≡ curves_of half (floors_of h m channels) vs
  curves_agree channels half vs e = ap (λ (fs : List Floor). curves_of half fs vs) (floors_agree channels e)

-- where the numbers of a floor's row lie, its X list can be read
pub x_list_stored : (floors : List ℕ) (n books : ℕ) → ValidFloor books (floor_in floors n) → decoded.FloorStored floors (floor_width * n) (floor_in floors n) → XListStored floors n
x_list_stored floors n books v l =
    let few = values_few v in
    let e = l.values in
    record {
      count = omega arith;
      list = ap (λ (c : ℕ). slice (floor_width * n + 212) (floor_width * n + 212 + c) floors) l.values ∙ x_list_is l (omega arith);
    }

pub row_x_list_stored : (floors : List ℕ) (n books : ℕ) (f : Floor) → ValidFloor books f → Stored floors (floor_width * n) (floor_row f) → XListStored floors n
row_x_list_stored floors n books f v l =
    let e : floor_in floors n ≡ f = unfold floor_in in decoded.floor_decoded_at (floor_width * n) books f v l in
    x_list_stored floors n books (rw e v) (rw e (decoded.floor_stored f l))

-- THE FLAGS of the answer: a floor that is cut, or stands behind one, has the flag 0, as a place past the last channel
module _ (reads : Request → Reader ℕ) (s : List ℕ) where
  -- no more floors are whole than there are
  pub whole_few : (fs : List Floor) (k : ℕ) → length (whole_values reads floor_requests fs s k) ≤ length fs
  unfolding whole_values
  whole_few [] k = omega arith
  whole_few (f ∷ fs) k =
      let n = (run reads (floor_requests f) s k).position in
      go (run reads (floor_requests f) s k).value (whole_values reads floor_requests fs s n) (whole_few fs n)
    where
      go : (v : Option FloorRead) (l : List FloorRead) → length l ≤ length fs → length (unless_cut v l) ≤ suc (length fs)
      go (some a) l h = omega arith
      go none l h = omega arith

pub flags_agree : (places channels : ℕ) (l : List FloorRead) → length l ≤ channels
    → pad places (map (λ f. one (is_used f)) (by_channel channels l)) ≡ pad places (map (λ f. one (is_used f)) l)
unfolding pad by_channel is_used
flags_agree zero channels l h = refl
flags_agree (suc n) zero [] h = refl
flags_agree (suc n) zero (x ∷ l) h = absurd (omega arith)
flags_agree (suc n) (suc m) [] h = ap (λ (t : List ℕ). 0 ∷ t) (flags_agree n m [] (omega arith))
flags_agree (suc n) (suc m) (x ∷ l) h = ap (λ (t : List ℕ). one (is_used x) ∷ t) (flags_agree n m l (omega arith))
