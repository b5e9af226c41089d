-- THE TWO LISTS that an accepted audio packet gives: the curve bytes of the channels, and the codewords of the residues (01, "What the reader takes and
-- gives"). Assumes nothing: these are definitions.
use Rattle.std.specs.Prelude.{ℕ, List, [], ◌∷◌, ◌++◌, length, replicate}
use Rattle.floor.specs.Content.{Floor, x_list}
use Rattle.floor_points.specs.FinalY as final
use Rattle.floor_curve.specs.Curve.{curve}
use Rattle.floor_requests.specs.Requests.{FloorRead, unused, values}

-- final Y and flags of a floor's values (01, "Audio order" 3)
abbrev pub points_of : Floor → List ℕ → final.Left
points_of f ys = final.final_ys (x_list f.rangebits f.xs) ys f.multiplier (length ys) (length ys)

-- the curve of a channel: n/2 bytes, zeros for an unused floor
unfoldable pub curve_of : ℕ → Floor → FloorRead → List ℕ
curve_of half f unused = replicate half 0
curve_of half f (values ys) = (curve (x_list f.rangebits f.xs) (points_of f ys).final_y (points_of f ys).flags f.multiplier half).out

-- of all channels in order
unfoldable pub curves_of : ℕ → List Floor → List FloorRead → List ℕ
curves_of half [] vs = []
curves_of half (f ∷ fs) [] = []
curves_of half (f ∷ fs) (v ∷ vs) = curve_of half f v ++ curves_of half fs vs
