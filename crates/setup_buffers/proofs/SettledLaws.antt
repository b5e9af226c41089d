-- Laws of how a call leaves the tables, as the code asks them. Assumes nothing.
use Rattle.std.specs.Prelude.{Result, Ok, Err}
use Prim.Native.Nat.{ℕ}
use mathlib.Core.Path.{◌≡◌, refl}
use Rattle.bits.specs.declared.Cursor.{Cursor}
use Rattle.setup.specs.Layout.{Tables, cleared}
use Rattle.setup.specs.Call.{left}
use Rattle.setup_buffers.specs.Inner.Settled.{settled}

module _ (answer : Result Cursor ℕ) (t : Tables) where
  pub settled_next : {c : Cursor} → answer ≡ Ok c → left 0 t ≡ settled answer t
  unfolding settled
  settled_next q = rw q refl

  pub settled_refused : {n : ℕ} {u : Tables} → answer ≡ Err n → u ≡ cleared t → left n u ≡ settled answer t
  unfolding settled
  settled_refused {n} q g = rw q (λ j. left n (g j))
