-- A whole run puts what was left to write where it began. Assumes nothing.
use Prim.Native.Nat.{ℕ}
use mathlib.Core.List.{List, ◌++◌, append_assoc, append-nil}
use mathlib.Core.Path.{◌≡◌, sym, ◌∙◌, ap}
use Rattle.record_step.specs.Step.{Stream}
use Rattle.record_progress.specs.Inner.Progress.{lines_left}
use Rattle.record_progress.specs.Inner.Session.{Session, taking, reading, ending}

pub session_puts : {skip : ℕ} {x : Stream} {n : ℕ} {s come out : List ℕ} → Session skip x n s come out → out ≡ lines_left skip x n (s ++ come)
session_puts (taking skip x n s skip' x' n' s' text come out e r) = ap (λ (w : List ℕ). text ++ w) (session_puts r) ∙ sym (e come)
session_puts (reading skip x n s bytes come out r) = session_puts r ∙ ap (lines_left skip x n) (append_assoc s bytes come)
session_puts (ending skip x n s) = ap (lines_left skip x n) (sym (append-nil s))
