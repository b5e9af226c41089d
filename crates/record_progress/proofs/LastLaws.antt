-- The last lines, where the input ends. Assumes nothing.
use Prim.Native.Nat.{ℕ, ◌+◌, ◌≤◌, ◌<◌}
use native.Mathlib.Omega.{arith}
use mathlib.Core.List.{List, []}
use mathlib.Core.Logic.{◌⊎◌, inl, inr}
use mathlib.Core.Path.{◌≡◌, refl, sym, ◌∙◌, ap}
use borrow.Author.Tests.{lt-ltb}
use lib.ListN.{length, drop, length-append, length-drop}
use lib.Seq.{sets, drop-length}
use Rattle.reading.proofs.Tables.{sets_append}
use Rattle.record_lines.specs.Lines.{torn_line, end_line}
use Rattle.record_step.specs.Step.{Stream}
use Rattle.record_progress.specs.Report.{lines_after}
use Rattle.record_progress.specs.Inner.Progress.{lines_left, lines_skipping}
use Rattle.record_progress.specs.Inner.Taken.{Needs, LastRoom, LastPut, torn_end}
use Rattle.record_progress.specs.declared.Progress.{Progress}
use Rattle.record_progress.proofs.ReportLaws.{after_nil, after_torn, left_skipping, left_after}
use Rattle.record_progress.proofs.FrontLaws.{partial_of}

-- the two lines of a torn record, one behind the other
pub torn_end_put : (n : ℕ) (at : ℕ) (l : List ℕ) {m end : ℕ} {l' l'' : List ℕ} → l' ≡ sets l at (torn_line (n + 1)) → m ≡ at + length (torn_line (n + 1)) → l'' ≡ sets l' m (end_line n)
    → end ≡ m + length (end_line n) → (l'' ≡ sets l at (torn_end n)) × (end ≡ at + length (torn_end n))
unfolding torn_end
torn_end_put n at l {m} {end} {l'} {l''} a b c d =
    let e = length-append (torn_line (n + 1)) (end_line n) in
    (c ∙ (λ j. sets (a j) (b j) (end_line n)) ∙ sym (sets_append (torn_line (n + 1)) (end_line n) l at), omega (arith, b, d, e))

module _ {p : Progress} {input lines : List ℕ} (room : LastRoom p input lines) where
  -- a line at the end is all that is left
  put_last : {text lines' : List ℕ} {end : ℕ} → ((x : Stream) → lines_left p.skip x p.number (drop p.from input) ≡ text)
      → lines' ≡ sets lines p.lines_end text → end ≡ p.lines_end + length text → end ≤ p.lines_end + 256 → LastPut p input lines end lines'
  put_last f u v w =
      let a = room.room in
      record {
        put = λ x. u ∙ ap (sets lines p.lines_end) (sym (f x));
        ends = λ x. v ∙ ap (λ (l : List ℕ). p.lines_end + length l) (sym (f x));
        inside = omega (arith, a, w);
      }

  module _ {lines' : List ℕ} {end : ℕ} where
    -- inside a body that is passed over, or inside a record
    pub last_torn : (0 < p.skip) ⊎ ((p.skip ≤ 0) × (p.from < length input)) → (lines' ≡ sets lines p.lines_end (torn_end p.number)) × (end ≡ p.lines_end + length (torn_end p.number)) × (end ≤ p.lines_end + 256)
        → LastPut p input lines end lines'
    unfolding torn_end lines_skipping
    last_torn h w = put_last (λ x. left x h room.needs) w.0 w.1 w.2
      where
        left : (x : Stream) → (0 < p.skip) ⊎ ((p.skip ≤ 0) × (p.from < length input)) → Needs p input → lines_left p.skip x p.number (drop p.from input) ≡ torn_end p.number
        left x g (inr n) =
            let positive = n.0 in
            ap (lines_left p.skip x p.number) (ap (λ (k : ℕ). drop k input) n.1 ∙ drop-length input)
            ∙ left_skipping x p.number p.skip [] [] positive ∙ rw (lt-ltb 0 p.skip positive) refl
        left x (inl g) (inl n) = let e = n.0 in absurd (omega (arith, e, g))
        left x (inr g) (inl n) =
            let l = length-drop p.from input in
            let h = g.1 in
            ap (λ (k : ℕ). lines_left k x p.number (drop p.from input)) n.0 ∙ left_after x p.number (drop p.from input)
            ∙ after_torn x p.number (drop p.from input) (omega (arith, l, h)) (partial_of (drop p.from input) n.1).0

    -- behind the last record
    pub last_end : p.skip ≤ 0 → length input ≤ p.from → lines' ≡ sets lines p.lines_end (end_line p.number)
        → (end ≡ p.lines_end + length (end_line p.number)) × (end ≤ p.lines_end + 128) → LastPut p input lines end lines'
    last_end z h u w = let g = w.1 in put_last left u w.0 (omega (arith, g))
      where
        here : p.from ≡ length input
        here = let i = room.inside in omega (arith, i, h)

        none : p.skip ≡ 0
        none = omega (arith, z)

        left : (x : Stream) → lines_left p.skip x p.number (drop p.from input) ≡ end_line p.number
        left x =
            ap (λ (k : ℕ). lines_left k x p.number (drop p.from input)) none ∙ left_after x p.number (drop p.from input)
            ∙ ap (lines_after x p.number) (ap (λ (k : ℕ). drop k input) here ∙ drop-length input) ∙ after_nil x p.number
