-- The parts put together are the setup packet as it is defined: nothing is added to what is read. Assumes nothing.
use Prim.Native.Nat.{ℕ}
use mathlib.Core.List.{List}
use mathlib.Core.Path.{◌≡◌, refl}
use lib.ListN.{length}
use Rattle.reading.specs.Outcome.{Refusal, Outcome, ok, bad, then}
use Rattle.header.specs.Header.{common_header, framing}
use Rattle.limits.specs.declared.Limits.{Limits}
use Rattle.floor.specs.Reading.{floor}
use Rattle.residue.specs.Reading.{residue}
use Rattle.mapping.specs.Reading.{mapping}
use Rattle.mode.specs.Reading.{mode}
use Rattle.setup.specs.Content.{books_known, known}
use Rattle.setup.specs.Reading.{book_section, section, time_value, sections, setup}
use Rattle.setup.specs.Inner.Parts.{book_part, floor_part, mapping_part, after_books, rest_part, after_header, packet_part}

by_cases : {A P : Type 0} (o : Outcome A) → ((a : A) → o ≡ ok a → P) → ((z : Refusal) → o ≡ bad z → P) → P
by_cases (ok a) f g = f a refl
by_cases (bad z) f g = g z refl

pub setup_whole : (limits : Limits) (channels : ℕ) (s : List ℕ) → setup limits channels s ≡ then (packet_part limits channels s) (λ x. ok x.0)
unfolding setup sections packet_part after_header book_part rest_part after_books floor_part mapping_part books_known
setup_whole limits channels s =
    by_cases (common_header 5 s) (λ k e₀.
    by_cases (book_section limits s k) (λ bs e₁.
    by_cases (section time_value s bs.1) (λ times e₂.
    by_cases (section (floor (length bs.0)) s times.1) (λ fs e₃.
    by_cases (section (residue (books_known bs.0)) s fs.1) (λ rs e₄.
    by_cases (section (mapping (known channels fs.0 rs.0)) s rs.1) (λ ms e₅.
    by_cases (section (mode (length ms.0)) s ms.1) (λ modes e₆.
    by_cases (framing s modes.1)
    (λ f e₇. rw (e₀, e₁, e₂, e₃, e₄, e₅, e₆, e₇) refl)
    (λ z e. rw (e₀, e₁, e₂, e₃, e₄, e₅, e₆, e) refl))
    (λ z e. rw (e₀, e₁, e₂, e₃, e₄, e₅, e) refl))
    (λ z e. rw (e₀, e₁, e₂, e₃, e₄, e) refl))
    (λ z e. rw (e₀, e₁, e₂, e₃, e) refl))
    (λ z e. rw (e₀, e₁, e₂, e) refl))
    (λ z e. rw (e₀, e₁, e) refl))
    (λ z e. rw (e₀, e) refl))
    (λ z e. rw e refl)
