-- Laws of the setup call as the code asks them: what is left in the tables is by the answer to what was handed in, with setup's ValidLaws. Assumes nothing.
use Rattle.bits.specs.declared.refusal.Refusal.{Refusal}
use Rattle.bits.specs.declared.Cursor.{Cursor}
use Rattle.std.specs.Prelude.{Result, Ok, Err}
use Prim.Native.Nat.{ℕ}
use mathlib.Core.Bool.{Bool, true, false}
use mathlib.Core.List.{List}
use mathlib.Core.Path.{◌≡◌, refl, ap}
use Rattle.reading.specs.Outcome.{refusal, ok, then, need}
use Rattle.bits.specs.Reasons.{number}
use Rattle.limits.specs.declared.Limits.{Limits}
use Rattle.identification.specs.declared.Identity.{Identity}
use Rattle.identification.specs.Sound.{is_sound}
use Rattle.setup.specs.Reading.{setup}
use Rattle.setup.specs.Layout.{Tables, has_room, cleared}
use Rattle.setup.specs.Call.{setup_of, left, answered, setup_call}
use Rattle.setup.specs.Inner.Parts.{ReadInto, WrittenOut, packet_part, checked_part}
use Rattle.setup.proofs.ReadIntoLaws.{read_into_bad, read_into_ok}
use Rattle.setup.proofs.Whole.{setup_whole}
use Rattle.setup.specs.Handed.{SameLengths}
use Rattle.setup_buffers.specs.Inner.Settled.{settled}

pub same_cleared : {t u : Tables} → SameLengths t u → cleared t ≡ cleared u
unfolding cleared
same_cleared e = rw (e.counts, e.books, e.lengths, e.codewords, e.multiplicands, e.floors, e.residues, e.plans, e.mappings, e.modes) refl

-- what a call comes to
call_whole : (limits : Limits) (i : Identity) (s : List ℕ) (t : Tables) → setup_of limits i s t ≡ then (checked_part limits i s t) (λ x. ok x.0)
unfolding setup_of checked_part
call_whole limits i s t = go (is_sound limits.channels i) (has_room limits t)
  where
    go : (x y : Bool) → need x (refusal 18 0) (need y (refusal 17 0) (setup limits i.channels s))
        ≡ then (need x (refusal 18 0) (need y (refusal 17 0) (packet_part limits i.channels s))) (λ x. ok x.0)
    go false y = refl
    go true false = refl
    go true true = setup_whole limits i.channels s

-- what an answer leaves, once the packet was judged and read
module _ (limits : Limits) (i : Identity) (s : List ℕ) (t : Tables) {v : Tables} {answer : Result Cursor Refusal} (l : ReadInto (checked_part limits i s t) answer (WrittenOut t v)) where
  pub settled_read : {c : Cursor} → answer ≡ Ok c → settled (Ok c) v ≡ setup_call limits i s t
  unfolding settled setup_call answered
  settled_read q = let a = read_into_ok l q in rw (call_whole limits i s t, a.1) (ap (left 0) a.2)

  pub settled_refused : {z : Refusal} {n : ℕ} → answer ≡ Err z → n ≡ number z.reason → SameLengths v t → settled (Err n) v ≡ setup_call limits i s t
  unfolding settled setup_call answered
  settled_refused q e same = rw (call_whole limits i s t, read_into_bad l q) (λ j. left (e j) (same_cleared same j))
