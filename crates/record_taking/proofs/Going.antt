-- The invariant of taking one record after another: what was taken so far is one taking, and another record may be taken. Assumes nothing.
use Prim.Native.Nat.{ℕ}
use mathlib.Core.List.{List}
use mathlib.Core.Path.{◌∙◌}
use Rattle.setup.specs.Layout.{Tables}
use Rattle.setup.specs.declared.lent.LentTablesMut.{LentTablesMut}
use Rattle.setup.specs.Handed.{held_mut, SameLengths, StaysLent}
use Rattle.record_step.specs.Inner.Kept.{KeptTables, KeptOutputs}
use Rattle.record_progress.specs.declared.Progress.{Progress}
use Rattle.record_progress.specs.Inner.Taken.{Room, Taken}

pub record Going (p : Progress) (t : LentTablesMut) (input lines : List ℕ) (p' : Progress) (t' : LentTablesMut) (curves' words' lines' : List ℕ) : Type 0 where
  pub taken : Taken p (held_mut t) input lines p' (held_mut t') lines'
  pub kept : KeptTables p'.kept (held_mut t') × KeptOutputs p'.kept curves' words'
  pub room : Room p' input lines'
  pub lent : StaysLent t t'

-- the same slices lie there after two calls, as long as before
long_then : {t u v : Tables} → SameLengths t u → SameLengths u v → SameLengths t v
long_then x y =
    record {
      counts = x.counts ∙ y.counts;
      books = x.books ∙ y.books;
      lengths = x.lengths ∙ y.lengths;
      codewords = x.codewords ∙ y.codewords;
      multiplicands = x.multiplicands ∙ y.multiplicands;
      floors = x.floors ∙ y.floors;
      residues = x.residues ∙ y.residues;
      plans = x.plans ∙ y.plans;
      mappings = x.mappings ∙ y.mappings;
      modes = x.modes ∙ y.modes;
    }

pub stays_then : {a b c : LentTablesMut} → StaysLent a b → StaysLent b c → StaysLent a c
stays_then x y =
    record {
      counts = y.counts ∙ x.counts;
      books = y.books ∙ x.books;
      lengths = y.lengths ∙ x.lengths;
      codewords = y.codewords ∙ x.codewords;
      multiplicands = y.multiplicands ∙ x.multiplicands;
      floors = y.floors ∙ x.floors;
      residues = y.residues ∙ x.residues;
      plans = y.plans ∙ x.plans;
      mappings = y.mappings ∙ x.mappings;
      modes = y.modes ∙ x.modes;
      long = long_then y.long x.long;
    }
