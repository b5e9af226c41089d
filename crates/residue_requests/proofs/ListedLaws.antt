-- The codewords among the items of a run, of lists one behind the other. Assumes nothing.
use mathlib.Core.Bool.{Bool, true, false, cond}
use mathlib.Core.List.{List, [], ◌∷◌, ◌++◌}
use mathlib.Core.Path.{◌≡◌, refl}
use Rattle.requests.specs.Run.{Item}
use Rattle.residue_requests.specs.Listed.{is_residue, residue_words}

pub words_append : (l m : List Item) → residue_words (l ++ m) ≡ residue_words l ++ residue_words m
unfolding residue_words
words_append [] m = refl
words_append (x ∷ l) m = rw (words_append l m) (go (is_residue x.request))
  where
    go : (b : Bool) → cond b (x ∷ (residue_words l ++ residue_words m)) (residue_words l ++ residue_words m)
        ≡ cond b (x ∷ residue_words l) (residue_words l) ++ residue_words m
    go true = refl
    go false = refl
