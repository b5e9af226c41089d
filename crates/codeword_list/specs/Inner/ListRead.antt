-- What the program's answers stand for where codewords are read into the lent list. Assumes nothing: these are definitions.
use Rattle.std.specs.Prelude.{Result, Ok, Err, ℕ, ◌+◌, cond, List, map, ◌≡◌, leb, length}
use Rattle.std.proofs.Math.Option.{Option, none, some}
use Rattle.std.proofs.lemmas.List.Edits.{sets}
use Rattle.bits.specs.Inner.Cursors.{position}
use Rattle.requests.specs.Run.{Run}
use Rattle.residue_requests.specs.Listed.{listed}
use Rattle.codeword_list.specs.declared.Progress.{Progress}
use Rattle.codeword_list.specs.declared.Stop.{Stop}
use Rattle.codeword_list.specs.declared.Stop.TheVariants.{Cut, Full}

-- how reading into a list ended: with all that was asked or a cut, each with the position behind the last whole codeword and the number of codewords in the
-- list; or the list was too short
pub data Ending : Type 0 where
  all : ℕ → ℕ → Ending
  cut : ℕ → ℕ → Ending
  full : Ending

unfoldable pub ending_of : Result Progress Stop → Ending
ending_of (Ok p) = all (position p.at) p.count
ending_of (Err (Cut p)) = cut (position p.at) p.count
ending_of (Err Full) = full

module _ {A : Type 0} where
  abbrev pub ending_by : Option A → ℕ → ℕ → Ending
  ending_by (some a) at n = all at n
  ending_by none at n = cut at n

  -- of a run whose items are put into a list of so many places behind `count` codewords
  unfoldable pub ending_in : ℕ → ℕ → Run A → Ending
  ending_in room count r = cond (leb (count + length r.items) room) (ending_by r.value r.position (count + length r.items)) full

  -- a function that answers x and leaves `exit` has read what the run r says into the list. What lies past the list's end is not written
  pub record ReadIntoList (r : Run A) (entry : List ℕ) (count : ℕ) (x : Result Progress Stop) (exit : List ℕ) : Type 0 where
    pub ending : ending_of x ≡ ending_in (length entry) count r
    pub list : exit ≡ sets entry count (map listed r.items)
