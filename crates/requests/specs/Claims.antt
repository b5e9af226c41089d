-- What runs are known to be, and the cut theorem first of all (01: "An accepted packet cut after any byte is refusal 1, or it stands: .. its codewords begin the whole packet's list").
use Rattle.std.specs.Prelude.{ℕ, ◌+◌, ◌*◌, ◌≤◌, ◌<◌, List, ◌++◌, map, ◌⊎◌, ◌≡◌, length, take}
use Rattle.std.proofs.Math.Option.{none, some}
use Rattle.reading.specs.Lists.{sum}
use Rattle.requests.specs.Requests.{Requests, each}
use Rattle.requests.specs.Run.{read, bits_of, Item, Run, run}
use Rattle.requests.specs.Values.{replay, whole_values}

module _ {A : Type 0} where
  -- the run was ended by a cut, and its items and its position begin those of the other
  pub record Prefix (of_cut of_whole : Run A) : Type 0 where
    pub cut : of_cut.value ≡ none
    pub rest : List Item
    pub items : of_whole.items ≡ of_cut.items ++ rest
    pub position : of_cut.position ≤ of_whole.position

  -- what a cut packet gives beside what the whole packet gives
  unfoldable pub SameOrPrefix : Run A → Run A → Type 0
  SameOrPrefix of_cut of_whole = (of_cut ≡ of_whole) ⊎ Prefix of_cut of_whole

-- THE CUT THEOREM: on a packet's first m bytes a run is the same, or a cut ended it and it begins the run on the whole packet. It holds for every tree
pub record CutTheorem {A : Type 0} (lengths_of : ℕ → List ℕ) (x : Requests A) : Type 0 where
  pub prefix : (s : List ℕ) (m k : ℕ) → SameOrPrefix (run (read lengths_of) x (take m s) k) (run (read lengths_of) x s k)

-- how many bits carry the items
unfoldable pub bit_count : (ℕ → List ℕ) → List Item → ℕ
bit_count lengths_of l = sum (map (λ i. bits_of lengths_of i.request i.answer) l)

-- the position is just behind the items' bits, and never passes the packet's end. It holds for every tree
pub record Positions {A : Type 0} (lengths_of : ℕ → List ℕ) (x : Requests A) : Type 0 where
  pub counted : (s : List ℕ) (k : ℕ) → (run (read lengths_of) x s k).position ≡ k + bit_count lengths_of (run (read lengths_of) x s k).items
  pub within : (s : List ℕ) (k : ℕ) → k ≤ 8 * length s → (run (read lengths_of) x s k).position ≤ 8 * length s

-- a run's value is a function of its answers. It holds for every tree
pub record Replayed {A : Type 0} (lengths_of : ℕ → List ℕ) (x : Requests A) : Type 0 where
  pub value : (s : List ℕ) (k : ℕ) → (run (read lengths_of) x s k).value ≡ replay x (map (λ i. i.answer) (run (read lengths_of) x s k).items)

-- trees that are run one after the other. It holds for all
pub record Sequence {A B : Type 0} (lengths_of : ℕ → List ℕ) (g : B → Requests A) (bs : List B) : Type 0 where
  -- the values that are whole in the packet's first m bytes begin those of the whole packet (01: "floors read before the cut are the same")
  pub prefix : (s : List ℕ) (m k : ℕ) → (rest : List A) × (whole_values (read lengths_of) g bs s k ≡ whole_values (read lengths_of) g bs (take m s) k ++ rest)
  -- they are all there where no cut ended the run, and not all where one did
  pub whole : (s : List ℕ) (k : ℕ) (l : List A) → (run (read lengths_of) (each g bs) s k).value ≡ some l → whole_values (read lengths_of) g bs s k ≡ l
  pub cut : (s : List ℕ) (k : ℕ) → (run (read lengths_of) (each g bs) s k).value ≡ none → length (whole_values (read lengths_of) g bs s k) < length bs
