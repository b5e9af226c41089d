-- A floor of type 1 as content, its partition classes and its X list: every number that the rules name, without how it was coded (004, "header decode"; 01,
-- "Setup order"). A place for a codebook holds the book's number plus one, or 0 for none.
use Rattle.std.specs.Prelude.{ℕ, suc, ◌+◌, max, ◌^◌, List, [], ◌∷◌, get_or}

-- a partition class (004, steps 7 to 12)
pub record Class : Type 0 where
  -- how many values a partition of this class has, 1 to 8
  pub dimensions : ℕ
  -- the base 2 logarithm of the number of its subclass books
  pub subclasses : ℕ
  -- the book that chooses among them; none where there is but one
  pub master : ℕ
  pub books : List ℕ

-- what stands for a class past the last
abbrev pub no_class : Class
no_class = record { dimensions = 0; subclasses = 0; master = 0; books = [] }

pub record Floor : Type 0 where
  -- the class of each partition (004, step 4)
  pub partitions : List ℕ
  pub classes : List Class
  pub multiplier : ℕ
  pub rangebits : ℕ
  -- the X values that are read; 0 and 2 ^ rangebits stand before them (004, steps 15 to 22)
  pub xs : List ℕ

-- how many classes there are: one more than the greatest that a partition names (004, steps 5 and 6)
unfoldable pub class_count : List ℕ → ℕ
class_count [] = 0
class_count (c ∷ cs) = max (suc c) (class_count cs)

-- the dimensions of class number c
abbrev pub dimensions_of : List ℕ → ℕ → ℕ
dimensions_of dims c = get_or dims c 0

-- how many X values are read: the dimensions of each partition's class (004, steps 18 to 22)
unfoldable pub value_count : List ℕ → List ℕ → ℕ
value_count dims [] = 0
value_count dims (c ∷ cs) = dimensions_of dims c + value_count dims cs

-- what stands for a floor past the last
abbrev pub no_floor : Floor
no_floor = record { partitions = []; classes = []; multiplier = 0; rangebits = 0; xs = [] }

-- THE WHOLE X LIST: 0 and 2 ^ rangebits stand before the X values that are read (004, steps 15 to 22)
abbrev pub x_list : ℕ → List ℕ → List ℕ
x_list rangebits xs = 0 ∷ 2 ^ rangebits ∷ xs

-- how many places it has in a buffer and in a floor's row: two and 63
abbrev pub x_list_room : ℕ
x_list_room = 65
