-- The parts put together, as the code asks it. Assumes nothing.
use Prim.Native.Nat.{ℕ, ◌≤◌}
use native.Mathlib.Omega.{arith}
use mathlib.Core.Bool.{Bool, true, false, not}
use mathlib.Core.List.{List}
use mathlib.Core.Logic.{◌↔◌}
use mathlib.Core.Path.{◌≡◌, sym, ◌∙◌}
use lib.ListN.{get_or}
use Rattle.reading.proofs.Encodes.{iff_false, refuted, shown}
use Rattle.limits.specs.declared.Limits.{Limits}
use Rattle.book_tables.specs.Inner.Recognised.{Countable, BooksRecognised}
use Rattle.floor_tables.specs.Inner.Recognised.{FloorsRecognised}
use Rattle.residue.specs.Inner.FromTable.{books_of}
use Rattle.residue_tables.specs.Inner.Recognised.{ResiduesRecognised}
use Rattle.mapping_tables.specs.Inner.Recognised.{MappingsRecognised}
use Rattle.mode_tables.specs.Inner.Recognised.{ModesRecognised}
use Rattle.setup.specs.Layout.{has_room, tables}
use Rattle.setup.specs.Inner.Parts.{Small}
use Rattle.setup.specs.Sound.{Sound}
use Rattle.setup_tables.specs.Inner.Recognised.{CountsRecognised, known_by, FrontRecognised, BackRecognised}
use Rattle.setup_tables.proofs.Theorem.{parts_sound, sound_parts}

-- what a part asks for, of a count that was read from its place
module _ (cs : List ℕ) (recognise : CountsRecognised cs) where
  pub few_books : {n : ℕ} → n ≡ get_or cs 0 0 → n ≤ 256
  few_books e = let h = recognise.books.high in omega arith

  pub few_floors : {n : ℕ} → n ≡ get_or cs 1 0 → n ≤ 64
  few_floors e = let h = recognise.floors.high in omega arith

  pub few_residues : {n : ℕ} → n ≡ get_or cs 2 0 → n ≤ 64
  few_residues e = let h = recognise.residues.high in omega arith

  pub few_mappings : {n : ℕ} → n ≡ get_or cs 3 0 → n ≤ 64
  few_mappings e = let h = recognise.mappings.high in omega arith

  pub few_modes : {n : ℕ} → n ≡ get_or cs 4 0 → n ≤ 64
  few_modes e = let h = recognise.modes.high in omega arith

  pub books_countable : (limits : Limits) → Small limits → {n : ℕ} → n ≡ get_or cs 0 0 → Countable limits n
  books_countable limits small e = let h = recognise.books.high in record { few_books = omega arith; few_entries = small.few_entries; few_values = small.few_values }

-- what a part says with the counts that were read, it says with those of the table
module _ {r : Bool} where
  pub books_said : (limits : Limits) (bs ls ws vs : List ℕ) {k k' : ℕ} → k' ≡ k → (r ≡ true) ↔ BooksRecognised limits k' bs ls ws vs → (r ≡ true) ↔ BooksRecognised limits k bs ls ws vs
  books_said limits bs ls ws vs e p = rw e at p

  pub floors_said : (fs : List ℕ) {k k' n n' : ℕ} → k' ≡ k → n' ≡ n → (r ≡ true) ↔ FloorsRecognised k' n' fs → (r ≡ true) ↔ FloorsRecognised k n fs
  floors_said fs d e p = rw (d, e) at p

  pub residues_said : (d e l : ℕ → ℕ) (rs ps : List ℕ) {k k' n n' : ℕ} → k' ≡ k → n' ≡ n
      → (r ≡ true) ↔ ResiduesRecognised (record { count = k'; dimensions = d; entries = e; lookup = l }) n' rs ps
      → (r ≡ true) ↔ ResiduesRecognised (record { count = k; dimensions = d; entries = e; lookup = l }) n rs ps
  residues_said d e l rs ps f g p = rw (f, g) at p

  pub mappings_said : (channels : ℕ) (ms : List ℕ) {f f' q q' n n' : ℕ} → f' ≡ f → q' ≡ q → n' ≡ n
      → (r ≡ true) ↔ MappingsRecognised (record { channels = channels; floors = f'; residues = q' }) n' ms
      → (r ≡ true) ↔ MappingsRecognised (record { channels = channels; floors = f; residues = q }) n ms
  mappings_said channels ms a b d p = rw (a, b, d) at p

  pub modes_said : (os : List ℕ) {k k' n n' : ℕ} → k' ≡ k → n' ≡ n → (r ≡ true) ↔ ModesRecognised k' n' os → (r ≡ true) ↔ ModesRecognised k n os
  modes_said os d e p = rw (d, e) at p

-- books and floors
module _ (limits : Limits) (cs bs ls ws vs fs : List ℕ) {b₁ : Bool} (p₁ : (b₁ ≡ true) ↔ BooksRecognised limits (get_or cs 0 0) bs ls ws vs) where
  pub front_books : not b₁ ≡ true → (false ≡ true) ↔ FrontRecognised limits cs bs ls ws vs fs
  front_books n = iff_false (λ s. refuted p₁ n s.book_tables)

  pub front_end : not b₁ ≡ false → {b₂ : Bool} → (b₂ ≡ true) ↔ FloorsRecognised (get_or cs 0 0) (get_or cs 1 0) fs → (b₂ ≡ true) ↔ FrontRecognised limits cs bs ls ws vs fs
  front_end y₁ p₂ = ((λ t. record { book_tables = shown p₁ y₁; floor_table = p₂.0 t }), (λ s. p₂.1 s.floor_table))

-- residues, mappings, modes
module _ (channels : ℕ) (cs bs rs ps ms os : List ℕ) where
  pub back_residues : {b : Bool} → (b ≡ true) ↔ ResiduesRecognised (books_of (get_or cs 0 0) bs) (get_or cs 2 0) rs ps → not b ≡ true
      → (false ≡ true) ↔ BackRecognised channels cs bs rs ps ms os
  back_residues p n = iff_false (λ s. refuted p n s.residue_tables)

  pub back_mappings : {b : Bool} → (b ≡ true) ↔ MappingsRecognised (known_by channels cs) (get_or cs 3 0) ms → not b ≡ true
      → (false ≡ true) ↔ BackRecognised channels cs bs rs ps ms os
  back_mappings p n = iff_false (λ s. refuted p n s.mapping_table)

  pub back_end : {b₁ b₂ b₃ : Bool} → (b₁ ≡ true) ↔ ResiduesRecognised (books_of (get_or cs 0 0) bs) (get_or cs 2 0) rs ps → not b₁ ≡ false
      → (b₂ ≡ true) ↔ MappingsRecognised (known_by channels cs) (get_or cs 3 0) ms → not b₂ ≡ false
      → (b₃ ≡ true) ↔ ModesRecognised (get_or cs 3 0) (get_or cs 4 0) os → (b₃ ≡ true) ↔ BackRecognised channels cs bs rs ps ms os
  back_end p₁ y₁ p₂ y₂ p₃ = ((λ t. record { residue_tables = shown p₁ y₁; mapping_table = shown p₂ y₂; mode_table = p₃.0 t }), (λ s. p₃.1 s.mode_table))

-- the counts behind their test
pub counts_known : (cs : List ℕ) {b : Bool} → (b ≡ true) ↔ CountsRecognised cs → not b ≡ false → CountsRecognised cs
counts_known cs p y = shown p y

-- all ten tables
module _ (limits : Limits) (channels : ℕ) (cs bs ls ws vs fs rs ps ms os : List ℕ) where
  room_said : {b : Bool} → b ≡ has_room limits (tables cs bs ls ws vs fs rs ps ms os) → (b ≡ true) ↔ (has_room limits (tables cs bs ls ws vs fs rs ps ms os) ≡ true)
  room_said e = ((λ t. sym e ∙ t), (λ t. e ∙ t))

  pub sound_room : {b : Bool} → b ≡ has_room limits (tables cs bs ls ws vs fs rs ps ms os) → not b ≡ true
      → (false ≡ true) ↔ Sound limits channels (tables cs bs ls ws vs fs rs ps ms os)
  sound_room e n = iff_false (λ s. refuted (room_said e) n s.room)

  pub sound_counts : {b : Bool} → (b ≡ true) ↔ CountsRecognised cs → not b ≡ true → (false ≡ true) ↔ Sound limits channels (tables cs bs ls ws vs fs rs ps ms os)
  sound_counts p n = iff_false (λ s. refuted p n (sound_parts limits channels _ s).numbers)

  pub sound_front : {b : Bool} → (b ≡ true) ↔ FrontRecognised limits cs bs ls ws vs fs → not b ≡ true
      → (false ≡ true) ↔ Sound limits channels (tables cs bs ls ws vs fs rs ps ms os)
  sound_front p n = iff_false (λ s. refuted p n (sound_parts limits channels _ s).front)

  pub sound_end : channels ≤ 255 → {b₀ b₁ b₂ b₃ : Bool} → b₀ ≡ has_room limits (tables cs bs ls ws vs fs rs ps ms os) → not b₀ ≡ false
      → (b₁ ≡ true) ↔ CountsRecognised cs → not b₁ ≡ false → (b₂ ≡ true) ↔ FrontRecognised limits cs bs ls ws vs fs → not b₂ ≡ false
      → (b₃ ≡ true) ↔ BackRecognised channels cs bs rs ps ms os → (b₃ ≡ true) ↔ Sound limits channels (tables cs bs ls ws vs fs rs ps ms os)
  sound_end few e₀ y₀ p₁ y₁ p₂ y₂ p₃ = (
    (λ t. parts_sound limits channels _ few (record { room = shown (room_said e₀) y₀; numbers = shown p₁ y₁; front = shown p₂ y₂; back = p₃.0 t })),
    (λ s. p₃.1 (sound_parts limits channels _ s).back),
  )
