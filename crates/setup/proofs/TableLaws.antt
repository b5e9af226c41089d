-- Laws of the ten tables as the code asks them: room, clearing, and what both say of each table. Assumes nothing.
use Prim.Native.Nat.{ℕ, ◌≤◌}
use borrow.Author.Tests.{leb-true}
use mathlib.Core.Bool.{true}
use mathlib.Core.List.{List}
use mathlib.Core.Path.{◌≡◌}
use lib.ListN.{length, replicate}
use Rattle.reading.proofs.Least.{and_split}
use Rattle.limits.specs.declared.Limits.{Limits}
use Rattle.book.specs.Layout.{books_need}
use Rattle.setup.specs.Layout.{Tables, has_room, cleared, tables}

-- each table cleared is all of them cleared
module _ (c b l w m f r p a o : List ℕ) {c' b' l' w' m' f' r' p' a' o' : List ℕ} where
  pub all_cleared : c' ≡ replicate (length c) 0 → b' ≡ replicate (length b) 0 → l' ≡ replicate (length l) 0 → w' ≡ replicate (length w) 0 → m' ≡ replicate (length m) 0 → f' ≡ replicate (length f) 0 → r' ≡ replicate (length r) 0 → p' ≡ replicate (length p) 0 → a' ≡ replicate (length a) 0 → o' ≡ replicate (length o) 0
      → tables c' b' l' w' m' f' r' p' a' o' ≡ cleared (tables c b l w m f r p a o)
  unfolding cleared
  all_cleared e0 e1 e2 e3 e4 e5 e6 e7 e8 e9 = λ j. tables (e0 j) (e1 j) (e2 j) (e3 j) (e4 j) (e5 j) (e6 j) (e7 j) (e8 j) (e9 j)

-- what room says of each table
pub record RoomParts (limits : Limits) (t : Tables) : Type 0 where
  pub counts : 5 ≤ length t.counts
  pub books : books_need ≤ length t.books
  pub lengths : limits.entries ≤ length t.lengths
  pub codewords : limits.entries ≤ length t.codewords
  pub multiplicands : limits.multiplicands ≤ length t.multiplicands
  pub floors : 17728 ≤ length t.floors
  pub residues : 384 ≤ length t.residues
  pub plans : 32768 ≤ length t.plans
  pub mappings : 51456 ≤ length t.mappings
  pub modes : 128 ≤ length t.modes

pub room_parts : (limits : Limits) (t : Tables) → has_room limits t ≡ true → RoomParts limits t
unfolding has_room
room_parts limits t e =
    let a0 = and_split _ _ e in
    let a1 = and_split _ _ a0.1 in
    let a2 = and_split _ _ a1.1 in
    let a3 = and_split _ _ a2.1 in
    let a4 = and_split _ _ a3.1 in
    let a5 = and_split _ _ a4.1 in
    let a6 = and_split _ _ a5.1 in
    let a7 = and_split _ _ a6.1 in
    let a8 = and_split _ _ a7.1 in
    record {
      counts = leb-true _ _ a0.0;
      books = leb-true _ _ a1.0;
      lengths = leb-true _ _ a2.0;
      codewords = leb-true _ _ a3.0;
      multiplicands = leb-true _ _ a4.0;
      floors = leb-true _ _ a5.0;
      residues = leb-true _ _ a6.0;
      plans = leb-true _ _ a7.0;
      mappings = leb-true _ _ a8.0;
      modes = leb-true _ _ a8.1;
    }
