-- The block sizes of a sound identity are at most 8,192. Assumes nothing.
use Prim.Native.Nat.{ℕ, ◌≤◌}
use native.Mathlib.Omega.{arith}
use borrow.Author.Tests.{eqb-true}
use mathlib.Core.Bool.{Bool, true, false, cond, ◌||◌}
use mathlib.Core.List.{List, [], ◌∷◌}
use mathlib.Core.Path.{◌≡◌, refl}
use lib.Dec.{eqb}
use Rattle.reading.specs.Lists.{listed}
use Rattle.identification.specs.declared.Identity.{Identity}
use Rattle.identification.specs.Sound.{allowed_sizes, Sound}
use Rattle.audio.specs.Head.{block_size}

-- a size that is allowed
one_of : (n x : ℕ) (l : List ℕ) (most : ℕ) → x ≤ most → (listed n l ≡ true → n ≤ most) → listed n (x ∷ l) ≡ true → n ≤ most
unfolding listed
one_of n x l most h g e = go (eqb n x) refl e
  where
    go : (t : Bool) → eqb n x ≡ t → (t || listed n l) ≡ true → n ≤ most
    go true q e = let same = eqb-true n x q in omega arith
    go false q e = g e

none_of : (n most : ℕ) → listed n [] ≡ true → n ≤ most
unfolding listed
none_of n most e = absurd (cc)

size_high : (n : ℕ) → listed n allowed_sizes ≡ true → n ≤ 8192
size_high n =
    one_of n 64 _ 8192 (omega arith) (one_of n 128 _ 8192 (omega arith) (one_of n 256 _ 8192 (omega arith) (one_of n 512 _ 8192 (omega arith)
    (one_of n 1024 _ 8192 (omega arith) (one_of n 2048 _ 8192 (omega arith) (one_of n 4096 _ 8192 (omega arith) (one_of n 8192 [] 8192 (omega arith) (none_of n 8192))))))))

pub block_high : {most : ℕ} (i : Identity) → Sound most i → (blockflag : ℕ) → block_size i blockflag ≤ 8192
unfolding block_size
block_high i s blockflag = go (eqb blockflag 0)
  where
    go : (t : Bool) → cond t i.blocksize0 i.blocksize1 ≤ 8192
    go true = size_high i.blocksize0 s.first_size
    go false = size_high i.blocksize1 s.second_size
