-- An accepted identity is sound, and the test of soundness is exact. Assumes nothing.
use Prim.Native.Nat.{ℕ, zero, suc, ◌+◌, ◌-◌, ◌^◌, ◌≤◌}
use native.Mathlib.Omega.{arith}
use borrow.Author.Tests.{le-leb, leb-true, leb-false}
use mathlib.Core.Bool.{Bool, true, false, not, ◌&&◌}
use mathlib.Core.List.{List}
use mathlib.Core.Logic.{◌↔◌}
use mathlib.Core.Path.{◌≡◌, refl, sym, ap, subst}
use lib.Dec.{eqb, leb}
use lib.IntN.{ℤ}
use Rattle.reading.specs.Outcome.{Outcome, ok, bad}
use Rattle.reading.specs.Reader.{judged, mapped}
use Rattle.reading.proofs.Outcomes.{then_ok, judged-ok, ok_is}
use Rattle.bits.specs.Field.{field}
use Rattle.header.specs.Header.{common_header, framing}
use Rattle.identification.specs.Identification.{stream, bitrates, block_size, block_sizes, identification}
use Rattle.reading.specs.Lists.{listed}
use Rattle.reading.proofs.Basics.{tested_above_zero}
use Rattle.reading.proofs.Least.{and_split, true_not_false}
use Rattle.identification.specs.Sound.{allowed_sizes, Sound, is_sound}
use Rattle.identification.specs.declared.Identity.{Identity}
use Rattle.identification.specs.declared.fields.Stream.{Stream}
use Rattle.identification.specs.declared.fields.BlockSizes.{BlockSizes}
use Rattle.identification.proofs.SizeLaws.{small, large}

-- the powers of two from 64 to 8192 are the allowed sizes
power : (j : ℕ) → j ≤ 7 → listed (2 ^ (6 + j)) allowed_sizes ≡ true
unfolding listed
power zero h = refl
power (suc zero) h = refl
power (suc (suc zero)) h = refl
power (suc (suc (suc zero))) h = refl
power (suc (suc (suc (suc zero)))) h = refl
power (suc (suc (suc (suc (suc zero))))) h = refl
power (suc (suc (suc (suc (suc (suc zero)))))) h = refl
power (suc (suc (suc (suc (suc (suc (suc zero))))))) h = refl
power (suc (suc (suc (suc (suc (suc (suc (suc j)))))))) h = absurd (omega arith)

allowed : (e : ℕ) → leb 64 (2 ^ e) && leb (2 ^ e) 8192 ≡ true → listed (2 ^ e) allowed_sizes ≡ true
allowed e t = go (leb 6 e) refl (leb e 13) refl
  where
    go : (a : Bool) → leb 6 e ≡ a → (b : Bool) → leb e 13 ≡ b → listed (2 ^ e) allowed_sizes ≡ true
    go false p b q = absurd (true_not_false _ t (small e (leb-false 6 e p)))
    go true p false q = absurd (true_not_false _ t (large e (leb-false e 13 q)))
    go true p true q =
        let l = leb-true 6 e p in
        let m = leb-true e 13 q in
        let x : e ≡ 6 + (e - 6) = omega arith in
        subst (λ (n : ℕ). listed (2 ^ n) allowed_sizes ≡ true) (sym x) (power (e - 6) (omega arith))

size_allowed : (s : List ℕ) (k : ℕ) {x : ℕ × ℕ} → block_size s k ≡ ok x → listed x.0 allowed_sizes ≡ true
unfolding block_size mapped
size_allowed s k {x} e =
    let j = judged-ok (λ v. leb 64 v && leb v 8192) 4 (λ s k. mapped (λ n. 2 ^ n) (field 4 s k)) s k e in
    go (field 4 s k) j.0 j.1
  where
    go : (o : Outcome (ℕ × ℕ)) → mapped (λ n. 2 ^ n) o ≡ ok x → leb 64 x.0 && leb x.0 8192 ≡ true → listed x.0 allowed_sizes ≡ true
    go (ok y) p t =
        let q : ◌≡◌ {A = ℕ × ℕ} (2 ^ y.0, y.1) x = cc in
        let v : 2 ^ y.0 ≡ x.0 = ap (λ (z : ℕ × ℕ). z.0) q in
        rw v at (allowed y.0 (rw (← v) at t))
    go (bad z) p t = let c : ◌≡◌ {A = ℕ} 0 1 = cc in absurd (omega arith)

-- what a group of fields that was accepted says
record StreamFits (most : ℕ) (a : Stream) : Type 0 where
  pub some_channel : 1 ≤ a.channels
  pub few_channels : a.channels ≤ most
  pub some_rate : 1 ≤ a.rate

stream_fits : (most : ℕ) (s : List ℕ) (k : ℕ) {x : Stream × ℕ} → stream most s k ≡ ok x → StreamFits most x.0
unfolding stream
stream_fits most s k {x} e =
    let a = then_ok (judged (λ v. eqb v 0) 3 (field 32) s k) _ e in
    let b = then_ok (judged (λ v. leb v most) 14 (judged (λ v. not (eqb v 0)) 4 (field 8)) s a.0.1) _ a.2 in
    let c = then_ok (judged (λ v. not (eqb v 0)) 4 (field 32) s b.0.1) _ b.2 in
    let few = judged-ok (λ v. leb v most) 14 (judged (λ v. not (eqb v 0)) 4 (field 8)) s a.0.1 b.1 in
    let some = judged-ok (λ v. not (eqb v 0)) 4 (field 8) s a.0.1 few.0 in
    let rate = judged-ok (λ v. not (eqb v 0)) 4 (field 32) s b.0.1 c.1 in
    let same : ◌≡◌ {A = Stream × ℕ} (record { channels = b.0.0; rate = c.0.0 }, c.0.1) x = ok_is c.2 in
    subst (λ (y : Stream × ℕ). StreamFits most y.0) same
    (record { some_channel = tested_above_zero _ some.1; few_channels = leb-true _ _ few.1; some_rate = tested_above_zero _ rate.1 })

record SizesFit (a : BlockSizes) : Type 0 where
  pub first_size : listed a.first allowed_sizes ≡ true
  pub second_size : listed a.second allowed_sizes ≡ true
  pub in_order : a.first ≤ a.second

sizes_fit : (s : List ℕ) (k : ℕ) {x : BlockSizes × ℕ} → block_sizes s k ≡ ok x → SizesFit x.0
unfolding block_sizes
sizes_fit s k {x} e =
    let a = then_ok (block_size s k) _ e in
    let b = then_ok (judged (λ v. leb a.0.0 v) 4 block_size s a.0.1) _ a.2 in
    let order = judged-ok (λ v. leb a.0.0 v) 4 block_size s a.0.1 b.1 in
    let same : ◌≡◌ {A = BlockSizes × ℕ} (record { first = a.0.0; second = b.0.0 }, b.0.1) x = ok_is b.2 in
    subst (λ (y : BlockSizes × ℕ). SizesFit y.0) same
    (record { first_size = size_allowed _ _ a.1; second_size = size_allowed _ _ order.0; in_order = leb-true _ _ order.1 })

pub accepted_parts : (most : ℕ) (s : List ℕ) (k n : ℕ) {x : Stream × ℕ} {y : BlockSizes × ℕ} → stream most s k ≡ ok x → block_sizes s n ≡ ok y → (u v w : ℤ)
    → Sound most (record {
      channels = x.0.channels;
      rate = x.0.rate;
      bitrate_maximum = u;
      bitrate_nominal = v;
      bitrate_minimum = w;
      blocksize0 = y.0.first;
      blocksize1 = y.0.second;
    })
accepted_parts most s k n p q u v w =
    let f = stream_fits _ _ _ p in
    let g = sizes_fit _ _ q in
    record {
      some_channel = f.some_channel;
      few_channels = f.few_channels;
      some_rate = f.some_rate;
      first_size = g.first_size;
      second_size = g.second_size;
      in_order = g.in_order;
    }

-- AN ACCEPTED IDENTITY IS SOUND
pub accepted_sound : (most : ℕ) (s : List ℕ) {i : Identity} → identification most s ≡ ok i → Sound most i
unfolding identification
accepted_sound most s {i} e =
    let h = then_ok (common_header 1 s) _ e in
    let a = then_ok (stream most s h.0) _ h.2 in
    let b = then_ok (bitrates s a.0.1) _ a.2 in
    let c = then_ok (block_sizes s b.0.1) _ b.2 in
    let d = then_ok (framing s c.0.1) _ c.2 in
    subst (Sound most) (ok_is d.2) (accepted_parts most s _ _ a.1 c.1 _ _ _)

-- soundness and its test
pub sound_test_lem : (most : ℕ) (i : Identity) → (is_sound most i ≡ true) ↔ Sound most i
unfolding is_sound
sound_test_lem most i = (
  (λ e.
      let a = and_split _ _ e in
      let b = and_split _ _ a.1 in
      let c = and_split _ _ b.1 in
      let d = and_split _ _ c.1 in
      let f = and_split _ _ d.1 in
      record { some_channel = leb-true _ _ a.0; few_channels = leb-true _ _ b.0; some_rate = leb-true _ _ c.0; first_size = d.0; second_size = f.0; in_order = leb-true _ _ f.1 }),
  (λ s. rw (le-leb _ _ s.some_channel, le-leb _ _ s.few_channels, le-leb _ _ s.some_rate, s.first_size, s.second_size, le-leb _ _ s.in_order) refl),
)
