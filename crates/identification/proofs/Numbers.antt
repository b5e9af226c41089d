-- No refusal of an identification packet has the number 0. Assumes nothing.
use Prim.Native.Nat.{ℕ, ◌^◌}
use native.Mathlib.Omega.{arith}
use mathlib.Core.Bool.{not, ◌&&◌}
use mathlib.Core.List.{List}
use lib.Dec.{eqb, leb}
use Rattle.reading.specs.Reader.{judged, mapped}
use Rattle.reading.proofs.Outcomes.{Numbered, value, then_numbered, judged_numbered, mapped_numbered}
use Rattle.bits.specs.Field.{field}
use Rattle.bits.proofs.Numbers.{field_numbered}
use Rattle.header.specs.Header.{opening, common_header, framing}
use Rattle.header.proofs.Numbers.{exactly_numbered}
use Rattle.identification.specs.declared.fields.Stream.{Stream}
use Rattle.identification.specs.declared.fields.Bitrates.{Bitrates}
use Rattle.identification.specs.declared.fields.BlockSizes.{BlockSizes}
use Rattle.identification.specs.Identification.{stream, bitrates, block_size, block_sizes, identification}

stream_numbered : (most : ℕ) (s : List ℕ) (k : ℕ) → Numbered (stream most s k)
unfolding stream
stream_numbered most s k =
    then_numbered (judged_numbered (λ v. eqb v 0) 3 (field 32) s k (omega arith) (field_numbered 32 s k)) (λ (a : ℕ × ℕ).
    then_numbered (judged_numbered (λ v. leb v most) 14 (judged (λ v. not (eqb v 0)) 4 (field 8)) s a.1 (omega arith)
    (judged_numbered (λ v. not (eqb v 0)) 4 (field 8) s a.1 (omega arith) (field_numbered 8 s a.1))) (λ (b : ℕ × ℕ).
    then_numbered (judged_numbered (λ v. not (eqb v 0)) 4 (field 32) s b.1 (omega arith) (field_numbered 32 s b.1)) (λ (c : ℕ × ℕ). value _)))

bitrates_numbered : (s : List ℕ) (k : ℕ) → Numbered (bitrates s k)
unfolding bitrates
bitrates_numbered s k =
    then_numbered (field_numbered 32 s k) (λ (a : ℕ × ℕ).
    then_numbered (field_numbered 32 s a.1) (λ (b : ℕ × ℕ).
    then_numbered (field_numbered 32 s b.1) (λ (c : ℕ × ℕ). value _)))

size_numbered : (s : List ℕ) (k : ℕ) → Numbered (block_size s k)
unfolding block_size
size_numbered s k =
    judged_numbered (λ v. leb 64 v && leb v 8192) 4 (λ s k. mapped (λ e. 2 ^ e) (field 4 s k)) s k (omega arith)
    (mapped_numbered (λ e. 2 ^ e) (field_numbered 4 s k))

sizes_numbered : (s : List ℕ) (k : ℕ) → Numbered (block_sizes s k)
unfolding block_sizes
sizes_numbered s k =
    then_numbered (size_numbered s k) (λ (a : ℕ × ℕ).
    then_numbered (judged_numbered (λ v. leb a.0 v) 4 block_size s a.1 (omega arith) (size_numbered s a.1)) (λ (b : ℕ × ℕ). value _))

pub numbered : (most : ℕ) (s : List ℕ) → Numbered (identification most s)
unfolding identification common_header framing
numbered most s =
    then_numbered (exactly_numbered (opening 1) s 0) (λ (k : ℕ).
    then_numbered (stream_numbered most s k) (λ (a : Stream × ℕ).
    then_numbered (bitrates_numbered s a.1) (λ (b : Bitrates × ℕ).
    then_numbered (sizes_numbered s b.1) (λ (c : BlockSizes × ℕ).
    then_numbered (judged_numbered (λ v. not (eqb v 0)) 5 (field 1) s c.1 (omega arith) (field_numbered 1 s c.1)) (λ (d : ℕ × ℕ). value _)))))
