-- The identification packet as 003's steps (section 4.2.2), each field judged as soon as it is read (01, "Order").
use Rattle.std.specs.Prelude.{ℕ, ◌^◌, not, ◌&&◌, List, eqb, leb}
use Rattle.reading.specs.Outcome.{Outcome, ok, then}
use Rattle.reading.specs.Reader.{Reader, judged, mapped}
use Rattle.bits.specs.Field.{field}
use Rattle.bits.specs.Signed.{signed}
use Rattle.rules.specs.Rules as Rule
use Rattle.header.specs.Header.{common_header, framing}
use Rattle.identification.specs.declared.Identity.{Identity}
use Rattle.identification.specs.declared.fields.Stream.{Stream}
use Rattle.identification.specs.declared.fields.Bitrates.{Bitrates}
use Rattle.identification.specs.declared.fields.BlockSizes.{BlockSizes}

-- version (3 unless 0), channels (4 where 0, 14 above the limit), rate (4 where 0)
unfoldable pub stream : ℕ → Reader Stream
stream most s k =
    then (judged (λ v. eqb v 0) 3 (field 32) s k) (λ version.
    then (judged (λ v. Rule.meets14 (Rule.channels most v)) 14 (judged (λ v. not (eqb v 0)) 4 (field 8)) s version.1) (λ channels.
    then (judged (λ v. not (eqb v 0)) 4 (field 32) s channels.1) (λ rate.
    ok (record { channels = channels.0; rate = rate.0 }, rate.1))))

-- maximum, nominal and minimum bitrate, signed and not judged
unfoldable pub bitrates : Reader Bitrates
bitrates s k =
    then (field 32 s k) (λ maximum.
    then (field 32 s maximum.1) (λ nominal.
    then (field 32 s nominal.1) (λ minimum.
    ok (record { maximum = signed maximum.0; nominal = signed nominal.0; minimum = signed minimum.0 }, minimum.1))))

-- 2 to the power of a field of 4 bits; 4 unless it is 64 to 8192
unfoldable pub block_size : Reader ℕ
block_size = judged (λ v. leb 64 v && leb v 8192) 4 (λ s k. mapped (λ e. 2 ^ e) (field 4 s k))

-- both block sizes; 4 where the first is larger than the second
unfoldable pub block_sizes : Reader BlockSizes
block_sizes s k =
    then (block_size s k) (λ first.
    then (judged (λ v. leb first.0 v) 4 block_size s first.1) (λ second.
    ok (record { first = first.0; second = second.0 }, second.1)))

-- the packet, with the limit on channels: type 1 and name, the fields, the framing bit. What follows it is ignored
unfoldable pub identification : ℕ → List ℕ → Outcome Identity
identification most s =
    then (common_header 1 s) (λ k.
    then (stream most s k) (λ a.
    then (bitrates s a.1) (λ b.
    then (block_sizes s b.1) (λ c.
    then (framing s c.1) (λ _.
    ok (record {
      channels = a.0.channels;
      rate = a.0.rate;
      bitrate_maximum = b.0.maximum;
      bitrate_nominal = b.0.nominal;
      bitrate_minimum = b.0.minimum;
      blocksize0 = c.0.first;
      blocksize1 = c.0.second;
    }))))))
