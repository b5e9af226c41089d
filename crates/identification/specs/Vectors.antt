-- Worked examples: the identification packet of 01's last figure, and its neighbours on the other side of a rule. A refusal's place is the
-- first bit of the judged field.
use Rattle.std.specs.Prelude.{ℕ, ◌+◌, ◌*◌, List, [], ◌∷◌, ◌++◌, ◌≡◌, refl, pos, negsuc, take, replicate}
use Rattle.reading.specs.Outcome.{refusal, Outcome, ok, bad}
use Rattle.reading.specs.Reader.{mapped}
use Rattle.bits.specs.Field.{bit_at, value_at, field}
use Rattle.header.specs.Header.{exactly, common_header, framing}
use Rattle.identification.specs.declared.Identity.{Identity}
use Rattle.identification.specs.Identification.{stream, bitrates, block_size, block_sizes, identification}

-- 76 6F 72 62 69 73
abbrev name : List ℕ
name = 0x76 ∷ 0x6F ∷ 0x72 ∷ 0x62 ∷ 0x69 ∷ 0x73 ∷ []

-- version, channels, rate
abbrev fields : ℕ → ℕ → List ℕ
fields version channels = version ∷ 0 ∷ 0 ∷ 0 ∷ channels ∷ 0x40 ∷ 0x1F ∷ 0 ∷ 0 ∷ []

-- block sizes, framing bit
abbrev ending : ℕ → ℕ → List ℕ
ending sizes flag = sizes ∷ flag ∷ []

abbrev packet : List ℕ
packet = 1 ∷ name ++ fields 0 1 ++ replicate 12 0 ++ ending 0xB8 1

-- bitrates -1, 192,000 and the least number of 32 bits
abbrev signed_bitrates : List ℕ
signed_bitrates = 0xFF ∷ 0xFF ∷ 0xFF ∷ 0xFF ∷ 0 ∷ 0xEE ∷ 2 ∷ 0 ∷ 0 ∷ 0 ∷ 0 ∷ 0x80 ∷ []

abbrev answer : Outcome Identity
answer =
    ok
    (record {
      channels = 1;
      rate = 8000;
      bitrate_maximum = pos 0;
      bitrate_nominal = pos 0;
      bitrate_minimum = pos 0;
      blocksize0 = 256;
      blocksize1 = 2048;
    })

abbrev signed_answer : Outcome Identity
signed_answer =
    ok
    (record {
      channels = 8;
      rate = 8000;
      bitrate_maximum = negsuc 0;
      bitrate_nominal = pos 192000;
      bitrate_minimum = negsuc 2147483647;
      blocksize0 = 64;
      blocksize1 = 8192;
    })

pub record PacketVectors : Type 0 where
  pub figure : identification 8 packet ≡ answer
  pub more_bytes : identification 8 (packet ++ (0xFF ∷ [])) ≡ answer
  pub widest : identification 8 (1 ∷ name ++ fields 0 8 ++ signed_bitrates ++ ending 0xD6 0xFF) ≡ signed_answer
  pub empty : identification 8 [] ≡ bad (refusal 1 0)
  pub cut : identification 8 (take 29 packet) ≡ bad (refusal 1 (8 * 29))
  pub wrong_type : identification 8 (3 ∷ []) ≡ bad (refusal 2 0)
  pub wrong_name : identification 8 (1 ∷ 0x76 ∷ 0x4F ∷ []) ≡ bad (refusal 2 (8 * 2))
  pub version_1 : identification 8 (1 ∷ name ++ fields 1 0) ≡ bad (refusal 3 (8 * 7))
  pub version_cut : identification 8 (1 ∷ name ++ (1 ∷ [])) ≡ bad (refusal 1 (8 * 7))
  pub channels_0 : identification 8 (1 ∷ name ++ fields 0 0) ≡ bad (refusal 4 (8 * 11))
  pub channels_9 : identification 8 (1 ∷ name ++ fields 0 9) ≡ bad (refusal 14 (8 * 11))
  pub exponent_5 : identification 8 (1 ∷ name ++ fields 0 1 ++ replicate 12 0 ++ ending 0xB5 1) ≡ bad (refusal 4 (8 * 28))
  pub exponent_14 : identification 8 (1 ∷ name ++ fields 0 1 ++ replicate 12 0 ++ ending 0xE8 1) ≡ bad (refusal 4 (8 * 28 + 4))
  pub reversed : identification 8 (1 ∷ name ++ fields 0 1 ++ replicate 12 0 ++ ending 0x8B 1) ≡ bad (refusal 4 (8 * 28 + 4))
  pub framing_0 : identification 8 (1 ∷ name ++ fields 0 1 ++ replicate 12 0 ++ ending 0xB8 0xFE) ≡ bad (refusal 5 (8 * 29))

pub packets : PacketVectors
unfolding identification common_header exactly stream bitrates block_sizes block_size framing mapped field value_at bit_at
packets =
    record {
      figure = refl;
      more_bytes = refl;
      widest = refl;
      empty = refl;
      cut = refl;
      wrong_type = refl;
      wrong_name = refl;
      version_1 = refl;
      version_cut = refl;
      channels_0 = refl;
      channels_9 = refl;
      exponent_5 = refl;
      exponent_14 = refl;
      reversed = refl;
      framing_0 = refl;
    }
