-- A mapping in a setup packet as 003's steps, each field judged as soon as it is read (01, "Order").
use Rattle.std.specs.Prelude.{ℕ, suc, ◌-◌, cond, List, [], eqb, leb}
use Rattle.reading.specs.Outcome.{ok, then}
use Rattle.reading.specs.Reader.{Reader, judged, mapped, many}
use Rattle.bits.specs.Field.{field}
use Rattle.bits.specs.Ilog.{ilog}
use Rattle.rules.specs.Rules as Rule
use Rattle.mapping.specs.Content.{Coupling, Submap, Mapping}
use Rattle.mapping.specs.declared.Known.{Known}

-- the number of submaps: one, or 4 bits plus one behind a set flag
unfoldable pub submap_count : Reader ℕ
submap_count s k = then (field 1 s k) (λ flag. cond (eqb flag.0 0) (ok (1, flag.1)) (mapped suc (field 4 s flag.1)))

-- the number of coupling steps: none, or 8 bits plus one behind a set flag
unfoldable pub coupling_count : Reader ℕ
coupling_count s k = then (field 1 s k) (λ flag. cond (eqb flag.0 0) (ok (0, flag.1)) (mapped suc (field 8 s flag.1)))

-- a channel number in as many bits as channels - 1 has; 11 where there is no such channel
unfoldable pub channel : ℕ → Reader ℕ
channel channels = judged (λ v. Rule.meets11 (Rule.channel channels v)) 11 (field (ilog (channels - 1)))

-- a coupling step: magnitude, then angle; 11 where both are one channel
unfoldable pub coupling : ℕ → Reader Coupling
coupling channels s k =
    then (channel channels s k) (λ magnitude.
    then (judged (λ v. Rule.meets11 (Rule.coupled magnitude.0 v)) 11 (channel channels) s magnitude.1) (λ angle.
    ok (record { magnitude = magnitude.0; angle = angle.0 }, angle.1)))

-- a channel's submap; 11 where there is no such submap
unfoldable pub multiplex : ℕ → Reader ℕ
multiplex submaps = judged (λ v. Rule.meets11 (Rule.submap submaps v)) 11 (field 4)

-- each channel's submap, where there is more than one
unfoldable pub multiplexes : ℕ → ℕ → Reader (List ℕ)
multiplexes channels submaps s k = cond (leb submaps 1) (ok ([], k)) (many (multiplex submaps) channels s k)

-- a submap: 8 bits that are discarded, then its floor and its residue; 11 where one is not set up
unfoldable pub submap : Known → Reader Submap
submap known s k =
    then (field 8 s k) (λ discarded.
    then (judged (λ v. Rule.meets11 (Rule.floor known.floors v)) 11 (field 8) s discarded.1) (λ floor.
    then (judged (λ v. Rule.meets11 (Rule.residue known.residues v)) 11 (field 8) s floor.1) (λ residue.
    ok (record { floor = floor.0; residue = residue.0 }, residue.1))))

-- what follows a mapping's counts: the coupling steps, the reserved field (9), the multiplex, the submaps
unfoldable pub parts : Known → ℕ → ℕ → Reader Mapping
parts known submaps steps s k =
    then (many (coupling known.channels) steps s k) (λ couplings.
    then (judged (λ v. Rule.meets9 (Rule.reserved v)) 9 (field 2) s couplings.1) (λ reserved.
    then (multiplexes known.channels submaps s reserved.1) (λ multiplex.
    then (many (submap known) submaps s multiplex.1) (λ list.
    ok (record { couplings = couplings.0; multiplex = multiplex.0; submaps = list.0 }, list.1)))))

-- a mapping: type (9), the number of submaps and that of coupling steps, then its parts. `Known` is what it is judged against
unfoldable pub mapping : Known → Reader Mapping
mapping known s k =
    then (judged (λ v. Rule.meets9 (Rule.mapping_type v)) 9 (field 16) s k) (λ type.
    then (submap_count s type.1) (λ submaps.
    then (coupling_count s submaps.1) (λ steps.
    parts known submaps.0 steps.0 s steps.1)))
