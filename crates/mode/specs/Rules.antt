-- Which modes meet the rules (01, "When the packet is sent back"). The claim is by the predicate by which a packet is judged, crates/rules/specs/Rules.antt.
use Rattle.std.specs.Prelude.{ℕ, true, ◌≡◌}
use Rattle.rules.specs.Rules as Rule
use Rattle.mode.specs.Content.{Mode}

-- 11, where so many mappings are set up
abbrev pub Mode11 : ℕ → Mode → Type 0
Mode11 mappings m = Rule.meets11 (Rule.mapping mappings m.mapping) ≡ true
