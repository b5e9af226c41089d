-- A number with which a packet is sent back has its reason: it is one of 01's ("When the packet is sent back"). Assumes nothing: this is a definition.
use Rattle.std.specs.Prelude.{ℕ, ◌≡◌}
use Rattle.bits.specs.declared.refusal.Reason.{Reason}
use Rattle.bits.specs.Reasons.{number}

abbrev pub HasReason : ℕ → Type 0
HasReason n = (reason : Reason) × (n ≡ number reason)
