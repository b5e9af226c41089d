-- 01's limits (refusal 14), which the front door's calls are under: 8 channels, 8,192 entries in a book, 16,384 entries and 16,384 multiplicands in all.
use Rattle.limits.specs.declared.Limits.{Limits}

abbrev pub standard : Limits
standard = record { channels = 8; book_entries = 8192; entries = 16384; multiplicands = 16384 }
