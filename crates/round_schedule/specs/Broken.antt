-- Whether a reservation is just these bytes.
use Rattle.std.specs.Prelude.{◌==◌, ◌&&◌, Bool, false, Option, Some, None}
use Rattle.pages.specs.Memory.{width_bytes}
use Rattle.round_schedule.specs.declared.span.Span.{Span}

-- the same address and the same number of bytes
abbrev pub is_span : Option Span → Span → Bool
is_span None s = false
is_span (Some r) s = (r.address == s.address) && (width_bytes r.width == width_bytes s.width)
