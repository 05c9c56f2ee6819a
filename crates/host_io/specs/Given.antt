-- When a source said its end.
use Rattle.std.specs.Prelude.{◌≡◌, ℕ, ◌+◌, ◌&&◌, ◌==◌, if◌then◌else◌, nat_lt, List, length, Result, Ok, Err}
use Rattle.host_io.specs.declared.source.SourceFault.{SourceFault}

-- one more end where the call gave none of the bytes that there was room for; else as many as before
abbrev pub Ended : List ℕ → Result ℕ SourceFault → ℕ → ℕ → Type 0
Ended buf (Err e) old new = new ≡ old
Ended buf (Ok n) old new = new ≡ (if n == 0 && (nat_lt 0 (length buf)) then old + 1 else old)
