-- Bytes of memory as a hart sees it.
use Rattle.std.specs.Prelude.{ℕ, List, take, drop}
use Rattle.pages.specs.Memory.{Memory}
use Rattle.hart_step.specs.declared.hart.Hart.{Hart}
use Rattle.moments.specs.Sights.{Sight}

-- a hart that sees this memory
abbrev pub sight_of : Hart → Memory → Sight Hart
sight_of h m = record { hart = h; bytes = m.bytes }

-- at most so many bytes from an address on; fewer where memory ends before
abbrev pub bytes_from : List ℕ → ℕ → ℕ → List ℕ
bytes_from bs address count = take count (drop address bs)
