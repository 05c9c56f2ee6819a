-- Guest memory where a list of stores begins.
use Rattle.std.specs.Prelude.{ℕ}
use Rattle.all_endings.specs.Endings.{opening_bytes}
use Rattle.all_endings.specs.Tables.{memory_of}
use Rattle.hart_states.specs.declared.opening_memory.OpeningMemory.{OpeningMemory}
use Rattle.hart_states.specs.States.{listed}

-- what the stores behind which the list stands left of memory as the program begins
abbrev pub opening_of : OpeningMemory → ℕ → ℕ
opening_of m = memory_of (listed m.behind.now) (opening_bytes m.pages.now.memory)
