-- The console before the first instruction.
use Rattle.std.specs.Prelude.{ℕ, List, []}
use Rattle.hart_step.specs.Console.{ConsoleState}

-- nothing of the input was taken, and nothing was put out
abbrev pub opening_console : List ℕ → ConsoleState
opening_console input = record { input = input; place = 0; output = [] }
