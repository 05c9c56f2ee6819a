-- The console of a run with the room that is reserved for its output.
use Rattle.std.specs.Prelude.{ℕ, ◌≤◌, ◌⊎◌, length}
use Rattle.hart_step.specs.Console.{ConsoleState, output_room}

pub record Roomed : Type 0 where
  pub console : ConsoleState
  pub room : ℕ

-- n further bytes are sure to find room: it is reserved, or the output is full by then
abbrev pub HasRoom : ℕ → Roomed → Type 0
HasRoom n c = (n ≤ c.room) ⊎ (output_room ≤ length c.console.output)
