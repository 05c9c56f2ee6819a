-- Executions in memory as their contents, and what a reader answers.
use Rattle.std.specs.Prelude.{◌≡◌, ℕ, List, map, Result, Ok, Err}
use Rattle.execution_file.specs.declared.cause.Refusal.{Refusal}
use Rattle.execution_file.specs.declared.cause.ReadError.{ReadError}
use Rattle.execution_file.specs.declared.cause.ReadError.TheVariants as errors
use Rattle.execution_file.specs.declared.file.Turn.{Turn as TurnHeld}
use Rattle.execution_file.specs.declared.file.HartDeeds.{HartDeeds as HartHeld}
use Rattle.execution_file.specs.declared.file.ExecutionFile.{ExecutionFile}
use Rattle.execution_file.specs.Recorded.{Turn, HartDeeds, Recorded}

abbrev pub turn_view : TurnHeld → Turn
turn_view t = record { hart = t.hart; number = t.number }

abbrev pub hart_view : HartHeld → HartDeeds
hart_view h = record { steps = h.steps; code = h.code; value = h.value; reads = h.reads.items }

abbrev pub as_recorded : ExecutionFile → Recorded
as_recorded r = record {
  flat = r.flat;
  pages = r.pages;
  image = r.image.items;
  input = r.input.items;
  harts = map hart_view r.harts.items;
  calls = map turn_view r.calls.items;
  order = map turn_view r.order.items;
}

-- a refusal is the first cause, and without memory nothing is said
abbrev pub Fails : {Y : Type 0} → ReadError → Result Y Refusal → Type 0
Fails errors.OutOfMemory read = Unit {0}
Fails (errors.Refused c) read = read ≡ Err c

-- what was returned, seen by its contents, is what reading gives
abbrev pub Gives : {X Y : Type 0} → (X → Y) → Result X ReadError → Result Y Refusal → Type 0
Gives contents (Ok x) read = read ≡ Ok (contents x)
Gives contents (Err e) read = Fails e read
