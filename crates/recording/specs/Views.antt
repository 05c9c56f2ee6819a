-- Recordings in memory as their contents, and what a reader answers.
use Rattle.std.specs.Prelude.{◌≡◌, ℕ, List, map, Option, Some, None, Result, Ok, Err}
use Rattle.std.specs.Global.{Vec}
use Rattle.recording.specs.declared.cause.Cause.{Cause}
use Rattle.recording.specs.declared.cause.ReadError.{ReadError}
use Rattle.recording.specs.declared.cause.ReadError.TheVariants as errors
use Rattle.recording.specs.declared.recording.HartSummary.{HartSummary as HartHeld}
use Rattle.recording.specs.declared.recording.Summary.{Summary as SummaryHeld}
use Rattle.recording.specs.declared.recording.Checkpoint.{Checkpoint as CheckpointHeld}
use Rattle.recording.specs.declared.recording.RecordingFields.{RecordingFields}
use Rattle.recording.specs.Recorded.{HartSummary, Summary, Checkpoint, Recorded}

abbrev pub hart_view : HartHeld → HartSummary
hart_view h = record { pc = h.pc; done = h.done; code = h.code; value = h.value }

abbrev pub summary_view : SummaryHeld → Summary
summary_view s = record { output = s.output; trace = s.trace; harts = map hart_view s.harts.items }

abbrev pub registers_view : Option (Vec (Vec ℕ)) → Option (List (List ℕ))
registers_view None = None
registers_view (Some v) = Some (map (λ r. r.items) v.items)

abbrev pub checkpoint_view : CheckpointHeld → Checkpoint
checkpoint_view k = record { summary = summary_view k.summary; registers = registers_view k.registers }

abbrev pub as_recorded : RecordingFields → Recorded
as_recorded r = record {
  version = r.version;
  format = r.format;
  harts = r.harts;
  pages = r.pages;
  rounds = r.rounds;
  budget = r.budget;
  every = r.every;
  image = r.image.items;
  input = r.input.items;
  plan = r.plan.items;
  checkpoints = map checkpoint_view r.checkpoints.items;
}

-- a refusal is the first cause, and without memory nothing is said
abbrev pub Fails : {Y : Type 0} → ReadError → Result Y Cause → Type 0
Fails errors.OutOfMemory read = Unit {0}
Fails (errors.Refused c) read = read ≡ Err c

-- what was returned, seen by its contents, is what reading gives
abbrev pub Gives : {X Y : Type 0} → (X → Y) → Result X ReadError → Result Y Cause → Type 0
Gives contents (Ok x) read = read ≡ Ok (contents x)
Gives contents (Err e) read = Fails e read
