-- Endings of executions that RVWMO allows.
use Rattle.std.specs.Prelude.{◌≡◌, ℕ, ◌<◌, ◌==◌, ◌++◌, if◌then◌else◌, List, [], length, map, get_or, Option, Some, None}
use Rattle.std.specs.Global.{Vec}
use Rattle.pages.specs.Memory.{Memory}
use Rattle.pages.specs.declared.access.Range.{Range}
use Rattle.hart_step.specs.declared.hart.Stop.{Stop}
use Rattle.hunt_table.specs.declared.seen_range.SeenRange.{SeenRange}
use Rattle.execution.specs.Executions.{Executes, Standing}
use Rattle.execution_checker.specs.Allowed.{Allows}
use Rattle.all_endings.specs.Endings.{Ending, ending_of, opening_bytes, own_output}
use Rattle.endings_table.specs.declared.found_ending.FoundEnding.{FoundEnding}
use Rattle.endings_table.specs.declared.hart_end.HartEnd.{HartEnd}
use Rattle.endings_table.specs.declared.hart_end.HartEnd.TheVariants.{Stopped, Waits}

-- ---- an ending that is told

-- why a hart stopped; one that waits for ever hasn't
abbrev pub stop_of : HartEnd → Option Stop
stop_of (Stopped s) = Some s
stop_of (Waits pc) = None

-- stops and exit values, each hart's own output, and the bytes of ranges
abbrev pub ending_in : FoundEnding → Ending
ending_in e = record {
  stops = map stop_of e.ends.items;
  outputs = map (λ (bs : Vec ℕ). bs.items) e.outputs.items;
  seen = map (λ (bs : Vec ℕ). bs.items) e.seen.items;
}

-- the ranges that are looked at, without their names
abbrev pub ranges_of : List SeenRange → List Range
ranges_of rs = map (λ (r : SeenRange). record { start = r.address; len = r.length }) rs

-- ---- who can end so

-- from a standing an execution that RVWMO allows ends so
pub record IsAllowedFrom (image : Memory) (start : Standing) (see : List Range) (e : Ending) : Type 0 where
  pub end : Standing
  pub order : List ℕ
  pub execution : Executes image start end
  pub allowed : Allows (opening_bytes image) end order
  pub ending : e ≡ ending_of image start end execution see order

-- ---- outputs

-- these bytes were added to what a hart put out
pub record IsPutOut (hart : ℕ) (bytes : List ℕ) (old new : List (Vec ℕ)) : Type 0 where
  pub count : length new ≡ length old
  pub each : (h : ℕ) (d : Vec ℕ) → h < length old → (get_or new h d).items ≡ (get_or old h d).items ++ (if hart == h then bytes else [])

-- what each hart put out by itself, on some way from one standing to another
pub record AreOutputs (image : Memory) (p q : Standing) (outputs : List (Vec ℕ)) : Type 0 where
  pub leads : Executes image p q
  pub count : length outputs ≡ length q.harts
  pub each : (h : ℕ) (d : Vec ℕ) → h < length outputs → (get_or outputs h d).items ≡ own_output image p q h leads
