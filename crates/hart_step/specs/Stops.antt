-- Why harts stop: a code of 1 to 10, and a value with the exit call alone.
use Rattle.std.specs.Prelude.{◌==◌, ◌&&◌, ◌||◌, nat_le, Bool, true, List, Option, Some, None}
use Rattle.pages.specs.declared.access.Range.{Range}
use Rattle.round_schedule.specs.Preserved.{Preserves}
use Rattle.hart_step.specs.declared.hart.Hart.{Hart}
use Rattle.hart_step.specs.declared.hart.Stop.{Stop}
use Rattle.hart_step.specs.Words.{words_of}

-- the same as a test: 1 for the exit call, the only one with a value; 10 for the last of the faults
abbrev pub is_stop : Stop → Bool
is_stop s = nat_le 1 s.code && nat_le s.code 10 && (s.code == 1 || s.value == 0)

-- a hart runs, or it stopped so
abbrev pub has_stop : Option Stop → Bool
has_stop None = true
has_stop (Some s) = is_stop s

-- every instruction leaves a hart that runs, or that stopped so
abbrev pub StopsFit : Type 0
StopsFit = (code : List Range) → Preserves (words_of code) (λ (h : Hart). has_stop h.stop)
