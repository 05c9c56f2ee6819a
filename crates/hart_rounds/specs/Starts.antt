-- What a round starts from.
use Rattle.std.specs.Prelude.{ℕ, Bool, true, false, List, []}
use Rattle.pages.specs.Memory.{Memory}
use Rattle.round_schedule.specs.Schedule.{HartRound, hart_rounds}
use Rattle.hart_step.specs.declared.hart.Hart.{Hart}
use Rattle.hart_step.specs.Words.{words_of}
use Rattle.hart_rounds.specs.declared.log_form.LogForm.{LogForm}
use Rattle.hart_rounds.specs.declared.log_form.LogForm.TheVariants.{Counted, InBrief, Logged}

-- whether the accesses are logged in this form, and not just counted
abbrev pub keeps_log : LogForm → Bool
keeps_log Counted = false
keeps_log Logged = true
keeps_log InBrief = true

-- guest memory, the quota and the state of each hart, and whether the harts' accesses are logged
pub record Start : Type 0 where
  pub memory : Memory
  pub quotas : List ℕ
  pub harts : List Hart
  pub logs : Bool

-- a start with no hart and no memory
abbrev pub empty_start : Start
empty_start = record { memory = record { bytes = []; code = [] }; quotas = []; harts = []; logs = true }

-- the rounds of all harts, each on the start's memory
abbrev pub rounds_of : Start → List (HartRound Hart)
rounds_of s = hart_rounds (words_of s.memory.code) s.memory.bytes s.quotas s.harts
