-- A machine as callers see it: the state of a run, the code, and the plan.
use Rattle.std.specs.Prelude.{ℕ, ◌+◌, if◌then◌else◌, is_some, List, [], ◌∷◌}
use Rattle.pages.specs.declared.access.Range.{Range}
use Rattle.round_schedule.specs.Schedule.{State, opening_state, round_of, run_of}
use Rattle.round_planner.specs.Quotas.{Planned, quotas_of}
use Rattle.elf_loader.specs.Image.{Loaded}
use Rattle.hart_step.specs.declared.hart.Hart.{Hart}
use Rattle.hart_step.specs.Console.{ConsoleState}
use Rattle.hart_step.specs.Words.{words_of}
use Rattle.guest_rounds.specs.Opening.{opening_harts}

-- the state, the ranges of code, the plan, and the bytes that memory opened with
pub record Running : Type 0 where
  pub state : State Hart ConsoleState
  pub code : List Range
  pub plan : Planned
  pub opening : List ℕ

-- the machine of an image, an input and a plan before the first round
abbrev pub opening : Loaded → List ℕ → Planned → Running
opening image input plan = record {
  state = opening_state (opening_harts image.entry plan.harts 0 plan.harts) image.bytes (record { input = input; place = 0; output = [] });
  code = image.code;
  plan = plan;
  opening = image.bytes;
}

-- the machine after one more round, and after n more
abbrev pub after_round : Running → Running
after_round m = record m { state = round_of (words_of m.code) m.plan.budget (quotas_of m.plan) m.state }

abbrev pub after_rounds : ℕ → Running → Running
after_rounds n m = record m { state = run_of (words_of m.code) m.plan.budget (quotas_of m.plan) n m.state }

-- how many harts have stopped
abbrev pub count_stopped : List Hart → ℕ
count_stopped [] = 0
count_stopped (h ∷ hs) = (if is_some h.stop then 1 else 0) + count_stopped hs
