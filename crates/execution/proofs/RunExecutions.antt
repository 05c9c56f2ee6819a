-- Every run in rounds is an execution.
use Rattle.std.proofs.Common.{◌≡◌, ℕ, zero, suc, ◌+◌, List, [], ◌++◌, refl, sym, ap, subst, ◌∙◌, arith, append-nil}
use Rattle.pages.specs.Memory.{IsBytes, Memory, after}
use Rattle.pages.proofs.StoreLaws.{bytes_after}
use Rattle.round_schedule.specs.declared.event.Event.{Event}
use Rattle.round_schedule.specs.Schedule.{HartRound, State, Words, all_stores, committed, hart_rounds, opening_state, round_of, run_of, serial_from}
use Rattle.hart_step.specs.declared.hart.Hart.{Hart}
use Rattle.hart_step.specs.Console.{ConsoleState}
use Rattle.hart_step.specs.Words.{words_of}
use Rattle.execution.specs.Executions.{IsLike, Standing, begins}
use Rattle.execution.specs.Progressing.{at_start}
use Rattle.execution.specs.Runs.{Course, IsOfRun, RunsAreExecutions, ran, told_run}
use Rattle.execution.specs.Telling.{telling, tells-none}
use Rattle.execution.proofs.Answering.{like_itself}
use Rattle.execution.proofs.Liking.{like_stored}
use Rattle.execution.proofs.RoundSteps.{Serving, harts_go, turns_go}
use Rattle.execution.proofs.Standings.{Stands, stands_later}
use Rattle.execution.proofs.Telling.{told_run_of}

-- between two rounds, an execution from the start stands where the run does
record Between (image : Memory) (start : Standing) (s : State Hart ConsoleState) : Type 0 where
  stands : Stands image start s.rounds s.harts s.console s.trace
  bytes : IsBytes s.bytes
  like : IsLike image (record { bytes = s.bytes; code = image.code })

round_goes : (image : Memory) (start : Standing) (budget : ℕ) (quotas : ℕ → List ℕ) (s : State Hart ConsoleState) → Between image start s →
    Between image start (round_of (telling (words_of image.code)) budget quotas s)
unfolding round_of
round_goes image start budget quotas s b =
    let rs : List (HartRound Hart) = hart_rounds (telling (words_of image.code)) s.bytes (quotas s.rounds) s.harts in
    let went = harts_go image start s.bytes (s.rounds + 1) 0 [] s.console s.trace (quotas s.rounds) s.harts refl b.bytes b.like (stands_later image start s.rounds (s.rounds + 1) s.harts s.console s.trace (omega arith) b.stands) in
    let done = turns_go image start budget 0 rs (committed s rs) refl (record {
      stands = went.0;
      bytes = bytes_after s.bytes (all_stores rs) b.bytes;
      like = like_stored image (record { bytes = s.bytes; code = image.code }) (all_stores rs) went.1 b.like;
    }) in
    let e : State Hart ConsoleState = serial_from (telling (words_of image.code)) budget 0 rs (committed s rs) in
    record {
      stands = subst (λ (hs : List Hart). Stands image start e.rounds hs e.console e.trace) (append-nil e.harts) done.0.stands;
      bytes = done.0.bytes;
      like = done.0.like;
    }

run_goes : (image : Memory) (start : Standing) (budget : ℕ) (quotas : ℕ → List ℕ) (n : ℕ) (s : State Hart ConsoleState) → Between image start s →
    Between image start (run_of (telling (words_of image.code)) budget quotas n s)
unfolding run_of
run_goes image start budget quotas zero s b = b
run_goes image start budget quotas (suc n) s b = run_goes image start budget quotas n _ (round_goes image start budget quotas s b)

pub runs_are : RunsAreExecutions
runs_are x small =
    let start : Standing = at_start x.harts x.console in
    let done = run_goes x.memory start x.budget x.quotas x.rounds (opening_state x.harts x.memory.bytes x.console) (record {
      stands = record { round = 0; within = omega arith; instructions = []; executes = begins start };
      bytes = small;
      like = like_itself x.memory;
    }) in
    let same = told_run_of (words_of x.memory.code) x.budget x.quotas x.rounds (opening_state x.harts x.memory.bytes x.console) (opening_state x.harts x.memory.bytes x.console)
    (record { harts = refl; bytes = refl; console = refl; rounds = refl; trace = tells-none }) in (
      record { harts = (told_run x).harts; console = (told_run x).console; round = done.stands.round; instructions = done.stands.instructions; events = (told_run x).trace },
      record { executes = done.stands.executes; harts = same.harts; console = same.console; events = refl; tells = same.trace },
    )
