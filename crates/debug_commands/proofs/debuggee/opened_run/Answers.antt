use Rattle.std.proofs.Common.{◌≡◌, None, arith}
use Rattle.debug_commands.proofs.OpenedRun.{HasSettings, refusal_of, run_of}
use Rattle.debug_commands.proofs.debuggee.opened_run.Goals as goal
use Rattle.round_planner.specs.Settings.{settings_fault}

pub returns-clause-opens : goal.returns-clause-opens
returns-clause-opens c =
    let r = c.args.recording.now in
    let s = c.settings_of-settings in
    let said = s.ensures in
    let settings : HasSettings r s.result = record { format = said.format; harts = said.machine.0; pages = said.machine.1; rounds = said.rounds.0; is_budget = said.rounds.1; is_plan = said.plan } in
    run_of r s.result settings c.open.result
    (rw (c.image.ensures, c.input.ensures) at c.open.ensures.run) c.open.ensures.rounds (rw c.image.ensures at c.open.ensures.image) c.open.ensures.ready

pub returns-clause-errors : goal.returns-clause-errors
returns-clause-errors c =
    let r = c.args.recording.now in
    let s = c.settings_of-settings in
    let said = s.ensures in
    let settings : HasSettings r s.result = record { format = said.format; harts = said.machine.0; pages = said.machine.1; rounds = said.rounds.0; is_budget = said.rounds.1; is_plan = said.plan } in
    let in_range : settings_fault s.result ≡ None = said.good (omega arith, omega arith) in
    refusal_of r s.result settings in_range c.open.result (rw c.image.ensures at c.open.ensures.in_order)
    (rw c.image.ensures at (c.open.ensures.errors in_range))
