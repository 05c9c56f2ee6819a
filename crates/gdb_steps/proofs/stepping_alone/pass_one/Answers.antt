use Rattle.std.specs.Prelude.{IfOk}
use Rattle.gdb_runs.specs.Sessions.{Recorded, recorded_of, state_of}
use Rattle.gdb_runs.specs.Wanted.{only_of}
use Rattle.gdb_steps.specs.Steps.{MovesAloneBy}
use Rattle.gdb_steps.proofs.Arriving.{passes_one}
use Rattle.gdb_runs.proofs.Runs.{of_same}
use Rattle.gdb_steps.proofs.stepping_alone.pass_one.Goals as goal

pub returns-clause-passes : goal.returns-clause-passes
returns-clause-passes g c = λ m is.
    let d = c.args.run.now in
    let s = state_of c.args.session.now in
    let way = c.args.way in
    let hart = c.args.hart in
    let found = c.in_ok-found.found in
    let P : Recorded → Type 0 = λ r. IfOk c.move_by.result (λ t. MovesAloneBy r s way hart found t) in
    passes_one (recorded_of m d) s found hart way c.sought_from-from.result c.sought_from-from.ensures.from
    (c.in_ok-found.ensures.finds m is (only_of hart) c.only_of-telling.ensures)
    c.move_by.result (of_same d c.find.new.run P c.in_ok-found.ensures.stays c.move_by.ensures.moves m is)
