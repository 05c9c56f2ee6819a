use Rattle.std.proofs.Common.{◌≡◌}
use Rattle.std.specs.Prelude.{IfOk}
use Rattle.gdb_runs.specs.Sessions.{Recorded, recorded_of, state_of}
use Rattle.gdb_runs.specs.Wanted.{watched_of}
use Rattle.gdb_steps.specs.Steps.{alone_at}
use Rattle.gdb_steps.proofs.Arriving.{moves_alone}
use Rattle.gdb_runs.proofs.Runs.{of_same}
use Rattle.gdb_steps.proofs.stepping_alone.move_alone.Goals as goal

pub returns-clause-moves : goal.returns-clause-moves
returns-clause-moves g c = λ m is.
    let d = c.args.run.now in
    let s = state_of c.args.session.now in
    let way = c.args.way in
    let hart = c.args.hart in
    let at = c.args.at in
    let found = c.in_ok-found.found in
    let P : Recorded → Type 0 = λ r. IfOk c.stand_alone.result (λ t. t ≡ alone_at r s way hart at found) in
    moves_alone (recorded_of m d) s found hart way at c.own_from-from.result c.own_from-from.ensures.from
    (c.in_ok-found.ensures.finds m is (watched_of s hart) c.in_ok-telling.ensures)
    c.stand_alone.result (of_same d c.find.new.run P c.in_ok-found.ensures.stays c.stand_alone.ensures.standing m is)

pub find-requires-clause-within : goal.find-requires-clause-within
find-requires-clause-within g c = λ κs lifetimes. c.own_from-from.ensures.round c.args.run.now.timeline.rounds c.requires.ready.within c.requires.within.rounds
