use Rattle.std.proofs.Common.{◌≡◌, ◌∙◌, ◌<◌, ◌≤◌, arith, refl}
use Rattle.std.proofs.lemmas.Result.{IfOk-weaker}
use Rattle.machine.specs.Machine.{Running}
use Rattle.run_events.specs.Hits.{is_hit}
use Rattle.replayer.specs.Replayed.{start_of}
use Rattle.replayer.proofs.Grown.{within_rounds}
use Rattle.replayer.proofs.watching.watch_rounds.Goals as goal

pub hits_of_run-hits-requires-clause-start : goal.hits_of_run-hits-requires-clause-start
hits_of_run-hits-requires-clause-start g c = λ lifetimes within.
    let made = c.in_ok-machine.ensures.machine in
    record { opened = made.2.rounds; run = (start_of c.args.recording.now made.0, made.2, refl) }

pub returns-clause-hits : goal.returns-clause-hits
returns-clause-hits g c =
    let made = c.in_ok-machine.ensures.machine in
    let m : Running = start_of c.args.recording.now made.0 in
    let le : c.min-count.result ≤ c.args.recording.now.rounds = omega (arith, c.min-count.ensures, c.rounds.ensures) in
    let ends : c.min-count.result < c.args.recording.now.rounds → c.min-count.result ≡ c.args.rounds.last = λ lt. omega (arith, c.min-count.ensures, c.rounds.ensures, lt) in
    IfOk-weaker c.hits_of_run-hits.result _ _ (λ v is. (made.0, made.1, is ∙ within_rounds c.args.rounds.first c.args.rounds.last c.args.recording.now.rounds c.min-count.result (is_hit c.args.ranges.now) m refl le ends)) (c.hits_of_run-hits.ensures.hits m made.2 refl)
