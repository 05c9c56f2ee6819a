use Rattle.std.proofs.Common.{◌∙◌, ap, refl, ℕ}
use Rattle.std.proofs.lemmas.Result.{IfOk-weaker}
use Rattle.machine.specs.Machine.{Running, after_rounds}
use Rattle.run_events.specs.Hits.{hits}
use Rattle.replayer.specs.Replayed.{start_of}
use Rattle.replayer.proofs.watching.watch.Goals as goal

pub hits_of_run-hits-requires-clause-start : goal.hits_of_run-hits-requires-clause-start
hits_of_run-hits-requires-clause-start g c = λ lifetimes within.
    let made = c.in_ok-machine.ensures.machine in
    record { opened = made.2.rounds; run = (start_of c.args.recording.now made.0, made.2, refl) }

pub returns-clause-hits : goal.returns-clause-hits
returns-clause-hits g c =
    let made = c.in_ok-machine.ensures.machine in
    let m : Running = start_of c.args.recording.now made.0 in
    IfOk-weaker c.hits_of_run-hits.result _ _ (λ v is. (made.0, made.1, is ∙ ap (λ (n : ℕ). hits c.args.ranges.now (after_rounds n m).state.trace) c.rounds-rounds.ensures)) (c.hits_of_run-hits.ensures.hits m made.2 refl)
