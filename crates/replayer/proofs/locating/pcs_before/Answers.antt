use Rattle.std.proofs.Common.{◌≡◌, ◌∙◌, ap, map, refl, ℕ}
use Rattle.std.proofs.lemmas.Result.{IfOk-weaker}
use Rattle.machine.specs.Machine.{Running}
use Rattle.run_events.specs.Pcs.{pc_before}
use Rattle.replayer.specs.Replayed.{start_of}
use Rattle.replayer.proofs.Located.{all_after, at_start}
use Rattle.replayer.proofs.locating.pcs_before.Goals as goal

pub pcs_of_run-pcs-requires-clause-run : goal.pcs_of_run-pcs-requires-clause-run
pcs_of_run-pcs-requires-clause-run g c = λ lifetimes within.
    let made = c.in_ok-start.ensures.machine in
    let m : Running = start_of c.args.recording.now made.0 in
    let none : c.in_ok-start.start.rounds ≡ 0 = made.2.rounds in
    (m, at_start m c.in_ok-start.start c.in_ok-start.start refl none made.2)

pub pcs_of_run-pcs-requires-clause-later : goal.pcs_of_run-pcs-requires-clause-later
pcs_of_run-pcs-requires-clause-later g c = λ lifetimes within.
    let none : c.in_ok-start.start.rounds ≡ 0 = c.in_ok-start.ensures.machine.2.rounds in
    all_after c.in_ok-start.start.rounds c.args.events.now none

pub returns-clause-pcs : goal.returns-clause-pcs
returns-clause-pcs g c =
    let made = c.in_ok-start.ensures.machine in
    let m : Running = start_of c.args.recording.now made.0 in
    let none : c.in_ok-start.start.rounds ≡ 0 = made.2.rounds in
    IfOk-weaker c.pcs_of_run-pcs.result _ _
    (λ v is. (made.0, made.1, is ∙ ap (λ (n : ℕ). map (pc_before n m) c.args.events.now) c.rounds.ensures)) (c.pcs_of_run-pcs.ensures.pcs m (at_start m c.in_ok-start.start c.in_ok-start.start refl none made.2))
