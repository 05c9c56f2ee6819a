use Rattle.std.proofs.Common.{◌≡◌, ℕ, ◌-◌, ◌∙◌, ap, arith, ⊎_elim}
use Rattle.std.proofs.lemmas.Result.{IfOk-weaker}
use Rattle.machine.specs.Machine.{after_rounds}
use Rattle.replayer.specs.Replayed.{start_of}
use Rattle.run_events.proofs.RoundsAt.{first_is_1, after_last, from_before}
use Rattle.replayer.proofs.past.state_at.Goals as goal

pub returns-in-None-clause-hart : goal.returns-in-None-clause-hart
returns-in-None-clause-hart g c =
    let r = c.args.recording.now in
    let e = c.in_ok-machine.ensures.machine in
    let m = start_of r e.0 in
    (e.0, e.1, ⊎_elim (first_is_1 r.rounds m c.args.round c.args.hart c.args.count) (after_last r.rounds m c.args.round c.args.hart c.args.count) c.in-None.ensures)

pub returns-in-Some-clause-hart : goal.returns-in-Some-clause-hart
returns-in-Some-clause-hart g c =
    let r = c.args.recording.now in
    let e = c.in_ok-machine.ensures.machine in
    let m = start_of r e.0 in
    let before = c.in-Some.before in
    let less : before ≡ c.args.round - 1 = omega (arith, c.in-Some.ensures.0) in
    IfOk-weaker c.hart_in_round.result _ _
    (λ s is. (
      e.0,
      e.1,
      is ∙ from_before r.rounds m (after_rounds before m) c.args.round c.args.hart c.args.count (omega (arith, c.in-Some.ensures.0)) c.in-Some.ensures.1 (ap (λ (k : ℕ). after_rounds k m) less),
    ))
    (c.hart_in_round.ensures.hart m e.2)
