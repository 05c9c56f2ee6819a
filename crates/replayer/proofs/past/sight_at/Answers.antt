use Rattle.std.proofs.Common.{◌≡◌, ℕ, ◌-◌, ◌∙◌, ap, arith, ⊎_elim}
use Rattle.std.proofs.lemmas.Result.{IfOk-weaker}
use Rattle.machine.specs.Machine.{after_rounds}
use Rattle.replayer.specs.Replayed.{start_of}
use Rattle.replayer.proofs.PastAt.{no_sight_first, no_sight_after_last, sight_from_before}
use Rattle.replayer.proofs.past.sight_at.Goals as goal

pub returns-in-None-clause-sight : goal.returns-in-None-clause-sight
returns-in-None-clause-sight g c =
    let r = c.args.recording.now in
    let e = c.in_ok-machine.ensures.machine in
    let m = start_of r e.0 in
    (e.0, e.1, ⊎_elim (no_sight_first r.rounds m c.args.round c.args.hart c.args.count) (no_sight_after_last r.rounds m c.args.round c.args.hart c.args.count) c.in-None.ensures)

pub returns-in-Some-clause-sight : goal.returns-in-Some-clause-sight
returns-in-Some-clause-sight g c =
    let r = c.args.recording.now in
    let e = c.in_ok-machine.ensures.machine in
    let m = start_of r e.0 in
    let before = c.in-Some.before in
    let less : before ≡ c.args.round - 1 = omega (arith, c.in-Some.ensures.0) in
    IfOk-weaker c.sight_in_round.result _ _
    (λ s is. (
      e.0,
      e.1,
      is ∙ sight_from_before r.rounds m (after_rounds before m) c.args.round c.args.hart c.args.count (omega (arith, c.in-Some.ensures.0)) c.in-Some.ensures.1 (ap (λ (k : ℕ). after_rounds k m) less),
    ))
    (c.sight_in_round.ensures.sight m e.2)
