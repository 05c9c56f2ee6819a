use Rattle.std.proofs.Common.{◌≡◌, ◌<◌, ◌+◌, ◌-◌, rules, suc, sym, ap, subst, ◌∙◌, arith}
use Rattle.gdb_runs.specs.declared.debugged.Debugged.{Debugged}
use Rattle.gdb_runs.specs.declared.session.Session.{Session}
use Rattle.gdb_steps.specs.Steps.{Steps, steps_further}
use Rattle.gdb_runs.specs.Sessions.{IsReady, Recorded, recorded_of, state_of}
use Rattle.gdb_steps.proofs.Further.{ends_there, goes_further, stays_there}
use Rattle.gdb_runs.proofs.Runs.{of_same}
use Rattle.gdb_steps.proofs.stepping_in.step_further.Goals as goal

pub returns-then-not-branch-clause-steps : goal.returns-then-not-branch-clause-steps
returns-then-not-branch-clause-steps g c = λ m is.
    let d = c.args.run.now in
    let hart = c.args.hart in
    let s = state_of c.loop-i.session in
    let u = c.in_ok-standing.standing in
    let most = c.steps_in_round-most.result in
    let P : Recorded → Type 0 = λ r. Steps r s hart u in
    let Q : Recorded → Type 0 = λ r. c.in_ok-steps_further.field-0 ≡ steps_further r c.args.low c.args.high hart u in
    let here = c.loop-i.invariant.0 in
    let did = of_same d c.loop-i.run P here c.in_ok-standing.ensures.steps m is in
    let further = of_same d c.step.new.run Q (c.in_ok-standing.ensures.stays ∙ here) c.in_ok-steps_further.ensures.further m is in
    let left : 0 < most - c.loop-i._i = omega arith in
    record {
      most = most;
      some = c.steps_in_round-most.ensures;
      steps = c.loop-i.invariant.3 m is u (ends_there (recorded_of m d) c.args.low c.args.high hart s u did (most - c.loop-i._i) left (sym further ∙ search rules));
    }

pub loop-i-preserved : goal.loop-i-preserved
loop-i-preserved g c =
    let d = c.args.run.now in
    let hart = c.args.hart in
    let s = state_of c.loop-i.session in
    let u = c.in_ok-standing.standing in
    let most = c.steps_in_round-most.result in
    let here = c.loop-i.invariant.0 in
    let stepped = c.in_ok-standing.ensures.stays ∙ here in (
      c.in_ok-steps_further.ensures.stays ∙ stepped,
      ap (λ (x : Session). record x { standing = u }) c.loop-i.invariant.1,
      subst (λ (x : Debugged). IsReady x u) here c.in_ok-standing.ensures.ready,
      λ m is t rest.
          let P : Recorded → Type 0 = λ r. Steps r s hart u in
          let Q : Recorded → Type 0 = λ r. c.in_ok-steps_further.field-0 ≡ steps_further r c.args.low c.args.high hart u in
          let did = of_same d c.loop-i.run P here c.in_ok-standing.ensures.steps m is in
          let further = of_same d c.step.new.run Q stepped c.in_ok-steps_further.ensures.further m is in
          let left : most - c.loop-i._i ≡ suc (most - (c.loop-i._i + 1)) = omega arith in
          c.loop-i.invariant.3 m is t
          (goes_further (recorded_of m d) c.args.low c.args.high hart s u did (most - c.loop-i._i) (most - (c.loop-i._i + 1)) t left (sym further ∙ search rules) rest),
    )

pub returns-clause-steps : goal.returns-clause-steps
returns-clause-steps g c = λ m is.
    let most = c.steps_in_round-most.result in
    let none : most - c.loop-i._i ≡ 0 = omega arith in
    record {
      most = most;
      some = c.steps_in_round-most.ensures;
      steps =
          c.loop-i.invariant.3 m is c.loop-i.session.standing
          (stays_there (recorded_of m c.args.run.now) c.args.low c.args.high c.args.hart (state_of c.loop-i.session) (most - c.loop-i._i) none);
    }
