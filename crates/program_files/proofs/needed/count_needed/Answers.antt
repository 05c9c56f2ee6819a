use Rattle.std.proofs.Common.{◌≡◌, ◌∙◌, inr, false, ap, sym, subst, arith}
use Rattle.machine.specs.Machine.{Running, after_rounds}
use Rattle.machine.specs.Untraced.{IsUntraced}
use Rattle.machine.proofs.Repeated.{more_rounds, no_rounds}
use Rattle.program_files.specs.Needed.{have_stopped}
use Rattle.program_files.proofs.NextRound.{below_next}
use Rattle.program_files.proofs.needed.count_needed.Goals as goal

pub loop-done-init : goal.loop-done-init
loop-done-init g c =
    (λ m is. (subst (λ (x : Running). IsUntraced x c.args.machine.now) (no_rounds m) is, λ k few. absurd (omega (arith, few))), omega arith)

pub returns-then-have_stopped-clause-needed : goal.returns-then-have_stopped-clause-needed
returns-then-have_stopped-clause-needed g c = λ m is.
    let i = c.loop-done.invariant.0 m is in
    record {
      most = omega (arith, c.loop-done-test.true);
      enough = inr (ap have_stopped (sym i.0.harts) ∙ (sym c.have_stopped.ensures ∙ c.if-have_stopped.true));
      all = i.1;
    }

pub loop-done-preserved : goal.loop-done-preserved
loop-done-preserved g c =
    let n = c.loop-done.done in (
      λ m is.
          let i = c.loop-done.invariant.0 m is in (
            subst (λ (x : Running). IsUntraced x c.do_round.new.machine) (more_rounds n 1 m) (c.in_ok-do_round.ensures.run (after_rounds n m) i.0),
            below_next (λ k. have_stopped (after_rounds k m).state.harts ≡ false) n i.1 (ap have_stopped (sym i.0.harts) ∙ (sym c.have_stopped.ensures ∙ c.if-have_stopped.false)),
          ),
      omega (arith, c.in_ok-do_round.ensures.counted, c.loop-done.invariant.1),
    )
