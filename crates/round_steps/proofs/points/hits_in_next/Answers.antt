use Rattle.round_planner.specs.Quotas.{quotas_of}
use Rattle.hart_step.specs.Words.{words_of}
use Rattle.moments.specs.Moves.{moves_of}
use Rattle.round_steps.proofs.Silent.{unwatched}
use Rattle.round_steps.proofs.points.hits_in_next.Goals as goal

pub returns-in_ok-run-in-empty-clause-hits : goal.returns-in_ok-run-in-empty-clause-hits
returns-in_ok-run-in-empty-clause-hits g c = λ m is.
    unwatched c.args.way c.args.watches.now (moves_of (words_of m.code) m.plan.budget (quotas_of m.plan) m.state) c.new.result.items c.in-empty.len_below c.new.ensures.items
