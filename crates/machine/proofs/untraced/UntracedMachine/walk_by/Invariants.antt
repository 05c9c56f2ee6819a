use Rattle.std.proofs.Common.{◌≡◌, ◌-◌, ◌≤◌}
use Rattle.hart_rounds.specs.Starts.{keeps_log}
use Rattle.guest_rounds.specs.Crews.{MayShare}
use Rattle.machine.specs.Untraced.{HasRun}
use Rattle.machine.specs.Walks.{HasLearned, HasShared, MayWalk}
use Rattle.machine.proofs.Walked.{IsAlong}
use Rattle.machine.proofs.untraced.UntracedMachine.walk_by.Given as goal

abbrev pub invariant-loop-done : goal.invariant-loop-done
invariant-loop-done g l = record {
  run : HasRun l.done l.fn.self l.self (g.E.EventKeeper.keeps l.fn.keeper) (g.E.EventKeeper.keeps l.keeper);
  opening : g.E.EventKeeper.opens_with l.keeper ≡ g.E.EventKeeper.opens_with l.fn.keeper;
  sound : MayWalk g.E.EventKeeper.may_keep (g.E.EventKeeper.keeps l.keeper) (l.stretch.rounds - l.done) l.self;
  along : IsAlong l.done l.fn.self l.self;
  form : keeps_log l.crew.crew.form ≡ g.E.EventKeeper.logs;
  known : HasLearned g.V.Visitor.knows l.stretch.rounds l.done l.fn.self l.fn.visitor l.visitor;
  plan : l.self.plan ≡ l.fn.self.plan;
  may : MayShare l.self.rounds l.self.plan.harts l.crew.board.now.book l.crew.seat l.crew.blank.items;
  few : l.shared ≤ l.done;
  gathered : HasShared l.shared l.fn.self.plan.harts l.fn.self l.self l.fn.crew.seat l.crew.seat;
}
