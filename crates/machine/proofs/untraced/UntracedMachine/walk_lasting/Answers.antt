use Rattle.std.proofs.Common.{ap, ◌∙◌}
use Rattle.hart_rounds.specs.Starts.{keeps_log}
use Rattle.lasting_workers.specs.declared.board.Board.{Board}
use Rattle.machine.proofs.Gathered.{may_open}
use Rattle.machine.proofs.untraced.UntracedMachine.walk_lasting.Goals as goal

pub walk_by-walked-requires-clause-form : goal.walk_by-walked-requires-clause-form
walk_by-walked-requires-clause-form g c = λ lifetimes within. ap keeps_log c.new-crew.ensures.form ∙ c.log_form.ensures

pub walk_by-walked-requires-clause-may : goal.walk_by-walked-requires-clause-may
walk_by-walked-requires-clause-may g c = λ lifetimes within.
    let r = c.requires in
    let made = c.new-crew.ensures in
    may_open c.args.self.now.rounds c.args.self.now.plan.harts c.args.board.now.book c.new-crew.result.board.now.book c.args.own c.new-crew.result.seat c.new-crew.result.blank.items
    (ap (λ (x : Board _ _). x.book) made.board) made.seat made.blank r.own r.first r.harts
