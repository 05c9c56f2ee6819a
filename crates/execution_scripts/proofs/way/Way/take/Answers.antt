use Rattle.std.proofs.Common.{Option, subst, sym}
use Rattle.execution.specs.Executions.{Standing}
use Rattle.execution.proofs.Stepping.{at_some}
use Rattle.execution_checker.specs.Allowed.{Follows}
use Rattle.execution_checker.proofs.Followed.{at_none, followed}
use Rattle.execution_views.specs.declared.sights.HartStep.{HartStep}
use Rattle.execution_views.specs.Walks.{AreNotes}
use Rattle.execution_scripts.proofs.Ways.{pushed_follows}
use Rattle.execution_scripts.proofs.way.Way.take.Goals as goal

pub returns-in_ok-push-in-None-clause-way : goal.returns-in_ok-push-in-None-clause-way
returns-in_ok-push-in-None-clause-way c = λ image start asked w.
    let p = c.args.self.now.execution.standing in
    let ss = c.args.self.now.script.items in
    let leads = followed image ss start p w.follows in
    record {
      like = c.in_ok-fault.ensures.like image w.like;
      follows = pushed_follows image start p c.take_noted.new.execution.standing ss c.push.new.self.items c.args.step w.follows
          (at_none c.in_ok-fault.field-0 _ _ c.in-None.is c.in_ok-fault.ensures.took image w.like) c.in_ok-push-in-None.ensures.items;
      asks = w.asks;
      notes = subst (λ (a : Option HartStep). AreNotes image start c.take_noted.new.execution.standing a c.take_noted.new.notes) w.asks
          (c.in_ok-fault.ensures.notes image start w.like leads
          (subst (λ (a : Option HartStep). AreNotes image start p a c.args.self.now.notes) (sym w.asks) w.notes));
    }

pub returns-in-Some-clause-way : goal.returns-in-Some-clause-way
returns-in-Some-clause-way c = λ image start asked w.
    let p = c.args.self.now.execution.standing in
    let ss = c.args.self.now.script.items in
    let leads = followed image ss start p w.follows in
    let same = (at_some c.in_ok-fault.field-0 c.in-Some.fault _ _ c.in-Some.is c.in_ok-fault.ensures.took).1 in
    record {
      like = c.in_ok-fault.ensures.like image w.like;
      follows = subst (λ (q : Standing). Follows image ss start q) (sym same) w.follows;
      asks = w.asks;
      notes = subst (λ (a : Option HartStep). AreNotes image start c.take_noted.new.execution.standing a c.take_noted.new.notes) w.asks
          (c.in_ok-fault.ensures.notes image start w.like leads
          (subst (λ (a : Option HartStep). AreNotes image start p a c.args.self.now.notes) (sym w.asks) w.notes));
    }
