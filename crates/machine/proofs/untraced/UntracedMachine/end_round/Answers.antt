use Rattle.std.proofs.Common.{◌≡◌, ◌+◌, ◌++◌, List, length, sym, ap, ◌∙◌, subst, arith}
use Rattle.pages.specs.Memory.{IsBytes, Memory}
use Rattle.round_schedule.specs.declared.event.Event.{Event}
use Rattle.machine.specs.RoundStarts.{AreOfNext}
use Rattle.machine.specs.Untraced.{HasRun, Untraced, next_events, untraced_of, untraced_round}
use Rattle.machine.proofs.UntracedRounds.{CanGoOn, once_run, same_untraced}
use Rattle.machine.proofs.untraced.UntracedMachine.end_round.Goals as goal

pub do_round-requires-clause-sound : goal.do_round-requires-clause-sound
do_round-requires-clause-sound g c = λ lifetimes within.
    (c.requires.sound.0, c.requires.sound.1, subst (λ (u : Untraced). g.E.EventKeeper.may_keep (c.requires.sound.0 ++ next_events u)) (sym c.self.view_is) c.requires.sound.2)

pub do_round-requires-clause-ends : goal.do_round-requires-clause-ends
do_round-requires-clause-ends g c = λ lifetimes within.
    subst (λ (u : Untraced). AreOfNext g.E.EventKeeper.logs u c.args.ends.items) (sym c.self.view_is) c.requires.ends

pub stopped_count-requires : goal.stopped_count-requires
stopped_count-requires g c = omega (arith, ap length c.harts.ensures.harts, ap (λ (w : Untraced). length w.harts) c.note_work.ensures, c.in_ok-counts.ensures.count, c.self.invariant.harts, c.harts-harts.ensures.harts, c.harts-harts.ensures.few_harts)

pub invariant_of-self-2 : goal.invariant_of-self-2
invariant_of-self-2 g c = record {
  harts = c.in_ok-counts.ensures.count ∙ c.self.invariant.harts;
  few = omega (arith, c.in_ok-counts.ensures.few, c.self.invariant.few);
}

pub returns-clause-ok : goal.returns-clause-ok
returns-clause-ok g c =
    let i = c.self.inside in
    let done = c.in_ok-counts.ensures in
    c.note_work.ensures ∙ same_untraced i.guest c.do_round.new.self i.plan i.events c.in_ok-counts.counts.events i.rounds done.ok done.events ∙ ap untraced_round c.self.view_is

pub returns-clause-run : goal.returns-clause-run
returns-clause-run g c =
    let i = c.self.inside in
    let u = untraced_of i.guest i.plan i.events i.rounds in
    let v = untraced_of c.do_round.new.self i.plan (i.events + c.in_ok-counts.counts.events) (i.rounds + 1) in
    let done = c.in_ok-counts.ensures in
    let next : v ≡ untraced_round u = same_untraced i.guest c.do_round.new.self i.plan i.events c.in_ok-counts.counts.events i.rounds done.ok done.events in
    let bytes = ap (λ (m : Memory). m.bytes) c.pages-pages.ensures in
    let can : CanGoOn u = record {
      bytes = subst IsBytes bytes c.bytes_fit.ensures;
      few = omega (arith, ap length bytes, c.count-pages.ensures.bytes, c.count-pages.ensures.most);
      size = c.sizes_agree.ensures;
      quotas = c.harts-harts.ensures.in_range;
      budget = omega (arith, c.budget-budget.ensures.budget, c.budget-budget.ensures.few_budget);
    } in
    subst (λ (w : Untraced). HasRun 1 c.args.self.now w (g.E.EventKeeper.keeps c.args.keeper.now) (g.E.EventKeeper.keeps c.do_round.new.keeper)) (sym c.note_work.ensures)
    (subst (λ (w : Untraced). HasRun 1 w v (g.E.EventKeeper.keeps c.args.keeper.now) (g.E.EventKeeper.keeps c.do_round.new.keeper)) c.self.view_is
    (once_run u v (g.E.EventKeeper.keeps c.args.keeper.now) (g.E.EventKeeper.keeps c.do_round.new.keeper) can (omega (arith, c.requires.rounds, ap (λ (w : Untraced). w.rounds) c.self.view_is)) next done.kept))

pub returns-clause-kept : goal.returns-clause-kept
returns-clause-kept g c =
    subst (λ (u : Untraced). (es : List Event) → g.E.EventKeeper.keeps c.args.keeper.now es → g.E.EventKeeper.keeps c.do_round.new.keeper (es ++ next_events u)) c.self.view_is c.in_ok-counts.ensures.kept
