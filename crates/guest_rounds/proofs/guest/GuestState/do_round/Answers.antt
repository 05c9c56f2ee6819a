use Rattle.std.proofs.Common.{◌≡◌, ◌++◌, List, length, take, drop, sym, ap, ◌∙◌, subst, arith, refl}
use Rattle.std.proofs.lemmas.List.{take_at}
use Rattle.round_schedule.specs.declared.event.Event.{Event}
use Rattle.round_schedule.specs.Schedule.{hart_rounds}
use Rattle.round_planner.specs.Quotas.{quotas_of}
use Rattle.hart_step.specs.declared.hart.Hart.{Hart}
use Rattle.hart_step.specs.Words.{words_of}
use Rattle.hart_rounds.specs.declared.hart_end.HartEnd.{HartEnd}
use Rattle.guest_rounds.specs.Guests.{Guest, guest_events, guest_of, next_guest}
use Rattle.guest_rounds.specs.Rounds.{count_waiting}
use Rattle.guest_rounds.specs.HartEnds.{AreAtRest, AreFit, StoppedStay, AreEndsOf, count_accesses, count_true, harts_of, mask_of, waits_of}
use Rattle.guest_rounds.proofs.AtRest.{at_rest}
use Rattle.guest_rounds.proofs.ShownCode.{rounds_touch}
use Rattle.guest_rounds.proofs.Counted.{few_accesses}
use Rattle.guest_rounds.proofs.GuestRounds.{here_are, many_here, many_of}
use Rattle.guest_rounds.proofs.Listed.{are_fit}
use Rattle.guest_rounds.proofs.RoundDone.{finished_done, waited_is}
use Rattle.guest_rounds.proofs.TraceHolds.{low_quotas}
use Rattle.guest_rounds.proofs.guest.GuestState.do_round.Goals as goal

pub finish-requires-clause-workers : goal.finish-requires-clause-workers
finish-requires-clause-workers g c = λ lifetimes within. c.requires.workers

pub finish-requires-clause-rounds : goal.finish-requires-clause-rounds
finish-requires-clause-rounds g c = λ lifetimes within.
    let i = c.self.inside in
    let m = i.shared.pages.memory in
    let qs = quotas_of c.args.plan.now c.args.done in
    let rs = hart_rounds (words_of m.code) m.bytes qs i.harts.items in
    let a = here_are g.E.EventKeeper.logs c.args.plan.now c.args.done i.harts.items i.shared _ c.args.ends.items c.self.view_is c.requires.ends in
    let here = subst (λ (x : List HartEnd). AreEndsOf g.E.EventKeeper.logs m rs x) (sym c.deref_mut.ensures.value) a in
    let waits = c.of-tally.ensures.waiting ∙ ap (λ (os : List HartEnd). mask_of (waits_of os)) (c.deref.ensures.value ∙ sym c.deref_mut.ensures.value) in
    let sound = subst (λ (x : Guest). g.E.EventKeeper.may_keep (c.requires.sound.0 ++ guest_events c.args.plan.now c.args.done x)) (sym c.self.view_is) c.requires.sound.2 in (
      rs,
      here,
      rounds_touch m qs i.harts.items,
      (
        c.requires.sound.0,
        c.requires.sound.1,
        λ new more f. subst (λ (x : List Event). g.E.EventKeeper.may_keep (c.requires.sound.0 ++ x))
            (sym (finished_done g.E.EventKeeper.logs c.args.plan.now _ c.args.done (guest_of i.harts.items i.shared) new more c.deref_mut.result.now here c.budget.ensures.budget refl waits f).events) sound,
      ),
    )

pub finish-requires-clause-few : goal.finish-requires-clause-few
finish-requires-clause-few g c = λ lifetimes within.
    let i = c.self.inside in
    let many = many_here g.E.EventKeeper.logs c.args.plan.now c.args.done i.harts.items i.shared _ c.args.ends.items c.self.view_is c.requires.ends in
    omega (arith, many, ap length c.deref_mut.ensures.value, c.requires.harts, ap (λ (x : Guest). length x.harts) c.self.view_is, c.harts-harts.ensures.harts, c.harts-harts.ensures.few_harts)

pub finish-requires-clause-fits : goal.finish-requires-clause-fits
finish-requires-clause-fits g c = λ lifetimes within.
    let i = c.self.inside in
    let m = i.shared.pages.memory in
    let a = here_are g.E.EventKeeper.logs c.args.plan.now c.args.done i.harts.items i.shared _ c.args.ends.items c.self.view_is c.requires.ends in
    subst (λ (x : List HartEnd). AreFit m x) (sym c.deref_mut.ensures.value) (are_fit g.E.EventKeeper.logs m _ c.args.ends.items a)

pub finish-requires-clause-harts : goal.finish-requires-clause-harts
finish-requires-clause-harts g c = λ lifetimes within.
    let i = c.self.inside in
    let many = many_here g.E.EventKeeper.logs c.args.plan.now c.args.done i.harts.items i.shared _ c.args.ends.items c.self.view_is c.requires.ends in
    ap length c.deref_mut-2.ensures.value ∙ sym many ∙ sym (ap length c.deref_mut.ensures.value)

pub finish-requires-clause-at_rest : goal.finish-requires-clause-at_rest
finish-requires-clause-at_rest g c = λ lifetimes within.
    let i = c.self.inside in
    let m = i.shared.pages.memory in
    let qs = quotas_of c.args.plan.now c.args.done in
    let a = here_are g.E.EventKeeper.logs c.args.plan.now c.args.done i.harts.items i.shared _ c.args.ends.items c.self.view_is c.requires.ends in
    subst (λ (hs : List Hart). AreAtRest hs c.deref_mut.result.now) (sym c.deref_mut-2.ensures.value)
    (subst (λ (os : List HartEnd). AreAtRest i.harts.items os) (sym c.deref_mut.ensures.value) (at_rest g.E.EventKeeper.logs m qs i.harts.items c.args.ends.items a))

pub finish-requires-clause-size : goal.finish-requires-clause-size
finish-requires-clause-size g c = λ lifetimes within.
    let i = c.self.inside in
    let many = many_here g.E.EventKeeper.logs c.args.plan.now c.args.done i.harts.items i.shared _ c.args.ends.items c.self.view_is c.requires.ends in
    c.self.invariant.size ∙ sym many ∙ sym (ap length c.deref_mut.ensures.value)

pub finish-requires-clause-waiting : goal.finish-requires-clause-waiting
finish-requires-clause-waiting g c = λ lifetimes within.
    c.of-tally.ensures.waiting ∙ ap (λ (os : List HartEnd). mask_of (waits_of os)) (c.deref.ensures.value ∙ sym c.deref_mut.ensures.value)

pub finish-requires-clause-waited : goal.finish-requires-clause-waited
finish-requires-clause-waited g c = λ lifetimes within.
    c.of-tally.ensures.waited ∙ ap (λ (os : List HartEnd). count_true (waits_of os)) (c.deref.ensures.value ∙ sym c.deref_mut.ensures.value)

pub finish-requires-clause-counted : goal.finish-requires-clause-counted
finish-requires-clause-counted g c = λ lifetimes within. c.of-tally.ensures.accesses ∙ ap count_accesses (c.deref.ensures.value ∙ sym c.deref_mut.ensures.value)

pub finish-requires-clause-budget : goal.finish-requires-clause-budget
finish-requires-clause-budget g c = λ lifetimes within. c.budget.ensures.few_budget

pub finish-requires-clause-accesses : goal.finish-requires-clause-accesses
finish-requires-clause-accesses g c = λ lifetimes within.
    let i = c.self.inside in
    let m = i.shared.pages.memory in
    let many = many_here g.E.EventKeeper.logs c.args.plan.now c.args.done i.harts.items i.shared _ c.args.ends.items c.self.view_is c.requires.ends in
    let a = here_are g.E.EventKeeper.logs c.args.plan.now c.args.done i.harts.items i.shared _ c.args.ends.items c.self.view_is c.requires.ends in
    let few = few_accesses g.E.EventKeeper.logs m (words_of m.code) m.bytes (quotas_of c.args.plan.now c.args.done) i.harts.items c.args.ends.items (low_quotas c.args.plan.now c.harts-harts.ensures.in_range c.args.done) a in
    omega (arith, few, ap count_accesses c.deref_mut.ensures.value, many, c.requires.harts, ap (λ (x : Guest). length x.harts) c.self.view_is, c.harts-harts.ensures.harts, c.harts-harts.ensures.few_harts)

pub returns-clause-ok : goal.returns-clause-ok
returns-clause-ok g c =
    let i = c.self.inside in
    let m = i.shared.pages.memory in
    let rs = hart_rounds (words_of m.code) m.bytes (quotas_of c.args.plan.now c.args.done) i.harts.items in
    let a = here_are g.E.EventKeeper.logs c.args.plan.now c.args.done i.harts.items i.shared _ c.args.ends.items c.self.view_is c.requires.ends in
    let here = subst (λ (x : List HartEnd). AreEndsOf g.E.EventKeeper.logs m rs x) (sym c.deref_mut.ensures.value) a in
    let waits = c.of-tally.ensures.waiting ∙ ap (λ (os : List HartEnd). mask_of (waits_of os)) (c.deref.ensures.value ∙ sym c.deref_mut.ensures.value) in
    let ok = c.in_ok-counts.ensures.ok rs here in
    let done = finished_done g.E.EventKeeper.logs c.args.plan.now _ c.args.done (guest_of i.harts.items i.shared) _ ok.0 c.deref_mut.result.now here c.budget.ensures.budget refl waits ok.1 in
    let whole : take i.harts.len (c.finish.new.harts ++ drop (length c.finish.new.harts) i.harts.items) ≡ c.finish.new.harts = take_at c.finish.new.harts _ i.harts.len (omega (arith, c.finish.auto.harts, c.deref_mut-2.ensures.len, ap length c.deref_mut-2.ensures.value)) in
    ap (λ (hs : List Hart). guest_of hs c.finish.new.shared) whole ∙ done.done ∙ ap (λ (x : Guest). next_guest c.args.plan.now c.args.done x) c.self.view_is

pub returns-clause-kept : goal.returns-clause-kept
returns-clause-kept g c = λ es kept.
    let i = c.self.inside in
    let m = i.shared.pages.memory in
    let rs = hart_rounds (words_of m.code) m.bytes (quotas_of c.args.plan.now c.args.done) i.harts.items in
    let a = here_are g.E.EventKeeper.logs c.args.plan.now c.args.done i.harts.items i.shared _ c.args.ends.items c.self.view_is c.requires.ends in
    let here = subst (λ (x : List HartEnd). AreEndsOf g.E.EventKeeper.logs m rs x) (sym c.deref_mut.ensures.value) a in
    let waits = c.of-tally.ensures.waiting ∙ ap (λ (os : List HartEnd). mask_of (waits_of os)) (c.deref.ensures.value ∙ sym c.deref_mut.ensures.value) in
    let ok = c.in_ok-counts.ensures.ok rs here in
    let done = finished_done g.E.EventKeeper.logs c.args.plan.now _ c.args.done (guest_of i.harts.items i.shared) _ ok.0 c.deref_mut.result.now here c.budget.ensures.budget refl waits ok.1 in
    subst (λ (x : List Event). g.E.EventKeeper.keeps c.finish.new.keeper (es ++ x)) (done.events ∙ ap (λ (x : Guest). guest_events c.args.plan.now c.args.done x) c.self.view_is) (ok.3 es kept)

pub returns-clause-events : goal.returns-clause-events
returns-clause-events g c =
    let i = c.self.inside in
    let m = i.shared.pages.memory in
    let rs = hart_rounds (words_of m.code) m.bytes (quotas_of c.args.plan.now c.args.done) i.harts.items in
    let a = here_are g.E.EventKeeper.logs c.args.plan.now c.args.done i.harts.items i.shared _ c.args.ends.items c.self.view_is c.requires.ends in
    let here = subst (λ (x : List HartEnd). AreEndsOf g.E.EventKeeper.logs m rs x) (sym c.deref_mut.ensures.value) a in
    let waits = c.of-tally.ensures.waiting ∙ ap (λ (os : List HartEnd). mask_of (waits_of os)) (c.deref.ensures.value ∙ sym c.deref_mut.ensures.value) in
    let ok = c.in_ok-counts.ensures.ok rs here in
    let done = finished_done g.E.EventKeeper.logs c.args.plan.now _ c.args.done (guest_of i.harts.items i.shared) _ ok.0 c.deref_mut.result.now here c.budget.ensures.budget refl waits ok.1 in
    ok.2 ∙ ap length (done.events ∙ ap (λ (x : Guest). guest_events c.args.plan.now c.args.done x) c.self.view_is)

pub returns-clause-few : goal.returns-clause-few
returns-clause-few g c = c.in_ok-counts.ensures.few

pub returns-clause-waited : goal.returns-clause-waited
returns-clause-waited g c =
    let i = c.self.inside in
    let m = i.shared.pages.memory in
    let rs = hart_rounds (words_of m.code) m.bytes (quotas_of c.args.plan.now c.args.done) i.harts.items in
    let a = here_are g.E.EventKeeper.logs c.args.plan.now c.args.done i.harts.items i.shared _ c.args.ends.items c.self.view_is c.requires.ends in
    let here = subst (λ (x : List HartEnd). AreEndsOf g.E.EventKeeper.logs m rs x) (sym c.deref_mut.ensures.value) a in
    c.in_ok-counts.ensures.waited ∙ waited_is g.E.EventKeeper.logs m rs c.deref_mut.result.now here
    ∙ ap (λ (x : Guest). count_waiting (hart_rounds (words_of x.shared.memory.code) x.shared.memory.bytes (quotas_of c.args.plan.now c.args.done) x.harts)) c.self.view_is

pub of-tally-requires-clause-few : goal.of-tally-requires-clause-few
of-tally-requires-clause-few g c =
    let many = many_of g.E.EventKeeper.logs c.args.plan.now c.args.done c.args.self.now c.args.ends.items c.requires.ends in
    omega (arith, ap length c.deref.ensures.value, many, c.requires.harts, c.harts-harts.ensures.harts, c.harts-harts.ensures.few_harts)

pub of-tally-requires-clause-accesses : goal.of-tally-requires-clause-accesses
of-tally-requires-clause-accesses g c =
    let h = c.args.self.now in
    let m = h.shared.memory in
    let os = c.args.ends.items in
    let many = many_of g.E.EventKeeper.logs c.args.plan.now c.args.done h os c.requires.ends in
    let few = few_accesses g.E.EventKeeper.logs m (words_of m.code) m.bytes (quotas_of c.args.plan.now c.args.done) h.harts os (low_quotas c.args.plan.now c.harts-harts.ensures.in_range c.args.done) c.requires.ends in
    omega (arith, few, ap count_accesses c.deref.ensures.value, many, c.requires.harts, c.harts-harts.ensures.harts, c.harts-harts.ensures.few_harts)

pub invariant_of-self-2 : goal.invariant_of-self-2
invariant_of-self-2 g c =
    let i = c.self.inside in
    let many = many_here g.E.EventKeeper.logs c.args.plan.now c.args.done i.harts.items i.shared _ c.args.ends.items c.self.view_is c.requires.ends in
    let whole : take i.harts.len (c.finish.new.harts ++ drop (length c.finish.new.harts) i.harts.items) ≡ c.finish.new.harts = take_at c.finish.new.harts _ i.harts.len (omega (arith, c.finish.auto.harts, c.deref_mut-2.ensures.len, ap length c.deref_mut-2.ensures.value)) in
    let all : take c.args.ends.len (c.finish.new.ends ++ drop (length c.finish.new.ends) c.args.ends.items) ≡ c.finish.new.ends =
    take_at c.finish.new.ends _ c.args.ends.len (omega (arith, c.finish.auto.ends, c.deref_mut.ensures.len, ap length c.deref_mut.ensures.value)) in
    record {
      size = c.finish.ensures.size ∙ c.self.invariant.size ∙ sym (ap length whole ∙ omega (arith, c.finish.auto.harts, ap length c.deref_mut-2.ensures.value));
      kept = subst (λ (hs : List Hart). StoppedStay hs (harts_of (take c.args.ends.len (c.finish.new.ends ++ drop (length c.finish.new.ends) c.args.ends.items)))) (sym whole) (subst (λ (os : List HartEnd). StoppedStay c.finish.new.harts (harts_of os)) (sym all) c.in_ok-counts.ensures.kept);
    }

pub returns-clause-count : goal.returns-clause-count
returns-clause-count g c =
    let i = c.self.inside in
    let many = many_here g.E.EventKeeper.logs c.args.plan.now c.args.done i.harts.items i.shared _ c.args.ends.items c.self.view_is c.requires.ends in
    let whole : take i.harts.len (c.finish.new.harts ++ drop (length c.finish.new.harts) i.harts.items) ≡ c.finish.new.harts = take_at c.finish.new.harts _ i.harts.len (omega (arith, c.finish.auto.harts, c.deref_mut-2.ensures.len, ap length c.deref_mut-2.ensures.value)) in
    ap length whole ∙ omega (arith, c.finish.auto.harts, ap length c.deref_mut-2.ensures.value, ap (λ (x : Guest). length x.harts) c.self.view_is)
