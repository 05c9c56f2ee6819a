use Rattle.std.proofs.Common.{◌++◌, List, sym, ap, subst, ◌∙◌, arith}
use Rattle.round_schedule.specs.declared.event.Event.{Event}
use Rattle.round_schedule.specs.Reservations.{Tied}
use Rattle.machine.specs.Machine.{Running, after_rounds}
use Rattle.machine.specs.Untraced.{IsUntraced}
use Rattle.machine.proofs.Repeated.{more_rounds, no_rounds}
use Rattle.gdb_events.proofs.Rounds.{none_before}
use Rattle.gdb_events.proofs.reserved.reservations_after.Goals as goal

pub loop-i-init : goal.loop-i-init
loop-i-init g c = record {
  count = c.in_ok-reservations.ensures.count;
  counted = c.requires.fresh;
  runs = λ m is. subst (λ (x : Running). IsUntraced x c.args.machine.now) (no_rounds m) is;
  tied = λ m is.
      let none = none_before m c.args.machine.now is c.requires.fresh in
      let T : List Event → Type 0 = λ t. Tied c.in_ok-reservations.reservations.items t in
      subst T (sym none ∙ ap (λ (x : Running). x.state.trace) (no_rounds m)) c.in_ok-reservations.ensures.tied;
}

pub loop-i-preserved : goal.loop-i-preserved
loop-i-preserved g c = record {
  count = c.note.ensures.count ∙ c.loop-i.invariant.count;
  counted = omega (arith, c.in_ok-events.ensures.counted, c.loop-i.invariant.counted);
  runs = λ m is.
      let n = c.loop-i._i in
      subst (λ (x : Running). IsUntraced x c.next_events.new.machine) (more_rounds n 1 m)
      (c.in_ok-events.ensures.runs (after_rounds n m) (c.loop-i.invariant.runs m is));
  tied = λ m is.
      let n = c.loop-i._i in
      let here = after_rounds n m in
      let there = c.loop-i.invariant.runs m is in
      let T : List Event → Type 0 = λ t. Tied c.note.new.reservations.items t in
      let events = c.as_slice.ensures.value ∙ c.in_ok-events.ensures.events here there in
      subst T
      (ap (λ (es : List Event). here.state.trace ++ es) events
      ∙ sym (c.in_ok-events.ensures.trace here there)
      ∙ ap (λ (x : Running). x.state.trace) (more_rounds n 1 m))
      (c.note.ensures.tied here.state.trace (c.loop-i.invariant.tied m is));
}
