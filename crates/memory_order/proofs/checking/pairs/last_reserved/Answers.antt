use Rattle.std.proofs.Common.{◌≡◌, ℕ, ◌∙◌, ap, arith, get_or, length, replicate, rules, subst, sym}
use Rattle.std.proofs.lemmas.List.{length-replicate}
use Rattle.round_schedule.specs.declared.event.Event.{Event}
use Rattle.round_schedule.specs.Positions.{event}
use Rattle.memory_order.specs.Checking.{Earlier, IsMax}
use Rattle.memory_order.proofs.Bounding.{earlier_none}
use Rattle.memory_order.proofs.Harts.{alike_at_first}
use Rattle.memory_order.proofs.Pairing.{is_reserving, last_stays, last_step, reserved_more}
use Rattle.memory_order.proofs.checking.pairs.last_reserved.Goals as goal
use Rattle.memory_order.proofs.checking.pairs.last_reserved.Goals.{then-is_lr_or_sc, else-is_lr_or_sc}

pub loop-i-init : goal.loop-i-init
loop-i-init c =
    let t = c.args.events.now in
    let none : c.in_ok-last.last.items ≡ replicate 256 0 = c.in_ok-last.ensures.items_if_clones_equal (λ y e. search rules) in
    record {
      harts = ap length none ∙ length-replicate {A = ℕ} 256 0;
      reserved = (ap length c.new-reserved.ensures.items, λ m l. absurd (omega (arith, l)));
      last = λ h.
          subst (IsMax (λ j. j) (Earlier is_reserving t h 0)) (sym (ap (λ v. get_or v h 0) none ∙ alike_at_first 256 h 0)) (earlier_none is_reserving t (λ j. j) h);
    }

pub loop-i-preserved : goal.loop-i-preserved
loop-i-preserved c =
    let t = c.args.events.now in
    let i = c.loop-i.i in
    let e = c.event_at-event.result in
    let at = c.event_at-event.ensures.at in
    let now = subst (λ v. IsMax (λ j. j) (Earlier is_reserving t (event t i).hart i) v)
    (sym (c.of_hart.ensures 0 ∙ ap (λ h. get_or c.loop-i.last.items h 0) (ap (λ (f : Event). f.hart) at))) (c.loop-i.invariant.last (event t i).hart) in
    record {
      harts = elim c.if-is_lr_or_sc.branch [
        | then-is_lr_or_sc w ↦ rw w.last-is (w.set_of_hart.ensures.len ∙ c.loop-i.invariant.harts)
        | else-is_lr_or_sc w ↦ rw w.last-is c.loop-i.invariant.harts
      ];
      reserved = reserved_more t i c.of_hart.result c.loop-i.reserved.items _ c.in_ok-push.ensures.items c.loop-i.invariant.reserved now;
      last = λ h. elim c.if-is_lr_or_sc.branch [
        | then-is_lr_or_sc w ↦ rw w.last-is
            (last_step t i e (λ k. get_or c.loop-i.last.items k 0) (λ k. get_or w.set_of_hart.new.harts.items k 0) at (sym c.is_lr_or_sc.ensures ∙ w.if-is_lr_or_sc.true)
            (λ k. w.set_of_hart.ensures.set 0 k) c.loop-i.invariant.last h)
        | else-is_lr_or_sc w ↦ rw w.last-is
            (last_stays t i e (λ k. get_or c.loop-i.last.items k 0) at (sym c.is_lr_or_sc.ensures ∙ w.if-is_lr_or_sc.false) c.loop-i.invariant.last h)
      ];
    }
