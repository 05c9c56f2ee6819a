use Rattle.std.proofs.Common.{◌≡◌, ℕ, ◌+◌, ◌<◌, ◌==◌, ◌++◌, [], ◌∷◌, List, length, get_or, if◌then◌else◌, ◌∙◌, ap, arith, below_more, rules, replicate, subst, sym, true, IsTrue}
use Rattle.std.proofs.lemmas.List.{get_or_default, length-replicate}
use Rattle.rv64_decode.specs.declared.instruction.Instr.{Instr}
use Rattle.rv64_decode.specs.declared.instruction.Instr.TheVariants.{Ecall}
use Rattle.round_schedule.specs.Positions.{event}
use Rattle.memory_order.specs.Operations.{is_operation}
use Rattle.memory_order.specs.Orders.{order_position}
use Rattle.memory_order.proofs.Facts.{within}
use Rattle.memory_order.specs.declared.registers.Registers.{Registers}
use Rattle.memory_order.specs.Dependencies.{RespectsAt, registers_at}
use Rattle.memory_order.specs.Registers.{registers_of}
use Rattle.rule_checker.specs.declared.carried.Carried.{Carried}
use Rattle.memory_order.specs.Checking.{source_of}
use Rattle.rule_checker.specs.CarriedBounds.{AreOperands, MayForwardAll, carried_after, carried_of, none_carried}
use Rattle.memory_order.proofs.Harts.{alike_at_first}
use Rattle.rule_checker.proofs.Firsts.{first_at}
use Rattle.rule_checker.proofs.Carrying.{Carries, allowed_from_respected, carries_none, carries_step, forwards_from_respected, respected_from_allowed, operands_step}
use Rattle.rule_checker.proofs.carried.first_by_dependency.Goals as goal
use Rattle.rule_checker.proofs.carried.first_by_dependency.Goals.{else-is_operation-via-then-is_operation+else-not-may_forward, then-allows, else-allows, else-is_operation-via-else-is_operation}

-- the registers of the instruction that is read
registers_read : (is : List Instr) (i : ℕ) (x : Registers) (j : Instr) → i < length is → x ≡ registers_of j → j ≡ get_or is i j → x ≡ registers_at is i
registers_read is i x j l e at = e ∙ ap registers_of (at ∙ get_or_default is i j Ecall l)

pub loop-i-init : goal.loop-i-init
loop-i-init c =
    let is = c.args.instructions.now in
    let t = c.args.events.now in
    let pos = order_position c.args.order.now in
    let none : c.in_ok-harts.harts.items ≡ replicate 256 none_carried = c.in_ok-harts.ensures.items_if_clones_equal (λ y e. search rules) in
    record {
      harts = ap length none ∙ length-replicate 256 none_carried;
      carries = λ h. subst (Carries is t pos h 0) (sym (ap (λ v. get_or v h none_carried) none ∙ alike_at_first 256 h none_carried)) (carries_none is t pos h);
      operands = (ap length c.new-operands.ensures.items, λ m l. absurd (omega (arith, l)));
      respected = λ b l op a oa rule. absurd (omega (arith, l));
    }

pub returns-then-not-may_forward : goal.returns-then-not-may_forward
returns-then-not-may_forward c = first_at c.args.events.now (RespectsAt c.args.instructions.now c.args.events.now (order_position c.args.order.now)) c.loop-i.i c.loop-i.invariant.respected (λ respected.
    let is = c.args.instructions.now in
    let t = c.args.events.now in
    let g = c.args.order.now in
    let i = c.loop-i.i in
    let inside : i < length is = omega (arith, c.requires.along, c.loop-i-test.true) in
    let e = c.event_at-event.result in
    let op : is_operation (event t i) ≡ true = ap is_operation (sym c.event_at-event.ensures.at) ∙ sym c.is_operation.ensures ∙ c.if-is_operation.true in
    let used = registers_read is i c.used_registers-used.result c.index-instructions-i.result inside c.used_registers-used.ensures c.index-instructions-i.is in
    let known = subst (Carries is t (order_position g) e.hart i) (sym (c.of_hart-carried.ensures none_carried)) (c.loop-i.invariant.carries e.hart) in
    elim c.if-allows.branch [
      | then-allows w ↦
          let f = forwards_from_respected is t g i c.position_of-position.result c.loop-i.operands.items (λ x. source_of g c.args.sources.now.items i x) c.position_of-position.ensures.at c.requires.lists
          c.loop-i.invariant.operands (λ x h. c.requires.sourced.max i x h) (respected op) in
          let yes : IsTrue w.may_forward.result = w.may_forward.ensures.1 (subst (λ v. MayForwardAll t g v (λ x. source_of g c.args.sources.now.items i x) i c.position_of-position.result) (sym w.deref.ensures.value) f) in
          cc
      | else-allows w ↦
          let yes : IsTrue c.allows.result = c.allows.ensures.1 (allowed_from_respected is t g i c.position_of-position.result e c.used_registers-used.result c.of_hart-carried.result
          c.event_at-event.ensures.at used c.are_registers.ensures c.position_of-position.ensures.at known (respected op)) in
          cc
    ])

pub loop-i-preserved : goal.loop-i-preserved
loop-i-preserved c =
    let is = c.args.instructions.now in
    let t = c.args.events.now in
    let g = c.args.order.now in
    let pos = order_position g in
    let i = c.loop-i.i in
    let e = c.event_at-event.result in
    let p = c.position_of-position.result in
    let x = c.used_registers-used.result in
    let b = c.of_hart-carried.result in
    let inside : i < length is = omega (arith, c.requires.along, c.loop-i-test.true) in
    let used = registers_read is i x c.index-instructions-i.result inside c.used_registers-used.ensures c.index-instructions-i.is in
    let known = subst (Carries is t pos e.hart i) (sym (c.of_hart-carried.ensures none_carried)) (c.loop-i.invariant.carries e.hart) in
    let here : is_operation (event t i) ≡ true → RespectsAt is t pos i = λ op. elim c.else-is_operation.branch [
      | else-is_operation-via-then-is_operation+else-not-may_forward w ↦ elim w.if-allows.branch [
        | then-allows v ↦
            let fine = v.value-is in
            let go = w.if-not-may_forward.false in
            respected_from_allowed is t g i p e x b c.loop-i.operands.items (λ y. source_of g c.args.sources.now.items i y) c.event_at-event.ensures.at used c.are_registers.ensures c.position_of-position.ensures.at c.requires.lists known
            c.loop-i.invariant.operands (λ y h. c.requires.sourced.max i y h) (w.allows.ensures.0 v.if-allows.true)
            (subst (λ u. MayForwardAll t g u (λ y. source_of g c.args.sources.now.items i y) i p) v.deref.ensures.value (v.may_forward.ensures.0 (sym fine ∙ go)))
        | else-allows v ↦ absurd (let no = v.value-is in let go = w.if-not-may_forward.false in cc)
      ]
      | else-is_operation-via-else-is_operation w ↦
          absurd (let no = sym c.is_operation.ensures ∙ w.if-is_operation.false in let same = ap is_operation c.event_at-event.ensures.at in cc)
    ] in
    record {
      harts = c.carry.ensures.len ∙ c.loop-i.invariant.harts;
      carries = carries_step is t pos i (p + 1) e x b (λ h. carried_of c.loop-i.harts.items h) (λ h. carried_of c.carry.new.harts.items h)
          c.event_at-event.ensures.at used c.are_registers.ensures (ap (λ n. n + 1) c.position_of-position.ensures.at) (c.of_hart-carried.ensures none_carried)
          (λ h. c.carry.ensures.set h ∙ ap (λ (y : Carried). if h == e.hart then carried_after y x e (p + 1) else carried_of c.loop-i.harts.items h) (sym (c.of_hart-carried.ensures none_carried)))
          c.loop-i.invariant.carries;
      operands = subst (λ v. AreOperands is t pos (i + 1) v) (sym (c.in_ok-push.ensures.items ∙ ap (λ n. c.loop-i.operands.items ++ n ∷ []) c.operand_bound.ensures))
          (operands_step is t pos i e x b c.loop-i.operands.items c.event_at-event.ensures.at used c.are_registers.ensures known c.loop-i.invariant.operands);
      respected = below_more _ _ c.loop-i.invariant.respected here;
    }

pub returns : goal.returns
returns c = λ b op. c.loop-i.invariant.respected b (let l = within c.args.events.now b op in omega (arith, l)) op
