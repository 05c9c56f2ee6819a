use Rattle.std.proofs.Common.{◌≡◌, ◌⊎◌, inl, inr, ℕ, ◌+◌, ◌-◌, ◌/◌, ◌%◌, ◌<◌, ◌≤◌, sym, ◌∙◌, ap, subst, arith}
use Rattle.std.proofs.lemmas.Bool.{cases_lt}
use Rattle.std.proofs.Math.Nat.{div-mul-le_self}
use Rattle.machine.specs.Machine.{after_rounds}
use Rattle.machine.specs.Untraced.{IsAfter}
use Rattle.hunter.proofs.Found.{like_end, like_itself, none_loops, not_loops, not_round_here, round_here, round_loops, round_of_none}
use Rattle.hunter.proofs.Rounds.{at_most, at_none, at_some, not_less, then_after, within}
use Rattle.hunter.proofs.finding.run_or_loop.Goals as goal

pub returns-then-not-has_running_hart-clause-loops : goal.returns-then-not-has_running_hart-clause-loops
returns-then-not-has_running_hart-clause-loops g c = λ m is.
    none_loops c.loop-done.done c.args.rounds m c.loop-done.machine (c.loop-done.invariant.0 m is) (omega (arith, c.loop-done-test.true))
    (sym c.has_running_hart.ensures ∙ c.if-not-has_running_hart.true)

pub returns-then-not-has_running_hart-clause-ending : goal.returns-then-not-has_running_hart-clause-ending
returns-then-not-has_running_hart-clause-ending g c = λ m is.
    let n = c.loop-done.done in
    let new = c.go_on-then-not-has_running_hart.new.machine in
    let whole : n + (c.args.rounds - n) ≡ c.args.rounds = omega (arith, c.loop-done-test.true) in
    like_itself (after_rounds c.args.rounds m) new
    (subst (λ (k : ℕ). IsAfter k c.args.machine.now new) whole
    (then_after n (c.args.rounds - n) c.args.machine.now c.loop-done.machine new c.loop-done.invariant.0 c.in_ok-go_on-2.ensures.run) m is)

pub look-requires-clause-run : goal.look-requires-clause-run
look-requires-clause-run g c κs within =
    let m = c.requires.run.0 in (
      after_rounds (c.loop-done.done + c.in_ok-gone.gone) m,
      then_after c.loop-done.done c.in_ok-gone.gone c.args.machine.now c.loop-done.machine c.settle.new.machine c.loop-done.invariant.0 c.in_ok-gone.ensures.run.1 m c.requires.run.1,
    )

pub returns-in-Some-clause-ending : goal.returns-in-Some-clause-ending
returns-in-Some-clause-ending g c = λ m is.
    let rounds = c.args.rounds in
    let done = c.loop-done.done in
    let part = c.next_part-part.result in
    let gone = c.in_ok-gone.gone in
    let p = c.in-Some.period in
    let i = done + gone in
    let r = (rounds - done - gone - p) % p in
    let old = c.args.machine.now in
    let new = c.go_on-in-Some.new.machine in
    let settled = then_after done gone old c.loop-done.machine c.settle.new.machine c.loop-done.invariant.0 c.in_ok-gone.ensures.run.1 in
    let looked = at_some c.in_ok-period.field-0 p _ _ c.in-Some.is c.in_ok-period.ensures.run in
    let back = at_some c.in_ok-period.field-0 p _ _ c.in-Some.is (c.in_ok-period.ensures.back (after_rounds i m) (settled m is)) in
    let bounds = within rounds done part gone p c.loop-done-test.true (at_most done (rounds / 2) rounds c.loop-done-test.true c.loop-done.invariant.3) c.in_ok-gone.ensures.run.0 looked.1
    c.next_part-part.ensures.early c.next_part-part.ensures.last (λ l. c.in_ok-gone.ensures.unasked (not_less done (rounds / 2) l)) in
    let rest : r ≡ (rounds - i - p) % p = let left : rounds - done - gone - p ≡ rounds - i - p = omega arith in ap (λ (n : ℕ). n % p) left in
    like_end rounds i p r m new bounds.all looked.0 rest back
    (then_after (i + p) r old c.look.new.machine new (then_after i p old c.settle.new.machine c.look.new.machine settled looked.2) c.in_ok-go_on-3.ensures.run m is)

pub returns-in-Some-clause-loops : goal.returns-in-Some-clause-loops
returns-in-Some-clause-loops g c = λ m is.
    let rounds = c.args.rounds in
    let done = c.loop-done.done in
    let part = c.next_part-part.result in
    let gone = c.in_ok-gone.gone in
    let p = c.in-Some.period in
    let i = done + gone in
    let settled = then_after done gone c.args.machine.now c.loop-done.machine c.settle.new.machine c.loop-done.invariant.0 c.in_ok-gone.ensures.run.1 in
    let looked = at_some c.in_ok-period.field-0 p _ _ c.in-Some.is c.in_ok-period.ensures.run in
    let back = at_some c.in_ok-period.field-0 p _ _ c.in-Some.is (c.in_ok-period.ensures.back (after_rounds i m) (settled m is)) in
    let bounds = within rounds done part gone p c.loop-done-test.true (at_most done (rounds / 2) rounds c.loop-done-test.true c.loop-done.invariant.3) c.in_ok-gone.ensures.run.0 looked.1
    c.next_part-part.ensures.early c.next_part-part.ensures.last (λ l. c.in_ok-gone.ensures.unasked (not_less done (rounds / 2) l)) in
    let old = c.args.machine.now in
    let new = c.go_on-in-Some.new.machine in
    let r = (rounds - done - gone - p) % p in
    let rest : r ≡ (rounds - i - p) % p = let left : rounds - done - gone - p ≡ rounds - i - p = omega arith in ap (λ (n : ℕ). n % p) left in
    let like = like_end rounds i p r m new bounds.all looked.0 rest back
    (then_after (i + p) r old c.look.new.machine new (then_after i p old c.settle.new.machine c.look.new.machine settled looked.2) c.in_ok-go_on-3.ensures.run m is) in
    c.has_running_hart-in-Some.ensures ∙ round_loops rounds m new (round_here rounds i p m bounds.early looked.0 bounds.few back) like

pub loop-done-preserved : goal.loop-done-preserved
loop-done-preserved g c =
    let rounds = c.args.rounds in
    let done = c.loop-done.done in
    let part = c.next_part-part.result in
    let gone = c.in_ok-gone.gone in
    let i = done + gone in
    let old = c.args.machine.now in
    let new = c.look.new.machine in
    let settled = then_after done gone old c.loop-done.machine c.settle.new.machine c.loop-done.invariant.0 c.in_ok-gone.ensures.run.1 in
    let some = c.in_ok-gone.ensures.run.0 in
    let looked = at_none c.in_ok-period.field-0 _ _ c.in_default.is c.in_ok-period.ensures.run in
    let counted = at_none c.in_ok-period.field-0 _ _ c.in_default.is c.in_ok-period.ensures.counted in
    let whole : i + (part - gone) ≡ done + part = omega (arith, some) in
    let half = at_most done (rounds / 2) rounds c.loop-done-test.true c.loop-done.invariant.3 in (
      subst (λ (n : ℕ). IsAfter n old new) whole (then_after i (part - gone) old c.settle.new.machine new settled looked),
      omega (arith, counted, c.in_ok-gone.ensures.counted, c.loop-done.invariant.1, some),
      elim c.loop-done.invariant.2 [ inl e ↦ inl e | inr l ↦ inr (omega (arith, l)) ],
      elim (cases_lt done (rounds / 2)) [
        | inl l ↦ inl (c.next_part-part.ensures.early l).1
        | inr l ↦
            let last = c.next_part-part.ensures.last l in
            let none = c.in_ok-gone.ensures.unasked (not_less done (rounds / 2) l) in
            let here : i ≡ rounds / 2 = omega (arith, none, l, half) in
            let rest : part - gone ≡ rounds - rounds / 2 = omega (arith, none, last, l, half) in
            inr (
              last,
              λ m is. not_round_here rounds i (part - gone) m here rest
                  (at_none c.in_ok-period.field-0 _ _ c.in_default.is (c.in_ok-period.ensures.back (after_rounds i m) (settled m is))),
            )
      ],
    )

pub returns-clause-loops : goal.returns-clause-loops
returns-clause-loops g c = λ m is.
    not_loops c.args.rounds m (elim c.loop-done.invariant.3 [
      | inl l ↦ round_of_none c.args.rounds m (omega (arith, l, c.loop-done-test.false, div-mul-le_self c.args.rounds 2))
      | inr b ↦ b.1 m is
    ])
