use Rattle.std.proofs.Common.{◌≡◌, ◌+◌, ◌-◌, ◌++◌, ℕ, List, Option, map, inl, inr, refl, ap, subst, ◌∙◌, arith}
use Rattle.machine.specs.Machine.{Running, after_rounds}
use Rattle.machine.specs.Untraced.{IsUntraced}
use Rattle.run_events.proofs.Located.{after_more, all_next, all_none, on_ok_any, on_ok_more, on_the_way}
use Rattle.run_events.proofs.locating.add_of_round.Goals as goal

pub returns-then-round-eq0-clause-pcs : goal.returns-then-round-eq0-clause-pcs
returns-then-round-eq0-clause-pcs g c = λ m i.
    on_ok_more c.add_none.result _ _
    (λ is. is ∙ ap (λ (ps : List (Option ℕ)). c.args.pcs.now.items ++ ps) (all_none c.args.rounds c.args.round m c.args.events.now (inl c.if-round-eq0.true) c.requires.one)) c.add_none.ensures.pcs

pub returns-then-round-rounds-clause-pcs : goal.returns-then-round-rounds-clause-pcs
returns-then-round-rounds-clause-pcs g c = λ m i.
    on_ok_more c.add_none-then-round-rounds.result _ _
    (λ is. is ∙ ap (λ (ps : List (Option ℕ)). c.args.pcs.now.items ++ ps) (all_none c.args.rounds c.args.round m c.args.events.now (inr c.if-round-rounds.true) c.requires.one)) c.add_none-then-round-rounds.ensures.pcs

pub returns-clause-pcs : goal.returns-clause-pcs
returns-clause-pcs g c = λ m i.
    let x : Running = after_rounds (c.args.round - 1) m in
    let left = c.saturating_sub-left.result in
    let sum : c.args.machine.now.rounds + left ≡ c.args.round - 1 = omega (arith, c.saturating_sub-left.ensures, c.rounds.ensures, c.requires.before) in
    let there : IsUntraced x c.run.new.self =
    subst (λ (j : ℕ). IsUntraced (after_rounds j m) c.run.new.self) sum (after_more c.args.machine.now.rounds left m c.args.machine.now c.run.new.self i c.in_ok-run.ensures.ok) in
    on_ok_more c.add_pcs.result _ _
    (λ is.
    is ∙ ap (λ (ps : List (Option ℕ)). c.args.pcs.now.items ++ ps)
    (all_next c.args.rounds c.args.round m x c.args.events.now (omega (arith, c.if-round-eq0.false)) (omega (arith, c.if-round-rounds.false)) refl c.requires.one)) (c.add_pcs.ensures.pcs x there)

pub returns-clause-way : goal.returns-clause-way
returns-clause-way g c = λ m i.
    on_ok_any c.add_pcs.result _
    (on_the_way c.args.machine.now.rounds c.saturating_sub-left.result m c.args.machine.now c.run.new.self c.add_pcs.new.machine i c.in_ok-run.ensures.ok c.in_ok-run.ensures.counted c.add_pcs.ensures.stays)
