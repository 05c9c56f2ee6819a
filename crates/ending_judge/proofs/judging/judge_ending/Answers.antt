use Rattle.std.proofs.Common.{◌≡◌, ◌∙◌, All, Bool, List, ap, arith, length, map, subst, sym}
use Rattle.std.specs.Bool.{OnTrue}
use Rattle.std.proofs.lemmas.Option.{MatchOption-at_some}
use Rattle.trace.specs.Traced.{HasForm, opening_at}
use Rattle.round_schedule.specs.declared.event.Event.{Event}
use Rattle.hart_step.specs.declared.hart.Hart.{Hart}
use Rattle.hunt_table.specs.declared.seen_range.SeenRange.{SeenRange}
use Rattle.all_endings.specs.Endings.{bytes_from, memory_after}
use Rattle.execution_checker.specs.Allowed.{Allows}
use Rattle.execution.proofs.Forming.{executes_even}
use Rattle.execution_checker.proofs.Formed.{executes_formed}
use Rattle.ending_judge.specs.JudgedEndings.{AreOutputs, stop_of}
use Rattle.ending_judge.proofs.Ended.{ends_so}
use Rattle.ending_judge.proofs.judging.judge_ending.Goals as goal

pub is_allowed-requires-clause-formed : goal.is_allowed-requires-clause-formed
is_allowed-requires-clause-formed c =
    let p = c.args.execution.now in
    let q = c.follow_told.new.execution.standing in
    let none : All HasForm p.standing.events = subst (All HasForm) (sym c.requires.no_events) (λ k d l. absurd (omega (arith, l))) in
    let outputs : AreOutputs p.memory p.standing q c.in-Some.outputs.items =
    MatchOption-at_some _ _ c.in-Some.outputs c.in-Some.is c.in_ok-outputs.ensures in
    executes_formed p.memory p.standing q (omega (arith, c.is_small.ensures)) outputs.leads none

pub is_allowed-requires-clause-along : goal.is_allowed-requires-clause-along
is_allowed-requires-clause-along c =
    let p = c.args.execution.now in
    let q = c.follow_told.new.execution.standing in
    let outputs : AreOutputs p.memory p.standing q c.in-Some.outputs.items =
    MatchOption-at_some _ _ c.in-Some.outputs c.in-Some.is c.in_ok-outputs.ensures in
    executes_even p.memory p.standing q outputs.leads (ap length c.requires.no_instructions ∙ sym (ap length c.requires.no_events))

pub returns : goal.returns
returns c =
    let p = c.args.execution.now in
    let q = c.follow_told.new.execution.standing in
    let opening = opening_at c.args.opening.now.opening in
    let order = c.args.proposed.now.order.now.0.items in
    let outputs : AreOutputs p.memory p.standing q c.in-Some.outputs.items =
    MatchOption-at_some _ _ c.in-Some.outputs c.in-Some.is c.in_ok-outputs.ensures in
    let allowed : Allows opening q order = subst (λ (b : Bool). OnTrue b (Allows opening q order)) c.if-not-branch.false c.in_ok-is_allowed.ensures in
    let ends : map stop_of c.in-Some-2.ends.items ≡ map (λ (h : Hart). h.stop) c.harts.result.now =
    MatchOption-at_some _ _ c.in-Some-2.ends c.in-Some-2.is c.in_ok-ends.ensures in
    ends_so p.memory p.standing q opening order c.args.ranges.now (record { ends = c.in-Some-2.ends; outputs = c.in-Some.outputs; seen = c.in_ok-seen.seen })
    c.requires.opens allowed outputs (ends ∙ ap (map (λ (h : Hart). h.stop)) c.harts.ensures.harts)
    (c.in_ok-seen.ensures
    ∙ ap (λ (t : List Event). map (λ (r : SeenRange). bytes_from (memory_after t order opening) r.address r.length) c.args.ranges.now) c.events.ensures)
