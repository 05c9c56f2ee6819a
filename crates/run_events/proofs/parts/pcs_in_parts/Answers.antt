use Rattle.std.proofs.Common.{◌≡◌, ◌++◌, List, [], length, map, take, ap, ◌∙◌, subst, arith, length-drop}
use Rattle.pages.specs.Memory.{Memory}
use Rattle.round_schedule.specs.declared.event.Event.{Event}
use Rattle.hart_step.specs.DecodedCode.{Shows}
use Rattle.run_events.specs.Parts.{pc_in_parts}
use Rattle.run_events.proofs.InParts.{is_memory}
use Rattle.run_events.proofs.StretchByStretch.{told_on}
use Rattle.run_events.proofs.parts.pcs_in_parts.Goals as goal

pub add_first_pcs-requires-clause-shows : goal.add_first_pcs-requires-clause-shows
add_first_pcs-requires-clause-shows c =
    let u = c.args.machine.now in
    let memory : c.pages-pages.result.now.memory ≡ record { bytes = u.bytes; code = u.code } =
    is_memory u c.pages-pages.result.now.memory c.pages-pages.ensures.bytes c.pages-pages.ensures.code in
    subst (λ (m : Memory). Shows m c.in_ok-code.code.first c.in_ok-code.code.instructions) memory c.in_ok-code.ensures

pub loop-done-preserved : goal.loop-done-preserved
loop-done-preserved c =
    let inv = c.loop-done.invariant in (
      omega (arith, c.in_ok-done.ensures.few, ap length c.events_from.ensures, length-drop c.loop-done.done c.args.events.now),
      told_on (pc_in_parts c.args.machine.now) c.args.events.now c.loop-done.done c.in_ok-done.field-0 [] c.loop-done.pcs.items c.add_first_pcs.new.pcs.items inv.1
          (c.in_ok-done.ensures.pcs ∙ ap (λ (es : List Event). c.loop-done.pcs.items ++ map (pc_in_parts c.args.machine.now) (take c.in_ok-done.field-0 es)) c.events_from.ensures),
    )
