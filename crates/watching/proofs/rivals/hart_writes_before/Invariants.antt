use Rattle.std.proofs.Common.{◌≡◌, ◌≤◌, ◌==◌, ◌&&◌, length, take}
use Rattle.std.specs.List.{list_any}
use Rattle.round_schedule.specs.declared.event.Event.{Event}
use Rattle.watching.specs.Events.{writes_in_part}
use Rattle.watching.proofs.rivals.hart_writes_before.Given as goal

abbrev pub invariant-loop-left : goal.invariant-loop-left
invariant-loop-left l =
    (l.left ≤ length l.earlier)
    × (list_any (λ (e : Event). e.hart == l.hart && writes_in_part l.watch e) l.earlier ≡ list_any (λ (e : Event). e.hart == l.hart && writes_in_part l.watch e) (take l.left l.earlier))

abbrev pub decreases-loop-left : goal.decreases-loop-left
decreases-loop-left l = l.left
