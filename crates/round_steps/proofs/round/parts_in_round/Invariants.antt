use Rattle.std.proofs.Common.{◌≡◌}
use Rattle.round_planner.specs.Quotas.{quotas_of}
use Rattle.past_harts.specs.Begun.{Begun}
use Rattle.round_steps.specs.Places.{parallel_places, turns_of}
use Rattle.round_steps.proofs.round.parts_in_round.Given as goal

abbrev pub invariant-loop-number : goal.invariant-loop-number
invariant-loop-number l =
    let begun : Begun = record { harts = l.machine.harts; bytes = l.machine.bytes; code = l.code; quotas = quotas_of l.machine.plan l.machine.rounds } in
    (l.found.items ≡ parallel_places l.asked begun l.number) × (l.turns.items ≡ turns_of begun l.number)
