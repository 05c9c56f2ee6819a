-- The phases of rounds that events are of.
use Rattle.std.specs.Prelude.{◌==◌, ◌&&◌, Bool}
use Rattle.round_schedule.specs.declared.event.Event.{Event}
use Rattle.round_schedule.specs.RoundTrace.{phase_number}

-- whether two events are of the same phase of the same round
abbrev pub one_phase : Event → Event → Bool
one_phase e f = e.round == f.round && phase_number e.phase == phase_number f.phase

-- whether they are of the same hart too
abbrev pub same_turn : Event → Event → Bool
same_turn e f = one_phase e f && e.hart == f.hart
