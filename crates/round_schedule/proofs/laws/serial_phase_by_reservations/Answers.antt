use Rattle.round_schedule.proofs.ReservingTurns.{serial_by_reservations}
use Rattle.round_schedule.proofs.laws.serial_phase_by_reservations.Goals as goal

pub returns : goal.returns
returns g c = serial_by_reservations _ _
