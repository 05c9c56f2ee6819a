use Rattle.serial_phase.proofs.ReservationsTied.{asking_by_reservations}
use Rattle.serial_phase.proofs.laws.asking_by_reservations.Goals as goal

pub returns : goal.returns
returns g c = asking_by_reservations _ _
