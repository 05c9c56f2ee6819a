-- What ties the parts of a guest together.
use Rattle.std.specs.Prelude.{◌≡◌, ℕ, List, length}
use Rattle.hart_step.specs.declared.hart.Hart.{Hart}
use Rattle.serial_phase.specs.declared.shared.SharedState.{SharedState}
use Rattle.hart_rounds.specs.declared.hart_end.HartEnd.{HartEnd}
use Rattle.guest_rounds.specs.HartEnds.{StoppedStay, harts_of}

-- how many instructions a hart may do in a round, serial ones counted
abbrev pub most_of_round : ℕ
most_of_round = 1001000

-- the harts have one reservation each, and what an earlier round left of a stopped hart is that hart
-- docs/decisions/rounds.md
pub record Agrees (hs : List Hart) (os : List HartEnd) (s : SharedState) : Type 0 where
  pub size : length s.reservations ≡ length hs
  pub kept : StoppedStay hs (harts_of os)
