-- What the rounds of a run start from, by their numbers, and what they leave.
use Rattle.std.specs.Prelude.{Bool, ℕ, zero, suc, ◌-◌, List}
use Rattle.hart_rounds.specs.Starts.{Start}
use Rattle.hart_rounds.specs.declared.hart_end.HartEnd.{HartEnd}
use Rattle.guest_rounds.specs.Guests.{Guest}
use Rattle.guest_rounds.specs.NextStarts.{AreOfGuest, next_start}
use Rattle.machine.specs.Untraced.{Untraced, untraced_round}

-- the guest of a machine that keeps no trace
abbrev pub guest_in : Untraced → Guest
guest_in u = record { harts = u.harts; shared = record { memory = record { bytes = u.bytes; code = u.code }; reservations = u.reservations; console = u.console } }

-- the machine after n more rounds
abbrev pub untraced_rounds : ℕ → Untraced → Untraced
untraced_rounds zero u = u
untraced_rounds (suc n) u = untraced_round (untraced_rounds n u)

-- the same of a machine that keeps no trace
abbrev pub next_start_of : Bool → Untraced → Start
next_start_of logs u = next_start logs u.plan u.rounds (guest_in u)

-- the start of each of the next rounds, by how many rounds were done before it
abbrev pub start_at : Bool → Untraced → ℕ → Start
start_at logs u done = next_start_of logs (untraced_rounds (done - u.rounds) u)

-- the same of a machine's next round
abbrev pub AreOfNext : Bool → Untraced → List HartEnd → Type 0
AreOfNext logs u os = AreOfGuest logs u.plan u.rounds (guest_in u) os
