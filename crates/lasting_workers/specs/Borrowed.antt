-- What a posted start borrows of a guest.
use Rattle.std.specs.Prelude.{◌≡◌, ◌≤◌, length}
use Rattle.round_schedule.specs.declared.bounds.TheConstants.{MOST_HARTS}
use Rattle.hart_rounds.specs.Starts.{Start, keeps_log}
use Rattle.lasting_workers.specs.declared.borrowed_start.BorrowedStart.{BorrowedStart}

-- what a round starts from that borrows this
abbrev pub start_of : BorrowedStart → Start
start_of p = record { memory = p.pages.memory; quotas = p.quotas.items; harts = p.harts.items; logs = keeps_log p.form }

-- all of it fits together: a quota for each of at most 64 harts
pub record Fits (p : BorrowedStart) : Type 0 where
  pub quotas : length p.quotas.items ≡ length p.harts.items
  pub few : length p.harts.items ≤ MOST_HARTS
