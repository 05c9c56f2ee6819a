-- A run that is looked at at its moments.
use Rattle.std.specs.Prelude.{◌≡◌, ℕ, ◌+◌, ◌<◌, ◌≤◌, ◌^◌, All, List}
use Rattle.pages.specs.declared.access.Range.{Range}
use Rattle.machine.specs.Machine.{Running, after_rounds}
use Rattle.machine.specs.Untraced.{IsUntraced, Untraced}

-- the machine before the first round, without its trace, and how many rounds there are
pub record Line : Type 0 where
  pub start : Untraced
  pub rounds : ℕ

-- a machine of the run that begins with this one: the one after as many rounds as it did
abbrev pub IsThere : Untraced → Untraced → Type 0
IsThere start u = (m : Running) → IsUntraced m start → IsUntraced (after_rounds u.rounds m) u

-- it is that of a run with this code, `here` and those that are kept are machines of that run, and rounds lie between two of these
pub record Holds (start here : Untraced) (machines : List Untraced) (apart : ℕ) (code : List Range) (rounds : ℕ) : Type 0 where
  pub run : (m : Running) × IsUntraced m start
  pub fresh : start.rounds ≡ 0
  pub has_code : (m : Running) → IsUntraced m start → m.code ≡ code
  pub later : IsThere start here
  pub there : All (IsThere start) machines
  pub some : 1 ≤ apart
  pub few : rounds + 1 < 2 ^ 32
