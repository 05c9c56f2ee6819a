-- What weak hunts are said to make.
use Rattle.std.specs.Prelude.{ℕ, List}
use Rattle.hunter.specs.declared.settings.HuntSettings.{HuntSettings}
use Rattle.plan_hunt.specs.declared.row.Row.{Row}

-- the rows are the table that a hunt by these settings makes of an image and an input, in executions of so many steps, where it is over after so
-- many of them
abbrev pub HuntRelation : Type 1
HuntRelation = HuntSettings → List ℕ → List ℕ → ℕ → ℕ → List Row → Type 0
