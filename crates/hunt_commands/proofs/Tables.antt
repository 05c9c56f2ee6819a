-- A table that a hunt makes by the settings of a line is that of the line's hunt.
use Rattle.std.proofs.Common.{◌≡◌, Bool, List, subst, ℕ}
use Rattle.hunt_commands.specs.Asked.{IsTableBy}
use Rattle.hunt_commands.specs.Relations.{HuntRelation}
use Rattle.hunter.specs.declared.settings.HuntSettings.{HuntSettings}
use Rattle.plan_hunt.specs.declared.row.Row.{Row}

pub table_so : (weakly : HuntRelation) (steps : ℕ) (weak : Bool) (s : HuntSettings) (image input : List ℕ) (n : ℕ) (rows : List Row) →
    s.header.is_weak ≡ weak → IsTableBy weakly steps s.header.is_weak s image input n rows → IsTableBy weakly steps weak s image input n rows
table_so weakly steps weak s image input n rows is_weak table = subst (λ (b : Bool). IsTableBy weakly steps b s image input n rows) is_weak table
