-- The endings of a guest's executions, of which RVWMO allows each.
use Rattle.std.specs.Prelude.{◌≡◌, ℕ, Bool, List, All, map}
use Rattle.elf_loader.specs.Image.{Loaded}
use Rattle.hart_step.specs.declared.hart.Hart.{Hart}
use Rattle.guest_rounds.specs.Opening.{opening_harts}
use Rattle.round_planner.specs.Settings.{image_of}
use Rattle.hunt_table.specs.Text.{table_text, with_count}
use Rattle.hunter.specs.Hunts.{IsHuntReason, ending_of_stop, extent_of}
use Rattle.hunter.specs.declared.settings.HuntSettings.{HuntSettings}
use Rattle.plan_hunt.specs.Endings.{Ended}
use Rattle.plan_hunt.specs.Extents.{IsTableOf, IsTally}
use Rattle.plan_hunt.specs.declared.extent.Extent.{Extent}
use Rattle.plan_hunt.specs.declared.row.Row.{Row}
use Rattle.plan_hunt.specs.declared.tally.Tally.{Tally}
use Rattle.weak_executions.specs.AllowedEnds.{IsAllowedEnd}
use Rattle.weak_hunter.specs.declared.error.WeakHuntError.{WeakHuntError}
use Rattle.weak_hunter.specs.declared.error.WeakHuntError.TheVariants.{Hunt, Unconfirmed}

-- an execution of the image from these harts on this input, which RVWMO allows, leads to the stops and the output of an ending
pub record IsAllowedEnding (image : Loaded) (input : List ℕ) (harts : List Hart) (e : Ended) : Type 0 where
  pub ends : List Hart
  pub allowed : IsAllowedEnd image input harts ends e.output
  pub stops : e.stops ≡ map (λ (h : Hart). ending_of_stop h.stop) ends

-- the rows are the table of so many endings from the first number on, after which the hunt is over, whatever makes them
pub record IsSomeTable (extent : Extent) (n : ℕ) (rows : List Row) : Type 0 where
  pub ends : ℕ → Ended
  pub table : IsTableOf ends extent n rows

-- the same, and RVWMO allows each ending
pub record IsTabled (image : Loaded) (input : List ℕ) (harts : List Hart) (extent : Extent) (n : ℕ) (rows : List Row) : Type 0 where
  pub table : IsSomeTable extent n rows
  pub allowed : All (λ (r : Row). IsAllowedEnding image input harts r.ending) rows

-- the rows are the table of a weak hunt, which is over after so many executions: each ending is one that RVWMO allows of the file's
-- image, on this input
abbrev pub IsWeaklyHunted : HuntSettings → List ℕ → List ℕ → ℕ → List Row → Type 0
IsWeaklyHunted s file input n rows =
    let image = image_of s.format file s.pages in
    IsTabled image input (opening_harts image.entry s.harts 0 s.harts) (extent_of s) n rows

-- it is that table, and this is its text
pub record IsWeakHuntText (s : HuntSettings) (file input : List ℕ) (t : Tally) (text : List ℕ) : Type 0 where
  pub table : IsWeaklyHunted s file input t.done t.rows.items
  pub is_text : text ≡ table_text (with_count s.header t.done) t.rows.items

-- the rows are the table of so many endings so far, whatever makes them
pub record IsSomeTally (extent : Extent) (is_over : Bool) (n : ℕ) (rows : List Row) : Type 0 where
  pub ends : ℕ → Ended
  pub tally : IsTally ends extent is_over n rows

-- a reason that stands to refuse the hunt, or an execution that isn't confirmed
abbrev pub IsWeakReason : HuntSettings → List ℕ → WeakHuntError → Type 0
IsWeakReason s file (Hunt e) = IsHuntReason s file e
IsWeakReason s file (Unconfirmed n) = Unit {0}
