-- The table of an image's executions is that of its file's weak hunt.
use Rattle.std.proofs.Common.{◌≡◌, ℕ, List, subst}
use Rattle.elf_loader.specs.Image.{Loaded}
use Rattle.hart_step.specs.declared.hart.Hart.{Hart}
use Rattle.guest_rounds.specs.Opening.{opening_harts}
use Rattle.round_planner.specs.Settings.{image_of}
use Rattle.hunter.specs.Hunts.{extent_of}
use Rattle.hunter.specs.declared.settings.HuntSettings.{HuntSettings}
use Rattle.plan_hunt.specs.declared.row.Row.{Row}
use Rattle.weak_hunter.specs.WeakHunts.{IsTabled, IsWeaklyHunted}

pub hunted_so : (s : HuntSettings) (file input : List ℕ) (image : Loaded) (harts : List Hart) (n : ℕ) (rows : List Row) → image ≡ image_of s.format file s.pages →
    harts ≡ opening_harts image.entry s.harts 0 s.harts → IsTabled image input harts (extent_of s) n rows → IsWeaklyHunted s file input n rows
hunted_so s file input image harts n rows loaded opened h =
    subst (λ (i : Loaded). IsTabled i input (opening_harts i.entry s.harts 0 s.harts) (extent_of s) n rows) loaded
    (subst (λ (hs : List Hart). IsTabled image input hs (extent_of s) n rows) opened h)
