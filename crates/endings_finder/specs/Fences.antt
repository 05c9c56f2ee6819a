-- Which fences of a guest program can be left out.
use Rattle.std.specs.Prelude.{◌≡◌, ℕ, ◌≤◌, ◌==◌, ◌%◌, true, All, List, Option, Some, count_by, is_some}
use Rattle.pages.specs.Memory.{put}
use Rattle.pages.specs.declared.access.Width.TheVariants.{W4}
use Rattle.round_schedule.specs.declared.event.Event.{Event}
use Rattle.hart_step.specs.DecodedCode.{decoded}
use Rattle.rv64_decode.specs.declared.instruction.Instr.{Instr}
use Rattle.rv64_decode.specs.declared.instruction.Instr.TheVariants.{Fence}
use Rattle.elf_loader.specs.Image.{Loaded, memory_of}
use Rattle.all_endings.specs.Endings.{Ending, IsEnded}
use Rattle.ending_judge.specs.JudgedEndings.{IsAllowedFrom, ranges_of}
use Rattle.endings_table.specs.declared.fence_need.FenceNeed.{FenceNeed}
use Rattle.endings_table.specs.declared.fence_need.Need.{Need}
use Rattle.endings_table.specs.declared.fence_need.Need.TheVariants.{Needed, Unknown, Unneeded, Waits}
use Rattle.execution_scripts.specs.Findings.{start_of}
use Rattle.guest_rounds.specs.Guests.{Guest, opening_guest}
use Rattle.hunt_table.specs.declared.seen_range.SeenRange.{SeenRange}

-- ---- a fence, and the program without it

abbrev pub IsFence : Option Instr → Type 0
IsFence (Some (Fence before after mode)) = Unit {0}
IsFence i = ⊥

-- the instruction at pc is a fence
pub record HasFence (image : Loaded) (pc : ℕ) : Type 0 where
  pub aligned : pc % 4 ≡ 0
  pub fence : IsFence (decoded (memory_of image) pc)

-- the image in which the instruction at pc is addi x0, x0, 0, which does nothing (manual, section 2.4)
abbrev pub without : Loaded → ℕ → Loaded
without image pc = record image { bytes = put image.bytes (record { address = pc; width = W4; value = 19 }) }

-- ---- what becomes of its endings

-- RVWMO allows an execution that ends so
abbrev pub IsEndingOf : Guest → List SeenRange → Ending → Type 0
IsEndingOf g ranges e = IsAllowedFrom g.shared.memory (start_of g) (ranges_of ranges) e

-- the same of an execution in which all harts stop, and none does more than k instructions
pub record EndsWithin (k : ℕ) (g : Guest) (ranges : List SeenRange) (e : Ending) : Type 0 where
  pub so : IsEndingOf g ranges e
  pub ended : IsEnded so.end
  pub short : (h : ℕ) → count_by (λ (v : Event). v.hart == h) so.end.events ≤ k

-- each ending that the guest has without the fence is one that it has with it
abbrev pub IsUnneeded : ℕ → Guest → Guest → List SeenRange → Type 0
IsUnneeded k with_it without_it ranges = (e : Ending) → EndsWithin k without_it ranges e → IsEndingOf with_it ranges e

-- without the fence the guest has an ending, in which all harts stop, that it doesn't have with it
pub record IsNeeded (k : ℕ) (with_it without_it : Guest) (ranges : List SeenRange) : Type 0 where
  pub ending : Ending
  pub stopped : All (λ s. is_some s ≡ true) ending.stops
  pub has : IsEndingOf without_it ranges ending
  pub is_new : EndsWithin k with_it ranges ending → ⊥

abbrev pub IsNeedOf : ℕ → Guest → Guest → List SeenRange → Need → Type 0
IsNeedOf k with_it without_it ranges Unneeded = IsUnneeded k with_it without_it ranges
IsNeedOf k with_it without_it ranges Needed = IsNeeded k with_it without_it ranges
IsNeedOf k with_it without_it ranges Waits = Unit {0}
IsNeedOf k with_it without_it ranges (Unknown why) = Unit {0}

-- what is told of a fence is so: it stands there, and where it is told to be unneeded or needed, it is
pub record IsToldFence (k : ℕ) (image : Loaded) (input : List ℕ) (n : ℕ) (ranges : List SeenRange) (f : FenceNeed) : Type 0 where
  pub there : HasFence image f.pc
  pub need : IsNeedOf k (opening_guest image input n) (opening_guest (without image f.pc) input n) ranges f.need
