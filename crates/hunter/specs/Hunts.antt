-- What a hunt is asked for, and what its runs end in.
use Rattle.std.specs.Prelude.{◌≡◌, ◌⊎◌, ℕ, ◌+◌, ◌*◌, ◌-◌, ◌^◌, ◌<◌, ◌≤◌, ◌==◌, ◌&&◌, ◌||◌, length, nat_lt, if◌then◌else◌, Bool, true, false, List, [], ◌∷◌, ◌++◌, map, take, drop, Option, Some, None}
use Rattle.pages.specs.declared.pages.TheConstants.{MOST_PAGES}
use Rattle.round_schedule.specs.declared.bounds.TheConstants.{MOST_HARTS, MOST_WORKERS}
use Rattle.std.specs.List.{list_all, list_any}
use Rattle.elf_loader.specs.Causes.{IsLeast as IsLeastOfImage}
use Rattle.elf_loader.specs.Image.{Loaded}
use Rattle.host_io.specs.declared.load_error.LoadError.{LoadError as ImageCause}
use Rattle.hart_step.specs.declared.hart.Hart.{Hart}
use Rattle.hart_step.specs.declared.hart.Stop.{Stop}
use Rattle.host_io.specs.declared.error.RunError.TheVariants as refusals
use Rattle.hunter.specs.Finding.{is_round}
use Rattle.machine.specs.Machine.{Running, after_rounds, opening}
use Rattle.round_planner.specs.Settings.{StandsIn, image_of}
use Rattle.round_planner.specs.Quotas.{Planned}
use Rattle.round_planner.specs.declared.family.Family.{Family}
use Rattle.round_planner.specs.Families.{family_plan}
use Rattle.plan_hunt.specs.Endings.{Ended, ended, ends_well}
use Rattle.plan_hunt.specs.declared.hart_ending.HartEnding.{HartEnding}
use Rattle.plan_hunt.specs.declared.hart_ending.HartEnding.TheVariants.{Loops, Runs, Stopped}
use Rattle.plan_hunt.specs.Extents.{IsTableOf}
use Rattle.plan_hunt.specs.declared.extent.Extent.{Extent}
use Rattle.plan_hunt.specs.declared.row.Row.{Row}
use Rattle.plan_hunt.specs.declared.tally.Tally.{Tally}
use Rattle.hunt_table.specs.Text.{table_text, with_count}
use Rattle.hunt_table.specs.declared.seen_range.SeenRange.{SeenRange}
use Rattle.hunter.specs.declared.error.HuntError.{HuntError}
use Rattle.hunter.specs.declared.error.HuntError.TheVariants.{Run, PlansOutOfRange, SeenOutside}
use Rattle.hunter.specs.declared.settings.HuntSettings.{HuntSettings}

-- ---- settings

-- 1 to 64 harts, 1 to 16,384 pages, and 1 to 16 workers
pub record IsGuest (s : HuntSettings) : Type 0 where
  pub some_harts : 1 ≤ s.harts
  pub few_harts : s.harts ≤ MOST_HARTS
  pub some_pages : 1 ≤ s.pages
  pub few_pages : s.pages ≤ MOST_PAGES
  pub some_workers : 1 ≤ s.workers
  pub few_workers : s.workers ≤ MOST_WORKERS

-- the same, and 1 or more plans
pub record IsHunt (s : HuntSettings) : Type 0 where
  pub some_harts : 1 ≤ s.harts
  pub few_harts : s.harts ≤ MOST_HARTS
  pub some_pages : 1 ≤ s.pages
  pub few_pages : s.pages ≤ MOST_PAGES
  pub some_workers : 1 ≤ s.workers
  pub few_workers : s.workers ≤ MOST_WORKERS
  pub some_plans : 1 ≤ s.header.count
  pub few_plans : s.header.first + s.header.count < 2 ^ 32

-- there is no byte in the range, or one of them lies outside memory of so many pages
abbrev pub is_bad_range : ℕ → SeenRange → Bool
is_bad_range pages r = nat_lt r.length 1 || nat_lt (4096 * pages) (r.address + r.length)

-- a range whose bytes are to be seen is such a one
abbrev pub has_bad_range : HuntSettings → Bool
has_bad_range s = list_any (is_bad_range s.pages) s.header.ranges.items

-- the refusal of what is out of range; of several, the one of the least number
abbrev pub hunt_fault : HuntSettings → Option HuntError
hunt_fault s =
    if nat_lt s.harts 1 || nat_lt MOST_HARTS s.harts then Some (Run refusals.HartsOutOfRange)
    else (if nat_lt s.pages 1 || nat_lt MOST_PAGES s.pages then Some (Run refusals.PagesOutOfRange)
    else (if nat_lt s.workers 1 || nat_lt MOST_WORKERS s.workers then Some (Run refusals.WorkersOutOfRange)
    else (if nat_lt s.header.count 1 || nat_lt (2 ^ 32 - 1 - s.header.first) s.header.count then Some PlansOutOfRange
    else None)))

-- the same where the plans are not looked at
abbrev pub shrink_fault : HuntSettings → Option HuntError
shrink_fault s =
    if nat_lt s.harts 1 || nat_lt MOST_HARTS s.harts then Some (Run refusals.HartsOutOfRange)
    else (if nat_lt s.pages 1 || nat_lt MOST_PAGES s.pages then Some (Run refusals.PagesOutOfRange)
    else (if nat_lt s.workers 1 || nat_lt MOST_WORKERS s.workers then Some (Run refusals.WorkersOutOfRange)
    else None))

-- ---- endings

-- the bytes of the ranges, one range after the other
abbrev pub seen_of : List SeenRange → List ℕ → List ℕ
seen_of [] bytes = []
seen_of (r ∷ rs) bytes = take r.length (drop r.address bytes) ++ seen_of rs bytes

-- how a hart ended, by whether its run goes round and why it stopped
abbrev pub ending_by : Bool → Option Stop → HartEnding
ending_by round None = if round then Loops else Runs
ending_by round (Some s) = Stopped s

-- how the harts of a run of so many rounds ended: one that runs when they are over loops where the run is found to go round
abbrev pub run_endings : ℕ → Running → List HartEnding
run_endings n m = map (λ (h : Hart). ending_by (is_round n m) h.stop) (after_rounds n m).state.harts

-- the same of a run that isn't said to go round
abbrev pub ending_of_stop : Option Stop → HartEnding
ending_of_stop stop = ending_by false stop

-- the ending of a run, by whether it goes round
unfoldable pub ended_of : List SeenRange → Bool → Running → Ended
ended_of ranges round m = ended (map (λ (h : Hart). ending_by round h.stop) m.state.harts) m.state.console.output (seen_of ranges m.state.bytes)

-- the family of the hunt's plans
abbrev pub family_of : HuntSettings → Family
family_of s = record { seed = s.header.seed; harts = s.harts }

-- the ending of the run under a plan, from an image and an input: a hart that runs when the rounds are over loops where the run
-- is found to go round
unfoldable pub ends_from : HuntSettings → Loaded → List ℕ → Planned → Ended
ends_from s image input p =
    let m = opening image input p in
    ended_of s.header.ranges.items (is_round s.rounds m) (after_rounds s.rounds m)

-- the same from a file
unfoldable pub ends_under : HuntSettings → List ℕ → List ℕ → Planned → Ended
ends_under s file input = ends_from s (image_of s.format file s.pages) input

-- the ending of the run under plan n of the family
unfoldable pub ends_after : HuntSettings → List ℕ → List ℕ → ℕ → Ended
ends_after s file input n = ends_under s file input (family_plan (family_of s) n)

-- how far the hunt goes
abbrev pub extent_of : HuntSettings → Extent
extent_of s = record { first = s.header.first; most = s.header.count; until = s.until; is_timed = s.is_timed }

-- the rows are the table of the hunt, which is over after so many plans
abbrev pub IsHunted : HuntSettings → List ℕ → List ℕ → ℕ → List Row → Type 0
IsHunted s file input n rows = IsTableOf (ends_after s file input) (extent_of s) n rows

-- it is that table, and this is its text
pub record IsHuntText (s : HuntSettings) (file input : List ℕ) (t : Tally) (text : List ℕ) : Type 0 where
  pub table : IsHunted s file input t.done t.rows.items
  pub is_text : text ≡ table_text (with_count s.header t.done) t.rows.items

abbrev pub has_exited : HartEnding → Bool
has_exited Runs = false
has_exited Loops = false
has_exited (Stopped s) = s.code == 1

-- there is one ending, in which all harts exited
abbrev pub is_one_exit : List Row → Bool
is_one_exit rows = (length rows == 1) && list_all (λ (r : Row). list_all has_exited r.ending.stops) rows

-- in each ending each hart exited with 0: none runs on, was stopped by a fault, or exited with another value
abbrev pub all_end_well : List Row → Bool
all_end_well rows = list_all (λ (r : Row). list_all ends_well r.ending.stops) rows

-- ---- refusals

-- the cause of the least number that speaks against the file
abbrev pub IsImageCause : HuntSettings → List ℕ → ImageCause → Type 0
IsImageCause s file cause = IsLeastOfImage (StandsIn s.format file s.pages) cause

-- a reason that stands to refuse the hunt, or want of memory
abbrev pub IsHuntReason : HuntSettings → List ℕ → HuntError → Type 0
IsHuntReason s file e = (e ≡ Run refusals.OutOfMemory)
    ⊎ (((cause : ImageCause) × IsImageCause s file cause × (e ≡ Run (refusals.Image cause)))
    ⊎ ((has_bad_range s ≡ true) × (e ≡ SeenOutside)))
