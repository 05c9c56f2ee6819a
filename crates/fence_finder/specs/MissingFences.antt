-- What a search for missing fences shows.
use Rattle.std.specs.Prelude.{◌≡◌, ◌⊎◌, ⊤, ℕ, ◌+◌, ◌<◌, ◌≤◌, true, false, List, [], All, length, get_or, map, Some, option_map}
use Rattle.std.specs.List.{list_all, sum_by}
use Rattle.elf_loader.specs.Image.{Loaded}
use Rattle.fence_finder.specs.declared.finding.FoundFences.{FoundFences}
use Rattle.fence_table.specs.Text.{fences_text}
use Rattle.fence_table.specs.declared.failure.Failure.{Failure}
use Rattle.fence_table.specs.declared.failure.Failure.TheVariants.{Stopped, Otherwise, Stuck}
use Rattle.fence_table.specs.declared.fence_table.FenceTable.{FenceTable}
use Rattle.fence_table.specs.declared.missing.Missing.{Missing}
use Rattle.fence_table.specs.declared.fence_kind.TriedFence.{TriedFence}
use Rattle.fence_finder.specs.Finds.{IsEnough}
use Rattle.fence_finder.specs.declared.settings.FenceSettings.{FenceSettings}
use Rattle.fence_kinds.specs.Kinds.{IsWeakest}
use Rattle.fence_kinds.specs.declared.mending.Place.{Place}
use Rattle.fence_search.specs.Counting.{AreSearched, tried_by}
use Rattle.fence_search.specs.Places.{pc_of}
use Rattle.fence_search.specs.declared.counting.Counted.{Counted}
use Rattle.fence_trials.specs.Well.{AreOrdinaryRuns, IsExpected}
use Rattle.fence_trials.specs.declared.departing.Departing.{Departing}
use Rattle.fence_trials.specs.declared.guest.FenceGuest.{FenceGuest}
use Rattle.fence_trials.specs.declared.ordinary.Ordinary.{Ordinary}
use Rattle.plan_hunt.specs.Endings.{Ended}
use Rattle.plan_hunt.specs.declared.hart_ending.HartEnding.TheVariants as endings
use Rattle.weak_executions.specs.declared.opening.Opening.{Opening}
use Rattle.hart_step.specs.declared.hart.Hart.{Hart}
use Rattle.hart_step.specs.declared.hart.Stop.{Stop}
use Rattle.hunter.specs.Hunts.{ending_of_stop, extent_of}
use Rattle.hunter.specs.declared.settings.HuntSettings.{HuntSettings}
use Rattle.guest_rounds.specs.Opening.{opening_harts}
use Rattle.round_planner.specs.Settings.{image_of}
use Rattle.plan_hunt.specs.Endings.{ends_well}
use Rattle.weak_executions.specs.AllowedEnds.{IsAllowedEnd}

-- the hart of a number stopped so
pub record HasStopped (harts : List Hart) (number : ℕ) (stop : Stop) : Type 0 where
  pub hart : Hart
  pub below : number < length harts
  pub is : hart ≡ get_or harts number hart
  pub stops : hart.stop ≡ Some stop

-- each hart exited with 0
abbrev pub EndWell : List Hart → Type 0
EndWell harts = list_all ends_well (map (λ (h : Hart). ending_of_stop h.stop) harts) ≡ true

-- RVWMO allows an execution of the image from these harts on this input in which a hart stopped so
pub record CanStop (image : Loaded) (input : List ℕ) (harts : List Hart) (number : ℕ) (stop : Stop) : Type 0 where
  pub ends : List Hart
  pub output : List ℕ
  pub allowed : IsAllowedEnd image input harts ends output
  pub stopped : HasStopped ends number stop

-- it allows one in which each hart exited with 0, and this was put out
pub record CanPut (image : Loaded) (input : List ℕ) (harts : List Hart) (output : List ℕ) : Type 0 where
  pub ends : List Hart
  pub allowed : IsAllowedEnd image input harts ends output
  pub well : EndWell ends

-- it allows one that came to some harts and some output
pub record CanCome (image : Loaded) (input : List ℕ) (harts : List Hart) : Type 0 where
  pub ends : List Hart
  pub output : List ℕ
  pub allowed : IsAllowedEnd image input harts ends output

-- RVWMO allows an execution that fails so. Of one that is stuck this says that it allows the execution up to there, and not that it goes
-- on for ever; the bytes that are looked at are not part of it
abbrev pub IsShown : Loaded → List ℕ → List Hart → Failure → Type 0
IsShown image input harts (Stopped number stop) = CanStop image input harts number stop
IsShown image input harts (Otherwise seen output) = CanPut image input harts output.items
IsShown image input harts Stuck = CanCome image input harts

-- each missing fence is shown by an execution that RVWMO allows
abbrev pub AreShown : Loaded → List ℕ → List Hart → List Missing → Type 0
AreShown image input harts missing = All (λ (m : Missing). IsShown image input harts m.failure) missing

-- the same of the file's image on this input, from its harts before their first instructions
abbrev pub ShowsOf : HuntSettings → List ℕ → List ℕ → List Missing → Type 0
ShowsOf s file input missing =
    let image = image_of s.format file s.pages in
    AreShown image input (opening_harts image.entry s.harts 0 s.harts) missing

-- the table of a search: it has the numbers and the ranges that were asked for, as many numbers at most, and RVWMO allows each execution that
-- it shows
pub record IsSearched (s : HuntSettings) (file input : List ℕ) (t : FenceTable) : Type 0 where
  pub seed : t.seed ≡ s.header.seed
  pub first : t.first ≡ s.header.first
  pub few : t.count ≤ s.header.count
  pub ranges : t.ranges.items ≡ s.header.ranges.items
  pub shown : ShowsOf s file input t.missing.items

-- ---- beside ordinary runs

-- it fails as these runs don't, where all of them end well: a hart stops otherwise than by exit 0, or other bytes are put out or looked at
abbrev pub IsFault : Ordinary → Failure → Type 0
IsFault o (Stopped number stop) = ends_well (endings.Stopped stop) ≡ false
IsFault o (Otherwise seen output) =
    IsExpected (option_map (λ v. v.items) o.output) output.items → IsExpected (option_map (λ v. v.items) o.seen) seen.items → ⊥
IsFault o Stuck = ⊤

-- where the runs end well, RVWMO allows one of them: each hart exits with 0, and what they agree on is put out
pub record AllowsUsual (image : Loaded) (input : List ℕ) (harts : List Hart) (o : Ordinary) : Type 0 where
  pub output : List ℕ
  pub can : CanPut image input harts output
  pub is_output : IsExpected (option_map (λ v. v.items) o.output) output

abbrev pub IsUsual : Loaded → List ℕ → List Hart → Ordinary → Type 0
IsUsual image input harts o = o.ends_well ≡ true → AllowsUsual image input harts o

-- ---- each number. `comes_to guest departing i e` says that the execution of number i of the guest that departs so comes to e

-- how many numbers fail for want of these fences
abbrev pub missing_plans : List Missing → ℕ
missing_plans ms = sum_by (λ (m : Missing). m.numbers.plans) ms

-- the fence was tried with all numbers that are done, and is the weakest one with which none fails there
pub record IsTriedFence (comes_to : FenceGuest → Departing → ℕ → Ended → Type 0) (g : FenceGuest) (o : Ordinary) (first count : ℕ) (f : TriedFence) : Type 0 where
  pub place : Place
  pub guest : place.guest.now ≡ g
  pub runs : place.runs.now ≡ o
  pub is_first : place.first ≡ first
  pub is_count : place.count ≡ count
  pub pc : f.pc ≡ pc_of place.weakness.now
  pub executions : f.executions ≡ count
  pub weakest : IsWeakest comes_to place f.kind

-- each missing fence is told of an execution that fails as the runs don't, and was tried so
abbrev pub AreMissing : (FenceGuest → Departing → ℕ → Ended → Type 0) → FenceGuest → Ordinary → ℕ → ℕ → List Missing → Type 0
AreMissing comes_to g o first count missing =
    All (λ (m : Missing). IsFault o m.failure × IsTriedFence comes_to g o first count m.fence) missing

-- the guest that begins so, with what the settings say
pub record IsGuestOf (opening : Opening) (s : FenceSettings) (g : FenceGuest) : Type 0 where
  pub is_opening : g.opening ≡ opening
  pub seed : g.seed ≡ s.hunt.header.seed
  pub rounds : g.reach.rounds ≡ s.hunt.rounds
  pub steps : g.reach.steps ≡ s.steps
  pub ranges : g.ranges.now ≡ s.hunt.header.ranges.items
  pub fences : g.fences.now ≡ s.assumed.items

-- what a search of these settings tells of the executions that begin so: each number up to the one with which it is over was executed and is
-- counted by what came of that, and none that fails is lost
pub record IsToldBy (comes_to : FenceGuest → Departing → ℕ → Ended → Type 0) (opening : Opening) (s : FenceSettings) (t : FenceTable) : Type 0 where
  pub guest : FenceGuest
  pub of : IsGuestOf opening s guest
  pub runs : Ordinary
  pub are_runs : AreOrdinaryRuns (comes_to guest) 12 runs
  pub counted : Counted
  pub numbers : AreSearched (tried_by (comes_to guest) runs) (IsEnough s.accepted) (extent_of s.hunt) t.count counted
  pub is_ordinary : t.ordinary ≡ counted.ordinary
  pub is_running : t.running ≡ counted.running
  pub confirmed : counted.unconfirmed.plans ≡ 0
  pub none_lost : counted.well + t.ordinary.plans + t.unnamed.plans + t.running.plans + t.accepted.plans + missing_plans t.missing.items ≡ t.count
  pub missing : AreMissing comes_to guest runs s.hunt.header.first t.count t.missing.items
  pub usual : (t.missing.items ≡ []) ⊎ IsUsual opening.image.now opening.input.now opening.harts.now runs

-- the same of the file's image on this input, from its harts before their first instructions
pub record IsSearchedBy (comes_to : FenceGuest → Departing → ℕ → Ended → Type 0) (s : FenceSettings) (file input : List ℕ) (t : FenceTable) : Type 0 where
  pub opening : Opening
  pub is_image : opening.image.now ≡ image_of s.hunt.format file s.hunt.pages
  pub is_input : opening.input.now ≡ input
  pub are_harts : opening.harts.now ≡ opening_harts opening.image.now.entry s.hunt.harts 0 s.hunt.harts
  pub told : IsToldBy comes_to opening s t

-- what was found has a table of which all this is true, and this is its text
pub record IsSearchText (comes_to : FenceGuest → Departing → ℕ → Ended → Type 0) (s : FenceSettings) (file input : List ℕ) (found : FoundFences) (text : List ℕ) : Type 0 where
  pub table : IsSearched s.hunt file input found.table
  pub told : IsSearchedBy comes_to s file input found.table
  pub is_text : text ≡ fences_text found.table
