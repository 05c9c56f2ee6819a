-- A debugger's session with a recorded run.
use Rattle.std.specs.Prelude.{◌≡◌, ℕ, ◌+◌, ◌<◌, ◌≤◌, ◌^◌, Bool, true, false, if◌then◌else◌, List, ◌++◌, length, Option, Some, None, option_map, IfSome}
use Rattle.round_schedule.specs.declared.bounds.TheConstants.{MOST_HARTS}
use Rattle.hart_step.specs.declared.hart.Hart.{Hart}
use Rattle.machine.specs.Machine.{Running}
use Rattle.round_planner.specs.declared.settings.Format.{Format}
use Rattle.round_planner.specs.declared.settings.Format.TheVariants.{Elf, Flat}
use Rattle.machine.specs.Untraced.{IsUntraced}
use Rattle.moments.specs.Sights.{Sight}
use Rattle.round_schedule.specs.declared.event.Phase.TheVariants.{Parallel}
use Rattle.past_harts.specs.declared.point.Point.{Point}
use Rattle.past_harts.specs.declared.point.Side.TheVariants.{Break}
use Rattle.past_harts.specs.Moments.{moment_in, place_in}
use Rattle.gdb_talk.specs.Stops.{Stopping, stopping}
use Rattle.timelines.specs.Shown.{seen}
use Rattle.gdb_runs.specs.declared.debugged.Debugged.{Debugged}
use Rattle.gdb_runs.specs.declared.session.Session.{Session}
use Rattle.gdb_runs.specs.declared.session.Standing.{Standing}
use Rattle.round_schedule.specs.Bounds.{AreWorkers}

-- the image that a debugger is handed: an ELF file, and no flat image
abbrev pub is_elf : Format → Bool
is_elf Elf = true
is_elf Flat = false

abbrev pub handed : Format → List ℕ → Option (List ℕ)
handed format image = if is_elf format then Some image else None

abbrev pub image_of : Debugged → Option (List ℕ)
image_of d = if d.hands_image then Some d.image.items else None

-- the run before its first round, how many rounds of it are recorded, how many harts there are, and the image
pub record Recorded : Type 0 where
  pub run : Running
  pub rounds : ℕ
  pub harts : ℕ
  pub image : Option (List ℕ)

abbrev pub recorded_of : Running → Debugged → Recorded
recorded_of m d = record { run = m; rounds = d.timeline.rounds; harts = d.harts; image = image_of d }

-- this is so of the run that is looked at
abbrev pub OfRun : Debugged → (Recorded → Type 0) → Type 0
OfRun d p = (m : Running) → IsUntraced m d.timeline.start → p (recorded_of m d)

-- where it stands, and its breakpoints and watchpoints
pub record State : Type 0 where
  pub standing : Standing
  pub stops : Stopping

abbrev pub state_of : Session → State
state_of s = record { standing = s.standing; stops = stopping s.stops }

abbrev pub stops_of : State → List ℕ
stops_of s = s.stops.software ++ s.stops.hardware

-- it stands within the run, and speaks of harts that there are
pub record IsReady (d : Debugged) (t : Standing) : Type 0 where
  pub harts : d.harts ≤ MOST_HARTS
  pub all : d.harts ≡ length d.start.harts
  pub workers : AreWorkers d.workers
  pub start : d.start ≡ d.timeline.start
  pub fresh : d.start.rounds ≡ 0
  pub run : (m : Running) × IsUntraced m d.start
  pub rounds : d.timeline.rounds + 1 < 2 ^ 32
  pub within : t.point.moment.rounds ≤ d.timeline.rounds
  pub told : t.told < d.harts
  pub general : t.general < d.harts
  pub moving : IfSome t.moving (λ h. h < d.harts)
  pub goal : IfSome t.goal (λ g. (g.moment.rounds < d.timeline.rounds) × (g.moment.place.hart < d.harts))

-- a point in the run, of a hart that there is
pub record IsWithin (d : Debugged) (at : Point) : Type 0 where
  pub rounds : at.moment.rounds ≤ d.timeline.rounds
  pub hart : at.moment.place.hart < d.harts

-- ---- harts at a point

abbrev pub hart_of : Sight Hart → Hart
hart_of s = s.hart

abbrev pub hart_seen : Running → Point → ℕ → Option Hart
hart_seen m at i = option_map hart_of (seen m at i)

-- ---- the first moment, and the one behind the last round

abbrev pub start_of : ℕ → Point
start_of n = record { moment = moment_in n (place_in Parallel 0 0); side = Break }
