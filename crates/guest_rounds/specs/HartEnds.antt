-- What the rounds of the harts left, as the code keeps it.
use Rattle.std.specs.Prelude.{◌≡◌, ℕ, suc, ◌+◌, ◌*◌, ◌/◌, ◌<◌, ◌≤◌, ◌^◌, Bool, true, if◌then◌else◌, List, [], ◌∷◌, ◌++◌, length, get_or, is_some, None, All}
use Rattle.pages.specs.declared.access.Width.TheVariants.{W1}
use Rattle.pages.specs.Memory.{Memory, store_fault}
use Rattle.pages.specs.Paged.{Paged, is_page_ready}
use Rattle.round_schedule.specs.declared.access.Access.{Access}
use Rattle.round_schedule.specs.declared.event.Event.{Event}
use Rattle.round_schedule.specs.declared.event.Phase.TheVariants.{Parallel}
use Rattle.round_schedule.specs.ReservingTurn.{log_events}
use Rattle.round_schedule.specs.Events.{events_of}
use Rattle.round_schedule.specs.Schedule.{HartRound, events_from}
use Rattle.hart_step.specs.declared.hart.Hart.{Hart}
use Rattle.hart_rounds.specs.declared.hart_end.HartEnd.{HartEnd}
use Rattle.hart_rounds.specs.Ends.{end_of}
use Rattle.trace.specs.Traced.{Traced}

abbrev pub harts_of : List HartEnd → List Hart
harts_of [] = []
harts_of (o ∷ os) = o.hart ∷ harts_of os

-- each hart that has stopped is as its round left it
abbrev pub AreAtRest : List Hart → List HartEnd → Type 0
AreAtRest hs os = (i : ℕ) (h : Hart) (o : HartEnd) → i < length hs → is_some (get_or hs i h).stop ≡ true → (get_or os i o).hart ≡ get_or hs i h

-- where the second list has a hart that has stopped, the first has the same hart
abbrev pub StoppedStay : List Hart → List Hart → Type 0
StoppedStay hs gs = (i : ℕ) (h : Hart) → i < length hs → i < length gs → is_some (get_or gs i h).stop ≡ true → get_or gs i h ≡ get_or hs i h

-- each byte of a buffer is a byte of memory that is not code
abbrev pub AllFit : Memory → List (ℕ × ℕ) → Type 0
AllFit m es = All (λ (e : ℕ × ℕ). store_fault m e.0 W1 ≡ None) es

-- it is what this round left on this memory, with its accesses or just their number
pub record IsEndOf (logs : Bool) (m : Memory) (r : HartRound Hart) (o : HartEnd) : Type 0 where
  pub is : o ≡ end_of logs r
  pub fits : AllFit m o.buffer

-- the same of the rounds of all harts
abbrev pub AreEndsOf : Bool → Memory → List (HartRound Hart) → List HartEnd → Type 0
AreEndsOf logs m [] [] = Unit {0}
AreEndsOf logs m (r ∷ rs) [] = ⊥
AreEndsOf logs m [] (o ∷ os) = ⊥
AreEndsOf logs m (r ∷ rs) (o ∷ os) = IsEndOf logs m r o × AreEndsOf logs m rs os

-- each byte of a buffer lies on a page that is ready
abbrev pub AllOnReady : Paged → List (ℕ × ℕ) → Type 0
AllOnReady p es = All (λ (e : ℕ × ℕ). is_page_ready p (e.0 / 4096) ≡ true) es

-- the same of all buffers
abbrev pub AreFit : Memory → List HartEnd → Type 0
AreFit m [] = Unit {0}
AreFit m (o ∷ os) = AllFit m o.buffer × AreFit m os

abbrev pub AreReady : Paged → List HartEnd → Type 0
AreReady p [] = Unit {0}
AreReady p (o ∷ os) = AllOnReady p o.buffer × AreReady p os

-- memory is as it was, and ready pages stay ready
pub record KeepsPages (p q : Paged) : Type 0 where
  pub memory : q.memory ≡ p.memory
  pub count : length q.ready ≡ length p.ready
  pub stays : (page : ℕ) → is_page_ready p page ≡ true → is_page_ready q page ≡ true

-- bit i of the number is test i
abbrev pub mask_of : List Bool → ℕ
mask_of [] = 0
mask_of (b ∷ bs) = 2 * mask_of bs + (if b then 1 else 0)

abbrev pub waits_of : List HartEnd → List Bool
waits_of [] = []
waits_of (o ∷ os) = o.waits ∷ waits_of os

-- the events of what the harts left in round n, hart by hart from hart i on
abbrev pub events_of_ends : ℕ → ℕ → List HartEnd → List Event
events_of_ends n i [] = []
events_of_ends n i (o ∷ os) = events_of n i Parallel o.log ++ events_of_ends n (suc i) os

-- the events of a round: those of what the harts left, and those of the serial turns
abbrev pub round_events : ℕ → List HartEnd → List (List Access) → List Event
round_events n os closed = events_of_ends n 0 os ++ log_events n 0 closed

-- the same of the harts' rounds, whatever was kept of their accesses
abbrev pub events_of_rounds : ℕ → List (HartRound Hart) → List (List Access) → List Event
events_of_rounds n rs closed = events_from n 0 rs ++ log_events n 0 closed

-- how many accesses the harts made
abbrev pub count_accesses : List HartEnd → ℕ
count_accesses [] = 0
count_accesses (o ∷ os) = o.accesses + count_accesses os

-- how many accesses stand in the harts' logs
abbrev pub count_logged : List HartEnd → ℕ
count_logged [] = 0
count_logged (o ∷ os) = length o.log + count_logged os

-- how many of the accesses take room as events: none where the trace adopts the harts' logs
abbrev pub count_copied : Bool → List HartEnd → ℕ
count_copied adopts os = if adopts then 0 else count_logged os

-- where the trace adopts the logs, it has room for as many, and stays short enough
pub record HasPlaces (adopts : Bool) (os : List HartEnd) (t : Traced) : Type 0 where
  pub room : count_copied adopts os ≤ t.room
  pub logs : adopts ≡ true → length os ≤ t.logs
  pub few : adopts ≡ true → length t.events + count_logged os ≤ 2 ^ 62

-- how many instructions the serial turns may do together
abbrev pub turns_of : ℕ → List Bool → ℕ
turns_of budget [] = 0
turns_of budget (b ∷ bs) = (if b then budget else 0) + turns_of budget bs

abbrev pub count_true : List Bool → ℕ
count_true [] = 0
count_true (b ∷ bs) = (if b then 1 else 0) + count_true bs
