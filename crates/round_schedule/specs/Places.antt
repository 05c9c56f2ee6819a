-- What the events of a run keep beside being a round trace: places rise, and each access is as its instruction left it.
use Rattle.std.specs.Prelude.{◌≡◌, ℕ, zero, suc, ◌+◌, ◌*◌, ◌^◌, ◌<◌, ◌≤◌, Bool, true, List, [], ◌∷◌, length, All, Option, Some}
use Rattle.round_schedule.specs.declared.access.Access.{Access}
use Rattle.round_schedule.specs.declared.access.Stepped.TheVariants.{Done}
use Rattle.round_schedule.specs.declared.event.Event.{Event}
use Rattle.round_schedule.specs.declared.span.Span.{Span}
use Rattle.round_schedule.specs.Accesses.{place_of}
use Rattle.round_schedule.specs.Positions.{event}
use Rattle.round_schedule.specs.Schedule.{Words, opening_state, run_of}
use Rattle.round_schedule.specs.Sound.{Counts}

-- a hart's places rise through the trace
abbrev pub PlacesRise : List Event → Type 0
PlacesRise t =
    (i j : ℕ) → i < j → j < length t → (event t i).hart ≡ (event t j).hart → place_of (event t i).access < place_of (event t j).access

-- in a run that is too short for the counts of instructions to wrap, places rise
abbrev pub PlacesOfRunsRise : (H C : Type 0) → Type 0
PlacesOfRunsRise H C =
    (w : Words H C) (done : H → ℕ) → Counts w done → (budget most : ℕ) (quotas : ℕ → List ℕ) → ((m : ℕ) → All (λ q. q ≤ most) (quotas m)) →
    (n : ℕ) (hs : List H) (bs : List ℕ) (c : C) → All (λ h. done h ≡ 0) hs → n * (most + budget) < 2 ^ 64 →
    PlacesRise (run_of w budget quotas n (opening_state hs bs c)).trace

-- a hart's count by its number; 0 where there is no such hart
abbrev pub count_at : {H : Type 0} → (H → ℕ) → List H → ℕ → ℕ
count_at done [] j = 0
count_at done (h ∷ hs) zero = done h
count_at done (h ∷ hs) (suc j) = count_at done hs j

-- places rise, each is below its hart's count, and no count is above the bound
pub record Placed {H : Type 0} (done : H → ℕ) (most : ℕ) (hs : List H) (t : List Event) : Type 0 where
  pub rising : PlacesRise t
  pub below : All (λ (f : Event). place_of f.access < count_at done hs f.hart) t
  pub counts : All (λ (h : H). done h ≤ most) hs

-- each access that an instruction leaves passes the test
pub record AllPass {H C : Type 0} (w : Words H C) (test : Access → Bool) : Type 0 where
  pub steps : (h : H) (bs : List ℕ) (a : Access) → (w.step h bs).answer ≡ Done (Some a) → test a ≡ true
  pub serial_steps : (n : ℕ) (h : H) (bs : List ℕ) (c : C) (r : Option Span) (a : Access) → (w.serial_step n h bs c r).answer ≡ Done (Some a) → test a ≡ true

-- what each access passes, each event's access passes
abbrev pub EventsPass : (H C : Type 0) → Type 0
EventsPass H C =
    (w : Words H C) (test : Access → Bool) → AllPass w test → (budget : ℕ) (quotas : ℕ → List ℕ) (n : ℕ) (hs : List H) (bs : List ℕ) (c : C) →
    All (λ (e : Event). test e.access ≡ true) (run_of w budget quotas n (opening_state hs bs c)).trace
