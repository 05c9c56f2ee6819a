-- A list of reservations, one entry a hart, beside a trace, and what calls, a commit and a serial access do to it.
use Rattle.std.specs.Prelude.{◌≡◌, ℕ, suc, ◌<◌, ◌==◌, ◌||◌, Bool, false, if◌then◌else◌, List, [], ◌∷◌, length, slice_index_or, Option, Some, None}
use Rattle.pages.specs.Memory.{width_bytes, in_range, covered}
use Rattle.round_schedule.specs.declared.access.Access.{Access}
use Rattle.round_schedule.specs.declared.event.Event.{Event}
use Rattle.round_schedule.specs.declared.span.Span.{Span}
use Rattle.round_schedule.specs.Accesses.{writes}
use Rattle.round_schedule.specs.Held.{held, unless, held_after_own}
use Rattle.round_schedule.specs.Schedule.{HartRound}

-- the reservation of a hart
abbrev pub entry : List (Option Span) → ℕ → Option Span
entry reservations h = slice_index_or reservations h None

-- each entry is what the trace says of its hart
pub record Tied (reservations : List (Option Span)) (t : List Event) : Type 0 where
  pub each : (h : ℕ) → h < length reservations → entry reservations h ≡ held h t

-- hart i has this reservation, in place of any other
pub record Sets (i : ℕ) (s : Span) (old new : List (Option Span)) : Type 0 where
  pub size : length new ≡ length old
  pub each : (h : ℕ) → h < length old → entry new h ≡ (if i == h then Some s else entry old h)

-- hart i has none
pub record Drops (i : ℕ) (old new : List (Option Span)) : Type 0 where
  pub size : length new ≡ length old
  pub each : (h : ℕ) → h < length old → entry new h ≡ (if i == h then None else entry old h)

-- the entries of other harts than i with a byte of this span are gone
pub record Breaks (i : ℕ) (s : Span) (old new : List (Option Span)) : Type 0 where
  pub size : length new ≡ length old
  pub each : (h : ℕ) → h < length old → entry new h ≡ (if i == h then entry old h else unless (in_range s.address (width_bytes s.width)) (entry old h))

-- what a serial access of hart i does to the list
pub record Updates (i : ℕ) (a : Access) (old new : List (Option Span)) : Type 0 where
  pub size : length new ≡ length old
  pub each : (h : ℕ) → h < length old → entry new h ≡ (if i == h then held_after_own a (entry old h) else unless (writes a) (entry old h))

-- whether the stores of another hart than h cover the byte, the rounds being those of harts i, i + 1, ..
abbrev pub covered_by_others : {H : Type 0} → ℕ → ℕ → List (HartRound H) → ℕ → Bool
covered_by_others h i [] x = false
covered_by_others h i (r ∷ rs) x = (if i == h then false else covered r.last.stores x) || covered_by_others h (suc i) rs x

-- what a commit does to the list: the entries of which another hart's stores cover a byte are gone
pub record Commits {H : Type 0} (rs : List (HartRound H)) (old new : List (Option Span)) : Type 0 where
  pub size : length new ≡ length old
  pub each : (h : ℕ) → h < length old → entry new h ≡ unless (covered_by_others h 0 rs) (entry old h)
