-- What is looked at: an execution and its moments.
use Rattle.std.specs.Prelude.{ℕ, ◌-◌, nat_le, min, if◌then◌else◌, List, [], length}
use Rattle.round_schedule.specs.declared.event.Event.{Event}
use Rattle.trace.specs.Traced.{opening_at}
use Rattle.execution_views.specs.Moments.{bytes_at}
use Rattle.execution_moments.specs.declared.course.Course.{Course}
use Rattle.execution_moments.specs.declared.past.Past.{Past}
use Rattle.execution_moments.specs.Shown.{view_at}

-- its moments, its events, their order, the bytes that memory opened with, how many harts there are, and how many bytes memory has
pub record Looked : Type 0 where
  pub course : Course
  pub events : List Event
  pub order : List ℕ
  pub opening : ℕ → ℕ
  pub harts : ℕ
  pub size : ℕ

abbrev pub looked_at : Past → Looked
looked_at p = record {
  course = p.course;
  events = p.execution.standing.events;
  order = p.order.0.items;
  opening = λ x. opening_at p.opening.opening x;
  harts = p.harts;
  size = p.size;
}

-- behind the last moment
abbrev pub end_of : Looked → ℕ
end_of r = length r.course.sequence.items

-- at most so many bytes from an address on, as hart h sees them at a time: fewer where memory ends before
abbrev pub bytes_shown : Looked → ℕ → ℕ → ℕ → ℕ → List ℕ
bytes_shown r time h address count =
    if nat_le r.size address then [] else
    bytes_at r.events r.opening r.order (view_at r.course r.events r.order time h) address (min count (r.size - address))
