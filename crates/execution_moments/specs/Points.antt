-- Points of an execution: a time, and a side of it.
use Rattle.std.specs.Prelude.{ℕ, ◌==◌, ◌||◌, ◌&&◌, nat_lt, Bool, if◌then◌else◌}
use Rattle.execution_moments.specs.declared.point.TimePoint.{TimePoint}
use Rattle.execution_moments.specs.declared.point.TimeSide.{TimeSide}
use Rattle.execution_moments.specs.declared.point.TimeSide.TheVariants.{After, Between, Break, Access}

abbrev pub at : ℕ → TimeSide → TimePoint
at time side = record { time = time; side = side }

-- their order: by times, and at one time by sides
abbrev pub side_number : TimeSide → ℕ
side_number After = 0
side_number Between = 1
side_number Break = 2
side_number Access = 3

abbrev pub point_before : TimePoint → TimePoint → Bool
point_before x y = nat_lt x.time y.time || (x.time == y.time && nat_lt (side_number x.side) (side_number y.side))

abbrev pub later_of : TimePoint → TimePoint → TimePoint
later_of x y = if point_before x y then y else x
