-- Points of a run: a moment, and a side of it.
use Rattle.std.specs.Prelude.{ℕ, ◌==◌, ◌||◌, ◌&&◌, nat_lt, Bool, true, false}
use Rattle.past_harts.specs.declared.moment.Moment.{Moment}
use Rattle.past_harts.specs.declared.place.Place.{Place}
use Rattle.past_harts.specs.declared.point.Point.{Point}
use Rattle.past_harts.specs.declared.point.Side.{Side}
use Rattle.past_harts.specs.declared.point.Side.TheVariants.{After, RivalAfter, Break, Rival, Access}
use Rattle.past_harts.specs.Moments.{is_before, phase_number}

-- their order: by moments, and at one moment by sides

abbrev pub side_number : Side → ℕ
side_number After = 0
side_number RivalAfter = 1
side_number Break = 2
side_number Rival = 3
side_number Access = 4

abbrev pub same_place : Place → Place → Bool
same_place x y = phase_number x.phase == phase_number y.phase && (x.hart == y.hart && x.count == y.count)

abbrev pub same_moment : Moment → Moment → Bool
same_moment x y = x.rounds == y.rounds && same_place x.place y.place

abbrev pub point_before : Point → Point → Bool
point_before x y = is_before x.moment y.moment || (same_moment x.moment y.moment && nat_lt (side_number x.side) (side_number y.side))

-- the sides behind a move
abbrev pub is_behind_move : Side → Bool
is_behind_move After = true
is_behind_move RivalAfter = true
is_behind_move Break = false
is_behind_move Rival = false
is_behind_move Access = false
