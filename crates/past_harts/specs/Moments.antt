-- Moments of a run, one after the other.
use Rattle.std.specs.Prelude.{ℕ, ◌==◌, ◌||◌, ◌&&◌, nat_lt, Bool}
use Rattle.round_schedule.specs.declared.event.Phase.{Phase}
use Rattle.round_schedule.specs.declared.event.Phase.TheVariants.{Parallel, Serial}
use Rattle.past_harts.specs.declared.moment.Moment.{Moment}
use Rattle.past_harts.specs.declared.place.Place.{Place}

-- their order: by rounds, by phases, by harts, by instructions

abbrev pub phase_number : Phase → ℕ
phase_number Parallel = 0
phase_number Serial = 1

abbrev pub comes_before : Place → Place → Bool
comes_before x y =
    nat_lt (phase_number x.phase) (phase_number y.phase)
    || (phase_number x.phase == phase_number y.phase && (nat_lt x.hart y.hart || (x.hart == y.hart && nat_lt x.count y.count)))

abbrev pub is_before : Moment → Moment → Bool
is_before x y = nat_lt x.rounds y.rounds || (x.rounds == y.rounds && comes_before x.place y.place)

-- a place of the round after k others
abbrev pub moment_in : ℕ → Place → Moment
moment_in k p = record { rounds = k; place = p }

-- hart i after so many of its instructions of the round
abbrev pub place_in : Phase → ℕ → ℕ → Place
place_in p i c = record { phase = p; hart = i; count = c }
