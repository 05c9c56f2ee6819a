-- What a search through some rounds of a run finds, and how many of them are done then.
use Rattle.std.specs.Prelude.{◌≡◌, ℕ, ◌+◌, ◌≤◌, List, Option, None}
use Rattle.machine.specs.Machine.{Running, after_rounds}
use Rattle.machine.specs.Untraced.{IsUntraced, Untraced}
use Rattle.moments.specs.declared.asked.Asked.{Asked}
use Rattle.watching.specs.declared.watchpoint.Watchpoint.{Watchpoint}
use Rattle.watching.specs.declared.watchpoint.Way.{Way}
use Rattle.watching.specs.declared.watchpoint.Way.TheVariants.{On, Back}
use Rattle.past_harts.specs.declared.point.Point.{Point}
use Rattle.round_steps.specs.declared.told.Told.{Told}
use Rattle.round_steps.specs.Points.{next_point_of, previous_point_of}

-- on the way on, through n rounds after machine u at most: those up to the one in which something is told are done, and all where nothing is
pub record FindsFirst (a : Asked) (ws : List Watchpoint) (m : Running) (n : ℕ) (here : Point) (u v : Untraced) (x : Option Told) : Type 0 where
  pub done : ℕ
  pub most : done ≤ n
  pub all : x ≡ None → done ≡ n
  pub run : IsUntraced (after_rounds done m) v
  pub rounds : v.rounds ≡ u.rounds + done
  pub told : x ≡ next_point_of a ws m done here

-- on the way back, through n rounds after machine u: all are done
pub record FindsLast (a : Asked) (ws : List Watchpoint) (m : Running) (n : ℕ) (here : Point) (u v : Untraced) (x : Option Told) : Type 0 where
  pub run : IsUntraced (after_rounds n m) v
  pub rounds : v.rounds ≡ u.rounds + n
  pub told : x ≡ previous_point_of a ws m n here

-- one way
abbrev pub FindsNearest : Way → Asked → List Watchpoint → Running → ℕ → Point → Untraced → Untraced → Option Told → Type 0
FindsNearest On = FindsFirst
FindsNearest Back = FindsLast
