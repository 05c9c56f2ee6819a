-- A crew that lasts, between two rounds of a run.
use Rattle.std.specs.Prelude.{◌≡◌, ℕ, ◌≤◌, List, []}
use Rattle.run_book.specs.Known.{Bound, Known}
use Rattle.parallel_phase.specs.declared.claimed_round.HartRound.{HartRound}
use Rattle.parallel_phase.specs.declared.run_starts.RunStarts.{Ghosts}
use Rattle.parallel_phase.specs.Rounds.{IsCaller}

-- its seat may end a round after n rounds of so many harts, and the list that is to take the place of the round's history is empty
pub record MayShare {b : _} {g : Ghosts b} (n harts : ℕ) (book : Bound) (k : Known (HartRound b g)) (blank : List (HartRound b g)) : Type 0 where
  pub caller : IsCaller book.table book.harts k
  pub harts_are : book.harts ≡ harts
  pub later : k.round ≤ n
  pub blank_is : blank ≡ []
