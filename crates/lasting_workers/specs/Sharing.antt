-- What a shared round does to the seat of the calling thread.
use Rattle.std.specs.Prelude.{◌≡◌, ℕ, ◌+◌, List, [], ◌++◌}
use Rattle.atomic_table.specs.Seated.{TableId}
use Rattle.run_book.specs.Known.{Known}
use Rattle.parallel_phase.specs.declared.claimed_round.HartRound.{HartRound}
use Rattle.parallel_phase.specs.declared.run_starts.RunStarts.{Ghosts}
use Rattle.parallel_phase.specs.Rounds.{IsCaller, IsWholeRound}

-- the history of this round stood under the lock and is whole, and the seat took it out: it has seen it behind what it had seen
pub record HasShared {b : _} {g : Ghosts b} (t : TableId) (round harts : ℕ) (k : Known (HartRound b g)) (es : List (HartRound b g)) (l : Known (HartRound b g)) : Type 0 where
  pub whole : IsWholeRound round harts es
  pub seen : l.seen ≡ k.seen ++ es
  pub caller : IsCaller t harts l
  pub open_round : l.round ≡ round + 1
