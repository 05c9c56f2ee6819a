-- A round that is opened, worked on and taken out is shared.
use Rattle.std.proofs.Common.{◌≡◌, ℕ, ◌+◌, List, ◌++◌, sym, ap, ◌∙◌, subst}
use Rattle.atomic_table.specs.Seated.{TableId}
use Rattle.run_book.specs.Known.{Known}
use Rattle.run_book.specs.Working.{KeepsRound}
use Rattle.lasting_workers.specs.Sharing.{HasShared}
use Rattle.parallel_phase.specs.declared.claimed_round.HartRound.{HartRound}
use Rattle.parallel_phase.specs.declared.run_starts.RunStarts.{Ghosts}
use Rattle.parallel_phase.specs.Rounds.{IsCaller, IsWholeRound}

module _ {b : _} {g : Ghosts b} where
  -- the seat before, with the round open, after its work, and after it took the history out
  pub shared : (t : TableId) (round harts : ℕ) (k opened worked l : Known (HartRound b g)) (es : List (HartRound b g)) → IsCaller t harts opened → opened.seen ≡ k.seen → opened.round ≡ round → KeepsRound opened worked
      → IsCaller t harts l → l.round ≡ worked.round + 1 → l.seen ≡ worked.gone ++ es → IsWholeRound worked.round harts es → HasShared t round harts k es l
  shared t round harts k opened worked l es calling seen_is round_is kept caller next seen whole = record {
    whole = subst (λ (n : ℕ). IsWholeRound n harts es) (kept.round ∙ round_is) whole;
    seen = seen ∙ ap (λ (fs : List (HartRound b g)). fs ++ es) (kept.gone ∙ (sym calling.seen ∙ seen_is));
    caller = caller;
    open_round = next ∙ ap (λ (n : ℕ). n + 1) (kept.round ∙ round_is);
  }
