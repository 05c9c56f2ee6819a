-- What a shared round does to a crew that lasts.
use Rattle.std.proofs.Common.{◌≡◌, ℕ, ◌+◌, List, [], ◌∷◌, subst, sym, refl, arith, append-nil}
use Rattle.run_book.specs.Known.{Bound, Known}
use Rattle.lasting_workers.specs.Sharing.{HasShared}
use Rattle.parallel_phase.specs.declared.claimed_round.HartRound.{HartRound}
use Rattle.parallel_phase.specs.declared.run_starts.RunStarts.{Ghosts}
use Rattle.parallel_phase.specs.Rounds.{HasGatheredRounds}
use Rattle.guest_rounds.specs.Crews.{MayShare}

module _ {b : _} {g : Ghosts b} where
  -- the seat may go on, and has gathered this round
  pub may_go_on : (book : Bound) (round harts : ℕ) (k l : Known (HartRound b g)) (es blank : List (HartRound b g)) → HasShared book.table round book.harts k es l → book.harts ≡ harts → blank ≡ []
      → MayShare (round + 1) harts book l blank
  may_go_on book round harts k l es blank shared many none = record {
    caller = shared.caller;
    harts_are = many;
    later = let o = shared.open_round in omega arith;
    blank_is = none;
  }

  pub gathered_one : (book : Bound) (round harts : ℕ) (k l : Known (HartRound b g)) (es : List (HartRound b g)) → HasShared book.table round book.harts k es l → book.harts ≡ harts
      → HasGatheredRounds (round ∷ []) harts k l
  gathered_one book round harts k l es shared many =
      subst (λ (h : ℕ). HasGatheredRounds (round ∷ []) h k l) many (es, shared.seen, (es, [], sym (append-nil es), shared.whole, refl))

  -- the same round, of the same harts, at the same book
  pub may_as : (n m h i : ℕ) (book cook : Bound) (k l : Known (HartRound b g)) (es fs : List (HartRound b g)) → n ≡ m → h ≡ i → book ≡ cook → k ≡ l → es ≡ fs → MayShare n h book k es → MayShare m i cook l fs
  may_as n m h i book cook k l es fs same many one sits list may =
      subst (λ (x : Bound). MayShare m i x l fs) one (subst (λ (x : Known (HartRound b g)). MayShare m i book x fs) sits (subst (λ (x : List (HartRound b g)). MayShare m i book k x) list
      (subst (λ (x : ℕ). MayShare m x book k es) many (subst (λ (x : ℕ). MayShare x h book k es) same may))))

  pub gathered_as : (n m h i : ℕ) (k j l : Known (HartRound b g)) → n ≡ m → h ≡ i → k ≡ j → HasGatheredRounds (n ∷ []) h k l → HasGatheredRounds (m ∷ []) i j l
  gathered_as n m h i k j l same many sits has =
      subst (λ (x : Known (HartRound b g)). HasGatheredRounds (m ∷ []) i x l) sits (subst (λ (x : ℕ). HasGatheredRounds (m ∷ []) x k l) many (subst (λ (x : ℕ). HasGatheredRounds (x ∷ []) h k l) same has))
