-- The histories that the calling thread's seat gathers on a walk.
use Rattle.std.proofs.Common.{◌≡◌, ℕ, ◌+◌, ◌≤◌, ◌<◌, Bool, true, false, List, [], ◌∷◌, ◌++◌, All, refl, sym, ap, ◌∙◌, subst, arith, append_assoc, append-nil, length-append}
use Rattle.std.specs.Prelude.{MatchBool}
use mir.Val.{bool_byte}
use Rattle.std.proofs.lemmas.List.Elements.{All-append, All-cons, All-nil}
use Rattle.run_book.specs.Known.{Bound, Known}
use Rattle.run_book.specs.Working.{AreWhole}
use Rattle.parallel_phase.specs.declared.claimed_round.HartRound.{HartRound}
use Rattle.parallel_phase.specs.declared.run_starts.RunStarts.{Ghosts}
use Rattle.parallel_phase.specs.Rounds.{HasGatheredRounds, IsCaller, IsRight, seat_of, turn_in}
use Rattle.guest_rounds.specs.Crews.{MayShare}
use Rattle.machine.specs.Untraced.{Untraced}
use Rattle.machine.specs.Walks.{HasShared}

-- no more rounds are shared than are done
pub shared_few : (shared done more : ℕ) (shares : Bool) → more ≡ bool_byte shares → shared ≤ done → shared + more ≤ done + 1
shared_few shared done more true is few = omega (arith, is, few)
shared_few shared done more false is few = omega (arith, is, few)

still_within : (u v w : Untraced) (rounds : List ℕ) → w.rounds ≡ v.rounds + 1 → All (λ (n : ℕ). (u.rounds ≤ n) × (n < v.rounds)) rounds → All (λ (n : ℕ). (u.rounds ≤ n) × (n < w.rounds)) rounds
still_within u v w rounds more within = λ j d low. let x = within j d low in (x.0, omega (arith, x.1, more))

module _ {b : _} {g : Ghosts b} where
  abbrev pub AreWholeRounds : List ℕ → ℕ → List (HartRound b g) → Type 0
  AreWholeRounds rounds harts es = AreWhole turn_in seat_of IsRight rounds harts es

  -- the histories of these rounds, and of more
  pub are_more : (rounds more : List ℕ) (harts : ℕ) (es fs : List (HartRound b g)) → AreWholeRounds rounds harts es → AreWholeRounds more harts fs → AreWholeRounds (rounds ++ more) harts (es ++ fs)
  are_more [] more harts es fs none whole = subst (λ (x : List (HartRound b g)). AreWholeRounds more harts (x ++ fs)) (sym none) whole
  are_more (round ∷ rounds) more harts es fs w whole =
      (w.0, w.1 ++ fs, ap (λ (x : List (HartRound b g)). x ++ fs) w.2 ∙ append_assoc w.0 w.1 fs, w.3, are_more rounds more harts w.1 fs w.4 whole)

  pub gathered_more : (rounds more : List ℕ) (harts : ℕ) (k l m : Known (HartRound b g)) → HasGatheredRounds rounds harts k l → HasGatheredRounds more harts l m → HasGatheredRounds (rounds ++ more) harts k m
  gathered_more rounds more harts k l m x y = (
    x.0 ++ y.0,
    y.1 ∙ ap (λ (es : List (HartRound b g)). es ++ y.0) x.1 ∙ append_assoc k.seen x.0 y.0,
    are_more rounds more harts x.0 y.0 x.2 y.2,
  )

  -- ---- of a walk

  pub none_shared : (harts : ℕ) (u v : Untraced) (k : Known (HartRound b g)) → HasShared 0 harts u v k k
  none_shared harts u v k = record {
    rounds = [];
    count = refl;
    within = All-nil (λ (n : ℕ). (u.rounds ≤ n) × (n < v.rounds));
    gathered = ([], sym (append-nil k.seen), refl);
  }

  -- a round more, shared or not
  pub shared_next : (shared harts : ℕ) (shares : Bool) (u v w : Untraced) (k l m : Known (HartRound b g)) → u.rounds ≤ v.rounds → w.rounds ≡ v.rounds + 1 → HasShared shared harts u v k l →
      MatchBool shares (HasGatheredRounds (v.rounds ∷ []) harts l m) (m ≡ l) → HasShared (shared + bool_byte shares) harts u w k m
  shared_next shared harts true u v w k l m from more x one =
      let P = λ (n : ℕ). (u.rounds ≤ n) × (n < w.rounds) in
      record {
        rounds = x.rounds ++ v.rounds ∷ [];
        count = length-append x.rounds (v.rounds ∷ []) ∙ ap (λ (n : ℕ). n + 1) x.count;
        within = All-append P x.rounds (v.rounds ∷ []) (still_within u v w x.rounds more x.within) (All-cons P v.rounds [] (from, omega (arith, more)) (All-nil P));
        gathered = gathered_more x.rounds (v.rounds ∷ []) harts k l m x.gathered one;
      }
  shared_next shared harts false u v w k l m from more x same = record {
    rounds = x.rounds;
    count = x.count ∙ omega arith;
    within = still_within u v w x.rounds more x.within;
    gathered = subst (λ (y : Known (HartRound b g)). HasGatheredRounds x.rounds harts k y) (sym same) x.gathered;
  }

  -- the same, where the round's own machine says how many harts there are
  pub shared_then : (shared harts here added : ℕ) (shares : Bool) (u v w : Untraced) (k l m : Known (HartRound b g)) → here ≡ harts → added ≡ bool_byte shares → u.rounds ≤ v.rounds → w.rounds ≡ v.rounds + 1 →
      HasShared shared harts u v k l → MatchBool shares (HasGatheredRounds (v.rounds ∷ []) here l m) (m ≡ l) → HasShared (shared + added) harts u w k m
  shared_then shared harts here added shares u v w k l m many is from more x one =
      subst (λ (n : ℕ). HasShared (shared + n) harts u w k m) (sym is)
      (shared_next shared harts shares u v w k l m from more x (subst (λ (h : ℕ). MatchBool shares (HasGatheredRounds (v.rounds ∷ []) h l m) (m ≡ l)) many one))

  -- the seat may end the first round of all
  pub may_open : (n harts : ℕ) (book cook : Bound) (k l : Known (HartRound b g)) (blank : List (HartRound b g)) → cook ≡ book → l ≡ k → blank ≡ [] → IsCaller book.table book.harts k → k.round ≡ 0 → book.harts ≡ harts → MayShare n harts cook l blank
  may_open n harts book cook k l blank same sits none caller first many =
      subst (λ (x : Bound). MayShare n harts x l blank) (sym same) (subst (λ (x : Known (HartRound b g)). MayShare n harts book x blank) (sym sits) (record {
        caller = caller;
        harts_are = many;
        later = omega (arith, first);
        blank_is = none;
      }))
