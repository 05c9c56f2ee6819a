-- What comes of the executions of numbers, beside ordinary runs. `comes_to departing e` says that the execution of the number that departs so
-- comes to e.
use Rattle.std.specs.Prelude.{◌≡◌, ◌⊎◌, ⊤, ℕ}
use Rattle.std.specs.List.{Any}
use Rattle.plan_hunt.specs.Endings.{Ended}
use Rattle.fence_places.specs.declared.naming.Gap.{Gap}
use Rattle.fence_trials.specs.Departing.{AreNone}
use Rattle.fence_trials.specs.Well.{IsCutOff, IsWellBeside}
use Rattle.fence_trials.specs.declared.departing.Departing.{Departing}
use Rattle.fence_trials.specs.declared.departing.Departing.TheVariants.{Drawn}
use Rattle.fence_trials.specs.declared.failing.Failing.TheVariants.{Stuck}
use Rattle.fence_trials.specs.declared.failing.Judgement.{Judgement}
use Rattle.fence_trials.specs.declared.failing.Judgement.TheVariants as judgements
use Rattle.fence_trials.specs.declared.ordinary.Ordinary.{Ordinary}
use Rattle.fence_trials.specs.declared.spot.Spot.{Spot}
use Rattle.fence_trials.specs.declared.spot.Spot.TheVariants.{Before, Behind, Between}
use Rattle.fence_trials.specs.declared.trying.Trial.{Trial}
use Rattle.fence_trials.specs.declared.trying.Trial.TheVariants.{Well, Ordinary as Anyway, Running, Unnamed, Fails, Unconfirmed}
use Rattle.fence_trials.specs.declared.working.Tried.{Tried}

-- it comes to an ending that is well, or to one that isn't
abbrev pub EndsWell : (Ended → Type 0) → Ordinary → Type 0
EndsWell comes_to o = (e : Ended) × comes_to e × IsWellBeside o e

abbrev pub EndsBadly : (Ended → Type 0) → Ordinary → Type 0
EndsBadly comes_to o = (e : Ended) × comes_to e × (IsWellBeside o e → ⊥)

-- or to one in which a hart hasn't stopped
abbrev pub EndsCutOff : (Ended → Type 0) → Type 0
EndsCutOff comes_to = (e : Ended) × comes_to e × IsCutOff e

-- what is said of one execution. One that is stuck was cut off too
abbrev pub IsJudged : (Ended → Type 0) → Ordinary → Judgement → Type 0
IsJudged comes_to o judgements.Well = EndsWell comes_to o
IsJudged comes_to o (judgements.Fails Stuck) = EndsCutOff comes_to
IsJudged comes_to o (judgements.Fails failing) = EndsBadly comes_to o
IsJudged comes_to o judgements.Cut = EndsCutOff comes_to
IsJudged comes_to o judgements.Void = ⊤

-- the number fails without departures too
abbrev pub FailsAnyway : (Departing → Ended → Type 0) → Ordinary → Type 0
FailsAnyway comes_to o = (d : Departing) × AreNone d × EndsBadly (comes_to d) o

-- without departures it is well, or cut off
abbrev pub HoldsAnyway : (Departing → Ended → Type 0) → Ordinary → Type 0
HoldsAnyway comes_to o = (d : Departing) × AreNone d × (EndsWell (comes_to d) o ⊎ EndsCutOff (comes_to d))

-- the number fails with some departures
abbrev pub FailsSo : (Departing → ℕ → Ended → Type 0) → Ordinary → ℕ → Type 0
FailsSo comes_to o n = (d : Departing) × EndsBadly (comes_to d n) o

-- what is said of a number: it is well, or its execution as it is drawn isn't; and then that without departures fails too, or doesn't, and
-- what is told is told of this number. What runs on was cut off
abbrev pub IsTrialOf : (Departing → Ended → Type 0) → Ordinary → ℕ → Trial → Type 0
IsTrialOf comes_to o n Well = EndsWell (comes_to Drawn) o
IsTrialOf comes_to o n Anyway = EndsBadly (comes_to Drawn) o × FailsAnyway comes_to o
IsTrialOf comes_to o n Running = EndsCutOff (comes_to Drawn)
IsTrialOf comes_to o n Unnamed = EndsBadly (comes_to Drawn) o × HoldsAnyway comes_to o
IsTrialOf comes_to o n (Fails found) = EndsBadly (comes_to Drawn) o × HoldsAnyway comes_to o × (found.number ≡ n)
IsTrialOf comes_to o n Unconfirmed = ⊤

-- it is none of a number that is well, fails without departures too, or runs on
abbrev pub IsLookedInto : ℕ → Trial → Type 0
IsLookedInto n Well = ⊥
IsLookedInto n Anyway = ⊥
IsLookedInto n Running = ⊥
IsLookedInto n Unnamed = ⊤
IsLookedInto n (Fails found) = found.number ≡ n
IsLookedInto n Unconfirmed = ⊤

-- the same of the number that was tried. `comes_to departing n e` is of all numbers
pub record WasTried (comes_to : Departing → ℕ → Ended → Type 0) (o : Ordinary) (t : Tried) : Type 0 where
  pub is : IsTrialOf (λ d. comes_to d t.number) o t.number t.trial

-- ---- places

-- whether a fence at the spot would stand in a gap
abbrev pub IsIn : Spot → Gap → Type 0
IsIn (Before pc) g = g.later ≡ pc
IsIn (Behind pc) g = g.earlier ≡ pc
IsIn (Between earlier later) g = (g.earlier ≡ earlier) × (g.later ≡ later)

-- a number of which this came fails for want of a fence at the spot. One that isn't confirmed does: nothing speaks for a fence then
abbrev pub FailsAt : Spot → Trial → Type 0
FailsAt spot Well = ⊥
FailsAt spot Anyway = ⊥
FailsAt spot Running = ⊥
FailsAt spot Unnamed = ⊥
FailsAt spot (Fails found) = Any (IsIn spot) found.moves.gaps.items
FailsAt spot Unconfirmed = ⊤
