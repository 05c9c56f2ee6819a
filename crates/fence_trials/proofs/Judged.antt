-- What is said of an execution, by what comes of it.
use Rattle.std.proofs.Common.{◌≡◌, ℕ, ◌+◌, ◌<◌, Result, Ok, Err, IfOk, OnOk, inl, inr, arith, refl, subst, sym, suc, ◌&&◌, Bool, true, false, List, [], ◌∷◌, length, slice_index_or}
use Rattle.std.specs.List.{list_all, list_any}
use Rattle.std.proofs.lemmas.Bool.{cases_lt}
use Rattle.plan_hunt.specs.Endings.{Ended}
use Rattle.plan_hunt.specs.Endings.{ends_well}
use Rattle.plan_hunt.specs.declared.hart_ending.HartEnding.{HartEnding}
use Rattle.plan_hunt.specs.declared.hart_ending.HartEnding.TheVariants as endings
use Rattle.fence_trials.specs.Trials.{EndsBadly, EndsCutOff, HoldsAnyway, IsJudged, IsLookedInto, IsTrialOf}
use Rattle.fence_trials.specs.Departing.{AreNone}
use Rattle.fence_trials.specs.Well.{AreOrdinaryRuns, IsCutOff, IsOrdinaryRun, IsWellBeside, goes_on}
use Rattle.fence_trials.specs.declared.departing.Departing.{Departing}
use Rattle.fence_trials.specs.declared.departing.Departing.TheVariants.{Drawn}
use Rattle.fence_trials.specs.declared.failing.Failing.{Failing}
use Rattle.fence_trials.specs.declared.failing.Failing.TheVariants as failings
use Rattle.fence_trials.specs.declared.failing.Judgement.{Judgement}
use Rattle.fence_trials.specs.declared.failing.Judgement.TheVariants as judgements
use Rattle.fence_trials.specs.declared.ordinary.Ordinary.{Ordinary}
use Rattle.fence_trials.specs.declared.trying.Trial.{Trial}
use Rattle.fence_trials.specs.declared.trying.Trial.TheVariants as trials

-- ---- harts that haven't stopped

not_true : false ≡ true → ⊥
not_true e = cc

none_goes_on : (harts : List HartEnding) → list_all ends_well harts ≡ true → list_any goes_on harts ≡ true → ⊥
none_goes_on [] well on = not_true on
none_goes_on (endings.Runs ∷ hs) well on = not_true well
none_goes_on (endings.Loops ∷ hs) well on = not_true well
none_goes_on (endings.Stopped stop ∷ hs) well on = stopped (ends_well (endings.Stopped stop)) (λ all. none_goes_on hs all on) well
  where
    stopped : (b : Bool) → (list_all ends_well hs ≡ true → ⊥) → (b && list_all ends_well hs) ≡ true → ⊥
    stopped true others all = others all
    stopped false others all = not_true all

-- where none has failed and not all are well, one goes on
pub one_goes_on : (harts : List HartEnding) → ((i : ℕ) (d : HartEnding) → i < length harts → goes_on (slice_index_or harts i d) ≡ false → ends_well (slice_index_or harts i d) ≡ true) →
    list_all ends_well harts ≡ false → list_any goes_on harts ≡ true
one_goes_on [] sound bad = absurd (not_true (sym bad))
one_goes_on (endings.Runs ∷ hs) sound bad = refl
one_goes_on (endings.Loops ∷ hs) sound bad = refl
one_goes_on (endings.Stopped stop ∷ hs) sound bad =
    one_goes_on hs (λ i d l. sound (suc i) d (omega (arith, l))) (subst (λ b. (b && list_all ends_well hs) ≡ false) (sound 0 (endings.Stopped stop) (omega arith) refl) bad)

cut_is_bad : (o : Ordinary) (e : Ended) → IsCutOff e → IsWellBeside o e → ⊥
cut_is_bad o e on well = none_goes_on e.stops well.exits on

-- an execution that fails doesn't end well
pub fails_badly : (P : Ended → Type 0) (o : Ordinary) (f : Failing) → IsJudged P o (judgements.Fails f) → EndsBadly P o
fails_badly P o failings.Stuck (e, p, on) = (e, p, cut_is_bad o e on)
fails_badly P o (failings.Stopped hart stop) h = h
fails_badly P o failings.Output h = h
fails_badly P o failings.Seen h = h

-- ---- a number

pub looked_so : (comes_to : Departing → Ended → Type 0) (o : Ordinary) (n : ℕ) (t : Trial) → EndsBadly (comes_to Drawn) o → HoldsAnyway comes_to o → IsLookedInto n t → IsTrialOf comes_to o n t
looked_so comes_to o n trials.Well bad holds h = absurd h
looked_so comes_to o n trials.Ordinary bad holds h = absurd h
looked_so comes_to o n trials.Running bad holds h = absurd h
looked_so comes_to o n trials.Unnamed bad holds h = (bad, holds)
looked_so comes_to o n (trials.Fails found) bad holds h = (bad, holds, h)
looked_so comes_to o n trials.Unconfirmed bad holds h = tt

-- without departures it was well, or cut off
pub well_anyway : (comes_to : Departing → Ended → Type 0) (o : Ordinary) (d : Departing) (j : Judgement) → AreNone d → IsJudged (comes_to d) o j → j ≡ judgements.Well → HoldsAnyway comes_to o
well_anyway comes_to o d j none h e = (d, none, inl (subst (λ (k : Judgement). IsJudged (comes_to d) o k) e h))

pub looked_after : {X : Type 0} (comes_to : Departing → Ended → Type 0) (o : Ordinary) (n : ℕ) (f : Failing) (r : Result Trial X) → IsJudged (comes_to Drawn) o (judgements.Fails f) → HoldsAnyway comes_to o →
    IfOk r (IsLookedInto n) → IfOk r (IsTrialOf comes_to o n)
looked_after comes_to o n f (Ok t) bad holds h = looked_so comes_to o n t (fails_badly (comes_to Drawn) o f bad) holds h
looked_after comes_to o n f (Err e) bad holds h = tt

-- ---- one more ordinary run

pub next_run : (comes_to : Departing → ℕ → Ended → Type 0) (n : ℕ) (o p : Ordinary) (d : Departing) (e : Ended) → AreNone d → comes_to d n e → IsOrdinaryRun p e →
    ((f : Ended) → (n ≡ 0 → ⊥) → IsOrdinaryRun o f → IsOrdinaryRun p f) → AreOrdinaryRuns comes_to n o → AreOrdinaryRuns comes_to (n + 1) p
next_run comes_to n o p d e none came is old runs i l = elim (cases_lt i n) [
  | inl m ↦ let r = runs i m in (r.0, r.1, r.2, r.3, old r.1 (λ z. omega (arith, z, m)) r.4)
  | inr m ↦ (d, e, none, subst (λ (k : ℕ). comes_to d k e) (omega (arith, l, m)) came, is)
]

pub run_added : {T X : Type 0} (comes_to : Departing → ℕ → Ended → Type 0) (n : ℕ) (o p : Ordinary) (d : Departing) (e : Ended) (r : Result T X) → AreNone d → comes_to d n e → AreOrdinaryRuns comes_to n o →
    OnOk r (IsOrdinaryRun p e) → OnOk r ((f : Ended) → (n ≡ 0 → ⊥) → IsOrdinaryRun o f → IsOrdinaryRun p f) → OnOk r (AreOrdinaryRuns comes_to (n + 1) p)
run_added comes_to n o p d e (Ok t) none came runs is old = next_run comes_to n o p d e none came is old runs
run_added comes_to n o p d e (Err x) none came runs is old = tt
