-- What is kept of a run for its picture, round after round.
use Rattle.std.specs.Prelude.{◌≡◌, ◌⊎◌, ℕ, ◌<◌, ◌≤◌, Option, Some, None}
use Rattle.std.specs.Global.{Vec}
use Rattle.hart_step.specs.declared.hart.Hart.{Hart}
use Rattle.machine.specs.Machine.{Running, after_rounds}
use Rattle.machine.specs.Untraced.{IsUntraced, Untraced}
use Rattle.machine.specs.Walks.{HasStopped}
use Rattle.drawing.specs.declared.drawn_rounds.DrawnRounds.{DrawnRounds}

-- the harts after the last round that is drawn of the run of m, or none as long as that round isn't done
abbrev pub AreEnds : Running → ℕ → ℕ → Option (Vec Hart) → Type 0
AreEnds m last done None = done < last
AreEnds m last done (Some v) = v.items ≡ (after_rounds last m).state.harts

-- so many rounds of the run of m are done: the machine before the first round that is drawn, or before an earlier one as long as it isn't time,
-- and those harts
pub record HasDrawn (m : Running) (before last : ℕ) (start : Untraced) (ends : Option (Vec Hart)) (done : ℕ) : Type 0 where
  pub low : start.rounds ≤ before
  pub is_start : IsUntraced (after_rounds start.rounds m) start
  pub there : (start.rounds ≡ before) ⊎ (done < before)
  pub are_ends : AreEnds m last done ends

-- they are those of the run, whichever it is that began with the machine that was kept first
pub record HoldsDrawn (first d : DrawnRounds) (u : Untraced) (done : ℕ) : Type 0 where
  pub before : d.before ≡ first.before
  pub last : d.last ≡ first.last
  pub opened : u.rounds ≡ 0
  pub drawn : (m : Running) → IsUntraced m first.start → IsUntraced m u → HasDrawn m first.before first.last d.start d.ends done

-- all rounds of the run of m are done, and what is drawn was kept of so many of them, of all or of those after which no hart runs
pub record HasDrawnAll (rounds before last : ℕ) (m x : Running) (d : DrawnRounds) : Type 0 where
  pub same : d.before ≡ before
  pub done : x ≡ after_rounds rounds m
  pub shown : ℕ
  pub most : shown ≤ rounds
  pub drawn : HasDrawn m before last d.start d.ends shown
  pub all : (shown ≡ rounds) ⊎ ((u : Untraced) × IsUntraced (after_rounds shown m) u × HasStopped u)
