-- What the visitors of a run know of it, round after round.
use Rattle.std.specs.Prelude.{◌≡◌, ℕ, ◌+◌, ◌-◌, ◌^◌, ◌<◌, ◌≤◌, ◌++◌, List, length, slice_get, Option, Some, None}
use Rattle.hart_step.specs.declared.hart.Hart.{Hart}
use Rattle.machine.specs.Machine.{Running, after_rounds}
use Rattle.machine.specs.Untraced.{IsUntraced, Untraced}
use Rattle.machine.specs.Walks.{HasDone}
use Rattle.recording.specs.Fields.{HaveEach}
use Rattle.recording.specs.Grammar.{checkpoint_after}
use Rattle.recording.specs.Recorded.{Checkpoint}
use Rattle.replayer.specs.declared.verdict.Verdict.{Verdict}
use Rattle.replayer.specs.declared.verdict.Verdict.TheVariants.{Same, Differs}
use Rattle.replayer.specs.Past.{Begins, IsBefore, IsRoundOf}
use Rattle.replayer.specs.Replayed.{Agrees}
use Rattle.kept_states.specs.Summaries.{checkpoints_of_rounds}

-- ---- who records

-- this is kept of the rounds that are done, of a run from its first round
abbrev pub HasRecorded : List Checkpoint → ℕ → Untraced → ℕ → ℕ → Type 0
HasRecorded ks every start rounds done =
    (start.rounds ≡ 0)
    × ((m : Running) × IsUntraced m start)
    × ((m : Running) → IsUntraced m start → ks ++ checkpoints_of_rounds every (rounds - done) (after_rounds done m) ≡ checkpoints_of_rounds every rounds m)
    × HaveEach done 1 (checkpoint_after start.plan.harts every) ks

-- ---- who compares

-- the first of n rounds after which the run from m has not the state that was kept, or that there is none
abbrev pub IsVerdictUpTo : List Checkpoint → ℕ → Running → ℕ → Verdict → Type 0
IsVerdictUpTo ks every m n Same = (j : ℕ) → 1 ≤ j → j ≤ n → Agrees ks every m j
IsVerdictUpTo ks every m n (Differs k) = (1 ≤ k) × (k ≤ n) × ((j : ℕ) → 1 ≤ j → j < k → Agrees ks every m j) × (Agrees ks every m k → ⊥)

-- for each round that is to be done something is kept of it, and where the one was the verdict on the rounds of the run before these, the other is the
-- verdict on those and the ones that are done
abbrev pub HasCompared : List Checkpoint → ℕ → Verdict → Verdict → Untraced → ℕ → ℕ → Type 0
HasCompared ks every before v start rounds done =
    (start.rounds + rounds ≤ length ks)
    × ((m : Running) → IsUntraced (after_rounds start.rounds m) start → IsVerdictUpTo ks every m start.rounds before → IsVerdictUpTo ks every m (start.rounds + done) v)

-- ---- who seeks the instruction of a place

-- the hart did so many instructions in so many rounds, and none of them is the one of the place
pub record IsSoFar (rounds : ℕ) (m : Running) (hart place done before : ℕ) : Type 0 where
  pub here : (h : Hart) → slice_get (after_rounds done m).state.harts hart ≡ Some h → before ≡ h.done
  pub none_yet : (round count : ℕ) (h : Hart) → round ≤ done → IsBefore rounds m hart place round count h → ⊥

-- the round of the place and the count within it, or how many instructions the hart did so far
abbrev pub IsSought : ℕ → Running → ℕ → ℕ → ℕ → ℕ → Option (ℕ × ℕ) → Type 0
IsSought rounds m hart place done before None = IsSoFar rounds m hart place done before
IsSought rounds m hart place done before (Some x) = IsRoundOf rounds m hart place (Some x)

-- it is the machine of the run before the round that was found, or before the next one
abbrev pub IsBehind : Untraced → Untraced → ℕ → Option (ℕ × ℕ) → Type 0
IsBehind start last done None = HasDone last.rounds start last × (last.rounds ≤ done)
IsBehind start last done (Some x) = HasDone last.rounds start last × (last.rounds < x.0) × (x.0 ≤ done)

-- what is known of a run from its first round
pub record HasSought (hart place before : ℕ) (found : Option (ℕ × ℕ)) (last start : Untraced) (rounds done : ℕ) : Type 0 where
  pub opened : start.rounds ≡ 0
  pub fit : rounds < 2 ^ 32
  pub low : before ≤ place
  pub there : (u : Untraced) × HasDone done start u
  pub behind : IsBehind start last done found
  pub sought : (m : Running) → IsUntraced m start → Begins m hart → IsSought rounds m hart place done before found

-- ---- who counts what a hart does in the last round

-- the hart had done so many instructions after k rounds of a run that began so
abbrev pub IsRead : ℕ → ℕ → Untraced → ℕ → Type 0
IsRead hart count start k = (u : Untraced) × HasDone k start u × ((h : Hart) → slice_get u.harts hart ≡ Some h → count ≡ h.done)

-- so many after the rounds that are done, and so many before the last of them
abbrev pub HasCounted : ℕ → ℕ → ℕ → Untraced → ℕ → Type 0
HasCounted hart before after start done = IsRead hart after start done × (1 ≤ done → IsRead hart before start (done - 1))
