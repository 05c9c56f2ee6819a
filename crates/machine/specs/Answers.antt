-- What a run of so many rounds answers.
use Rattle.std.specs.Prelude.{◌≡◌, ◌<◌, ◌≤◌, ◌⊎◌, ◌+◌, ◌-◌, ◌^◌, ℕ, Result, Err, IfErr, OnOk}
use Rattle.host_io.specs.declared.error.RunError.{RunError}
use Rattle.host_io.specs.declared.error.RunError.TheVariants as refusals
use Rattle.round_schedule.specs.Bounds.{AreNoWorkers}
use Rattle.round_schedule.specs.declared.bounds.TheConstants.{MOST_WORKERS}

-- By a crew of so many workers, where so many rounds were done before: `Is k` says what stands once k more are done, and `IsSame` that nothing was
-- changed. With Ok all rounds are done. For want of memory fewer are done, each of them whole. Where the count of rounds would pass
-- 2 ^ 32 - 1, those that fit are done. With a number of workers out of range nothing is changed.
pub record AnswersRun {X : Type 0} (rounds crew before after : ℕ) (Is : ℕ → Type 0) (IsSame : Type 0) (r : Result X RunError) : Type 0 where
  pub ok : OnOk r (Is rounds)
  pub counted : OnOk r (after ≡ before + rounds)
  pub enough : OnOk r (before + rounds < 2 ^ 32)
  pub fewer : r ≡ Err refusals.OutOfMemory → (k : ℕ) × (k < rounds) × Is k
  pub exhausted : r ≡ Err refusals.RoundsExhausted → (2 ^ 32 ≤ before + rounds) × Is (2 ^ 32 - 1 - before)
  pub workers : AreNoWorkers crew → (r ≡ Err refusals.WorkersOutOfRange) × IsSame
  pub errors : 1 ≤ crew → crew ≤ MOST_WORKERS → IfErr r (λ e. (e ≡ refusals.OutOfMemory) ⊎ (e ≡ refusals.RoundsExhausted))
  pub refused : 1 ≤ crew → crew ≤ MOST_WORKERS → before + rounds < 2 ^ 32 → IfErr r (λ e. e ≡ refusals.OutOfMemory)
