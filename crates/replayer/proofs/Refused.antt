-- Refusals in their order.
use Rattle.std.proofs.Common.{◌≡◌, ℕ, Result, Ok, Err, refl, inl, inr}
use Rattle.host_io.specs.declared.error.RunError.{RunError}
use Rattle.host_io.specs.declared.error.RunError.TheVariants.{OutOfMemory}
use Rattle.recording.specs.Recorded.{Recorded}
use Rattle.round_schedule.specs.Bounds.{AreWorkers}
use Rattle.replayer.specs.Refusals.{RefusedInOrder}

-- where nothing was refused at first, memory may run out later
pub out_of_memory : {X Y : Type 0} (n : ℕ) (r : Recorded) (x : X) (result : Result Y RunError) → RefusedInOrder {X = X} n r (Ok x) → AreWorkers n → result ≡ Err OutOfMemory → RefusedInOrder {X = Y} n r result
out_of_memory n r x result h are e = record {
  workers = λ none. let no = h.workers none in absurd cc;
  reasons = λ some. rw e (inl refl);
  image = λ cause some is. inr e;
  plan = λ cause some good is. inr e;
}
