-- Why a search ends.
use Rattle.std.proofs.Common.{◌≡◌, ◌⊎◌, List, inl, inr, refl, true, ⊎_elim, ℕ}
use Rattle.host_io.specs.declared.error.RunError.TheVariants as refusals
use Rattle.hunt_commands.specs.Asked.{IsHuntRefusal}
use Rattle.hunter.specs.declared.error.HuntError.{HuntError}
use Rattle.hunter.specs.declared.error.HuntError.TheVariants as hunting
use Rattle.hunter.specs.declared.settings.HuntSettings.{HuntSettings}
use Rattle.weak_hunter.specs.WeakHunts.{IsWeakReason}
use Rattle.weak_hunter.specs.declared.error.WeakHuntError.{WeakHuntError}
use Rattle.weak_hunter.specs.declared.error.WeakHuntError.TheVariants as weakly

-- the finder's refusal is one of a hunt, or an execution isn't confirmed
pub refusal_so : (s : HuntSettings) (image : List ℕ) (failed other : Type 0) (e : WeakHuntError) → (failed → other) →
    IsWeakReason s image e ⊎ ((e ≡ weakly.Hunt (hunting.Run refusals.SinkFailed)) × failed) → IsHuntRefusal true s image other e
refusal_so s image failed other (weakly.Hunt e) more h = ⊎_elim (λ r. inl r) (λ q. inr (same e q.0, more q.1)) h
  where
    same : (e : HuntError) → weakly.Hunt e ≡ weakly.Hunt (hunting.Run refusals.SinkFailed) → e ≡ hunting.Run refusals.SinkFailed
    same e q = cc
refusal_so s image failed other (weakly.Unconfirmed n) more h = refl
