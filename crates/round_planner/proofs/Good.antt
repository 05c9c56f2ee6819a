-- A good image is refused for want of memory alone.
use Rattle.std.proofs.Common.{◌≡◌, ◌⊎◌, inl, inr, Ok, Err, Result, IfErr}
use Rattle.elf_loader.specs.Causes.{IsGood, IsLeast}
use Rattle.host_io.specs.declared.load_error.LoadError.{LoadError}
use Rattle.host_io.specs.declared.error.RunError.{RunError}
use Rattle.host_io.specs.declared.error.RunError.TheVariants as refusals

only_memory : (Stands : LoadError → Type 0) (e : RunError) → IsGood Stands → (e ≡ refusals.OutOfMemory) ⊎ ((cause : LoadError) × IsLeast Stands cause × (e ≡ refusals.Image cause)) → e ≡ refusals.OutOfMemory
only_memory Stands e good (inl h) = h
only_memory Stands e good (inr h) = absurd (good h.0 h.1.stands)

pub refused_for_memory : {X : Type 0} (Stands : LoadError → Type 0) (r : Result X RunError) → IfErr r (λ e. (e ≡ refusals.OutOfMemory) ⊎ ((cause : LoadError) × IsLeast Stands cause × (e ≡ refusals.Image cause))) →
    IsGood Stands → IfErr r (λ e. e ≡ refusals.OutOfMemory)
refused_for_memory Stands (Ok x) h good = tt
refused_for_memory Stands (Err e) h good = only_memory Stands e good h
