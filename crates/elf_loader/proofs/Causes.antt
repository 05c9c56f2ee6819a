-- The least cause is one.
use Rattle.std.proofs.Common.{◌≡◌, ◌≢◌, ℕ, ◌<◌, ◌==◌, if◌then◌else◌, Result, Err, refl, sym, ◌∙◌, ap, inl, inr, ◌⊎◌, arith}
use Rattle.std.proofs.lemmas.Bool.{cases_lt}
use Rattle.elf_loader.specs.Causes.{IsLeast}
use Rattle.host_io.specs.RunErrors.{image_number}
use Rattle.host_io.specs.declared.load_error.LoadError.{LoadError}
use Rattle.host_io.specs.declared.load_error.LoadError.TheVariants as causes

cause_of : ℕ → LoadError
cause_of n =
    if n == 1 then causes.TooShort else (if n == 2 then causes.Magic else (if n == 3 then causes.Class else (if n == 4 then causes.Type
    else (if n == 5 then causes.Machine else (if n == 6 then causes.HeaderTable else (if n == 7 then causes.SegmentPastFile else (if n == 8 then causes.PastMemory
    else (if n == 9 then causes.SharedAddress else (if n == 10 then causes.WritableCode else (if n == 11 then causes.Entry else (if n == 12 then causes.FlatLength
    else causes.OutOfMemory)))))))))))

cause_back : (a : LoadError) → cause_of (image_number a) ≡ a
unfolding cause_of
cause_back causes.TooShort = refl
cause_back causes.Magic = refl
cause_back causes.Class = refl
cause_back causes.Type = refl
cause_back causes.Machine = refl
cause_back causes.HeaderTable = refl
cause_back causes.SegmentPastFile = refl
cause_back causes.PastMemory = refl
cause_back causes.SharedAddress = refl
cause_back causes.WritableCode = refl
cause_back causes.Entry = refl
cause_back causes.FlatLength = refl
cause_back causes.OutOfMemory = refl

pub same_number : (a b : LoadError) → image_number a ≡ image_number b → a ≡ b
same_number a b e = sym (cause_back a) ∙ ap cause_of e ∙ cause_back b

pub least_is_one : {Stands : LoadError → Type 0} (a b : LoadError) → IsLeast Stands a → IsLeast Stands b → a ≡ b
least_is_one a b g h =
    let below : image_number a < image_number b → ⊥ = λ l. h.least a l g.stands in
    let above : image_number b < image_number a → ⊥ = λ l. g.least b l h.stands in
    let same : image_number a ≡ image_number b = elim (cases_lt (image_number a) (image_number b)) [
      | inl l ↦ absurd (below l)
      | inr l ↦ elim (cases_lt (image_number b) (image_number a)) [ inl m ↦ absurd (above m) | inr m ↦ omega (arith, l, m) ]
    ] in
    same_number a b same

is_memory : (e : LoadError) → (e ≡ causes.OutOfMemory) ⊎ (e ≢ causes.OutOfMemory)
is_memory causes.TooShort = inr (λ e. cc)
is_memory causes.Magic = inr (λ e. cc)
is_memory causes.Class = inr (λ e. cc)
is_memory causes.Type = inr (λ e. cc)
is_memory causes.Machine = inr (λ e. cc)
is_memory causes.HeaderTable = inr (λ e. cc)
is_memory causes.SegmentPastFile = inr (λ e. cc)
is_memory causes.PastMemory = inr (λ e. cc)
is_memory causes.SharedAddress = inr (λ e. cc)
is_memory causes.WritableCode = inr (λ e. cc)
is_memory causes.Entry = inr (λ e. cc)
is_memory causes.FlatLength = inr (λ e. cc)
is_memory causes.OutOfMemory = inl refl

-- what is answered where causes stand
pub exact : {X : Type 0} {Stands : LoadError → Type 0} (e cause : LoadError) → (e ≢ causes.OutOfMemory → IsLeast Stands e) → IsLeast Stands cause →
    (◌≡◌ {A = Result X LoadError} (Err e) (Err cause)) ⊎ (◌≡◌ {A = Result X LoadError} (Err e) (Err causes.OutOfMemory))
exact e cause r h = elim (is_memory e) [
  | inl m ↦ inr (ap (λ (d : LoadError). Err d) m)
  | inr n ↦ inl (ap (λ (d : LoadError). Err d) (least_is_one e cause (r n) h))
]
