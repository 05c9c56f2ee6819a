-- Harts that have stopped, one after another.
use Rattle.std.proofs.Common.{◌≡◌, ℕ, zero, suc, ◌<◌, Bool, true, false, if◌then◌else◌, is_some, List, [], ◌∷◌, get_or, All, None, arith, refl}
use Rattle.std.proofs.lemmas.List.Elements.{All-append}
use Rattle.hart_step.specs.declared.hart.Hart.{Hart}
use Rattle.execution_moments.specs.declared.course.HartMoment.{HartMoment}
use Rattle.execution_moments.specs.Courses.{stopped_from, stopped_one}

-- none of them has an index
one_without : (h : ℕ) (g : Hart) (b : Bool) → is_some g.stop ≡ b → All (λ (m : HartMoment). m.index ≡ None) (if b then record { number = h; index = None; hart = g } ∷ [] else [])
one_without h g true e = λ k d l. only k d l
  where
    only : (k : ℕ) (d : HartMoment) → k < 1 → (get_or (record { number = h; index = None; hart = g } ∷ []) k d).index ≡ None
    only zero d l = refl
    only (suc k) d l = absurd (omega arith)
one_without h g false e = λ k d l. absurd (omega arith)

pub none_has_place : (h : ℕ) (gs : List Hart) → All (λ (m : HartMoment). m.index ≡ None) (stopped_from h gs)
none_has_place h [] = λ k d l. absurd (omega arith)
none_has_place h (g ∷ gs) =
    All-append (λ (m : HartMoment). m.index ≡ None) (stopped_one h g) (stopped_from (suc h) gs) (one_without h g (is_some g.stop) refl) (none_has_place (suc h) gs)
