-- Reservations behind some events, and behind one more.
use Rattle.std.proofs.Common.{◌≡◌, ℕ, ◌+◌, ◌<◌, List, [], ◌∷◌, length, take, get_or, fold, Option, refl, sym, ap, ◌∙◌}
use Rattle.std.proofs.lemmas.List.Sums.{fold_more}
use Rattle.round_schedule.specs.declared.event.Event.{Event}
use Rattle.round_schedule.specs.declared.span.Span.{Span}
use Rattle.round_schedule.specs.Held.{held_after, held_from}

as_fold : (h : ℕ) (s : Option Span) (es : List Event) → held_from h s es ≡ fold (λ (r : Option Span) (e : Event). held_after h e r) s es
as_fold h s [] = refl
as_fold h s (e ∷ es) = as_fold h (held_after h e s) es

pub held_more : (h : ℕ) (s : Option Span) (es : List Event) (i : ℕ) (d : Event) → i < length es →
    held_from h s (take (i + 1) es) ≡ held_after h (get_or es i d) (held_from h s (take i es))
held_more h s es i d low =
    as_fold h s (take (i + 1) es)
    ∙ fold_more (λ (r : Option Span) (e : Event). held_after h e r) s es i d low
    ∙ ap (held_after h (get_or es i d)) (sym (as_fold h s (take i es)))
