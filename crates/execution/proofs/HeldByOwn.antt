-- A reservation, as a trace has it, is that of the hart's own LRs and SCs or none.
use Rattle.std.proofs.Common.{◌≡◌, ℕ, ◌==◌, ◌⊎◌, Bool, true, false, if◌then◌else◌, List, [], ◌∷◌, Option, Some, None, refl, ap, inl, inr}
use Rattle.round_schedule.specs.declared.access.Access.{Access}
use Rattle.round_schedule.specs.declared.event.Event.{Event}
use Rattle.round_schedule.specs.declared.span.Span.{Span}
use Rattle.round_schedule.specs.declared.access.Access.TheVariants.{Load, Store, LoadReserved, StoreConditional, Atomic, Fence}
use Rattle.round_schedule.specs.Accesses.{writes}
use Rattle.round_schedule.specs.Held.{held, held_after, held_from, held_after_own, unless}
use Rattle.execution.specs.Executions.{MayHold, own_held, own_held_from}

none_or_same : (b : Bool) (s own : Option Span) → MayHold own s → MayHold own (if b then None else s)
none_or_same true s own m = inl refl
none_or_same false s own m = m

unless_may : (f : ℕ → Bool) (s own : Option Span) → MayHold own s → MayHold own (unless f s)
unless_may f None own m = inl refl
unless_may f (Some s) own m = none_or_same _ (Some s) own m

kept_may : (a : Access) (s own : Option Span) → MayHold own s → MayHold (held_after_own a own) (held_after_own a s)
kept_may (LoadReserved w o p x r) s own m = inr refl
kept_may (StoreConditional w o p x v) s own m = inl refl
kept_may (Load w p x r) s own m = m
kept_may (Store w p x v) s own m = m
kept_may (Atomic w o p x r v) s own m = m
kept_may (Fence b c d p) s own m = m

after_may : (b : Bool) (e : Event) (s own : Option Span) → MayHold own s →
    MayHold (if b then held_after_own e.access own else own) (if b then held_after_own e.access s else unless (writes e.access) s)
after_may true e s own m = kept_may e.access s own m
after_may false e s own m = unless_may (writes e.access) s own m

from_may : (h : ℕ) (t : List Event) (s own : Option Span) → MayHold own s → MayHold (own_held_from h own t) (held_from h s t)
from_may h [] s own m = m
from_may h (e ∷ t) s own m = from_may h t _ _ (after_may (e.hart == h) e s own m)

pub may_hold_held : (h : ℕ) (t : List Event) → MayHold (own_held h t) (held h t)
unfolding held
may_hold_held h t = from_may h t None None (inl refl)
