-- What the events of an execution keep.
use Rattle.std.proofs.Common.{◌≡◌, ℕ, ◌+◌, ◌^◌, ◌<◌, ◌≤◌, List, [], ◌∷◌, ◌++◌, length, All, Option, Some, None, refl, sym, ap, ◌∙◌, subst, arith}
use Rattle.std.proofs.lemmas.List.{length-append}
use Rattle.std.proofs.lemmas.List.Elements.{All-append, All-cons}
use Rattle.pages.specs.declared.access.Width.{Width}
use Rattle.pages.specs.Memory.{Memory}
use Rattle.round_schedule.specs.declared.access.Access.{Access}
use Rattle.round_schedule.specs.declared.access.Access.TheVariants.{Load, Store, LoadReserved, StoreConditional, Atomic, Fence}
use Rattle.round_schedule.specs.declared.access.Stepped.TheVariants.{Done}
use Rattle.round_schedule.specs.declared.event.Event.{Event}
use Rattle.hart_step.specs.declared.hart.Hart.{Hart}
use Rattle.hart_step.specs.Console.{ConsoleState}
use Rattle.round_schedule.specs.declared.span.Span.{Span}
use Rattle.hart_step.specs.Forms.{Formed, LiesAt}
use Rattle.execution.specs.Executions.{Executes, Goes, IsStep, Standing, begins, goes, stops}

pub executes_even : (image : Memory) (p q : Standing) → Executes image p q → length p.instructions ≡ length p.events → length q.instructions ≡ length q.events
executes_even image p q (begins _) e = e
executes_even image p q (goes i _ s _ x g) e =
    let k = executes_even image p s x e in
    ap length g.instructions ∙ length-append s.instructions (g.instruction ∷ []) ∙ ap (λ n. n + 1) k
    ∙ sym (ap length g.events ∙ length-append s.events (g.event ∷ []))
executes_even image p q (stops i _ s _ x g) e =
    let k = executes_even image p s x e in
    ap length g.instructions ∙ k ∙ sym (ap length g.events)
