-- The events of an execution have the forms of their kinds.
use Rattle.std.proofs.Common.{◌≡◌, ℕ, ◌+◌, ◌^◌, ◌<◌, ◌≤◌, List, [], ◌∷◌, ◌++◌, length, All, Option, Some, None, ap, subst, sym, arith, unwrap_or}
use Rattle.std.proofs.lemmas.List.Elements.{All-push}
use Rattle.pages.specs.Memory.{Memory}
use Rattle.round_schedule.specs.declared.access.Access.{Access}
use Rattle.round_schedule.specs.declared.access.Stepped.TheVariants.{Done}
use Rattle.round_schedule.specs.declared.event.Event.{Event}
use Rattle.round_schedule.specs.declared.span.Span.{Span}
use Rattle.hart_step.specs.declared.hart.Hart.{Hart}
use Rattle.hart_step.specs.Console.{ConsoleState}
use Rattle.hart_step.specs.Forms.{Formed}
use Rattle.hart_step.proofs.Formation.{has_forms}
use Rattle.trace.specs.Traced.{HasForm}
use Rattle.trace.proofs.RunForms.{formed_below}
use Rattle.execution.specs.Executions.{Executes, IsEventOf, IsStep, Standing, no_access, begins, goes, stops}

-- an instruction's event has the form of its access
step_formed : (image : Memory) (i n : ℕ) (own : Option Span) (c d : ConsoleState) (h g : Hart) (a : Option Access) → length image.bytes ≤ 2 ^ 32 → IsStep image n own c d h g (Done a) →
    Formed (2 ^ 32) (unwrap_or a no_access)
step_formed image i n own c d h g None small s = tt
step_formed image i n own c d h g (Some a) small s =
    formed_below (length s.seen.bytes) (2 ^ 32) (let e = s.like.size in omega (arith, e, small)) a
    ((has_forms s.seen.code).serial_forms n h s.seen.bytes c s.held a s.bytes s.answers)

event_formed : (i : ℕ) (a : Option Access) (e : Event) → IsEventOf i a e → Formed (2 ^ 32) (unwrap_or a no_access) → HasForm e
event_formed i a e is f = subst (Formed (2 ^ 32)) (sym is.access) f

pub executes_formed : (image : Memory) (p q : Standing) → length image.bytes ≤ 2 ^ 32 → Executes image p q → All HasForm p.events → All HasForm q.events
executes_formed image p q small (begins _) f = f
executes_formed image p q small (goes i _ s _ x g) f =
    subst (All HasForm) (sym g.events)
    (All-push HasForm s.events g.event (executes_formed image p s small x f)
    (event_formed i g.access g.event g.event_of (step_formed image i q.round _ s.console q.console g.before g.after g.access small g.step)))
executes_formed image p q small (stops i _ s _ x g) f = subst (All HasForm) (sym g.events) (executes_formed image p s small x f)
