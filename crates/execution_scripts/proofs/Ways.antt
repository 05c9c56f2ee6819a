-- A way, step by step.
use Rattle.std.proofs.Common.{◌≡◌, List, [], ◌∷◌, ◌++◌, Option, subst, sym}
use Rattle.pages.specs.Memory.{Memory}
use Rattle.execution.specs.Executions.{IsLike, Standing, Takes}
use Rattle.execution.specs.declared.step.ScriptedStep.{ScriptedStep}
use Rattle.execution.proofs.Answering.{like_itself}
use Rattle.execution_views.specs.declared.sights.HartStep.{HartStep}
use Rattle.execution_views.specs.declared.walk.Notes.{Notes}
use Rattle.execution_views.specs.Walks.{AreNotes}
use Rattle.execution_checker.specs.Allowed.{Follows, follows-more, follows-none}

pub opened_follows : (image : Memory) (start q : Standing) (ss : List ScriptedStep) → q ≡ start → ss ≡ [] → Follows image ss start q
opened_follows image start q ss same none =
    subst (λ (ts : List ScriptedStep). Follows image ts start q) (sym none) (subst (λ (x : Standing). Follows image [] start x) (sym same) (follows-none start))

pub opened_like : (image m : Memory) → m ≡ image → IsLike image m
opened_like image m same = subst (IsLike image) (sym same) (like_itself image)

pub pushed_follows : (image : Memory) (start q r : Standing) (ss ts : List ScriptedStep) (s : ScriptedStep) → Follows image ss start q → Takes image s q r → ts ≡ ss ++ s ∷ [] → Follows image ts start r
pushed_follows image start q r ss ts s f t more = subst (λ (us : List ScriptedStep). Follows image us start r) (sym more) (follows-more ss s start q r f t)

-- nothing is noted at the start
pub noted_none : (image : Memory) (start q : Standing) (asked : Option HartStep) (n : Notes) → q ≡ start →
    ((m : Memory) (p : Standing) (a : Option HartStep) → p.events ≡ [] → AreNotes m p p a n) → start.events ≡ [] → AreNotes image start q asked n
noted_none image start q asked n same fresh none = subst (λ (p : Standing). AreNotes image start p asked n) (sym same) (fresh image start asked none)
