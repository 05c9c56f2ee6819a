-- Steps that are tried one after another.
use Rattle.std.proofs.Common.{Bool, true, false, length, sym, subst}
use Rattle.round_planner.specs.Quotas.{Planned}
use Rattle.plan_hunt.specs.Endings.{Ended}
use Rattle.plan_hunt.specs.Numbers.{count_steps}
use Rattle.plan_hunt.specs.Steps.{LeadsTo, NoStepLeads}
use Rattle.plan_hunt.specs.Tried.{IsTried, NoneOf}
use Rattle.plan_hunt.proofs.Numbered.{number_back, number_of, number_small}

-- all steps were tried
pub all_tried : (ends : Planned → Ended) (e : Ended) (p : Planned) → NoneOf ends e p (count_steps (length p.rows) p.harts) → NoStepLeads ends e p
all_tried ends e p h = λ s leads.
    h (number_of (length p.rows) s) (number_small (length p.rows) p.harts s leads.step.within leads.step.hart)
    (subst (LeadsTo ends e p) (sym (number_back (length p.rows) s leads.step.within)) leads)

pub passed : (ends : Planned → Ended) (e : Ended) (p q : Planned) (b : Bool) → IsTried ends e p (NoneOf ends e p (count_steps (length p.rows) p.harts)) b q → IsTried ends e p (NoStepLeads ends e p) b q
passed ends e p q true h = h
passed ends e p q false h = (h.0, all_tried ends e p h.1)
