use Rattle.std.proofs.Common.{◌≡◌, ◌+◌, ◌≤◌, get_or, subst}
use Rattle.hart_states.specs.States.{listed}
use Rattle.round_schedule.specs.declared.span.Span.{Span}
use Rattle.list_suffixes.specs.Staying.{place_kept}
use Rattle.settled_walks.proofs.kept_times.sources_kept.Goals as goal

pub returns-in-Some : goal.returns-in-Some
returns-in-Some c = λ s k e.
    let same : c.in-Some.span ≡ s = cc in
    subst (λ (t : Span). place_kept c.args.stays.now (listed c.args.list.now) (t.address + k) (get_or c.args.sources.now k 0) ≤ get_or c.sources_from.result k 0) same (c.sources_from.ensures k)

pub returns-in-None : goal.returns-in-None
returns-in-None c = λ s k e. absurd (cc)
