use Rattle.machine.proofs.visiting.UntilStoppedVisitor.after_round.Goals as goal

pub after_round-requires : goal.after_round-requires
after_round-requires g c = let r = c.requires in (r.0.visitor.now, r.1, r.2, r.3, r.4, r.5.1, r.6)

pub returns-then-running_harts-eq0-clause-known : goal.returns-then-running_harts-eq0-clause-known
returns-then-running_harts-eq0-clause-known g c = λ first start rounds done few h d. (h.0, c.in_ok-after_round.ensures.known first.visitor.now start rounds done few h.1 d)

pub returns-else-running_harts-eq0-clause-known : goal.returns-else-running_harts-eq0-clause-known
returns-else-running_harts-eq0-clause-known g c = λ first start rounds done few h d. (h.0, c.in_ok-after_round.ensures.known first.visitor.now start rounds done few h.1 d)
