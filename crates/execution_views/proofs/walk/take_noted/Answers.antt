use Rattle.std.proofs.Common.{ap, arith, inl, inr, length, refl, sym, ◌∙◌}
use Rattle.execution_checker.proofs.Followed.{at_none}
use Rattle.execution_views.proofs.Noting.{few_steps, noted}
use Rattle.execution_views.proofs.walk.take_noted.Goals as goal

pub returns-in_ok-note-in-None-clause-notes : goal.returns-in_ok-note-in-None-clause-notes
returns-in_ok-note-in-None-clause-notes c = λ image p like leads was.
    noted image p c.args.execution.now.standing c.take_step.new.self.standing c.args.step c.in-Some.hart c.args.asked c.args.notes.now c.note.new.notes leads
    (sym c.hart_of.ensures ∙ c.in-Some.is) (at_none c.in_ok-fault.field-0 _ _ c.in-None.is c.in_ok-fault.ensures.took image like)
    (inl (omega (arith, c.if-events-len.true, c.len.ensures, ap length c.events.ensures, c.args.notes.now.sights.pcs.ok.0), c.in_ok-note-in-None.ensures (few_steps image p c.args.execution.now.standing c.args.asked c.args.notes.now was))) was

pub returns-else-events-len-clause-notes : goal.returns-else-events-len-clause-notes
returns-else-events-len-clause-notes c = λ image p like leads was.
    noted image p c.args.execution.now.standing c.take_step.new.self.standing c.args.step c.in-Some.hart c.args.asked c.args.notes.now _ leads
    (sym c.hart_of.ensures ∙ c.in-Some.is) (at_none c.in_ok-fault.field-0 _ _ c.in-None.is c.in_ok-fault.ensures.took image like)
    (inr (omega (arith, c.if-events-len.false, c.len.ensures, ap length c.events.ensures, c.args.notes.now.sights.pcs.ok.0), refl)) was
