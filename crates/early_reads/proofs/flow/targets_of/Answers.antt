use Rattle.std.proofs.Common.{sym, ◌∙◌}
use Rattle.early_reads.proofs.Moves.{goes, turns}
use Rattle.early_reads.proofs.flow.targets_of.Goals as goal

pub returns-in-On : goal.returns-in-On
returns-in-On c = goes c.args.constants.now c.args.pc c.args.i.now _ (sym c.flow_of.ensures ∙ c.in-On.is)

pub returns-in-Jump : goal.returns-in-Jump
returns-in-Jump c = goes c.args.constants.now c.args.pc c.args.i.now _ (sym c.flow_of.ensures ∙ c.in-Jump.is)

pub returns-in-Branch : goal.returns-in-Branch
returns-in-Branch c = goes c.args.constants.now c.args.pc c.args.i.now _ (sym c.flow_of.ensures ∙ c.in-Branch.is)

pub returns-in-Turn : goal.returns-in-Turn
returns-in-Turn c = λ owns image h m opening a v at is acting agrees.
    c.turning.ensures v.next (turns c.args.constants.now c.args.pc c.args.i.now c.in-Turn.base c.in-Turn.distance (sym c.flow_of.ensures ∙ c.in-Turn.is) owns image h m opening a v at is acting agrees)
