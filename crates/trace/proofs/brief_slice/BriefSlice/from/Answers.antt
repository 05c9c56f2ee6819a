use Rattle.std.proofs.Common.{◌∙◌, length, map, sym}
use Rattle.std.proofs.lemmas.List.{length-map}
use Rattle.trace.specs.Briefs.{in_turn, widened}
use Rattle.trace.proofs.Dropping.{rest_after, rest_within}
use Rattle.trace.proofs.brief_slice.BriefSlice.from.Goals as goal

pub returns-then-index-self : goal.returns-then-index-self
returns-then-index-self c = rest_within (widened c.self.inside.base) c.self.inside.briefs.now (in_turn c.self.inside.groups.now) c.args.self c.args.index c.if-index-self.true (sym c.self.view_is)

pub returns-else-index-self : goal.returns-else-index-self
returns-else-index-self c =
    let briefs = c.self.inside.briefs.now in
    c.rest_of.ensures
    ∙ rest_after (map (widened c.self.inside.base) briefs) (in_turn c.self.inside.groups.now) c.args.self c.args.index (length briefs) (sym (length-map briefs (widened c.self.inside.base))) c.if-index-self.false (sym c.self.view_is)
