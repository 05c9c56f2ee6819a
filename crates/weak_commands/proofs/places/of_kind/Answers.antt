use Rattle.std.proofs.Common.{◌∙◌, None, Some, codes}
use Rattle.std.proofs.lemmas.Str.Pattern.{split_text_parts}
use Rattle.weak_commands.specs.Places.{between}
use Rattle.weak_commands.proofs.places.of_kind.Goals as goal

pub returns-in-Some : goal.returns-in-Some
returns-in-Some c = (
  Some (c.in-Some.before.now, c.in-Some.after.now),
  split_text_parts (codes ",") c.args.kind.now (Some (c.in-Some.before, c.in-Some.after)) c.in-Some.ensures.cases,
  c.between.ensures ∙ (λ k. between c.args.place (c.set_of-first.ensures k) (c.set_of-second.ensures k)),
)

pub returns-in-None : goal.returns-in-None
returns-in-None c = (None, split_text_parts (codes ",") c.args.kind.now None c.in-None.ensures.cases, c.of_no_kind.ensures)
