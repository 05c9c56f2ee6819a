use Rattle.std.proofs.Common.{None, Some, codes}
use Rattle.std.proofs.lemmas.Str.Pattern.{split_text_parts}
use Rattle.weak_commands.proofs.places.fence_of.Goals as goal

pub returns-in-Some : goal.returns-in-Some
returns-in-Some c =
    (Some (c.in-Some.place.now, c.in-Some.kind.now), split_text_parts (codes "=") c.args.word.now (Some (c.in-Some.place, c.in-Some.kind)) c.in-Some.ensures.cases, c.fence_at.ensures)

pub returns-in-None : goal.returns-in-None
returns-in-None c =
    (None, split_text_parts (codes "=") c.args.word.now None c.in-None.ensures.cases, (c.instruction_of.result, c.instruction_of.ensures, c.full.ensures))
