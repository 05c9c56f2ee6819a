use Rattle.std.proofs.Common.{None, Some, codes}
use Rattle.std.proofs.lemmas.Str.Pattern.{split_text_parts}
use Rattle.weak_commands.proofs.places.named.Goals as goal

pub returns-in-Some : goal.returns-in-Some
returns-in-Some c =
    (Some (c.in-Some.function.now, c.in-Some.digits.now), split_text_parts (codes "+0x") c.args.word.now (Some (c.in-Some.function, c.in-Some.digits)) c.in-Some.ensures.cases, c.place_in.ensures)

pub returns-in-None : goal.returns-in-None
returns-in-None c = (None, split_text_parts (codes "+0x") c.args.word.now None c.in-None.ensures.cases, c.address_of.ensures)
