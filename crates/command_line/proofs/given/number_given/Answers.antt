use Rattle.std.proofs.Common.{◌≡◌, ◌∙◌, ap, refl, Option, Some, None}
use Rattle.std.specs.Str.Parse.{ParsesUnsigned, ExplainsUnsignedError, HasUnsignedDigitsIfOk}
use Rattle.clap.specs.Words.{Text, found_of, one_text}
use Rattle.clap.proofs.WalkLemmas.{one_text-rows}
use Rattle.command_line.specs.Reading.{number_given}
use Rattle.command_line.proofs.Numerals.{number_read}
use Rattle.command_line.proofs.given.number_given.Goals as goal

pub returns : goal.returns
returns c = go (one_text (found_of c.args.matches.now) c.args.id.now) refl ∙ ap (number_given 32) (one_text-rows (found_of c.args.matches.now) c.args.id.now)
  where
    go : (o : Option Text) → one_text (found_of c.args.matches.now) c.args.id.now ≡ o → c.get_one.result ≡ number_given 32 o
    go None e = c.get_one.ensures.none e
    go (Some text) e = number_read 32 (λ bs x. ParsesUnsigned 32 10 bs x × ExplainsUnsignedError 10 bs x × HasUnsignedDigitsIfOk bs x) (λ bs x g. g.0) text c.get_one.result (c.get_one.ensures.value text e)
