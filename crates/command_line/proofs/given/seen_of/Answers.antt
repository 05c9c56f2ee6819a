use Rattle.std.proofs.Common.{◌∙◌, ap, codes, map, unwrap_or, []}
use Rattle.std.proofs.lemmas.Result.{IfOk-weaker}
use Rattle.clap.specs.Words.{found_of}
use Rattle.clap.proofs.WalkLemmas.{raw_values-rows}
use Rattle.command_line.specs.Reading.{bytes_of, pairs}
use Rattle.command_line.proofs.given.seen_of.Goals as goal

pub returns-in-Some : goal.returns-in-Some
returns-in-Some c =
    let texts = c.in-Some.ensures ∙ raw_values-rows (found_of c.args.matches.now) (codes "see") in
    IfOk-weaker c.bytes_in.result _ _ (λ seen is. is ∙ ap (λ o. map bytes_of (pairs (unwrap_or o []))) texts) c.bytes_in.ensures

pub returns-in-None : goal.returns-in-None
returns-in-None c =
    let texts = c.in-None.ensures ∙ raw_values-rows (found_of c.args.matches.now) (codes "see") in
    c.new.ensures.items ∙ ap (λ o. map bytes_of (pairs (unwrap_or o []))) texts
