use Rattle.std.proofs.Common.{◌∙◌, ap, map, unwrap_or, []}
use Rattle.std.proofs.lemmas.Result.{IfOk-weaker}
use Rattle.clap.specs.Words.{found_of}
use Rattle.clap.proofs.WalkLemmas.{raw_values-rows}
use Rattle.command_line.proofs.given.texts_of.Goals as goal

pub returns-in-Some : goal.returns-in-Some
returns-in-Some c =
    let texts = c.in-Some.ensures ∙ raw_values-rows (found_of c.args.matches.now) c.args.id.now in
    IfOk-weaker c.from_slice.result _ _ (λ v is. ap (map (λ s. s.now)) is ∙ ap (λ o. unwrap_or o []) texts) c.from_slice.ensures.items

pub returns-in-None : goal.returns-in-None
returns-in-None c =
    let texts = c.in-None.ensures ∙ raw_values-rows (found_of c.args.matches.now) c.args.id.now in
    ap (map (λ s. s.now)) c.new.ensures.items ∙ ap (λ o. unwrap_or o []) texts
