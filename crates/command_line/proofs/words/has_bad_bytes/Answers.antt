use Rattle.std.proofs.Common.{◌∙◌, ap, codes, unwrap_or, []}
use Rattle.std.specs.List.{list_any}
use Rattle.clap.specs.Words.{found_of}
use Rattle.clap.proofs.WalkLemmas.{raw_values-rows}
use Rattle.command_line.specs.Faults.{is_bad_pair}
use Rattle.command_line.specs.Reading.{pairs}
use Rattle.command_line.proofs.words.has_bad_bytes.Goals as goal

pub returns-in-Some : goal.returns-in-Some
returns-in-Some c =
    let texts = c.in-Some.ensures ∙ raw_values-rows (found_of c.args.matches.now) (codes "see") in
    c.has_bad_pair.ensures ∙ ap (λ o. list_any is_bad_pair (pairs (unwrap_or o []))) texts

pub returns-in-None : goal.returns-in-None
returns-in-None c =
    let texts = c.in-None.ensures ∙ raw_values-rows (found_of c.args.matches.now) (codes "see") in
    ap (λ o. list_any is_bad_pair (pairs (unwrap_or o []))) texts
