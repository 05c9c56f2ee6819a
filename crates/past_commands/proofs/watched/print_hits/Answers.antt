use Rattle.std.proofs.Common.{◌≡◌, ◌∙◌, ◌++◌, Err, List, ap, codes, inr, length, rules, subst, ℕ}
use Rattle.host_io.specs.Taken.{BeganText}
use Rattle.host_io.specs.declared.error.RunError.TheVariants.{SinkFailed}
use Rattle.past_commands.specs.Answers.{number_line}
use Rattle.past_commands.specs.Watched.{hits_lines}
use Rattle.past_commands.proofs.Printing.{began_first, failed_so, prints_second}
use Rattle.past_commands.proofs.watched.print_hits.Goals as goal

pub returns-in_err-put_all : goal.returns-in_err-put_all
returns-in_err-put_all g c =
    let front : List ℕ = number_line (codes "hits ") (length c.args.hits.now) in
    let old = g.S.Sink.took c.args.out.now in
    let new = g.S.Sink.took c.put_all.new.out in
    let r : c.from_residual-in_err-put_all.result ≡ Err c.in_err-put_all.field-0.0 = search rules in
    let sink : c.in_err-put_all.field-0.0 ≡ SinkFailed = cc c.in_err-put_all.ensures.only_sink in
    failed_so _ _ _ _ _ _ _ r
    (began_first old new front (hits_lines c.args.hits.now c.args.pcs.now)
    (subst (λ (t : List ℕ). BeganText old new t) (c.as_bytes.ensures ∙ c.in_ok-line.ensures) c.in_err-put_all.ensures.begun)) (inr (sink, c.in_err-put_all.ensures.failed))

pub returns : goal.returns
returns g c =
    let front : List ℕ = number_line (codes "hits ") (length c.args.hits.now) in
    let old = g.S.Sink.took c.args.out.now in
    prints_second front (hits_lines c.args.hits.now c.args.pcs.now) old _ _ _ _ _ _
    (c.in_ok-put_all.ensures.ok ∙ ap (λ (t : List ℕ). old ++ t) (c.as_bytes.ensures ∙ c.in_ok-line.ensures)) c.in_ok-put_all.ensures.counts c.print_lines.ensures
