use Rattle.std.proofs.Common.{◌≡◌, ◌++◌, List, OnOk, ap, arith, length, subst, ℕ}
use Rattle.std.proofs.lemmas.List.{length-take-le}
use Rattle.report_lines.specs.Text.{event_text}
use Rattle.report_lines.proofs.Tails.{text_of}
use Rattle.report_lines.proofs.events.event_line.Goals as goal

pub first_bytes-requires : goal.first_bytes-requires
first_bytes-requires c =
    let all = c.columns.new.tail in
    omega (arith, c.len.ensures, c.columns.ensures.length, ap length c.block.ensures, length-take-le 128 all (omega (arith, c.len.ensures)))

pub returns : goal.returns
returns c =
    subst (λ (t : List ℕ). OnOk c.first_bytes.result (c.first_bytes.new.self ≡ c.args.line.now ++ t))
    (
    text_of c.len.result 128 (event_text c.args.event.now) c.clear.new.self c.columns.new.tail c.block.result.now c.columns.ensures.text c.clear.ensures c.len.ensures
    (omega (arith, c.len.ensures, c.columns.ensures.length)) c.block.ensures
    ) c.first_bytes.ensures
