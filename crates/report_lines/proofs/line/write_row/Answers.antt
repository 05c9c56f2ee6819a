use Rattle.std.proofs.Common.{◌≡◌, ◌++◌, ◌∙◌, List, codes, length, ℕ, ap, arith}
use Rattle.std.proofs.lemmas.List.{length-take-le}
use Rattle.report_lines.specs.Text.{hex}
use Rattle.report_lines.proofs.Pairs.{length-hex, length-bytes_text, row_written}
use Rattle.report_lines.proofs.line.write_row.Goals as goal

pub returns : goal.returns
returns c =
    let digits : c.write_hex.new.buffer ≡ hex 8 c.args.address =
    c.write_hex.ensures ∙ ap (λ (n : ℕ). hex n c.args.address) (length-take-le 8 c.args.buffer.now (omega (arith, c.requires.buffer))) in
    row_written c.args.buffer.now c.write_hex.new.buffer c.write_bytes.new.buffer c.requires.buffer
    (ap length digits ∙ length-hex 8 c.args.address)
    (ap length c.write_bytes.ensures ∙ length-bytes_text c.args.row.now ∙ omega (arith, c.requires.row))
    ∙ ap (λ (z : List ℕ). z ++ codes " " ++ c.write_bytes.new.buffer ++ codes "\n") digits
    ∙ ap (λ (z : List ℕ). hex 8 c.args.address ++ codes " " ++ z ++ codes "\n") c.write_bytes.ensures
