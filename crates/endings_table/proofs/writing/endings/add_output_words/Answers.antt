use Rattle.std.proofs.Common.{◌≡◌, ◌∙◌, ◌++◌, ℕ, List, OnOk, ap, drop, subst}
use Rattle.endings_table.proofs.OutputLines.{words_behind}
use Rattle.endings_table.proofs.writing.endings.add_output_words.Goals as goal

pub returns : goal.returns
returns c =
    subst (λ (z : List ℕ). OnOk c.bytes.result (c.bytes.new.self ≡ c.args.line.now ++ z))
    (c.behind_word.ensures ∙ ap (λ (z : List ℕ). drop 7 z) (c.as_bytes.ensures ∙ c.in_ok-whole.ensures) ∙ words_behind c.args.output.now) c.bytes.ensures
