use Rattle.std.proofs.Common.{◌++◌, ◌∙◌, ℕ, ap₂, codes}
use Rattle.fence_table.specs.Text.{shown_line, two_counts}
use Rattle.fence_table.proofs.Chains.{three}
use Rattle.fence_table.proofs.writing.missing.add_shown.Goals as goal

pub returns : goal.returns
unfolding shown_line
returns c =
    let s = c.args.shown.now in
    let first = c.in_ok-add_two_counts.ensures ∙ ap₂ (λ (n d : ℕ). c.args.line.now ++ two_counts (codes "execution ") n (codes " departures ") d) c.from-number.ensures c.from-departures.ensures in
    three c.args.line.now (two_counts (codes "execution ") s.number (codes " departures ") s.departures)
    (two_counts (codes " steps ") s.steps (codes " operations ") s.operations) (codes "\n") _ _ _ _
    first c.in_ok-add_two_counts-2.ensures c.text.ensures
