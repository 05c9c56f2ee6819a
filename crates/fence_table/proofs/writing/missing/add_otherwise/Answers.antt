use Rattle.std.proofs.Common.{codes}
use Rattle.hunt_table.specs.Text.{output_line, seen_lines}
use Rattle.fence_table.specs.Text.{otherwise_text}
use Rattle.fence_table.proofs.Chains.{three}
use Rattle.fence_table.proofs.writing.missing.add_otherwise.Goals as goal

pub returns : goal.returns
unfolding otherwise_text
returns c =
    three c.args.line.now (codes "ends otherwise\n") (seen_lines c.args.ranges.now c.args.seen.now) (output_line c.args.output.now) _ _ _ _
    c.in_ok-text.ensures c.in_ok-add_ranges.ensures c.add_output.ensures
