use Rattle.std.proofs.Common.{◌∙◌, ap, sym}
use Rattle.std.specs.List.{list_any}
use Rattle.command_line.proofs.Pairs.{no_pairs}
use Rattle.command_line.specs.Faults.{is_bad_pair}
use Rattle.command_line.proofs.words.has_bad_pair.Goals as goal

pub returns : goal.returns
returns c = sym (c.loop-rest.invariant ∙ ap (list_any is_bad_pair) (no_pairs c.loop-rest.rest.now c.in_default.len_below))
