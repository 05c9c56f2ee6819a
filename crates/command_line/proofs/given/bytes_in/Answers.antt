use Rattle.std.proofs.Common.{◌∙◌, ◌++◌, ap, append-nil, map, sym}
use Rattle.command_line.proofs.Pairs.{no_pairs}
use Rattle.command_line.specs.Reading.{bytes_of}
use Rattle.command_line.proofs.given.bytes_in.Goals as goal

pub returns : goal.returns
returns c =
    let read = c.loop-rest.seen.items in
    sym (append-nil read) ∙ (sym (ap (λ ps. read ++ map bytes_of ps) (no_pairs c.loop-rest.rest.now c.in_default.len_below)) ∙ c.loop-rest.invariant)
