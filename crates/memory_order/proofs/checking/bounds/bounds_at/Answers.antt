use Rattle.std.proofs.Common.{◌+◌, ◌/◌, ◌%◌, ◌∙◌, ap, if◌then◌else◌, slice_index}
use Rattle.pages.specs.Memory.{in_range}
use Rattle.memory_order.specs.Checking.{word_of}
use Rattle.memory_order.proofs.WordReading.{read_across}
use Rattle.memory_order.proofs.checking.bounds.bounds_at.Goals as goal

pub returns : goal.returns
returns c = λ x r.
    read_across c.args.bounds.now c.args.owner c.args.address c.args.width x c.begun_by.result c.requires.few r
    (λ j. c.begun_by.ensures j
    ∙ ap (λ w. if in_range 0 (c.args.address % 8) j then slice_index w j else slice_index c.word_of-numbers.result j) c.word_of-next.ensures
    ∙ ap (λ w. if in_range 0 (c.args.address % 8) j then slice_index (word_of c.args.bounds.now c.args.owner (c.args.address / 8 + 1)) j else slice_index w j) c.word_of-numbers.ensures)
