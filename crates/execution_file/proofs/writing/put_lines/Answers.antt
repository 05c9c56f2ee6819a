use Rattle.std.proofs.Common.{◌+◌, ◌++◌, ◌∙◌, ℕ, List, ap, get_or, length, refl, add-one}
use Rattle.std.proofs.lemmas.List.{map-id}
use Rattle.execution_file.specs.Grammar.{is_line_end}
use Rattle.execution_file.specs.Formats.{broken, byte, spelled_each}
use Rattle.execution_file.proofs.Written.{one_more, all_written}
use Rattle.execution_file.proofs.writing.put_lines.Goals as goal

pub loop-index-preserved : goal.loop-index-preserved
loop-index-preserved c =
    one_more (λ i. broken (is_line_end (length c.args.bytes.now) i) byte) (λ (n : ℕ). n) c.args.bytes.now c.loop-index.index c.loop-index.index (c.loop-index.index + 1) (get_or c.args.bytes.now c.loop-index.index 0) 0 c.loop-index.text.items c.put_byte_of_line.new.text.items _
    c.loop-index-test.true refl (add-one c.loop-index.index)
    c.in_ok-put_byte_of_line.ensures
    c.loop-index.invariant

pub returns : goal.returns
returns c =
    all_written (λ i. broken (is_line_end (length c.args.bytes.now) i) byte) (λ (n : ℕ). n) c.args.bytes.now c.loop-index.index c.loop-index.index c.loop-index.text.items _ c.loop-index-test.false c.loop-index.invariant
    ∙ ap (λ (ns : List ℕ). c.args.text.now.items ++ spelled_each 0 (λ i. broken (is_line_end (length c.args.bytes.now) i) byte) ns) (map-id c.args.bytes.now)
