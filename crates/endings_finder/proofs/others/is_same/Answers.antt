use Rattle.std.proofs.Common.{map, sym, ap, ◌∙◌}
use Rattle.ending_judge.specs.JudgedEndings.{stop_of}
use Rattle.hart_ends.specs.Told.{bytes_told}
use Rattle.endings_finder.specs.Checked.{output_told, stop_told}
use Rattle.endings_finder.proofs.Same.{same_ending}
use Rattle.endings_finder.proofs.others.is_same.Goals as goal

pub returns : goal.returns
returns c = λ yes.
    let e = c.args.ending.now in
    let o = c.args.other.now in
    same_ending (map stop_of e.ends.items) (bytes_told e.outputs.items) (bytes_told e.seen.items) (bytes_told o.seen.items) o.harts.items
    (ap (map stop_of) (sym c.deref.ensures.value) ∙ (c.end_alike.ensures c.if-not-end_alike.false ∙ ap (map stop_told) c.deref-2.ensures.value))
    (ap bytes_told (sym c.deref-3.ensures.value) ∙ (c.put_out_alike.ensures c.if-not-put_out_alike.false ∙ ap (map output_told) c.deref-4.ensures.value))
    (ap bytes_told (sym c.deref-5.ensures.value) ∙ (c.look_alike.ensures yes ∙ ap bytes_told c.deref-6.ensures.value))
