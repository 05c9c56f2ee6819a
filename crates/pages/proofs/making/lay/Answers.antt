use Rattle.std.proofs.Common.{◌∙◌, ◌+◌, ◌-◌, ℕ, List, ap, rules, slice_index, length, get_or, if◌then◌else◌}
use Rattle.pages.specs.Flat.{full}
use Rattle.pages.specs.Memory.{in_range}
use Rattle.pages.proofs.Laying.{laid_piece}
use Rattle.pages.proofs.making.lay.Goals as goal

pub returns-in_ok-fill-clause-bytes : goal.returns-in_ok-fill-clause-bytes
returns-in_ok-fill-clause-bytes c = λ k h.
    let x = slice_index (full c.args.part.now) k in
    let p = c.args.piece.now.start in
    let a = c.args.start in
    c.in_ok-fill.ensures.bytes k h
    ∙ laid_piece c.deref.result.now p a c.max-from.result c.min-to.result k x (search rules) (search rules) (search rules) h
    ∙ ap (λ (bs : List ℕ). if in_range p (length bs) (a + k) then get_or bs (a + k - p) 0 else x) c.deref.ensures.value
