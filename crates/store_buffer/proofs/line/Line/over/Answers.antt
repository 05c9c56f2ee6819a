use Rattle.std.proofs.Common.{◌∙◌, ◌^◌, ◌/◌, ap, sym, bit_and}
use Rattle.pages.specs.Memory.{width_bytes}
use Rattle.store_buffer.proofs.LineBits.{all_covered, none_covered}
use Rattle.store_buffer.proofs.LineNumbers.{over_all_value, over_none}
use Rattle.store_buffer.proofs.line.Line.over.Goals as goal

pub returns-then-cover-eq0 : goal.returns-then-cover-eq0
returns-then-cover-eq0 c =
    let n = width_bytes c.args.width in
    let none = ap (λ m. bit_and (c.args.self.now.mask / 2 ^ c.args.index) m) (sym c.ones-all.ensures) ∙ c.if-cover-eq0.true in
    over_none n c.args.self.now c.args.index c.args.number c.requires.fits (none_covered c.args.self.now c.args.index n none)

pub returns-then-cover-all : goal.returns-then-cover-all
returns-then-cover-all c =
    let n = width_bytes c.args.width in
    let all = ap (λ m. bit_and (c.args.self.now.mask / 2 ^ c.args.index) m) (sym c.ones-all.ensures) ∙ c.if-cover-all.true ∙ c.ones-all.ensures in
    c.number_in.ensures.value
    ∙ over_all_value c.args.width c.args.self.now c.args.index c.args.number c.number_in.ensures.bytes (all_covered c.args.self.now c.args.index n all)
