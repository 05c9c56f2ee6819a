use Rattle.std.proofs.Common.{◌≡◌, ◌∙◌, ◌^◌, ◌*◌, ◌%◌, ap, refl, length, rules}
use Rattle.store_buffer.proofs.LineBits.{line_put, mask_of}
use Rattle.store_buffer.proofs.line.Line.put.Goals as goal

pub returns : goal.returns
returns c =
    let size : length c.args.self.now.bytes ≡ 64 = search rules in
    let mask = ap (λ n. n * 2 ^ c.args.index % 2 ^ 64) c.ones.ensures ∙ mask_of c.args.width c.args.index c.requires in
    line_put c.args.self.now c.write_number.new.bytes _ (c.ones.result * 2 ^ c.args.index % 2 ^ 64) c.args.index c.args.value c.args.width size c.write_number.ensures.written mask refl
