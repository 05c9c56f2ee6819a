use Rattle.std.proofs.Common.{◌∙◌, rules}
use Rattle.pages.proofs.Numbers.{pasted_part, written_low2, written_low4}
use Rattle.pages.proofs.number.write_number.Goals as goal

pub returns-in-W2-clause-written : goal.returns-in-W2-clause-written
returns-in-W2-clause-written c = rw c.in-W2.is (pasted_part 2 _ c.args.place c.args.bytes.now c.write_u16.new.buf (search rules) c.write_u16.ensures ∙ written_low2 c.args.bytes.now c.args.place c.args.value)

pub returns-in-W4-clause-written : goal.returns-in-W4-clause-written
returns-in-W4-clause-written c = rw c.in-W4.is (pasted_part 4 _ c.args.place c.args.bytes.now c.write_u32.new.buf (search rules) c.write_u32.ensures ∙ written_low4 c.args.bytes.now c.args.place c.args.value)

pub returns-in-W8-clause-written : goal.returns-in-W8-clause-written
returns-in-W8-clause-written c = rw c.in-W8.is (pasted_part 8 c.args.value c.args.place c.args.bytes.now c.write_u64.new.buf (search rules) c.write_u64.ensures)
