use Rattle.std.proofs.Common.{true≢false, sym, ◌∙◌}
use Rattle.replayer.proofs.Formats.{is_elf, is_flat}
use Rattle.replayer.proofs.opened.format_of.Goals as goal

pub returns-then-is_flat : goal.returns-then-is_flat
returns-then-is_flat c = is_flat c.args.recording.now.format (c.is_flat.ensures.0 c.if-is_flat.true)

pub returns-else-is_flat : goal.returns-else-is_flat
returns-else-is_flat c = is_elf c.args.recording.now.format (λ is. true≢false (sym (c.is_flat.ensures.1 is) ∙ c.if-is_flat.false))
