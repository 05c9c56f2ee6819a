use Rattle.std.proofs.Common.{arith}
use Rattle.pages.proofs.PageBytes.{held_bytes}
use Rattle.pages.proofs.part.Part.bytes.Goals as goal

pub returns : goal.returns
returns c = held_bytes c.args.self.now c.held.result.now c.if_some.result c.held.ensures.bytes c.held.ensures.own (λ some. omega (arith, c.held.ensures.size, some)) c.if_some.ensures
