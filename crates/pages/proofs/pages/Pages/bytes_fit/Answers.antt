use Rattle.std.proofs.Common.{subst}
use Rattle.pages.specs.Memory.{IsBytes}
use Rattle.pages.specs.Paged.{Paged}
use Rattle.pages.proofs.FlatPages.{fits-flat}
use Rattle.pages.proofs.pages.Pages.bytes_fit.Goals as goal

pub returns : goal.returns
returns c = subst (λ (p : Paged). IsBytes p.memory.bytes) c.self.view_is (fits-flat c.self.inside.parts.items)
