use Rattle.std.proofs.Common.{◌≡◌, ap, length, arith}
use Rattle.pages.specs.Flat.{flat}
use Rattle.pages.specs.Paged.{Paged}
use Rattle.pages.proofs.FlatPages.{length-flat}
use Rattle.pages.proofs.pages.Pages.count.Goals as goal

pub returns-clause-bytes : goal.returns-clause-bytes
returns-clause-bytes c =
    let size : length (flat c.self.inside.parts.items) ≡ length c.args.self.now.memory.bytes = ap (λ (p : Paged). length p.memory.bytes) c.self.view_is in
    omega (arith, length-flat c.self.inside.parts.items, size)
