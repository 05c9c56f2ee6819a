use Rattle.std.proofs.Common.{◌≡◌, ◌∙◌, subst}
use Rattle.pages.specs.Memory.{fetched}
use Rattle.hart_step.specs.Buffered.{Overlay, seen_through}
use Rattle.hart_step.proofs.Overlays.{fetched_under}
use Rattle.hart_step.proofs.buffered.BufferedBus.fetch.Goals as goal

pub returns : goal.returns
returns c =
    subst (λ (v : Overlay). c.fetch.result ≡ fetched (seen_through v) c.args.pc) c.self.view_is
    (c.fetch.ensures ∙ fetched_under c.self.inside.pages.now.memory c.self.inside.buffer c.args.pc c.self.invariant)
