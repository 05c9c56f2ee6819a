use Rattle.std.proofs.Common.{◌∙◌, subst, sym}
use Rattle.elf_loader.specs.Image.{Loaded}
use Rattle.endings_finder.specs.Fences.{HasFence}
use Rattle.endings_finder.proofs.Fenced.{fence_there}
use Rattle.endings_finder.proofs.program.Program.has_fence.Goals as goal

pub returns-in-Some : goal.returns-in-Some
returns-in-Some c = λ yes.
    let fence = fence_there c.self.inside.memory.memory c.args.pc c.in-Some.word (sym c.fetch.ensures ∙ c.in-Some.is) (c.is_fence.ensures yes) in
    subst (λ (i : Loaded). HasFence i c.args.pc) c.self.view_is (record { aligned = c.if-pc-ne0.false; fence = fence })
