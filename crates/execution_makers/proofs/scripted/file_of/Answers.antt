use Rattle.std.proofs.Common.{refl}
use Rattle.execution_scripts.proofs.Counted.{a_part_each}
use Rattle.execution_makers.proofs.scripted.file_of.Goals as goal

pub returns : goal.returns
returns c = record {
  flat = c.is_flat.ensures;
  pages = refl;
  image = c.in_ok-image.ensures.image;
  input = c.in_ok-image.ensures.input;
  harts = a_part_each c.args.guest.now.harts c.args.execution.now.standing c.calls_of.new.execution.standing c.harts.result.now c.events.result.now _ c.requires c.in_ok-calls.ensures
      c.harts.ensures.harts c.in_ok-harts.ensures;
}
