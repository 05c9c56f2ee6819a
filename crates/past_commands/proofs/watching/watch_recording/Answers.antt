use Rattle.std.proofs.Common.{◌∙◌, List, subst}
use Rattle.command_line.specs.declared.settings.Bytes.{Bytes}
use Rattle.past_commands.specs.Watches.{AreRunHits}
use Rattle.replayer.specs.Replayed.{start_of}
use Rattle.past_commands.proofs.watching.watch_recording.Goals as goal

pub returns-clause-watches : goal.returns-clause-watches
returns-clause-watches g c =
    let asked = c.args.asked.now in
    let r = c.args.recorded.now in
    let found = c.in_ok-hits.ensures.hits in
    record {
      are_workers = c.in_ok-hits.ensures.workers;
      named = rw c.image.ensures at c.in-Ok.ensures.named;
      plan = found.0;
      planned = found.1;
      found = subst (λ (named : List Bytes). AreRunHits asked named r (start_of r found.0) c.in_ok-hits.hits) (c.deref.ensures.value ∙ (rw c.image.ensures at c.in-Ok.ensures.bytes)) found.2;
    }
