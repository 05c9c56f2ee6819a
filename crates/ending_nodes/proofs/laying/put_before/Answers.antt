use Rattle.std.proofs.Common.{◌∙◌}
use Rattle.all_endings.specs.Tables.{memory_of}
use Rattle.hart_states.specs.States.{listed, stored_of}
use Rattle.ending_nodes.proofs.Memories.{left_off, left_on}
use Rattle.ending_nodes.proofs.laying.put_before.Goals as goal

pub returns : goal.returns
returns c =
    let s = stored_of c.args.store in
    let old = listed c.args.all.now.items in
    record {
      others = λ opening x e. c.in_ok-push.ensures opening x ∙ left_off s (memory_of old opening) x e;
      stands = λ yes before opening x e. c.in_ok-push.ensures opening x ∙ left_on s (memory_of old opening) x e;
    }
