use Rattle.std.proofs.Common.{◌∙◌, sym}
use Rattle.all_endings.specs.Tables.{memory_of}
use Rattle.hart_states.specs.States.{listed, stored_of}
use Rattle.ending_nodes.proofs.Memories.{left_after, left_off, within_off}
use Rattle.ending_nodes.proofs.laying.put.Goals as goal

pub returns-then-is_within : goal.returns-then-is_within
returns-then-is_within c =
    let s = stored_of c.args.store in
    let o = stored_of c.args.other in
    let old = listed c.args.all.now.items in
    record {
      others = λ opening x e. sym (left_off o (memory_of old opening) x (within_off s o x (c.is_within.ensures c.if-is_within.true) e));
      stands = λ yes before. before yes;
    }

pub returns-then-meets : goal.returns-then-meets
returns-then-meets c =
    let o = stored_of c.args.other in
    let old = listed c.args.all.now.items in
    let mid = listed c.put_before.new.all.items in
    record {
      others = λ opening x e. c.in_ok-push.ensures opening x ∙ left_after o (memory_of mid opening) (memory_of old opening) x (c.in_ok-here.ensures.others opening x e);
      stands = λ yes. absurd (cc);
    }

pub returns : goal.returns
returns c =
    let o = stored_of c.args.other in
    let old = listed c.args.all.now.items in
    let mid = listed c.put_before.new.all.items in
    record {
      others = λ opening x e. c.in_ok-push.ensures opening x ∙ left_after o (memory_of mid opening) (memory_of old opening) x (c.in_ok-here.ensures.others opening x e);
      stands = λ yes before opening x e.
          c.in_ok-push.ensures opening x ∙ (left_off o (memory_of mid opening) x (c.meets.ensures c.if-meets.false x e) ∙ c.in_ok-here.ensures.stands yes before opening x e);
    }
