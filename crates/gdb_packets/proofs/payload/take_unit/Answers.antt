use Rattle.std.proofs.Common.{refl, sym}
use Rattle.gdb_packets.proofs.Units.{alone_read, escaped_read, frame_read, not_repeated, plain_read, repeated_read}
use Rattle.gdb_packets.proofs.payload.take_unit.Goals as goal

pub returns-in_ok-push-in-Plain-clause-goes_on : goal.returns-in_ok-push-in-Plain-clause-goes_on
returns-in_ok-push-in-Plain-clause-goes_on c =
    plain_read _ _ _ _ _ c.in-Some.ensures.cases.0 (sym c.in-Plain.ensures) c.in_ok-push-in-Plain.ensures.items

pub returns-in_ok-push-in-Some-split_first-clause-goes_on :
    goal.returns-in_ok-push-in-Some-split_first-clause-goes_on
returns-in_ok-push-in-Some-split_first-clause-goes_on c =
    escaped_read _ _ _ _ _ _ _ c.in-Some.ensures.cases.0 c.in-Some-split_first.ensures.cases.0 (sym c.in-Escape.ensures)
    c.in_ok-push-in-Some-split_first.ensures.items

pub returns-in-None-clause-goes_on : goal.returns-in-None-clause-goes_on
returns-in-None-clause-goes_on c = alone_read c.args.payload.now.items _ _ _ _ c.in-Some.ensures.cases.0 c.in-None.ensures.cases (sym c.in-Escape.ensures) refl

pub returns-in-None-split_first-clause-goes_on : goal.returns-in-None-split_first-clause-goes_on
returns-in-None-split_first-clause-goes_on c =
    alone_read c.args.payload.now.items _ _ _ _ c.in-Some.ensures.cases.0 c.in-None-split_first.ensures.cases (sym c.in-Repeat.ensures) refl

pub returns-in-Frame-clause-goes_on : goal.returns-in-Frame-clause-goes_on
returns-in-Frame-clause-goes_on c = frame_read c.args.payload.now.items _ _ _ c.in-Some.ensures.cases.0 (sym c.in-Frame.ensures)

pub returns-then-branch-clause-goes_on : goal.returns-then-branch-clause-goes_on
returns-then-branch-clause-goes_on c =
    repeated_read _ _ _ _ _ _ _ c.in-Some.ensures.cases.0 c.in-Some-split_first-2.ensures.cases.0 (sym c.in-Repeat.ensures)
    (rw c.if-branch.true at c.in_ok-repeat_last-in-Some-split_first-2.ensures)

pub returns-else-branch-clause-goes_on : goal.returns-else-branch-clause-goes_on
returns-else-branch-clause-goes_on c =
    not_repeated c.args.payload.now.items c.repeat_last.new.payload.items _ _ _ _ _ c.in-Some.ensures.cases.0 c.in-Some-split_first-2.ensures.cases.0 (sym c.in-Repeat.ensures)
    (rw c.if-branch.false at c.in_ok-repeat_last-in-Some-split_first-2.ensures)
