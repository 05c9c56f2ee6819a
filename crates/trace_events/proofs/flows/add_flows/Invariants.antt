use Rattle.std.proofs.Common.{◌≡◌, ◌++◌, [], take}
use Rattle.trace_events.specs.Flows.{flows_from}
use Rattle.trace_events.proofs.flows.add_flows.Given as goal

-- the flows to the bytes so far
abbrev pub invariant-loop-byte : goal.invariant-loop-byte
invariant-loop-byte l = l.line ≡ l.fn.line ++ flows_from l.events l.index [] (take l.byte l.writer-items)
