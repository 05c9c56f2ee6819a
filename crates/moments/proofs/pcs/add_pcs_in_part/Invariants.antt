use Rattle.std.proofs.Common.{◌≡◌, ◌++◌, map, take}
use Rattle.moments.specs.Hits.{harts_in_part}
use Rattle.moments.specs.Pcs.{GoesOn, pc_in}
use Rattle.moments.specs.Bytes.{sight_of}
use Rattle.moments.proofs.PcsFound.{IsBehind}
use Rattle.moments.proofs.pcs.add_pcs_in_part.Given as goal

-- the part goes on from here, behind the last event's instruction, and the events so far have their pcs
abbrev pub invariant-loop-number : goal.invariant-loop-number
invariant-loop-number g l =
    GoesOn l.quota l.done l.code.first l.code.instructions l.fn.h (g.B.Bus.memory l.fn.b) l.h (g.B.Bus.memory l.b)
    × IsBehind l.fn.h.done l.events l.number l.done
    × (l.pcs.items ≡ l.fn.pcs.items ++ map (pc_in l.fn.h.done (harts_in_part (g.B.Bus.memory l.fn.b).code l.quota (sight_of l.fn.h (g.B.Bus.memory l.fn.b)))) (take l.number l.events))
