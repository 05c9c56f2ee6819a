use Rattle.fence_finder.proofs.Confirmed.{one_more, one_told, tried_so}
use Rattle.fence_finder.proofs.findings.Findings.add.Goals as goal

pub returns-in_ok-put-in-Some-2-clause-shown : goal.returns-in_ok-put-in-Some-2-clause-shown
returns-in_ok-put-in-Some-2-clause-shown g c =
    let o = c.args.guest.now.opening in
    one_more o.image.now o.input.now o.harts.now c.args.self.now.missing.items c.put.new.self.missing.items c.in-Some-2.confirmed.missing c.in_ok-put-in-Some-2.ensures.missing
    c.requires.shown (rw c.in-Some-2.is at c.in_ok-confirmed.ensures.shown)

pub returns-in_ok-put-in-Some-2-clause-missing : goal.returns-in_ok-put-in-Some-2-clause-missing
returns-in_ok-put-in-Some-2-clause-missing g c =
    let search = c.args.search.now in
    let guest = c.args.guest.now in
    let m = c.in-Some-2.confirmed.missing in
    one_told g.E.Executer.comes_to guest.maker search.runs guest.extent.first search.done c.args.self.now.missing.items c.put.new.self.missing.items m c.in_ok-put-in-Some-2.ensures.missing
    c.requires.missing (rw c.in-Some-2.is at c.in_ok-confirmed.ensures.fault)
    (tried_so g.E.Executer.comes_to _ c.in-Some.kind c.pc.result m.fence (rw c.in-Some.is at c.in_ok-kind.ensures) c.pc.ensures (rw c.in-Some-2.is at c.in_ok-confirmed.ensures.fence))
