use Rattle.std.proofs.Common.{List, length, sym, ap, ◌∙◌, subst, arith}
use Rattle.std.specs.Global.{Vec}
use Rattle.early_reads.specs.declared.early_point.EarlyPoint.{EarlyPoint}
use Rattle.own_moves.specs.Owned.{owns_of}
use Rattle.own_moves.specs.declared.owned.OwnDoubleword.{OwnDoubleword}
use Rattle.private_bytes.specs.PrivateWalks.{AreNobodys}
use Rattle.ending_nodes.specs.Raising.{AreRight}
use Rattle.all_checker.proofs.finding.look_at_all.Goals as goal

pub look_at_nodes-requires-clause-few : goal.look_at_nodes-requires-clause-few
look_at_nodes-requires-clause-few g c =
    let e = ap (λ (ms : List (Vec EarlyPoint)). length ms) c.deref-3.ensures.value in
    let m = c.in_ok-maps.ensures.many in
    let f = c.requires.few in
    omega (arith, e, m, f)

pub look_at_nodes-requires-clause-right : goal.look_at_nodes-requires-clause-right
look_at_nodes-requires-clause-right g c = λ lifetimes within.
    let image = c.args.guest.now.pages.now.memory in
    subst (λ (ms : List (Vec EarlyPoint)). AreRight (owns_of c.deref-2.result.now) image ms) (sym c.deref-3.ensures.value)
    (subst (λ (os : List OwnDoubleword). AreRight (owns_of os) image c.in_ok-maps.maps.items) (c.deref.ensures.value ∙ sym c.deref-2.ensures.value) c.in_ok-maps.ensures.right)

pub look_at_nodes-requires-clause-harts : goal.look_at_nodes-requires-clause-harts
look_at_nodes-requires-clause-harts g c =
    let e = ap (λ (ms : List (Vec EarlyPoint)). length ms) c.deref-3.ensures.value in
    let m = c.in_ok-maps.ensures.many in
    omega (arith, e, m)

pub look_at_nodes-requires-clause-nobodys : goal.look_at_nodes-requires-clause-nobodys
look_at_nodes-requires-clause-nobodys g c = λ lifetimes within.
    subst (λ (os : List OwnDoubleword). AreNobodys (owns_of os) (length c.args.guest.now.harts.now) c.args.guest.now.see.now) (sym c.deref-2.ensures.value) (c.in_ok-owned.ensures (length c.args.guest.now.harts.now))
