use Rattle.std.proofs.Common.{Bool, List, [], ◌∷◌, length, ap, subst, arith, length-append}
use Rattle.hart_states.specs.States.{listed}
use Rattle.ending_nodes.specs.Raising.{MeetsNone}
use Rattle.ending_nodes.proofs.Laid.{free_all, free_more}
use Rattle.ending_nodes.proofs.staying.held.Goals as goal

pub loop-store-init : goal.loop-store-init
loop-store-init c = record { many = ap (λ (s : List Bool). length s) c.new-stays.ensures.items; free = λ j k x l. absurd (omega (arith, l)) }

pub loop-store-preserved : goal.loop-store-preserved
loop-store-preserved c =
    let i = c.loop-store.invariant in
    let old = c.loop-store.stays.items in
    let grown = c.in_ok-push.ensures.items in
    let many = i.many in
    let m = listed c.args.list.now in
    record {
      many = (let e = ap (λ (s : List Bool). length s) grown in let l = length-append old (c.has_to_stay-stay.result ∷ []) in omega (arith, e, l, many));
      free = free_more c.loop-store.store old c.push.new.self.items m c.has_to_stay-stay.result i.many grown
          (λ no. subst (λ (s : List Bool). MeetsNone s m c.loop-store.store) c.deref.ensures.value (c.has_to_stay-stay.ensures no)) i.free;
    }

pub returns : goal.returns
returns c =
    let i = c.loop-store.invariant in
    let over = c.loop-store-test.false in
    let least = c.loop-store.auto.store-end in
    let many = i.many in
    record {
      many = omega (arith, over, many, least);
      free = free_all c.loop-store.store c.loop-store.stays.items (listed c.args.list.now) (omega (arith, over, many)) i.free;
    }
