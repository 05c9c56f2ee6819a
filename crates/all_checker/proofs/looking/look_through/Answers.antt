use Rattle.std.proofs.Common.{◌≡◌, ℕ, ◌≤◌, Bool, List, [], ◌∷◌, length, ap, subst, arith, length-append}
use Rattle.std.proofs.lemmas.List.{length-map}
use Rattle.std.specs.Global.{Vec}
use Rattle.pages.specs.Memory.{Memory}
use Rattle.hart_ends.specs.declared.ends.HartEnd.{HartEnd}
use Rattle.hart_ends.specs.Told.{ends_told}
use Rattle.hart_states.specs.declared.listed_store.ListedStore.{ListedStore}
use Rattle.hart_states.specs.States.{listed}
use Rattle.list_suffixes.specs.Serving.{Node}
use Rattle.own_moves.specs.Owned.{owns_of}
use Rattle.run_places.specs.declared.walking.HartWalk.{HartWalk}
use Rattle.run_places.specs.declared.walking.Walk.{Walk}
use Rattle.run_places.specs.declared.walking.Walk.TheVariants.{Whole}
use Rattle.run_places.specs.Walks.{IsWalkFrom}
use Rattle.ending_nodes.specs.KeptNodes.{node_told}
use Rattle.all_checker.specs.Nodes.{HasWalkFrom}
use Rattle.all_checker.proofs.Looked.{list_told}
use Rattle.all_checker.proofs.Walked.{one_walked}
use Rattle.all_checker.proofs.looking.look_through.Goals as goal

-- what is said where a hart was walked
walk_is : (owns : ℕ → ℕ → Bool) (k : ℕ) (image : Memory) (harts h : ℕ) (n : Node) (w : Walk) (walk : HartWalk) → w ≡ Whole walk → IsWalkFrom owns k image harts h n w →
    HasWalkFrom owns k image harts h n (listed walk.offered.items) (ends_told walk.ends.items)
walk_is owns k image harts h n w walk e is = subst (λ (u : Walk). IsWalkFrom owns k image harts h n u) e is

pub loop-hart-preserved : goal.loop-hart-preserved
loop-hart-preserved c =
    let i = c.loop-hart.invariant in
    let owns = owns_of c.args.program.now.owned.now in
    let k = c.args.program.now.steps in
    let image = c.args.program.now.pages.now.memory in
    let harts = length c.args.program.now.maps.now in
    let n = node_told image c.args.node.now in
    let j = c.loop-hart.hart in
    let walk = c.in-Whole.walk in
    let offers = c.loop-hart.walks.offered.items in
    let ways = c.loop-hart.walks.ways.items in
    let grown = c.in_ok-push-in-Whole.ensures.items in
    let grown2 = c.in_ok-push-in-Whole-2.ensures.items in
    record {
      offered = (let e = ap (λ (ss : List (Vec ListedStore)). length ss) grown in let l = length-append offers (walk.offered ∷ []) in let o = i.offered in omega (arith, e, l, o));
      ways = (let e = ap (λ (es : List (Vec HartEnd)). length es) grown2 in let l = length-append ways (walk.ends ∷ []) in let o = i.ways in omega (arith, e, l, o));
      walks = one_walked list_told (λ (w : Vec HartEnd). ends_told w.items) owns k image harts n j offers c.push.new.self.items ways c.push-in-Whole.new.self.items walk.offered walk.ends
          i.offered i.ways grown grown2 (walk_is owns k image harts j n _ walk c.in-Whole.is c.in_ok-why.ensures) i.walks;
    }

pub returns : goal.returns
returns c =
    let i = c.loop-hart.invariant in
    let over = c.loop-hart-test.false in
    let within : c.loop-hart.hart ≤ length c.args.program.now.maps.now = c.loop-hart.auto.hart-end in
    record {
      as_many = (let n = length-map c.loop-hart.walks.ways.items (λ (w : Vec HartEnd). ends_told w.items) in let o = i.ways in omega (arith, n, o, over, within));
      walks = λ h l. i.walks h (omega (arith, l, over));
    }
