use Rattle.std.proofs.Common.{◌≡◌, ◌∙◌, List, take, refl, ap}
use Rattle.std.proofs.lemmas.List.{take_all}
use Rattle.all_endings.specs.Tables.{memory_of}
use Rattle.hart_states.specs.declared.listed_store.ListedStore.{ListedStore}
use Rattle.hart_states.specs.States.{listed, stored_of}
use Rattle.ending_nodes.proofs.Memories.{left_off, left_on, put_more, stands_by}
use Rattle.ending_nodes.proofs.laying.inserted.Goals as goal

pub loop-other-preserved : goal.loop-other-preserved
loop-other-preserved c =
    let i = c.loop-other.invariant in
    record {
      others = put_more c.args.behind.now c.loop-other.other-index (stored_of c.args.store) (listed c.loop-other.all.items) (listed c.put.new.all.items) _ _ c.loop-other-test.true refl
          c.in_ok-stands.ensures.others i.others;
      stands = λ yes. c.in_ok-stands.ensures.stands yes i.stands;
    }

pub returns-then-stands : goal.returns-then-stands
returns-then-stands c =
    let i = c.loop-other.invariant in
    let all : take c.loop-other.other-index c.args.behind.now ≡ c.args.behind.now = take_all c.loop-other.other-index c.args.behind.now c.loop-other-test.false in
    stands_by (stored_of c.args.store) (listed c.loop-other.all.items) (listed c.args.behind.now)
    (λ opening x e. i.others opening x e ∙ ap (λ (l : List ListedStore). memory_of (listed l) opening x) all) (i.stands c.if-stands.true)

pub returns : goal.returns
returns c =
    let i = c.loop-other.invariant in
    let s = stored_of c.args.store in
    let before = listed c.loop-other.all.items in
    let all : take c.loop-other.other-index c.args.behind.now ≡ c.args.behind.now = take_all c.loop-other.other-index c.args.behind.now c.loop-other-test.false in
    stands_by s (listed c.push.new.all.items) (listed c.args.behind.now)
    (λ opening x e. c.in_ok-push.ensures opening x ∙ (left_off s (memory_of before opening) x e ∙ (i.others opening x e ∙ ap (λ (l : List ListedStore). memory_of (listed l) opening x) all)))
    (λ opening x e. c.in_ok-push.ensures opening x ∙ left_on s (memory_of before opening) x e)
