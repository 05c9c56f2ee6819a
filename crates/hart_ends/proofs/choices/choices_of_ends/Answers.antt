use Rattle.std.proofs.Common.{◌≡◌, ◌+◌, List, [], ◌∷◌, ◌++◌, take, Contains, sym, ap, ◌∙◌, subst}
use Rattle.std.proofs.lemmas.List.{take_more}
use Rattle.std.specs.Global.{Vec}
use Rattle.all_endings.specs.Walking.{AreEndsOf, HartEnding}
use Rattle.hart_ends.specs.declared.ends.HartEnd.{HartEnd}
use Rattle.hart_ends.specs.Told.{ends_told, ways_told}
use Rattle.hart_ends.proofs.Choosing.{split_ends}
use Rattle.hart_ends.proofs.Told.{pushed}
use Rattle.hart_ends.proofs.choices.choices_of_ends.Goals as goal

abbrev items_told : Vec HartEnd → List HartEnding
items_told w = ends_told w.items

pub loop-way-preserved : goal.loop-way-preserved
loop-way-preserved c = λ es all.
    let ways = c.args.ways.now in
    let i = c.loop-way.way-index in
    let way = c.way-item.result in
    let told : ways_told (take (i + 1) ways) ≡ ways_told (take i ways) ++ items_told way ∷ [] =
    pushed items_told (take i ways) (take (i + 1) ways) way
    (take_more ways i way c.loop-way-test.true ∙ ap (λ (w : Vec HartEnd). take i ways ++ w ∷ []) (sym c.way-item.is)) in
    let s = split_ends (ways_told (take i ways)) (items_told way) es (subst (λ (ws : List (List HartEnding)). AreEndsOf ws es) told all) in
    let value : c.deref-in-loop-way.result.now ≡ way.items = c.deref-in-loop-way.ensures.value in
    let chosen : c.deref.result.now ≡ c.loop-way.chosen.items = c.deref.ensures.value in
    let found = c.in_ok-longer.ensures s.0 s.1
    (subst (λ (vs : List (Vec HartEnd)). Contains (ways_told vs) s.0) (sym chosen) (c.loop-way.invariant s.0 s.2))
    (subst (λ (vs : List HartEnd). Contains (ends_told vs) s.1) (sym value) s.3) in
    subst (λ (fs : List HartEnding). Contains (ways_told c.in_ok-longer.longer.items) fs) s.4 found
