use Rattle.std.proofs.Common.{◌≡◌, ℕ, List, [], ◌∷◌, ◌++◌, get_or, Contains, sym, ap, ◌∙◌, subst, inl, inr, arith}
use Rattle.std.proofs.lemmas.Bool.{cases_lt}
use Rattle.std.proofs.lemmas.List.{get_or_read}
use Rattle.std.specs.Global.{Vec}
use Rattle.all_endings.specs.Walking.{HartEnding}
use Rattle.hart_ends.specs.declared.ends.HartEnd.{HartEnd}
use Rattle.hart_ends.specs.Told.{end_told, ends_told, ways_told}
use Rattle.hart_ends.proofs.Told.{kept, new, told_by}
use Rattle.hart_ends.proofs.choices.extended.Goals as goal

abbrev items_told : Vec HartEnd → List HartEnding
items_told w = ends_told w.items

pub loop-end-preserved : goal.loop-end-preserved
loop-end-preserved c =
    let i = c.loop-end.invariant in
    let longer = c.loop-end.longer.items in
    let grown = c.push.new.self.items in
    let more = c.in_ok-more.more in
    let pushed : grown ≡ longer ++ more ∷ [] = c.in_ok-push.ensures.items in
    let way = c.args.way.now in
    let n = c.loop-end.end-index in
    record {
      earlier = λ k d e l w. kept items_told longer grown more _ pushed (i.earlier k d e l w);
      here = λ j d l. elim (cases_lt j n) [
        | inl small ↦ kept items_told longer grown more _ pushed (i.here j d small)
        | inr large ↦
            let at : j ≡ n = omega (arith, l, large) in
            let one : c.end-item.result ≡ get_or way j d =
            get_or_read way n c.end-item.result c.loop-end-test.true c.end-item.is d ∙ ap (λ (m : ℕ). get_or way m d) (sym at) in
            new items_told longer grown more _ pushed
            (c.in_ok-more.ensures ∙ (ap (λ (es : List HartEnd). ends_told es ++ end_told c.end-item.result ∷ []) c.deref.ensures.value ∙
            ap (λ (e : HartEnd). ends_told c.before-item.result.items ++ end_told e ∷ []) one))
      ];
    }

pub loop-before-preserved : goal.loop-before-preserved
loop-before-preserved c =
    let i = c.loop-end.invariant in
    let chosen = c.args.chosen.now in
    let n = c.loop-before.before-index in
    let way = c.args.way.now in
    λ k d e l w. elim (cases_lt k n) [
      | inl small ↦ i.earlier k d e small w
      | inr large ↦
          let at : k ≡ n = omega (arith, l, large) in
          let one : c.before-item.result ≡ get_or chosen k d =
          get_or_read chosen n c.before-item.result c.loop-before-test.true c.before-item.is d ∙ ap (λ (m : ℕ). get_or chosen m d) (sym at) in
          let x = told_by end_told way e w in
          let within = x.1.1 in
          let over = c.loop-end-test.false in
          let found = i.here x.1.0 x.0 (omega (arith, within, over)) in
          let named : end_told (get_or way x.1.0 x.0) ≡ e = ap end_told x.1.2 ∙ x.2 in
          let told : ends_told c.before-item.result.items ++ end_told (get_or way x.1.0 x.0) ∷ [] ≡ ends_told (get_or chosen k d).items ++ e ∷ [] =
          ap (λ (f : HartEnding). ends_told c.before-item.result.items ++ f ∷ []) named ∙ ap (λ (v : Vec HartEnd). ends_told v.items ++ e ∷ []) one in
          subst (λ (es : List HartEnding). Contains (ways_told c.loop-end.longer.items) es) told found
    ]

pub returns : goal.returns
returns c = λ es e s w.
    let v = told_by items_told c.args.chosen.now es s in
    let within = v.1.1 in
    let over = c.loop-before-test.false in
    let found = c.loop-before.invariant v.1.0 v.0 e (omega (arith, within, over)) w in
    let named : ends_told (get_or c.args.chosen.now v.1.0 v.0).items ≡ es = ap items_told v.1.2 ∙ v.2 in
    subst (λ (fs : List HartEnding). Contains (ways_told c.loop-before.longer.items) (fs ++ e ∷ [])) named found
