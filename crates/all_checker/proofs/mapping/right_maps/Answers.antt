use Rattle.std.proofs.Common.{◌≡◌, ℕ, ◌<◌, ◌+◌, List, [], ◌∷◌, ◌++◌, length, get_or, sym, ap, ◌∙◌, subst, inl, inr, arith, length-append}
use Rattle.std.proofs.Math.Seq.{get_or-append_seam}
use Rattle.std.proofs.lemmas.Bool.{cases_lt}
use Rattle.std.proofs.lemmas.List.{get_or_append_left}
use Rattle.std.specs.Global.{Vec}
use Rattle.early_reads.specs.declared.early_point.EarlyPoint.{EarlyPoint}
use Rattle.early_reads.specs.Checking.{map_of}
use Rattle.early_reads.specs.EarlyMaps.{IsRight}
use Rattle.own_moves.specs.Owned.{owns_of}
use Rattle.all_checker.proofs.mapping.right_maps.Goals as goal

pub loop-hart-preserved : goal.loop-hart-preserved
loop-hart-preserved c =
    let i = c.loop-hart.invariant in
    let n = c.loop-hart.hart in
    let old = c.loop-hart.maps.items in
    let points = c.in_ok-points.points in
    let more = c.push.new.self.items in
    let grown = c.in_ok-push.ensures.items in
    let owns = owns_of c.args.owned.now in
    let image = c.args.pages.now.memory in
    let many : length more ≡ n + 1 =
    (let e = ap (λ (ms : List (Vec EarlyPoint)). length ms) grown in let l = length-append old (points ∷ []) in let o = i.many in omega (arith, e, l, o)) in
    record {
      many = many;
      right = λ h d l. elim (cases_lt h n) [
        | inl small ↦
            let before : h < length old = (let o = i.many in omega (arith, small, o)) in
            let same : get_or more h d ≡ get_or old h d = ap (λ (ms : List (Vec EarlyPoint)). get_or ms h d) grown ∙ get_or_append_left old (points ∷ []) d h before in
            subst (λ (ps : Vec EarlyPoint). IsRight (map_of ps.items) owns image h) (sym same) (i.right h d before)
        | inr large ↦
            let here : n ≡ h = omega (arith, l, large, many) in
            let last : get_or more h d ≡ points =
            ap (λ (ms : List (Vec EarlyPoint)). get_or ms h d) grown
            ∙ (ap (λ (j : ℕ). get_or (old ++ points ∷ []) j d) (let o = i.many in let e : h ≡ length old = omega (arith, here, o) in e) ∙ get_or-append_seam old points [] d) in
            subst (λ (ps : Vec EarlyPoint). IsRight (map_of ps.items) owns image h) (sym last) (subst (λ (j : ℕ). IsRight (map_of points.items) owns image j) here c.in_ok-points.ensures)
      ];
    }
