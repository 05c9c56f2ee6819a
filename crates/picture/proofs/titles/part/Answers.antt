use Rattle.std.proofs.Common.{◌++◌, ap, codes, refl, take}
use Rattle.picture.specs.Titles.{escaped, offset_text}
use Rattle.picture.proofs.Chains.{last, more}
use Rattle.picture.proofs.titles.part.Goals as goal

pub returns : goal.returns
returns c =
    let t0 = c.args.line.now in
    let t1 = codes " " in
    let t2 = escaped (take 200 c.args.part.now.name.now) in
    let t3 = offset_text c.args.part.now.offset in
    let e2 = more t0 t1 _ _ t2 _ c.in_ok-text.ensures c.in_ok-escaped.ensures (ap escaped c.shown_of.ensures) in
    last t0 (t1 ++ t2) _ _ t3 _ _ e2 c.offset.ensures refl
