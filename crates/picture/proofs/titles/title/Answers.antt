use Rattle.std.proofs.Common.{◌++◌, ap, codes, refl}
use Rattle.std.specs.Fmt.{decimal}
use Rattle.round_schedule.specs.Accesses.{place_of}
use Rattle.picture.specs.Titles.{object_text, pc_text, title_text, told}
use Rattle.picture.proofs.Chains.{last, more}
use Rattle.picture.proofs.titles.title.Goals as goal

pub returns : goal.returns
unfolding title_text
returns c =
    let t0 = c.args.line.now in
    let e = c.args.event.now in
    let s = told c.args.site.now in
    let t1 = codes "<title>round " in
    let t2 = decimal e.round in
    let t3 = codes " hart " in
    let t4 = decimal e.hart in
    let t5 = codes " place " in
    let t6 = decimal (place_of e.access) in
    let t7 = pc_text s.pc in
    let t8 = object_text s.object in
    let t9 = codes "</title>\n" in
    let e2 = more t0 t1 _ _ t2 _ c.in_ok-text.ensures c.in_ok-decimal.ensures refl in
    let e3 = more t0 (t1 ++ t2) _ _ t3 _ e2 c.in_ok-text-2.ensures refl in
    let e4 = more t0 (t1 ++ t2 ++ t3) _ _ t4 _ e3 c.in_ok-decimal-2.ensures refl in
    let e5 = more t0 (t1 ++ t2 ++ t3 ++ t4) _ _ t5 _ e4 c.in_ok-text-3.ensures refl in
    let e6 = more t0 (t1 ++ t2 ++ t3 ++ t4 ++ t5) _ _ t6 _ e5 c.in_ok-decimal-3.ensures (ap decimal c.place.ensures) in
    let e7 = more t0 (t1 ++ t2 ++ t3 ++ t4 ++ t5 ++ t6) _ _ t7 _ e6 c.in_ok-pc.ensures refl in
    let e8 = more t0 (t1 ++ t2 ++ t3 ++ t4 ++ t5 ++ t6 ++ t7) _ _ t8 _ e7 c.in_ok-object.ensures refl in
    last t0 (t1 ++ t2 ++ t3 ++ t4 ++ t5 ++ t6 ++ t7 ++ t8) _ _ t9 _ _ e8 c.text-4.ensures refl
