use Rattle.std.proofs.Common.{◌≡◌, ◌+◌, true, false, sym, refl, ◌∙◌, arith}
use Rattle.list_suffixes.specs.Staying.{kept_before}
use Rattle.settled_walks.proofs.Times.{kept_zero}
use Rattle.settled_walks.proofs.Counted.{kept_next}
use Rattle.settled_walks.proofs.kept_times.kept_before.Goals.{else-stays_at, then-stays_at}
use Rattle.settled_walks.proofs.kept_times.kept_before.Goals as goal

pub loop-store-init : goal.loop-store-init
loop-store-init c = record { few = omega arith; counted = sym (kept_zero c.args.stays.now) }

pub loop-store-preserved : goal.loop-store-preserved
loop-store-preserved c =
    let i = c.loop-store.invariant in
    let few = i.few in
    let counted = i.counted in
    let store = c.loop-store.store in
    elim c.if-stays_at.branch [
      | then-stays_at w ↦
          let e = w.kept-is in
          let n : kept_before c.args.stays.now (store + 1) ≡ kept_before c.args.stays.now store + 1 =
          kept_next c.args.stays.now store (store + 1) true refl (sym c.stays_at.ensures ∙ w.if-stays_at.true) in
          record { few = omega (arith, few, e); counted = omega (arith, counted, e, n) }
      | else-stays_at w ↦
          let e = w.kept-is in
          let n : kept_before c.args.stays.now (store + 1) ≡ kept_before c.args.stays.now store =
          kept_next c.args.stays.now store (store + 1) false refl (sym c.stays_at.ensures ∙ w.if-stays_at.false) in
          record { few = omega (arith, few, e); counted = omega (arith, counted, e, n) }
    ]
