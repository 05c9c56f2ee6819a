use Rattle.std.proofs.Common.{◌∷◌, [], arith, sym, ap, ◌∙◌, subst}
use Rattle.pages.specs.Paged.{Paged}
use Rattle.hart_step.specs.Room.{TakesDirectly}
use Rattle.hart_step.proofs.Spares.{within_pages, took_after}
use Rattle.hart_step.proofs.direct.PagesBus.store.Goals as goal

pub overflow_cast-s : goal.overflow_cast-s
overflow_cast-s c = omega (arith, within_pages c.args.self.now c.args.s _ c.in_default.ensures c.count-pages.ensures.pages c.count-pages.ensures.bytes, c.count-pages.ensures.pages)

pub make_room-requires : goal.make_room-requires
make_room-requires c = within_pages c.args.self.now c.args.s _ c.in_default.ensures c.count-pages.ensures.pages c.count-pages.ensures.bytes

pub returns-clause-ok : goal.returns-clause-ok
returns-clause-ok c =
    let low = within_pages c.args.self.now c.args.s _ c.in_default.ensures c.count-pages.ensures.pages c.count-pages.ensures.bytes in
    (c.in_default.ensures, ap (λ (q : Paged). q.memory) c.apply.ensures ∙ (took_after c.args.self.now c.make_room.new.pages c.args.s low c.in_ok-make_room.ensures).memory)

pub returns-clause-takes : goal.returns-clause-takes
returns-clause-takes c =
    let low = within_pages c.args.self.now c.args.s _ c.in_default.ensures c.count-pages.ensures.pages c.count-pages.ensures.bytes in
    subst (λ (q : Paged). TakesDirectly c.args.self.now (c.args.s ∷ []) q) (sym c.apply.ensures) (took_after c.args.self.now c.make_room.new.pages c.args.s low c.in_ok-make_room.ensures)
