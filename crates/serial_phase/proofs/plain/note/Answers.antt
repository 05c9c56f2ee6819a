use Rattle.std.proofs.Common.{◌≡◌, refl, sym, subst}
use Rattle.round_schedule.specs.declared.access.Access.{Access}
use Rattle.round_schedule.specs.ReservingTurn.{updated}
use Rattle.serial_phase.proofs.ReservationUpdates.{reservations_stay, reservations_stored}
use Rattle.serial_phase.proofs.plain.note.Goals as goal

pub returns-in-Store : goal.returns-in-Store
returns-in-Store c = subst (λ (a : Access). c.break_by.new.self ≡ updated c.args.hart 0 a c.args.reservations.now) (sym c.in-Store.is) (reservations_stored c.args.hart _ _ _ _ _ _ c.break_by.ensures)

pub returns-in-Load : goal.returns-in-Load
returns-in-Load c = subst (λ (a : Access). c.args.reservations.now ≡ updated c.args.hart 0 a c.args.reservations.now) (sym c.in-Load.is) (reservations_stay c.args.hart _ _ (λ x. refl) (λ r. refl))

pub returns-in-Fence : goal.returns-in-Fence
returns-in-Fence c = subst (λ (a : Access). c.args.reservations.now ≡ updated c.args.hart 0 a c.args.reservations.now) (sym c.in-Fence.is) (reservations_stay c.args.hart _ _ (λ x. refl) (λ r. refl))
