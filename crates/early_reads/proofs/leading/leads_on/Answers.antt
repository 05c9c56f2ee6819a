use Rattle.std.proofs.Common.{◌≡◌, ℕ, ◌||◌, true, sym, ap, ◌∙◌, subst}
use Rattle.round_schedule.specs.Accesses.{loads}
use Rattle.private_bytes.specs.Owners.{is_own}
use Rattle.own_moves.specs.Owned.{owns_of}
use Rattle.early_reads.specs.declared.early_point.LateKinds.{LateKinds}
use Rattle.early_reads.specs.Checking.{bytes_by, has_early, map_of}
use Rattle.early_reads.proofs.LateBehind.{late_dry, late_either, late_owing, late_wet}
use Rattle.early_reads.proofs.leading.leads_on.Goals as goal

pub returns-then-late : goal.returns-then-late
returns-then-late c = λ allowed z next x over among left told.
    let P : LateKinds → Type 0 = λ l. (map_of c.args.points.now).bytes l next x ≡ true → has_early (bytes_by c.args.late c.args.point.now) x ≡ true in
    late_owing (owns_of c.args.owned.now) c.args.hart c.args.late c.args.step.now.access z c.args.step.now.known P c.if-late.true (c.allows_each.ensures allowed next x among) told

pub returns-then-not-stores : goal.returns-then-not-stores
returns-then-not-stores c = λ allowed z next x over among left told.
    let P : LateKinds → Type 0 = λ l. (map_of c.args.points.now).bytes l next x ≡ true → has_early (bytes_by c.args.late c.args.point.now) x ≡ true in
    late_dry (owns_of c.args.owned.now) c.args.hart c.args.late c.args.step.now.access z c.args.step.now.known P over
    (sym c.stores.ensures ∙ c.if-not-stores.true) (c.allows_each-then-not-stores.ensures allowed next x among) told

pub returns-then-not-is_own : goal.returns-then-not-is_own
returns-then-not-is_own c = λ same z next x over among left told.
    let P : LateKinds → Type 0 = λ l. (map_of c.args.points.now).bytes l next x ≡ true → has_early (bytes_by c.args.late c.args.point.now) x ≡ true in
    let stored : P (record { loads = c.args.late.loads || loads c.args.step.now.access; stores = true; owes = c.args.late.owes }) =
    subst P c.with_store.ensures (c.allows_each-2.ensures c.if-not-allows_each.false next x among) in
    late_wet (owns_of c.args.owned.now) c.args.hart c.args.late c.args.step.now.access z c.args.step.now.known P over c.if-late.false
    c.if-step.true (sym c.stores.ensures ∙ c.if-not-stores.false) (sym c.is_conditional-conditional.ensures ∙ c.if-not-conditional-2.true)
    (ap (λ (y : ℕ). is_own (owns_of c.args.owned.now) c.args.hart y) (sym c.address.ensures) ∙ (sym c.is_own.ensures ∙ c.if-not-is_own.true))
    stored told

pub returns : goal.returns
returns c = λ allowed z next x over among left told.
    let P : LateKinds → Type 0 = λ l. (map_of c.args.points.now).bytes l next x ≡ true → has_early (bytes_by c.args.late c.args.point.now) x ≡ true in
    let stored : P (record { loads = c.args.late.loads || loads c.args.step.now.access; stores = true; owes = c.args.late.owes }) =
    subst P c.with_store.ensures (c.allows_each-2.ensures c.if-not-allows_each.false next x among) in
    late_either (owns_of c.args.owned.now) c.args.hart c.args.late c.args.step.now.access z c.args.step.now.known P over stored
    (c.allows_each-3.ensures allowed next x among) told
