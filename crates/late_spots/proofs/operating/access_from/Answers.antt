use Rattle.std.proofs.Common.{ℕ, sym, ap, ◌∙◌}
use Rattle.hart_states.specs.States.{state_of}
use Rattle.own_moves.specs.Owned.{owns_of}
use Rattle.private_bytes.specs.Owners.{is_own}
use Rattle.late_spots.proofs.Operations.{makes_access, none_shared, operands_known}
use Rattle.late_spots.proofs.operating.access_from.Goals as goal

pub returns-then-not-knows_address-clause-none : goal.returns-then-not-knows_address-clause-none
returns-then-not-knows_address-clause-none c = λ m opening q v ahead moves op public.
    let known = operands_known (owns_of c.args.owned.now) c.args.pages.now.memory c.args.hart (state_of c.args.state.now) c.args.i.now c.requires m opening q v ahead moves op public in
    let yes = c.knows_address.ensures.all known in
    let no = c.if-not-knows_address.true in
    cc

pub returns-then-is_own-clause-none : goal.returns-then-is_own-clause-none
returns-then-is_own-clause-none c =
    let owns = owns_of c.args.owned.now in
    none_shared owns c.args.pages.now.memory c.args.hart (state_of c.args.state.now) c.args.i.now c.requires c.access_over-access.result c.access_over-access.ensures
    (ap (λ (x : ℕ). is_own owns c.args.hart x) (sym c.address.ensures) ∙ (sym c.is_own.ensures ∙ c.if-is_own.true))

pub returns-clause-some : goal.returns-clause-some
returns-clause-some c =
    makes_access (owns_of c.args.owned.now) c.args.pages.now.memory c.args.hart (state_of c.args.state.now) c.args.i.now c.requires c.access_over-access.result c.access_over-access.ensures
