use Rattle.std.proofs.Common.{◌≡◌, None, Some, sym, ◌∙◌, subst}
use Rattle.std.proofs.lemmas.List.{length-map}
use Rattle.run_bounds.specs.declared.operation.Operation.{Operation}
use Rattle.hart_states.specs.declared.choice.Choice.{Choice}
use Rattle.hart_states.specs.Opening.{opening_of}
use Rattle.hart_states.specs.States.{listed, state_of, stored_of}
use Rattle.hart_moves.specs.Choosing.{DoesSo}
use Rattle.hart_moves.proofs.Offered.{offer_does, offer_stored, offer_written, offered_by}
use Rattle.hart_moves.proofs.offering.offered.Goals as goal

none_found : (c : Choice) → None ≡ Some c → ⊥
none_found c e = cc

pub returns-in-Some-operation_at : goal.returns-in-Some-operation_at
returns-in-Some-operation_at c = λ s offer.
    let image = c.args.memory.now.pages.now.memory in
    let h = c.args.hart in
    let m = listed c.args.list.now in
    let a = state_of c.args.state.now in
    let i = c.args.i.now in
    let o = c.args.operation.now in
    let law = c.destinations_are_written.ensures in
    let does = offer_does image h m (opening_of c.args.memory.now) a s offer i o c.requires.known c.requires.is law in
    let found = c.operation_at.ensures.found offer.move
    (offered_by image h m (opening_of c.args.memory.now) a s offer i o c.requires.known c.requires.is law ∙ sym c.in-Some.ensures.instruction)
    (offer.time ∙ length-map c.args.list.now stored_of) offer.stands
    (subst (λ (q : Operation). DoesSo h m (opening_of c.args.memory.now) a q offer.move) (sym c.in-Some.ensures.operation) does) in (
      record { hart = h; address = o.address; width = o.width; number = s.number },
      c.listed_as.ensures s.number (offer_written image h m (opening_of c.args.memory.now) a s offer i o c.requires.known c.requires.is law _ c.in-Some-operation_at.choice c.in-Some-operation_at.is found),
      offer_stored image h m (opening_of c.args.memory.now) a s offer i o c.requires.known c.requires.is law,
    )

pub returns-in-None-operation_at : goal.returns-in-None-operation_at
returns-in-None-operation_at c = λ s offer.
    let image = c.args.memory.now.pages.now.memory in
    let h = c.args.hart in
    let m = listed c.args.list.now in
    let a = state_of c.args.state.now in
    let i = c.args.i.now in
    let o = c.args.operation.now in
    let law = c.destinations_are_written.ensures in
    let does = offer_does image h m (opening_of c.args.memory.now) a s offer i o c.requires.known c.requires.is law in
    let found = c.operation_at.ensures.found offer.move
    (offered_by image h m (opening_of c.args.memory.now) a s offer i o c.requires.known c.requires.is law ∙ sym c.in-Some.ensures.instruction)
    (offer.time ∙ length-map c.args.list.now stored_of) offer.stands
    (subst (λ (q : Operation). DoesSo h m (opening_of c.args.memory.now) a q offer.move) (sym c.in-Some.ensures.operation) does) in
    absurd (none_found found.choice (sym c.in-None-operation_at.is ∙ found.is))
