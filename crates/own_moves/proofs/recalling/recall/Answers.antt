use Rattle.std.proofs.Common.{◌<◌, ℕ, Option, option_map, refl, sym, ap, ◌∙◌, arith}
use Rattle.pages.specs.Memory.{width_bytes}
use Rattle.hart_step.specs.Step.{extended_to}
use Rattle.hart_states.specs.Opening.{opening_of}
use Rattle.hart_states.specs.States.{listed, state_of}
use Rattle.private_bytes.specs.PrivateMoves.{needs_of}
use Rattle.own_moves.proofs.Recalled.{found_recall}
use Rattle.own_moves.proofs.recalling.recall.Goals as goal

pub returns : goal.returns
returns c = record {
  found = λ v same so stands.
      let o = c.args.coming.now.operation in
      let a = state_of c.args.state.now in
      let least = c.earliest.ensures.least v same so.access stands in
      let needs = c.needs_of_all-needs.ensures v.time (λ k d l.
      let w : k < width_bytes o.width = omega (arith, l) in
      let n = so.needs k w in
      let e = ap needs_of (c.requires.coming.span.own k d w) in
      omega (arith, n, e)) in
      found_recall (listed c.args.list.now) (opening_of c.args.memory.now) a o _ v c.requires.kind so (sym same) c.access-access.ensures refl
      (c.extended.ensures ∙ ap (λ (n : Option ℕ). option_map (extended_to o.signed o.width) n) c.own_number-number.ensures) refl (omega (arith, least, needs));
  access = c.access-access.ensures;
}
