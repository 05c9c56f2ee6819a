use Rattle.std.proofs.Common.{◌≡◌, inl, inr}
use Rattle.run_bounds.specs.declared.operation.Kind.{Kind}
use Rattle.run_bounds.specs.declared.operation.Kind.TheVariants.{Load, Store}
use Rattle.hart_states.specs.Opening.{opening_of}
use Rattle.hart_states.specs.States.{listed, state_of}
use Rattle.hart_moves.proofs.Lower.{contains_last}
use Rattle.own_moves.proofs.Recalled.{recall_follows}
use Rattle.own_moves.proofs.moving.add_private.Goals as goal

not_both : (k : Kind) → k ≡ Load → k ≡ Store → ⊥
not_both k e f = cc

pub returns-in_ok-add_successor-in-Load : goal.returns-in_ok-add_successor-in-Load
returns-in_ok-add_successor-in-Load c = λ v same does stands. elim does [
  | inl so ↦
      let f = c.in_ok-add_successor-in-Load.ensures.adds v (c.recall-choice.ensures.found v same so stands) in
      (f.0, f.1, recall_follows c.args.hart (listed c.args.list.now) (opening_of c.args.memory.now) (state_of c.args.state.now) c.args.coming.now.operation v f.0 so f.2)
  | inr so ↦ absurd (not_both c.args.coming.now.operation.kind c.in-Load.is so.kind)
]

pub returns-in_ok-push-in-Store : goal.returns-in_ok-push-in-Store
returns-in_ok-push-in-Store c = λ v same does stands. elim does [
  | inl so ↦ absurd (not_both c.args.coming.now.operation.kind so.kind c.in-Store.is)
  | inr so ↦ (c.in_ok-left-in-Store.left, contains_last _ c.in_ok-left-in-Store.left _ c.in_ok-push-in-Store.ensures.items, c.in_ok-left-in-Store.ensures v same so stands)
]
