use Rattle.std.proofs.Common.{◌≤◌, ◌∙◌, ap, arith, inl, inr, subst}
use Rattle.memory_order.specs.declared.checking.latest.Latest.{Latest}
use Rattle.memory_order.specs.Checking.{source_at}
use Rattle.memory_order.specs.CheckingAtomic.{latest_of, others_of}
use Rattle.memory_order.proofs.Bounding.{range_last}
use Rattle.memory_order.proofs.checking.atomic.are_undisturbed.Goals as goal

pub loop-k-preserved : goal.loop-k-preserved
loop-k-preserved c = λ x h. elim (range_last c.address-start.result c.loop-k.k x h) [
  | inl old ↦ c.loop-k.invariant x old
  | inr same ↦
      let found = c.others_of.ensures ∙ ap (λ (l : Latest). others_of l c.args.hart) c.latest_of-found.ensures in
      subst (λ y. (others_of (latest_of c.args.latest.now y) c.args.hart ≤ source_at c.args.sources.now.items c.args.reader y) × (source_at c.args.sources.now.items c.args.reader y ≤ c.args.p)) same
      (omega (arith, found, c.source_at-source.ensures, c.if-others_of-source.false), omega (arith, c.source_at-source.ensures, c.if-source-p.false))
]
