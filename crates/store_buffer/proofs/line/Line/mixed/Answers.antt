use Rattle.std.proofs.Common.{◌<◌, ◌≤◌, ◌+◌, ◌^◌, ◌∙◌, ℕ, List, refl, ap, sym, subst, rules, arith, get_or, length}
use Rattle.pages.specs.Memory.{width_bytes}
use Rattle.store_buffer.proofs.LineNumbers.{Mixed, mixed_covered, mixed_uncovered, mixed_value, short}
use Rattle.std.proofs.lemmas.List.{length-set}
use Rattle.store_buffer.proofs.line.Line.mixed.Goals as goal
use Rattle.store_buffer.proofs.line.Line.mixed.Goals.{then-self-index-eq1, else-self-index-eq1}

pub loop-k-preserved : goal.loop-k-preserved
loop-k-preserved c =
    let line = c.args.self.now in
    let k = c.loop-k.k in
    elim c.if-self-index-eq1.branch [
      | then-self-index-eq1 w ↦
          (let inside : k < length c.loop-k.bytes = omega (arith, short c.args.width) in
          let small : get_or line.bytes (c.args.index + k) 0 < 2 ^ 8 = search rules in
          record {
            size = ap length w.bytes-is ∙ length-set c.loop-k.bytes k (get_or line.bytes (c.args.index + k) 0) ∙ c.loop-k.invariant.size;
            mixed = subst (λ (bs : List ℕ). Mixed line c.args.index c.args.number (k + 1) bs) (sym w.bytes-is) (mixed_covered line c.args.index c.args.number k (get_or line.bytes (c.args.index + k) 0) c.loop-k.bytes inside w.if-self-index-eq1.true refl small c.loop-k.invariant.mixed);
          })
      | else-self-index-eq1 w ↦
          record {
            size = ap length w.bytes-is ∙ c.loop-k.invariant.size;
            mixed = subst (λ (bs : List ℕ). Mixed line c.args.index c.args.number (k + 1) bs) (sym w.bytes-is) (mixed_uncovered line c.args.index c.args.number k c.loop-k.bytes w.if-self-index-eq1.false c.loop-k.invariant.mixed);
          }
    ]

pub returns : goal.returns
returns c =
    let ended : width_bytes c.args.width ≤ c.loop-k.k = search rules in
    c.number_in.ensures.value ∙ mixed_value c.args.width c.args.self.now c.args.index c.args.number c.loop-k.k c.loop-k.bytes ended c.loop-k.invariant.mixed
