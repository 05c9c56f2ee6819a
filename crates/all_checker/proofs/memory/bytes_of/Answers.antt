use Rattle.std.proofs.Common.{ℕ, ◌+◌, List, [], ◌∷◌, ◌++◌, refl, sym, ap, ◌∙◌}
use Rattle.all_endings.specs.Endings.{bytes_from}
use Rattle.all_endings.specs.Tables.{memory_of}
use Rattle.hart_states.specs.Opening.{opening_of}
use Rattle.hart_states.specs.States.{listed}
use Rattle.all_checker.proofs.Bytes.{bytes_more}
use Rattle.all_checker.proofs.memory.bytes_of.Goals as goal

pub loop-distance-preserved : goal.loop-distance-preserved
loop-distance-preserved c =
    let m = memory_of (listed c.args.list.now) (opening_of c.args.opening.now) in
    let start = c.args.range.start in
    let n = c.loop-distance.distance in
    c.in_ok-push.ensures.items
    ∙ (ap (λ (bs : List ℕ). bs ++ c.byte_after.result ∷ []) c.loop-distance.invariant
    ∙ (ap (λ (b : ℕ). bytes_from m start n ++ b ∷ []) c.byte_after.ensures ∙ sym (bytes_more m start n (n + 1) refl)))
