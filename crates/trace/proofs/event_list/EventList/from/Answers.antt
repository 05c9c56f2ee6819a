use Rattle.std.proofs.Common.{◌≡◌, ◌-◌, ◌∙◌, ap, arith, drop, length, min, sym}
use Rattle.std.proofs.lemmas.List.{drop_min, take_rest}
use Rattle.trace.specs.Chunks.{joined}
use Rattle.trace.proofs.Dropping.{rest_after}
use Rattle.trace.proofs.event_list.EventList.from.Goals as goal

pub returns-else-index-self : goal.returns-else-index-self
returns-else-index-self c =
    let tail = c.self.inside.tail.items in
    let past = c.args.index - c.self.inside.finished in
    let count : c.len.result ≡ length tail = omega (arith, c.len.ensures) in
    let passed : c.min-passed.result ≡ min past (length tail) = c.min-passed.ensures ∙ ap (min past) count in
    c.new.ensures
    ∙ take_rest c.deref-else-index-self.result.now c.min-passed.result
    ∙ ap (drop c.min-passed.result) c.deref-else-index-self.ensures.value
    ∙ ap (λ k. drop k tail) passed ∙ drop_min past tail
    ∙ rest_after (joined c.self.inside.chunks.items) tail c.args.self.now.events c.args.index c.self.inside.finished c.self.invariant.counted c.if-index-self.false (sym (ap (λ l. l.events) c.self.view_is))
