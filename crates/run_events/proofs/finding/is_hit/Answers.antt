use Rattle.std.proofs.Common.{◌∙◌, ap, ℕ}
use Rattle.round_schedule.specs.Accesses.{address_of}
use Rattle.round_schedule.specs.Held.{any_byte}
use Rattle.run_events.specs.Hits.{is_watched}
use Rattle.run_events.proofs.Overlaps.{by_range}
use Rattle.run_events.proofs.finding.is_hit.Goals as goal

pub returns : goal.returns
returns c =
    let rs = c.args.ranges.now in
    c.some_has_byte.ensures
    ∙ by_range rs c.address.result c.byte_count.result
    ∙ ap (λ (x : ℕ). any_byte (is_watched rs) x c.byte_count.result) c.address.ensures
    ∙ ap (λ (n : ℕ). any_byte (is_watched rs) (address_of c.args.event.now.access) n) c.byte_count.ensures.count
