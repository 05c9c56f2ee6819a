use Rattle.std.proofs.Common.{◌<◌, ◌^◌, subst, sym, arith}
use Rattle.round_schedule.specs.declared.event.Event.{Event}
use Rattle.round_schedule.specs.Accesses.{address_of}
use Rattle.byte_sources.proofs.Addresses.{low_address}
use Rattle.byte_sources.proofs.access.event_at.Goals as goal

pub returns-then-index-len-clause-low : goal.returns-then-index-len-clause-low
returns-then-index-len-clause-low c =
    subst (λ (e : Event). address_of e.access < 2 ^ 32) (sym c.event.ensures) (low_address c.args.trace.now.events c.args.index (omega arith) c.len.ensures.sound)
