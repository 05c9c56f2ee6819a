-- What a hart's round left, part by part.
use Rattle.std.proofs.Common.{◌≡◌, Bool, [], length, ap}
use Rattle.pages.specs.Memory.{Memory}
use Rattle.store_buffer.specs.Covered.{with_stores}
use Rattle.round_schedule.specs.Schedule.{HartRound}
use Rattle.hart_step.specs.declared.hart.Hart.{Hart}
use Rattle.hart_rounds.specs.declared.hart_end.HartEnd.{HartEnd}
use Rattle.hart_rounds.specs.Ends.{logged}
use Rattle.guest_rounds.specs.HartEnds.{IsEndOf}

module _ {logs : Bool} {m : Memory} {r : HartRound Hart} {o : HartEnd} where
  pub hart_is : IsEndOf logs m r o → o.hart ≡ r.last.hart
  hart_is a = ap (λ (x : HartEnd). x.hart) a.is

  pub buffer_is : IsEndOf logs m r o → o.buffer ≡ with_stores [] r.last.stores
  buffer_is a = ap (λ (x : HartEnd). x.buffer) a.is

  pub log_is : IsEndOf logs m r o → o.log ≡ logged logs r.last.accesses
  log_is a = ap (λ (x : HartEnd). x.log) a.is

  pub accesses_is : IsEndOf logs m r o → o.accesses ≡ length r.last.accesses
  accesses_is a = ap (λ (x : HartEnd). x.accesses) a.is

  pub waits_is : IsEndOf logs m r o → o.waits ≡ r.waits
  waits_is a = ap (λ (x : HartEnd). x.waits) a.is
