-- The rounds of a guest's harts, as the guest shows them and as it keeps them.
use Rattle.std.proofs.Common.{◌≡◌, Bool, ℕ, ◌+◌, ◌-◌, List, length, sym, ◌∙◌, subst, arith}
use Rattle.pages.specs.Memory.{Memory}
use Rattle.pages.specs.Paged.{Paged}
use Rattle.round_schedule.specs.Schedule.{hart_rounds}
use Rattle.round_planner.specs.Quotas.{Planned, quotas_of}
use Rattle.hart_step.specs.declared.hart.Hart.{Hart}
use Rattle.hart_step.specs.Words.{words_of}
use Rattle.serial_phase.specs.declared.shared.SharedState.{SharedState}
use Rattle.hart_rounds.specs.declared.hart_end.HartEnd.{HartEnd}
use Rattle.guest_rounds.specs.Guests.{Guest, guest_of}
use Rattle.guest_rounds.specs.NextStarts.{AreOfGuest}
use Rattle.guest_rounds.specs.HartEnds.{AreEndsOf}
use Rattle.guest_rounds.proofs.Listed.{same_length}
use Rattle.guest_rounds.proofs.RoundDone.{length-rounds}

pub here_are : (logs : Bool) (plan : Planned) (n : ℕ) (hs : List Hart) (s : SharedState) (g : Guest) (os : List HartEnd) → guest_of hs s ≡ g → AreOfGuest logs plan n g os →
    AreEndsOf logs s.pages.memory (hart_rounds (words_of s.pages.memory.code) s.pages.memory.bytes (quotas_of plan n) hs) os
here_are logs plan n hs s g os is a = subst (λ (x : Guest). AreOfGuest logs plan n x os) (sym is) a

pub many_here : (logs : Bool) (plan : Planned) (n : ℕ) (hs : List Hart) (s : SharedState) (g : Guest) (os : List HartEnd) → guest_of hs s ≡ g → AreOfGuest logs plan n g os → length os ≡ length hs
many_here logs plan n hs s g os is a =
    let m = s.pages.memory in
    sym (same_length logs m _ os (here_are logs plan n hs s g os is a)) ∙ length-rounds (words_of m.code) m.bytes (quotas_of plan n) hs

pub many_of : (logs : Bool) (plan : Planned) (n : ℕ) (g : Guest) (os : List HartEnd) → AreOfGuest logs plan n g os → length os ≡ length g.harts
many_of logs plan n g os a =
    let m = g.shared.memory in
    sym (same_length logs m _ os a) ∙ length-rounds (words_of m.code) m.bytes (quotas_of plan n) g.harts

-- it is of the rounds of all harts
pub ends_are : (logs : Bool) (plan : Planned) (n : ℕ) (hs gs : List Hart) (p : Paged) (os : List HartEnd) → gs ≡ hs →
    AreEndsOf logs p.memory (hart_rounds (words_of p.memory.code) p.memory.bytes (quotas_of plan (n + 1 - 1)) gs) os → AreEndsOf logs p.memory (hart_rounds (words_of p.memory.code) p.memory.bytes (quotas_of plan n) hs) os
ends_are logs plan n hs gs p os same a =
    let m : Memory = p.memory in
    let less : n + 1 - 1 ≡ n = omega arith in
    subst (λ (xs : List Hart). AreEndsOf logs m (hart_rounds (words_of m.code) m.bytes (quotas_of plan n) xs) os) same
    (subst (λ (k : ℕ). AreEndsOf logs m (hart_rounds (words_of m.code) m.bytes (quotas_of plan k) gs) os) less a)
